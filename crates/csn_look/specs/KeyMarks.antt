-- A set of keys as marks: two for each word of at most 12 bits, one where the word is a whole key and one
-- where it is a cut key. Marks are bits of numbers of 64 bits, the least significant one first. (This
-- project's own choice.)
use Rattle.std.specs.Prelude.{◌≡◌, ℕ, ◌+◌, ◌/◌, ◌%◌, ◌≤◌, ◌⊎◌, ◌↔◌, Bool, true, false, ◌==◌, List, ◌∷◌, ◌++◌, length, slice_index, IsTrue}
use Rattle.std.specs.Int.{bit_at}
use Rattle.csn_bits.specs.Octets.{IsBits}
use Rattle.csn_bits.specs.Numbers.{number_of}
use Rattle.csn_look.specs.declared.key_table.Begins.{Begins}
use Rattle.csn_look.specs.declared.key_table.Begins.TheVariants as answer
use Rattle.csn_look.specs.declared.key_table.Stands.{Stands}
use Rattle.csn_look.specs.declared.key_table.Stands.TheVariants as stand

-- a word that may be a key: at most 12 bits
pub record IsWord (word : List ℕ) : Type 0 where
  pub bits : IsBits word
  pub short : length word ≤ 12

-- is the mark set?
abbrev pub is_marked : List ℕ → ℕ → Bool
is_marked marks at = bit_at (slice_index marks (at / 64)) (at % 64) == 1

-- the place of a word among all words: the number that a 1 and then its bits write, so the empty word has
-- 1, and a word of 12 bits at most 8,191
abbrev pub place_of : List ℕ → ℕ
place_of word = number_of (1 ∷ word)

-- which mark says that the word with a place is a key, whole or cut
abbrev pub key_mark : ℕ → Bool → ℕ
key_mark place true = place
key_mark place false = 8192 + place

-- is the word a key of the set, whole or cut?
abbrev pub has_key : List ℕ → List ℕ → Bool → Bool
has_key marks word whole = is_marked marks (key_mark (place_of word) whole)

-- the keys of the set are those with the fact
abbrev pub KeysAre : List ℕ → (List ℕ → Bool → Type 0) → Type 0
KeysAre marks P =
    (word : List ℕ) (whole : Bool) → IsWord word → IsTrue (has_key marks word whole) ↔ P word whole

-- the keys of the second set are those of the first and those with the fact
abbrev pub Adds : List ℕ → List ℕ → (List ℕ → Bool → Type 0) → Type 0
Adds old new P = KeysAre new (λ word whole. IsTrue (has_key old word whole) ⊎ P word whole)

-- some key is a prefix of the bits
pub record BeginsWithKey (marks held : List ℕ) : Type 0 where
  pub front : List ℕ
  pub back : List ℕ
  pub parts : held ≡ front ++ back
  pub whole : Bool
  pub key : IsTrue (has_key marks front whole)

-- the bits are a prefix of some key, and not all of it
pub record StartsKey (marks held : List ℕ) : Type 0 where
  pub next : ℕ
  pub back : List ℕ
  pub whole : Bool
  pub word : IsWord (held ++ next ∷ back)
  pub key : IsTrue (has_key marks (held ++ next ∷ back) whole)

-- what is told of bits: that a key begins them, or else that they begin a key, or else neither
abbrev pub IsBeginning : Begins → List ℕ → List ℕ → Type 0
IsBeginning answer.Key marks held = BeginsWithKey marks held
IsBeginning answer.Proper marks held = (¬ BeginsWithKey marks held) × StartsKey marks held
IsBeginning answer.Neither marks held = (¬ BeginsWithKey marks held) × (¬ StartsKey marks held)

-- the very word is a key of the set, whole or cut
abbrev pub IsKeyOf : List ℕ → List ℕ → Type 0
IsKeyOf marks word = (whole : Bool) × IsTrue (has_key marks word whole)

-- what is told of one very word: that it is a key, or else that it is a prefix of one, or else neither
abbrev pub IsStanding : Stands → List ℕ → List ℕ → Type 0
IsStanding stand.Key marks word = IsKeyOf marks word
IsStanding stand.Starts marks word = (¬ IsKeyOf marks word) × StartsKey marks word
IsStanding stand.Neither marks word = (¬ IsKeyOf marks word) × (¬ StartsKey marks word)
