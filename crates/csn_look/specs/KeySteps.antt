-- What the parts of a product of two sets of keys add, for the contracts of the functions that make it.
use Rattle.std.specs.Prelude.{◌≡◌, ℕ, ◌+◌, ◌*◌, ◌^◌, ◌<◌, ◌≤◌, Bool, true, false, ◌||◌, List, ◌++◌, length, IsTrue}
use Rattle.std.specs.Int.{bit_at}
use Rattle.csn_bits.specs.Numbers.{number_of}
use Rattle.csn_look.specs.KeyMarks.{IsWord, is_marked, place_of, has_key, Adds}
use Rattle.csn_look.specs.KeyTables.{IsKeyTable}
use Rattle.csn_look.specs.Keys.{Cut}

-- further keys, in a table where these are marks of one
pub record Extends (old new : List ℕ) (P : List ℕ → Bool → Type 0) : Type 0 where
  pub keys : Adds old new P
  pub table : IsKeyTable old → IsKeyTable new

-- further keys, and the marks of the words that begin keys as they were
pub record Gains (old new : List ℕ) (P : List ℕ → Bool → Type 0) : Type 0 where
  pub keys : Adds old new P
  pub starts : (at : ℕ) → 16384 ≤ at → is_marked new at ≡ is_marked old at

-- the words of each size whose bit is not set have no marks, where the marks begin at `plane`
abbrev pub HasSizes : List ℕ → ℕ → ℕ → Type 0
HasSizes marks plane sizes =
    (size : ℕ) → size ≤ 12 → bit_at sizes size ≡ 0 → (k : ℕ) → k < 2 ^ size → is_marked marks (plane + (2 ^ size + k)) ≡ false

-- so many marks from a place on are set as well where others are, and no more
pub record Copies (old new others : List ℕ) (to from count : ℕ) : Type 0 where
  pub inside : (k : ℕ) → k < count → is_marked new (to + k) ≡ (is_marked old (to + k) || is_marked others (from + k))
  pub before : (at : ℕ) → at < to → is_marked new at ≡ is_marked old at
  pub behind : (at : ℕ) → to + count ≤ at → is_marked new at ≡ is_marked old at

-- is the word with this place a key, whole or cut, or marked as one that begins a key?
abbrev pub is_begun : List ℕ → ℕ → Bool
is_begun marks place = is_marked marks place || (is_marked marks (8192 + place) || is_marked marks (16384 + place))

-- a word with a place between the two is marked as well where one bit more makes a key or begins one
pub record MarksBetween (low high : ℕ) (old new : List ℕ) : Type 0 where
  pub inside :
      (place : ℕ) → low ≤ place → place < high
      → is_marked new (16384 + place) ≡ (is_marked old (16384 + place) || (is_begun old (2 * place) || is_begun old (2 * place + 1)))
  pub before : (at : ℕ) → at < 16384 + low → is_marked new at ≡ is_marked old at
  pub behind : (at : ℕ) → 16384 + high ≤ at → is_marked new at ≡ is_marked old at

-- each word from a place on is marked as well where one bit more makes a key or begins one
pub record MarksStarts (low : ℕ) (old new : List ℕ) : Type 0 where
  pub starts :
      (place : ℕ) → low ≤ place → place < 4096
      → is_marked new (16384 + place) ≡ (is_marked old (16384 + place) || (is_begun new (2 * place) || is_begun new (2 * place + 1)))
  pub before : (at : ℕ) → at < 16384 + low → is_marked new at ≡ is_marked old at
  pub behind : (at : ℕ) → 20480 ≤ at → is_marked new at ≡ is_marked old at

-- the word is the first one and then some bits, so many and writing a number below the limit, whose mark
-- is set
pub record IsBehind (marks : List ℕ) (plane : ℕ) (first : List ℕ) (size limit : ℕ) (word : List ℕ) : Type 0 where
  pub back : List ℕ
  pub parts : word ≡ first ++ back
  pub many : length back ≡ size
  pub below : number_of back < limit
  pub marked : IsTrue (is_marked marks (plane + place_of back))

-- the word is the first one and then a key of fewer bits than the limit
pub record IsShortBehind (marks first : List ℕ) (limit : ℕ) (word : List ℕ) (whole : Bool) : Type 0 where
  pub back : List ℕ
  pub parts : word ≡ first ++ back
  pub short : length back < limit
  pub key : IsTrue (has_key marks back whole)

-- the word is the first one and then a key, cut at 12 bits
pub record IsKeyBehind (marks first : List ℕ) (word : List ℕ) (whole : Bool) : Type 0 where
  pub back : List ℕ
  pub mark : Bool
  pub is : IsWord back
  pub key : IsTrue (has_key marks back mark)
  pub left : Cut 12 (first ++ back) mark word whole

-- the same for some whole key of so many bits that writes a number below the limit
pub record IsAfter (first rest : List ℕ) (size limit : ℕ) (word : List ℕ) (whole : Bool) : Type 0 where
  pub front : List ℕ
  pub is : IsWord front
  pub many : length front ≡ size
  pub below : number_of front < limit
  pub key : IsTrue (has_key first front true)
  pub behind : IsKeyBehind rest front word whole
