-- Words behind which all words of one size are keys. (This project's own choice.)
use Rattle.std.specs.Prelude.{◌≡◌, ℕ, ◌+◌, ◌*◌, ◌^◌, ◌<◌, ◌≤◌, Bool, true, false, ◌||◌, not, List, ◌++◌, length}
use Rattle.csn_bits.specs.Octets.{IsBits}
use Rattle.csn_look.specs.declared.marks.Sought.{Sought}
use Rattle.csn_look.specs.declared.marks.Sought.TheVariants.{Marked, Key, NoKey}
use Rattle.csn_look.specs.KeyMarks.{is_marked, IsKeyOf}

-- all words of so many bits that go on from the word are keys, and no shorter one is
pub record IsFull (marks word : List ℕ) (bits : ℕ) : Type 0 where
  pub more : length word ≤ bits
  pub short : bits ≤ 12
  pub full : (back : List ℕ) → IsBits back → length word + length back ≡ bits → IsKeyOf marks (word ++ back)
  pub none : (back : List ℕ) → IsBits back → length word + length back < bits → ¬ IsKeyOf marks (word ++ back)

-- is the word with this place a key, whole or cut?
abbrev pub is_key_at : List ℕ → ℕ → Bool
is_key_at marks place = is_marked marks place || is_marked marks (8192 + place)

-- what is sought among places: marks, words that are keys, or words that are none
abbrev pub is_sought : Sought → List ℕ → ℕ → Bool
is_sought Marked marks at = is_marked marks at
is_sought Key marks at = is_key_at marks at
is_sought NoKey marks at = not (is_key_at marks at)

-- where such places end
abbrev pub sought_end : Sought → ℕ
sought_end Marked = 24576
sought_end Key = 8192
sought_end NoKey = 8192

-- what is sought where words are to be keys, or are to be none
abbrev pub sought_against : Bool → Sought
sought_against true = NoKey
sought_against false = Key

-- all words with these places are keys, or none is
abbrev pub AreAll : List ℕ → Bool → ℕ → ℕ → Type 0
AreAll marks keys from end = (at : ℕ) → from ≤ at → at < end → is_key_at marks at ≡ keys

-- one of them is not so
abbrev pub IsOther : List ℕ → Bool → ℕ → ℕ → Type 0
IsOther marks keys from end = (at : ℕ) × (from ≤ at) × (at < end) × (is_key_at marks at ≡ not keys)

-- the word with this place is no key, nor with zeros behind it, fewer than so many
abbrev pub AreNoKeys : List ℕ → ℕ → ℕ → Type 0
AreNoKeys marks place count = (more : ℕ) → more < count → is_key_at marks (place * 2 ^ more) ≡ false

-- the same of a word that has this place: those with so many bits more are keys
pub record IsFullAt (marks : List ℕ) (place more : ℕ) : Type 0 where
  pub full : AreAll marks true (place * 2 ^ more) (place * 2 ^ more + 2 ^ more)
  pub none : (less : ℕ) → less < more → AreAll marks false (place * 2 ^ less) (place * 2 ^ less + 2 ^ less)
