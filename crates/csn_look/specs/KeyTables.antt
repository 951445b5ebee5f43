-- A table of keys: the marks of a set of keys, and beside them one for each word that is a prefix of a key
-- and not all of it, so that these are found by one look.
use Rattle.std.specs.Prelude.{◌≡◌, ℕ, ◌+◌, ◌↔◌, ◌⊎◌, Bool, List, ◌∷◌, ◌++◌, length, ◌≢◌, IsTrue}
use Rattle.std.specs.List.{AllPairs}
use Rattle.csn_look.specs.KeyMarks.{IsWord, is_marked, place_of, Adds, StartsKey}

-- three marks for each of 8,192 places
pub record IsKeyTable (marks : List ℕ) : Type 0 where
  pub size : length marks ≡ 384
  pub starts : (word : List ℕ) → IsWord word → IsTrue (is_marked marks (16384 + place_of word)) ↔ StartsKey marks word

-- the first word is a prefix of the second and not all of it
pub record IsFront (front word : List ℕ) : Type 0 where
  pub next : ℕ
  pub back : List ℕ
  pub parts : word ≡ front ++ next ∷ back

-- one key more, and in a table marks for its prefixes
pub record AddsKey (old new word : List ℕ) (whole : Bool) : Type 0 where
  pub keys : Adds old new (λ key mark. (key ≡ word) × (mark ≡ whole))
  pub starts :
      IsKeyTable old → (front : List ℕ) → IsWord front
      → IsTrue (is_marked new (16384 + place_of front)) ↔ (IsTrue (is_marked old (16384 + place_of front)) ⊎ IsFront front word)

-- no table is the same as one behind it
abbrev pub AreOnce : List (List ℕ) → Type 0
AreOnce tables = AllPairs (λ table other. table ≢ other) tables
