-- The keys of a set as a list: each once, by rising word, and at one word cut before whole.
use Rattle.std.specs.Prelude.{◌≡◌, ℕ, zero, suc, ◌+◌, ◌↔◌, Bool, true, false, List, [], ◌∷◌, ◌++◌, IsTrue, Contains}
use Rattle.csn_look.specs.declared.word.Key.{Key}
use Rattle.csn_look.specs.KeyMarks.{IsWord, is_marked, place_of, has_key}
use Rattle.csn_look.specs.KeyTables.{IsFront}

-- the first key comes before the second: a word comes before those that go on from it, and 0 before 1
pub data IsBefore : Key → Key → Type 0 where
  cut_first : {a b : Key} → a.word ≡ b.word → a.whole ≡ false → b.whole ≡ true → IsBefore a b
  shorter : {a b : Key} → IsFront a.word b.word → IsBefore a b
  lower : {a b : Key} (front x y : List ℕ) → a.word ≡ front ++ 0 ∷ x → b.word ≡ front ++ 1 ∷ y → IsBefore a b

-- the key comes before each of the list
abbrev pub IsBeforeAll : Key → List Key → Type 0
IsBeforeAll key [] = Unit {0}
IsBeforeAll key (next ∷ keys) = IsBefore key next × IsBeforeAll key keys

-- each key comes before those behind it
abbrev pub IsRising : List Key → Type 0
IsRising [] = Unit {0}
IsRising (key ∷ keys) = IsBeforeAll key keys × IsRising keys

-- the list has the keys of the set
pub record IsKeyList (marks : List ℕ) (keys : List Key) : Type 0 where
  pub words : (key : Key) → Contains keys key → IsWord key.word
  pub exact : (key : Key) → IsWord key.word → Contains keys key ↔ IsTrue (has_key marks key.word key.whole)
  pub rising : IsRising keys

-- ---- for the contracts of the functions that list them

-- the keys, where the test says so
abbrev pub keys_if : Bool → List Key → List Key
keys_if true keys = keys
keys_if false keys = []

-- the word itself, where it is a key
abbrev pub own_keys : List ℕ → List ℕ → List Key
own_keys marks word =
    keys_if (has_key marks word false) (record { word = word; whole = false } ∷ [])
    ++ keys_if (has_key marks word true) (record { word = word; whole = true } ∷ [])

-- the keys that begin with a word, where up to so many bits more are looked at
abbrev pub keys_from : List ℕ → ℕ → List ℕ → List Key
keys_from marks zero word = own_keys marks word
keys_from marks (suc n) word =
    own_keys marks word
    ++ keys_if (is_marked marks (16384 + place_of word)) (keys_from marks n (word ++ 0 ∷ []) ++ keys_from marks n (word ++ 1 ∷ []))
