-- Overlaps of the alternatives of a choice, and which words of a list of keys meet a set of keys.
use Rattle.std.specs.Prelude.{◌≡◌, ℕ, ◌+◌, ◌≤◌, ◌⊎◌, Bool, List, slice_get, Option, Some, None, IsTrue}
use Rattle.csn_desc.specs.Nodes.{DescV}
use Rattle.csn_look.specs.declared.word.Key.{Key}
use Rattle.csn_look.specs.KeyMarks.{IsWord, has_key, BeginsWithKey, StartsKey}
use Rattle.csn_look.specs.Keys.{InKeys}
use Rattle.csn_certify.specs.Conflicts.{IsNull, IsBegunBy, text_of, NotAfter}

-- one of two words begins with the other, or they are equal
abbrev pub AreBegun : List ℕ → List ℕ → Type 0
AreBegun v w = IsBegunBy v w ⊎ IsBegunBy w v

-- a key of the set begins the word, or the word begins one
abbrev pub Meets : List ℕ → List ℕ → Type 0
Meets marks word = BeginsWithKey marks word ⊎ StartsKey marks word

-- the key at this place of the list has such a word
abbrev pub MeetsAt : List ℕ → List Key → ℕ → Type 0
MeetsAt marks keys at = (key : Key) × (slice_get keys at ≡ Some key) × Meets marks key.word

-- a key of the set that the word begins, or that begins the word
pub record KeyUnder (marks word : List ℕ) : Type 0 where
  pub key : List ℕ
  pub mark : Bool
  pub is_word : IsWord key
  pub in_set : IsTrue (has_key marks key mark)
  pub under : AreBegun word key

-- such a key of one set and such a key of the other, of which one begins with the other
pub record MeetUnder (left right word : List ℕ) : Type 0 where
  pub v : KeyUnder left word
  pub w : KeyUnder right word
  pub begun : AreBegun v.key w.key

module _ (d : DescV) (octet : ℕ) where
  -- node i has the key, whole or cut
  abbrev pub HasKey : ℕ → List ℕ → Type 0
  HasKey i word = (mark : Bool) × InKeys d 12 i octet word mark

  -- the first word, as a text, of the keys of node i of which one and this word are begun
  abbrev pub IsFirstBegun : ℕ → List ℕ → Option (List ℕ) → Type 0
  IsFirstBegun i word None = (w : List ℕ) → HasKey i w → ¬ AreBegun word w
  IsFirstBegun i word (Some first) =
      HasKey i first × AreBegun word first
      × ((w : List ℕ) → HasKey i w → AreBegun word w → NotAfter (text_of first) (text_of w))

  module _ (parts : List ℕ) where
    -- the alternative i is p, which takes bits
    pub record IsPart (i p : ℕ) : Type 0 where
      pub is_part : slice_get parts i ≡ Some p
      pub real : ¬ IsNull d p

    -- an alternative from this number on, which takes bits, has the key
    pub record HasKeyFrom (from : ℕ) (word : List ℕ) (mark : Bool) : Type 0 where
      pub j : ℕ
      pub q : ℕ
      pub later : from ≤ j
      pub part : IsPart j q
      pub key : InKeys d 12 q octet word mark

    -- the alternative i has a key that overlaps with one of a later alternative
    pub record Overlaps (i : ℕ) : Type 0 where
      pub p : ℕ
      pub word_i : List ℕ
      pub word_j : List ℕ
      pub mark_j : Bool
      pub part : IsPart i p
      pub key_i : HasKey p word_i
      pub key_j : HasKeyFrom (i + 1) word_j mark_j
      pub begun : AreBegun word_i word_j
