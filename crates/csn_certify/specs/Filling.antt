-- Filling the entries of a choice from the keys of one alternative after another, for the contracts of the
-- functions that do it; no public contract cites these.
use Rattle.std.specs.Prelude.{◌≡◌, ◌≢◌, ℕ, ◌<◌, ◌≤◌, ◌⊎◌, List, ◌++◌, length, slice_get, Some}
use Rattle.csn_desc.specs.Nodes.{DescV}
use Rattle.csn_look.specs.Keys.{InKeys}
use Rattle.csn_look.specs.Reached.{Reached}
use Rattle.csn_look.specs.LookV.{LookV}
use Rattle.csn_look.specs.LookKeys.{table_at}
use Rattle.csn_look.specs.KeyMarks.{IsWord, KeysAre, IsKeyOf, BeginsWithKey, StartsKey}
use Rattle.csn_look.specs.Full.{IsFull}
use Rattle.csn_certify.specs.declared.pick_table.Entry.{Entry}
use Rattle.csn_certify.specs.declared.pick_table.Entry.TheVariants.{Refuse, Wait, Take}
use Rattle.csn_certify.specs.Conflicts.{IsNull, IsBegunBy}
use Rattle.csn_certify.specs.Picks as pick
use Rattle.csn_certify.specs.Choosing.{BeginsKeyOf}
use Rattle.csn_certify.specs.PickTables.{HasEntries, entry_of}

-- the entry where the word also is the beginning of a key
abbrev pub started : Entry → Entry
started Refuse = Wait
started Wait = Wait
started (Take bits j) = Take bits j

-- a word of at least so many bits that goes on from this one and only begins a key is one behind which all words of
-- one size are keys
abbrev pub IsDeep : List ℕ → List ℕ → ℕ → Type 0
IsDeep marks word depth =
    (held : List ℕ) → IsWord held → IsBegunBy held word → depth ≤ length held → ¬ BeginsWithKey marks held
    → StartsKey marks held
    → (bits : ℕ) × IsFull marks held bits

-- no key is a proper prefix of the word
abbrev pub IsFresh : List ℕ → List ℕ → Type 0
IsFresh marks word =
    (front back : List ℕ) → word ≡ front ++ back → 0 < length back → ¬ IsKeyOf marks front

-- what the keys of alternative j make of the entry of a word
pub data IsFilled (marks : List ℕ) (j : ℕ) (held : List ℕ) (old new : Entry) : Type 0 where
  with_key :
      (bits : ℕ) → BeginsWithKey marks held → bits ≤ length held → new ≡ Take bits j
      → IsFilled marks j held old new
  with_full :
      (bits : ℕ) → ¬ BeginsWithKey marks held → IsFull marks held bits → new ≡ Take bits j
      → IsFilled marks j held old new
  with_start :
      ¬ BeginsWithKey marks held → StartsKey marks held → ((bits : ℕ) → ¬ IsFull marks held bits) → new ≡ started old
      → IsFilled marks j held old new
  with_none :
      ¬ BeginsWithKey marks held → ¬ StartsKey marks held → new ≡ old
      → IsFilled marks j held old new

-- the alternative is taken, by so many bits
abbrev pub IsTaken : ℕ → ℕ → List ℕ → Entry → Entry → Type 0
IsTaken j bits held old new = new ≡ Take bits j

-- the entries of words that go on from this one have changed by the relation, and no others
abbrev pub FillsUnder : List ℕ → ℕ → (List ℕ → Entry → Entry → Type 0) → List Entry → List Entry → Type 0
FillsUnder word width R old new =
    (held : List ℕ) → IsWord held → length held ≤ width
    → (IsBegunBy held word → R held (entry_of old held) (entry_of new held))
    × (¬ IsBegunBy held word → entry_of new held ≡ entry_of old held)

-- the entry of the word has changed so, and no other
pub record FillsAt (word : List ℕ) (width : ℕ) (entry : Entry) (old new : List Entry) : Type 0 where
  pub here : entry_of new word ≡ entry
  pub others :
      (held : List ℕ) → IsWord held → length held ≤ width → held ≢ word
      → entry_of new held ≡ entry_of old held

-- nothing is told yet
pub record AreEmpty (width : ℕ) (entries : List Entry) : Type 0 where
  pub size : HasEntries width entries
  pub refuse : (held : List ℕ) → entry_of entries held ≡ Refuse

module _ (d : DescV) (parts : List ℕ) (octet : ℕ) where
  -- the marks are the keys of the alternative j, which takes bits
  pub record HasMarks (j : ℕ) (marks : List ℕ) : Type 0 where
    pub part : ℕ
    pub is_part : slice_get parts j ≡ Some part
    pub real : ¬ IsNull d part
    pub are : KeysAre marks (InKeys d 12 part octet)

  -- behind the held bits all words of one size are keys of the alternative j, which takes bits; none begins them
  pub record IsFullOf (j : ℕ) (held : List ℕ) (bits : ℕ) : Type 0 where
    pub marks : List ℕ
    pub has : HasMarks j marks
    pub none : ¬ BeginsWithKey marks held
    pub full : IsFull marks held bits

  -- held bits of at least so many that are only the beginning of a key of one of the first alternatives are bits
  -- behind which all words of one size are keys of it
  abbrev pub AreDeep : ℕ → ℕ → Type 0
  AreDeep count width =
      (held : List ℕ) (j : ℕ) → IsWord held → width ≤ length held → BeginsKeyOf d parts octet held j
      → ¬ pick.BeginsWithKey d 12 parts octet held j
      → (count ≤ j) ⊎ ((bits : ℕ) × IsFullOf j held bits)

  -- no bits begin with keys of two alternatives
  abbrev pub AreApart : Type 0
  AreApart =
      (held : List ℕ) (j k : ℕ) → pick.BeginsWithKey d 12 parts octet held j → pick.BeginsWithKey d 12 parts octet held k
      → j ≡ k

-- each alternative has one table at both octet positions
abbrev pub HaveSameTables : LookV → List ℕ → ℕ → ℕ → Type 0
HaveSameTables look parts octet other =
    (j part : ℕ) → slice_get parts j ≡ Some part → table_at look part octet ≡ table_at look part other

-- and the choice is reached at the other one, which comes before
pub record IsSameBefore (d : DescV) (look : LookV) (node : ℕ) (parts : List ℕ) (octet other : ℕ) : Type 0 where
  pub before : other < octet
  pub reached : Reached d node other
  pub tables : HaveSameTables look parts octet other
