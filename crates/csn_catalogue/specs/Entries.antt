-- The entries of the catalogue. (The words are this project's own; the roots are rules of the catalogue.)
use Rattle.std.specs.Prelude.{ℕ, List, [], ◌∷◌, codes}
use Rattle.csn_catalogue.specs.declared.entry.Entry.{Entry}
use Rattle.csn_catalogue.specs.declared.entry.Entry.TheVariants.{Uplink, Downlink, Si1, Si3, Si4, Si13, Ia}

-- all entries, in the order in which they are written down everywhere
abbrev pub all_entries : List Entry
all_entries = Uplink ∷ Downlink ∷ Si1 ∷ Si3 ∷ Si4 ∷ Si13 ∷ Ia ∷ []

-- of an entry: where it stands among all entries, the word by which it is asked for, and the name of the rule that
-- describes its blocks
pub record EntryRow : Type 0 where
  pub place : ℕ
  pub word : List ℕ
  pub root : List ℕ

abbrev pub row_of : Entry → EntryRow
row_of Uplink = record { place = 0; word = codes "uplink"; root = codes "Uplink Control Block" }
row_of Downlink = record { place = 1; word = codes "downlink"; root = codes "Downlink Control Block" }
row_of Si1 = record { place = 2; word = codes "si1"; root = codes "SI 1 Rest Octets" }
row_of Si3 = record { place = 3; word = codes "si3"; root = codes "SI 3 Rest Octets" }
row_of Si4 = record { place = 4; word = codes "si4"; root = codes "SI 4 Rest Octets" }
row_of Si13 = record { place = 5; word = codes "si13"; root = codes "SI 13 Rest Octets" }
row_of Ia = record { place = 6; word = codes "ia"; root = codes "IA Rest Octets" }

-- where an entry stands among all entries
abbrev pub entry_place : Entry → ℕ
entry_place entry = (row_of entry).place

-- the word by which an entry is asked for
abbrev pub entry_word : Entry → List ℕ
entry_word entry = (row_of entry).word

-- the name of the rule that describes the blocks of an entry
abbrev pub entry_root : Entry → List ℕ
entry_root entry = (row_of entry).root
