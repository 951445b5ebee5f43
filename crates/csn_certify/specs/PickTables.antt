-- Tables of what look-ahead tells at a choice: an entry for each word of as many bits as the choice needs. Entries
-- are kept in blocks of so many, each without the refusals at its end.
use Rattle.std.specs.Prelude.{◌≡◌, ◌≢◌, ℕ, ◌+◌, ◌*◌, ◌/◌, ◌%◌, ◌^◌, ◌<◌, ◌≤◌, List, [], ◌∷◌, map, length, take}
use Rattle.std.specs.Prelude.{slice_get, slice_index, slice_index_or, Option, Some, None, true, false, refl}
use Rattle.std.specs.List.{AllPairs}
use Rattle.std.specs.Coded.{Coded, code_by, coded×, coded_ℕ, coded_list, coded_option}
use Rattle.csn_desc.specs.declared.node.Node.TheVariants.{Choice}
use Rattle.csn_desc.specs.Nodes.{DescV}
use Rattle.csn_look.specs.Reached.{Reached}
use Rattle.csn_look.specs.KeyMarks.{IsWord, place_of}
use Rattle.csn_certify.specs.declared.pick_blocks.TheConstants.{BLOCK}
use Rattle.csn_certify.specs.declared.pick_table.TheConstants.{FIRST}
use Rattle.csn_certify.specs.declared.pick_table.Entry.{Entry}
use Rattle.csn_certify.specs.declared.pick_table.Filled.{Filled}
use Rattle.csn_certify.specs.declared.pick_table.KeptTable.{KeptTable}
use Rattle.csn_certify.specs.declared.pick_table.Entry.TheVariants.{Refuse, Wait, Take}
use Rattle.csn_certify.specs.Picks.{BeginsWithKey}
use Rattle.csn_certify.specs.Choosing.{AreWithoutKey}

-- the alternative that takes no bits, where there is one, and the entries in blocks
pub record PickTableV : Type 0 where
  pub none : Option ℕ
  pub width : ℕ
  pub blocks : List (List Entry)

-- tables are stored as their parts
abbrev pub content_of : Entry → Option (Option (ℕ × ℕ))
content_of Refuse = None
content_of Wait = Some None
content_of (Take bits j) = Some (Some (bits, j))

abbrev pub content_entry : Option (Option (ℕ × ℕ)) → Entry
content_entry None = Refuse
content_entry (Some None) = Wait
content_entry (Some (Some p)) = Take p.0 p.1

abbrev pub content_back : (e : Entry) → content_entry (content_of e) ≡ e
content_back Refuse = refl
content_back Wait = refl
content_back (Take bits j) = refl

abbrev pub entry_code : Coded Entry
entry_code = code_by (Option (Option (ℕ × ℕ))) (coded_option (coded_option (coded× coded_ℕ coded_ℕ))) content_of content_entry content_back

abbrev pub blocks_code : Coded (List (List Entry))
blocks_code = coded_list (coded_list entry_code)

abbrev pub pick_table_code : Coded PickTableV
pick_table_code =
    code_by (Option ℕ × (ℕ × List (List Entry))) (coded× (coded_option coded_ℕ) (coded× coded_ℕ blocks_code))
    (λ t. (t.none, (t.width, t.blocks))) (λ p. record { none = p.0; width = p.1.0; blocks = p.1.1 }) (λ t. refl)

-- one entry for each word of at most so many bits, and one more, since no word has the place 0
pub record HasEntries (width : ℕ) (entries : List Entry) : Type 0 where
  pub short : width ≤ 12
  pub count : length entries ≡ 2 ^ (width + 1)

-- the entry of a word
abbrev pub entry_of : List Entry → List ℕ → Entry
entry_of entries word = slice_index_or entries (place_of word) Refuse

-- the entry at a place of a list of blocks
abbrev pub entry_in : List (List Entry) → ℕ → Entry
entry_in blocks place = slice_index_or (slice_index_or blocks (place / BLOCK) []) (place % BLOCK) Refuse

-- the entry of held bits, which are cut to the width
abbrev pub entry_at : PickTableV → List ℕ → Entry
entry_at table held = entry_in table.blocks (place_of (take table.width held))

-- ---- blocks that are kept once

-- the blocks that have these numbers
abbrev pub blocks_at : List ℕ → List (List Entry) → List (List Entry)
blocks_at index blocks = map (λ number. slice_index_or blocks number []) index

-- these are the entries of a block: those behind its end are refusals
abbrev pub IsBlockOf : List Entry → ℕ → List Entry → Type 0
IsBlockOf entries at block = (i : ℕ) → i < BLOCK → slice_index_or block i Refuse ≡ slice_index_or entries (BLOCK * at + i) Refuse

-- the numbers are those of the first so many blocks of the entries
pub record AreFirstBlocks (entries : List Entry) (count : ℕ) (index : List ℕ) (blocks : List (List Entry)) : Type 0 where
  pub size : length index ≡ count
  pub within : (at : ℕ) → at < count → slice_index index at < length blocks
  pub blocks_of : (at : ℕ) → at < count → IsBlockOf entries at (slice_index_or blocks (slice_index index at) [])

-- a table, as the blocks make it
abbrev pub table_in : List (List Entry) → KeptTable → PickTableV
table_in blocks t = record { none = t.none; width = t.width; blocks = blocks_at t.index.items blocks }

-- and it has the entries of a choice
pub record IsTableOf (filled : Filled) (t : PickTableV) : Type 0 where
  pub none : t.none ≡ filled.none
  pub entries :
      (held : List ℕ) → IsWord held → entry_at t held ≡ entry_of filled.entries.items (take filled.width held)

-- the first entries are those of the first block
abbrev pub AreFirst : List Entry → List (List Entry) → Type 0
AreFirst first blocks = (place : ℕ) → place < FIRST → slice_index_or first place Refuse ≡ entry_in blocks place

-- each word of at most as many bits as the width has its place in a block that is there, and the first ones stand with the
-- table too
pub record IsWithin (blocks : List (List Entry)) (t : KeptTable) : Type 0 where
  pub short : t.width ≤ 12
  pub enough : 2 ^ (t.width + 1) ≤ BLOCK * length t.index.items
  pub within : (at : ℕ) → at < length t.index.items → slice_index t.index.items at < length blocks
  pub first : AreFirst t.first (blocks_at t.index.items blocks)

abbrev pub AreWithin : List (List Entry) → List KeptTable → Type 0
AreWithin blocks tables = (at : ℕ) (t : KeptTable) → slice_get tables at ≡ Some t → IsWithin blocks t

-- a number that is the same for the same entries, and mostly another for others
abbrev pub number_of : Entry → ℕ
number_of Refuse = 1
number_of Wait = 2
number_of (Take bits j) = 256 * j + bits + 3

abbrev pub digest_on : ℕ → List Entry → ℕ
digest_on digest [] = digest
digest_on digest (entry ∷ more) = digest_on ((digest * 11400714819323198485 % 2 ^ 64 + number_of entry) % 2 ^ 64) more

abbrev pub digest_of : List Entry → ℕ
digest_of entries = digest_on 0 entries

-- no block is the same as one behind it
abbrev pub AreOnce : List (List Entry) → Type 0
AreOnce blocks = AllPairs (λ block other. block ≢ other) blocks

module _ (d : DescV) (parts : List ℕ) (octet : ℕ) where
  -- the entry tells how the held bits stand to the keys of the alternatives, of which `none` takes no bits
  abbrev pub Tells : List ℕ → Option ℕ → Entry → Type 0
  Tells held none Refuse = AreWithoutKey d parts octet held none false
  Tells held none Wait = AreWithoutKey d parts octet held none true
  Tells held none (Take bits j) =
      (bits ≤ length held → BeginsWithKey d 12 parts octet held j)
      × (length held < bits → AreWithoutKey d parts octet held none true)

  -- the table tells it of all held bits
  abbrev pub IsPickTable : PickTableV → Type 0
  IsPickTable table = (held : List ℕ) → IsWord held → Tells held table.none (entry_at table held)

  -- and so do the entries of a choice, before they are kept in blocks
  pub record AreEntries (filled : Filled) : Type 0 where
    pub size : HasEntries filled.width filled.entries.items
    pub tells :
        (held : List ℕ) → IsWord held
        → Tells held filled.none (entry_of filled.entries.items (take filled.width held))

-- the tables of a description, and for each node eight of their numbers, for the octet positions
pub record PickTablesV : Type 0 where
  pub tables : List PickTableV
  pub numbers : List ℕ

abbrev pub pick_tables_code : Coded PickTablesV
pick_tables_code =
    code_by (List PickTableV × List ℕ) (coded× (coded_list pick_table_code) (coded_list coded_ℕ))
    (λ p. (p.tables, p.numbers)) (λ p. record { tables = p.0; numbers = p.1 }) (λ p. refl)

-- the table of node i at the octet position o
abbrev pub table_of : PickTablesV → ℕ → ℕ → Option PickTableV
table_of picks i o = slice_get picks.tables (slice_index picks.numbers (8 * i + o))

module _ (d : DescV) where
  -- the number is that of a table of a choice with these parts
  abbrev pub HasNumber : List ℕ → ℕ → List PickTableV → ℕ → Type 0
  HasNumber parts o tables number = (t : PickTableV) × (slice_get tables number ≡ Some t) × IsPickTable d parts o t

  -- the node, a choice with these parts, has its table at the octet position
  abbrev pub HasTable : PickTablesV → ℕ → List ℕ → ℕ → Type 0
  HasTable picks i parts o = (t : PickTableV) × (table_of picks i o ≡ Some t) × IsPickTable d parts o t

  -- each choice has its table where it is reached, if node and octet position are among the first so many
  pub record HaveTables (count : ℕ) (picks : PickTablesV) : Type 0 where
    pub size : length picks.numbers ≡ 8 * length d.nodes
    pub tables :
        (i o : ℕ) (parts : List ℕ) → 8 * i + o < count → o ≤ 7 → slice_get d.nodes i ≡ Some (Choice parts)
        → Reached d i o
        → HasTable picks i parts o

  -- and so of all nodes
  abbrev pub ArePickTables : PickTablesV → Type 0
  ArePickTables picks = HaveTables (8 * length d.nodes) picks
