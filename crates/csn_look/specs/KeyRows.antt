-- Numbers of tables of keys, for the eight octet positions, in rows of eight; and what is said of them while the
-- tables are made.
use Rattle.std.specs.Prelude.{◌≡◌, ℕ, ◌+◌, ◌%◌, ◌<◌, ◌≤◌, ◌↔◌, Bool, List, [], ◌++◌, length, slice_get, slice_index, slice_index_or, Some}
use Rattle.csn_desc.specs.declared.reading.Reading.{Reading}
use Rattle.csn_desc.specs.declared.symbol.Symbol.{Symbol}
use Rattle.csn_desc.specs.Nodes.{DescV}
use Rattle.csn_desc.specs.Spelled.{IsSpare}
use Rattle.csn_look.specs.KeyMarks.{IsWord, KeysAre}
use Rattle.csn_look.specs.KeyProducts.{AfterKeys}
use Rattle.csn_look.specs.Keys.{InKeys}

-- the table with this number
abbrev pub table_of : List (List ℕ) → ℕ → List ℕ
table_of tables at = slice_index_or tables at []

-- there is one, and it has the keys with the fact
pub record HasTable (tables : List (List ℕ)) (at : ℕ) (P : List ℕ → Bool → Type 0) : Type 0 where
  pub within : at < length tables
  pub keys : KeysAre (table_of tables at) P

-- the row has for each octet position a table, of the keys with the fact
pub record HasRow (tables : List (List ℕ)) (row : List ℕ) (P : ℕ → List ℕ → Bool → Type 0) : Type 0 where
  pub eight : length row ≡ 8
  pub keys : (o : ℕ) → o ≤ 7 → HasTable tables (slice_index row o) (P o)

-- further tables
abbrev pub IsMore : List (List ℕ) → List (List ℕ) → Type 0
IsMore old new = (more : List (List ℕ)) × (new ≡ old ++ more)

-- with further tables there is a row of the keys with the fact
pub record Makes (old new : List (List ℕ)) (row : List ℕ) (P : ℕ → List ℕ → Bool → Type 0) : Type 0 where
  pub more : IsMore old new
  pub has : HasRow new row P

-- with further tables there is one of the keys with the fact
pub record MakesTable (old new : List (List ℕ)) (at : ℕ) (P : List ℕ → Bool → Type 0) : Type 0 where
  pub more : IsMore old new
  pub table : HasTable new at P

-- each number of the row is that of a table
abbrev pub AreTables : List (List ℕ) → List ℕ → Type 0
AreTables tables row = (o : ℕ) → o ≤ 7 → slice_index row o < length tables

-- with further tables there is a row of one table, which has these marks
pub record IsSameRow (old new : List (List ℕ)) (row marks : List ℕ) : Type 0 where
  pub more : IsMore old new
  pub eight : length row ≡ 8
  pub within : AreTables new row
  pub same : (o : ℕ) → o ≤ 7 → table_of new (slice_index row o) ≡ marks

-- the keys of a first part and of what comes after it, at an octet position, by the rows of both
abbrev pub RowAfter : List (List ℕ) → List ℕ → List ℕ → ℕ → List ℕ → Bool → Type 0
RowAfter tables first rest o =
    AfterKeys (table_of tables (slice_index first o)) (λ size. table_of tables (slice_index rest ((o + size) % 8)))

-- the word is one spare bit
abbrev pub IsSpareKey : Reading → Symbol → Bool → ℕ → List ℕ → Bool → Type 0
IsSpareKey reading symbol whole o word mark = (length word ≡ 1) × IsSpare reading symbol o word × (mark ≡ whole)

-- each of the parts has the same keys at all octet positions
abbrev pub AreAlike : DescV → List ℕ → Type 0
AreAlike d parts =
    (j i o : ℕ) (word : List ℕ) (mark : Bool) → slice_get parts j ≡ Some i → o ≤ 7 → IsWord word
    → InKeys d 12 i 0 word mark ↔ InKeys d 12 i o word mark

module _ (d : DescV) (tables : List (List ℕ)) (rows : List (List ℕ)) where
  -- node i has a row of its keys, and some parts have theirs
  abbrev pub IsRowed : ℕ → Type 0
  IsRowed i = (row : List ℕ) × (slice_get rows i ≡ Some row) × HasRow tables row (InKeys d 12 i)

  abbrev pub AreRowed : List ℕ → Type 0
  AreRowed parts = (j i : ℕ) → slice_get parts j ≡ Some i → IsRowed i

  -- all nodes have theirs
  pub record HasRows : Type 0 where
    pub same : length rows ≡ length d.nodes
    pub rowed : (i : ℕ) → i < length d.nodes → IsRowed i
