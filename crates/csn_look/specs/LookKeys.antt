-- What the tables that are kept of a description say: the keys of each node at each octet position.
use Rattle.std.specs.Prelude.{◌≡◌, ℕ, ◌<◌, ◌≤◌, ◌↔◌, Bool, List, [], length, slice_index, slice_index_or, Contains}
use Rattle.csn_desc.specs.Nodes.{DescV}
use Rattle.csn_look.specs.declared.word.Key.{Key}
use Rattle.csn_look.specs.KeyMarks.{KeysAre}
use Rattle.csn_look.specs.KeyLists.{IsRising}
use Rattle.csn_look.specs.Keys.{InKeys}
use Rattle.csn_look.specs.LookV.{LookV}

-- the marks of the table of node i at the octet position o
abbrev pub table_at : LookV → ℕ → ℕ → List ℕ
table_at look i o = slice_index_or look.tables (slice_index (slice_index_or look.rows i []) o) []

-- each node's tables have its keys
pub record IsKeysOf (d : DescV) (look : LookV) : Type 0 where
  pub same : length look.rows ≡ length d.nodes
  pub keys : (i o : ℕ) → i < length d.nodes → o ≤ 7 → KeysAre (table_at look i o) (InKeys d 12 i o)

-- the list has exactly the keys with the fact, rising
pub record ListsKeys (keys : List Key) (P : List ℕ → Bool → Type 0) : Type 0 where
  pub exact : (key : Key) → Contains keys key ↔ P key.word key.whole
  pub rising : IsRising keys
