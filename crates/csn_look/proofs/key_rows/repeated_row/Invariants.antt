use Rattle.std.proofs.Common.{ℕ}
use Rattle.csn_desc.specs.Nodes.{DescV}
use Rattle.csn_look.specs.Keys.{InKeys, TimesKeys}
use Rattle.csn_look.specs.KeyRows.{HasRow, AreTables, IsMore}
use Rattle.csn_look.proofs.key_rows.repeated_row.Given as goal

-- the keys of as many times as the loop has run
abbrev pub invariant-loop-done : goal.invariant-loop-done
invariant-loop-done l = record {
  more : IsMore l.fn.tables l.tables;
  within : AreTables l.tables l.row;
  times : (d : DescV) (i : ℕ) → HasRow l.fn.tables l.once (InKeys d 12 i) → HasRow l.tables l.row (TimesKeys d 12 l.done i);
}
