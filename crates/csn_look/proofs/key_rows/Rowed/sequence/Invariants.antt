use Rattle.std.proofs.Common.{drop}
use Rattle.csn_look.specs.Keys.{PartsKeys}
use Rattle.csn_look.specs.KeyRows.{Makes}
use Rattle.csn_look.proofs.key_rows.Rowed.sequence.Given as goal

-- the keys of the parts from this one on
abbrev pub invariant-loop-at : goal.invariant-loop-at
invariant-loop-at l = Makes l.fn.tables l.tables l.row (PartsKeys l.self.desc.now 12 (drop l.at l.parts))
