use Rattle.csn_look.specs.KeyRows.{RowAfter}
use Rattle.csn_look.proofs.Tables.RowFacts.{RowBelow}
use Rattle.csn_look.proofs.key_rows.row_after.Given as goal

-- the places before this one are filled
abbrev pub invariant-loop-octet : goal.invariant-loop-octet
invariant-loop-octet l = RowBelow l.initial.tables l.tables l.row l.octet (RowAfter l.initial.tables l.first l.rest)
