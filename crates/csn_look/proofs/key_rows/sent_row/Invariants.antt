use Rattle.csn_desc.specs.declared.reading.Reading.TheVariants.{Sent}
use Rattle.csn_look.specs.KeyRows.{IsSpareKey}
use Rattle.csn_look.proofs.Tables.RowFacts.{RowBelow}
use Rattle.csn_look.proofs.key_rows.sent_row.Given as goal

-- the places before this one are filled
abbrev pub invariant-loop-octet : goal.invariant-loop-octet
invariant-loop-octet l = RowBelow l.initial.tables l.tables l.row l.octet (IsSpareKey Sent l.symbol l.whole)
