use Rattle.csn_desc.specs.declared.node.Node.TheVariants.{Lits}
use Rattle.csn_desc.specs.Nodes.{DescV}
use Rattle.csn_look.specs.Keys.{NodeKeys}
use Rattle.csn_look.proofs.Tables.RowFacts.{RowBelow}
use Rattle.csn_look.proofs.key_rows.literal_row.Given as goal

-- the places before this one are filled
abbrev pub invariant-loop-octet : goal.invariant-loop-octet
invariant-loop-octet l = (d : DescV) → RowBelow l.initial.tables l.tables l.row l.octet (NodeKeys d 12 (Lits l.run))
