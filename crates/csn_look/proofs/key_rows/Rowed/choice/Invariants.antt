use Rattle.csn_desc.specs.declared.node.Node.TheVariants.{Choice}
use Rattle.csn_look.specs.Keys.{NodeKeys}
use Rattle.csn_look.proofs.Tables.RowFacts.{RowBelow}
use Rattle.csn_look.proofs.key_rows.Rowed.choice.Given as goal

-- the places before this one are filled
abbrev pub invariant-loop-octet : goal.invariant-loop-octet
invariant-loop-octet l = RowBelow l.initial.tables l.tables l.row l.octet (NodeKeys l.self.desc.now 12 (Choice l.parts))
