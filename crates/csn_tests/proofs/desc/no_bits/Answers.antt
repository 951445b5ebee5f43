-- The one node without bits is well formed.
use Rattle.std.proofs.Common.{◌≡◌, ◌≤◌, List, [], ◌∷◌, length, refl, sym, subst, lit≤, lit<}
use Rattle.csn_desc.specs.declared.node.Node.{Node}
use Rattle.csn_desc.specs.declared.node.Node.TheVariants.{Null}
use Rattle.csn_desc.specs.Formed.{Spans}
use Rattle.csn_desc.specs.Laid.{Laid, laid, laid_end}
use Rattle.csn_desc.specs.WellFormed.{AreWellFormed}
use Rattle.csn_desc.proofs.WellFormed.{laid_spans, well_formed}
use Rattle.csn_tests.proofs.desc.no_bits.Goals as goal

record IsLaidOut (nodes : List Node) : Type 0 where
  few : length nodes ≤ 16384
  numbered : Spans nodes 0 (length nodes)
  well : AreWellFormed nodes

one_laid : Laid (Null ∷ []) [] 0 0 1
one_laid = laid _ refl (lit< tt) tt refl (laid_end refl)

one_node : IsLaidOut (Null ∷ [])
one_node = record { few = lit≤ tt; numbered = laid_spans (Null ∷ []) one_laid; well = well_formed (Null ∷ []) one_laid }

along : {nodes : List Node} → nodes ≡ Null ∷ [] → IsLaidOut nodes
along is = let P : List Node → Type 0 = λ nodes. IsLaidOut nodes in subst P (sym is) one_node

pub from_nodes-requires-clause-few : goal.from_nodes-requires-clause-few
from_nodes-requires-clause-few c = (along c.in_ok-nodes.ensures.items).few

pub from_nodes-requires-clause-numbered : goal.from_nodes-requires-clause-numbered
from_nodes-requires-clause-numbered c = (along c.in_ok-nodes.ensures.items).numbered

pub from_nodes-requires-clause-well_formed : goal.from_nodes-requires-clause-well_formed
from_nodes-requires-clause-well_formed c = (along c.in_ok-nodes.ensures.items).well
