-- A node's parts are inside one node more; of the parts so far none is crowded.
use Rattle.std.proofs.Common.{suc, ◌-◌}
use Rattle.csn_desc.proofs.CrowdFacts.{NodeGoesOn}
use Rattle.csn_desc.proofs.overfull.+first_overfull.Given as goal

abbrev pub decreases-first_overfull : goal.decreases-first_overfull
decreases-first_overfull l = 65 - l.deep

abbrev pub invariant-loop-at : goal.invariant-loop-at
invariant-loop-at l = NodeGoesOn l.nodes l.node l.fn.before (suc l.deep) l.at l.seen
