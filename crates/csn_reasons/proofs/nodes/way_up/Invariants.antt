use Rattle.std.proofs.Common.{ℕ, ◌<◌, ◌≤◌, ◌+◌, List, ◌++◌, length}
use Rattle.csn_desc.specs.declared.node.Node.{Node}
use Rattle.csn_reasons.specs.Paths.{AreParents, LeadsUp}
use Rattle.csn_reasons.proofs.nodes.way_up.Given as goal

-- each step goes to a lower number, so that the root is reached
abbrev pub invariant-loop : goal.invariant-loop
invariant-loop l = (nodes : List Node) → AreParents nodes l.parents → l.node < length nodes
    → (l.here + l.counter ≤ l.node) × ((rest : List ℕ) → LeadsUp nodes l.here rest → LeadsUp nodes l.node (l.up.items ++ rest))
