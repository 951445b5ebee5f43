use Rattle.std.proofs.Common.{◌≡◌, ◌+◌, ◌*◌, List, [], max, take, drop}
use Rattle.csn_grammar.specs.ExprV.{exprs_of, branches_of}
use Rattle.csn_grammar.specs.ExprCode.{expr_size, list_size, branch_list_size}
use Rattle.csn_resolve.specs.Steps.{Step}
use Rattle.csn_resolve.specs.Walk.{ItemsWalk, BranchesWalk}
use Rattle.csn_resolve.specs.Going.{way}
use Rattle.csn_resolve.specs.Views.{around_view, frame_after}
use Rattle.csn_resolve.specs.Depths.{left}
use Rattle.csn_resolve.proofs.walker.Walker.+walk.Given as goal

abbrev pub decreases-walk : goal.decreases-walk
decreases-walk l = 2 * left l.self.now.names.now l.around.depth (expr_size l.x.now) + 1

abbrev pub decreases-walk_items : goal.decreases-walk_items
decreases-walk_items l = 2 * left l.self.now.names.now l.around.depth (list_size l.items.now)

abbrev pub invariant-walk_items-loop-at : goal.invariant-walk_items-loop-at
invariant-walk_items-loop-at l =
    (steps : List Step) → ItemsWalk l.self.names.now l.self.reading l.full (around_view l.self.reading l.around) [] (exprs_of (take l.count l.items)) steps
    → (rest : List Step)
    × ItemsWalk l.self.names.now l.self.reading l.full (around_view l.self.reading l.around)
    (frame_after l.self.reading [] (take l.at l.items)) (exprs_of (drop l.at (take l.count l.items))) rest
    × (way l.fn.begun.nodes steps ≡ way l.begun.nodes rest)

abbrev pub decreases-walk_name : goal.decreases-walk_name
decreases-walk_name l = 2 * left l.self.now.names.now l.around.depth 0

abbrev pub decreases-walk_both : goal.decreases-walk_both
decreases-walk_both l = 2 * left l.self.now.names.now l.around.depth (max (expr_size l.left.now) (expr_size l.right.now) + 1)

abbrev pub decreases-walk_branches : goal.decreases-walk_branches
decreases-walk_branches l = 2 * left l.self.now.names.now l.around.depth (branch_list_size l.branches.now)

abbrev pub invariant-walk_branches-loop-at : goal.invariant-walk_branches-loop-at
invariant-walk_branches-loop-at l =
    (steps : List Step) → BranchesWalk l.self.names.now l.self.reading (around_view l.self.reading l.around) (branches_of l.branches) steps
    → (rest : List Step)
    × BranchesWalk l.self.names.now l.self.reading (around_view l.self.reading l.around) (branches_of (drop l.at l.branches)) rest
    × (way l.fn.begun.nodes steps ≡ way l.begun.nodes rest)

abbrev pub decreases-walk_rule : goal.decreases-walk_rule
decreases-walk_rule l = 2 * left l.self.now.names.now l.around.depth (expr_size l.rule.now.body) + 2

abbrev pub decreases-walk_power : goal.decreases-walk_power
decreases-walk_power l = 2 * left l.self.now.names.now l.around.depth (expr_size l.part.now + 1)

abbrev pub decreases-walk_tail : goal.decreases-walk_tail
decreases-walk_tail l = 2 * left l.self.now.names.now l.around.depth (list_size l.tail.items.now + 1)
