use Rattle.std.proofs.Common.{◌≡◌, ◌+◌, ◌*◌, ◌++◌, Bool, take, drop}
use Rattle.csn_grammar.specs.ExprV.{ExprV, exprs_of, branches_of}
use Rattle.csn_grammar.specs.ExprCode.{expr_size, list_size, branch_list_size}
use Rattle.csn_places.specs.Depths.{left_of}
use Rattle.csn_places.specs.Origins.{Tells, items_origins, branches_origins, named_at}
use Rattle.csn_places.proofs.walk.Walker.+walk.Given as goal

abbrev pub decreases-walk : goal.decreases-walk
decreases-walk l = 2 * left_of l.self.now.names.now l.left (expr_size l.x.now) + 1

abbrev pub decreases-walk_branches : goal.decreases-walk_branches
decreases-walk_branches l = 2 * left_of l.self.now.names.now l.left (branch_list_size l.branches.now)

abbrev pub decreases-walk_choice : goal.decreases-walk_choice
decreases-walk_choice l = 2 * left_of l.self.now.names.now l.left (branch_list_size l.branches.now) + 1

abbrev pub decreases-walk_items : goal.decreases-walk_items
decreases-walk_items l = 2 * left_of l.self.now.names.now l.left (list_size l.items.now)

abbrev pub decreases-walk_name : goal.decreases-walk_name
decreases-walk_name l = 2 * left_of l.self.now.names.now l.left 0

abbrev pub decreases-walk_rule : goal.decreases-walk_rule
decreases-walk_rule l = 2 * left_of l.self.now.names.now l.left (expr_size l.rule.now.body) + 2

abbrev pub decreases-walk_tail : goal.decreases-walk_tail
decreases-walk_tail l = 2 * left_of l.self.now.names.now l.left (list_size l.tail.items.now + 1)

abbrev pub invariant-walk_branches-loop-at : goal.invariant-walk_branches-loop-at
invariant-walk_branches-loop-at l =
    (void : ExprV → Bool) → Tells l.self.names.now l.self.reading void → l.out.items ++ branches_origins l.self.reading void l.round
    (named_at l.self.names.now l.self.reading void l.left l.round)
    (branches_of (drop l.at l.branches))
    ≡ l.fn.out.items ++ branches_origins l.self.reading void l.round
    (named_at l.self.names.now l.self.reading void l.left l.round)
    (branches_of l.branches)

abbrev pub invariant-walk_items-loop-at : goal.invariant-walk_items-loop-at
invariant-walk_items-loop-at l =
    (void : ExprV → Bool) → Tells l.self.names.now l.self.reading void → l.out.items ++ items_origins l.self.reading void l.round
    (named_at l.self.names.now l.self.reading void l.left l.round)
    (exprs_of (drop l.at (take l.count l.items)))
    ≡ l.fn.out.items ++ items_origins l.self.reading void l.round
    (named_at l.self.names.now l.self.reading void l.left l.round)
    (exprs_of (take l.count l.items))
