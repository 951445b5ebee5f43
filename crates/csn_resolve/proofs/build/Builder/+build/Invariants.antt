use Rattle.std.proofs.Common.{◌≡◌, ◌+◌, ◌*◌, ◌≤◌, max, take, drop, length, []}
use Rattle.csn_grammar.specs.ExprCode.{expr_size, list_size, branch_list_size}
use Rattle.csn_resolve.specs.Depths.{left}
use Rattle.csn_resolve.specs.Made.{frame_before, shown_view}
use Rattle.csn_resolve.proofs.Giving.BuildFacts.{ItemsLeft, KeptLeft}
use Rattle.csn_resolve.proofs.build.Builder.+build.Given as goal

abbrev pub decreases-build : goal.decreases-build
decreases-build l = 2 * left l.self.now.names.now l.round.names (expr_size l.x.now) + 1

abbrev pub decreases-build_items : goal.decreases-build_items
decreases-build_items l = 2 * left l.self.now.names.now l.round.names (list_size l.items.now)

abbrev pub decreases-build_choice : goal.decreases-build_choice
decreases-build_choice l = 2 * left l.self.now.names.now l.round.names (branch_list_size l.branches.now) + 1

abbrev pub decreases-build_branches : goal.decreases-build_branches
decreases-build_branches l = 2 * left l.self.now.names.now l.round.names (branch_list_size l.branches.now)

abbrev pub decreases-build_power : goal.decreases-build_power
decreases-build_power l = 2 * left l.self.now.names.now l.round.names (expr_size l.part.now + 1)

abbrev pub decreases-build_both : goal.decreases-build_both
decreases-build_both l = 2 * left l.self.now.names.now l.round.names (max (expr_size l.left.now) (expr_size l.right.now) + 1)

abbrev pub decreases-build_name : goal.decreases-build_name
decreases-build_name l = 2 * left l.self.now.names.now l.round.names 0

abbrev pub decreases-build_rule : goal.decreases-build_rule
decreases-build_rule l = 2 * left l.self.now.names.now l.round.names (expr_size l.rule.now.body) + 2

abbrev pub decreases-build_tail : goal.decreases-build_tail
decreases-build_tail l = 2 * left l.self.now.names.now l.round.names (list_size l.tail.items.now + 1)

abbrev pub decreases-build_turn : goal.decreases-build_turn
decreases-build_turn l = 2 * left l.self.now.names.now l.round.names (list_size l.tail.items.now) + 1

abbrev pub invariant-build_items-loop-at : goal.invariant-build_items-loop-at
invariant-build_items-loop-at l = record {
  left : ItemsLeft l.self.names.now l.self.reading (take l.count l.items)
      (shown_view l.self.reading l.round.shown.now) l.fn.parts l.fn.made (drop l.at (take l.count l.items))
      (frame_before l.self.reading [] l.items l.nodes.items) l.parts l.made;
  long : length l.nodes.items ≡ l.at;
  room : length l.parts ≤ length l.made;
}

abbrev pub invariant-build_branches-loop-at : goal.invariant-build_branches-loop-at
invariant-build_branches-loop-at l = record {
  left : KeptLeft l.self.names.now l.self.reading l.branches (shown_view l.self.reading l.round.shown.now)
      l.fn.parts l.fn.made (drop l.at l.branches) l.parts l.made;
  room : length l.parts ≤ length l.made;
}
