-- A node's parts are one deeper, and what is left to begin pays for each step.
use Rattle.std.proofs.Common.{◌+◌, ◌*◌, ◌≤◌}
use Rattle.csn_sample.proofs.draft.Draft.+draw.Given as goal

abbrev pub decreases-draw : goal.decreases-draw
decreases-draw g l = 2 * l.deep

abbrev pub decreases-parts : goal.decreases-parts
decreases-parts g l = 2 * l.deep + 1

abbrev pub decreases-choice : goal.decreases-choice
decreases-choice g l = 2 * l.deep + 1

abbrev pub decreases-times : goal.decreases-times
decreases-times g l = 2 * l.deep + 1

abbrev pub decreases-many : goal.decreases-many
decreases-many g l = 2 * l.deep + 1

abbrev pub decreases-window : goal.decreases-window
decreases-window g l = 2 * l.deep + 1

abbrev pub decreases-named : goal.decreases-named
decreases-named g l = 2 * l.deep + 1

abbrev pub invariant-many-loop : goal.invariant-many-loop
invariant-many-loop g l = l.steps + l.self.left ≤ l.fn.steps + l.fn.self.left

abbrev pub invariant-parts-loop-at : goal.invariant-parts-loop-at
invariant-parts-loop-at g l = l.steps + l.self.left ≤ l.fn.steps + l.fn.self.left

abbrev pub invariant-times-loop-at : goal.invariant-times-loop-at
invariant-times-loop-at g l = l.steps + l.self.left ≤ l.fn.steps + l.fn.self.left

abbrev pub invariant-window-loop : goal.invariant-window-loop
invariant-window-loop g l = l.steps + l.self.left ≤ l.fn.steps + l.fn.self.left
