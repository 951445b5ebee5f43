-- The trees inside are one node deeper, and the marks of the first few are set.
use Rattle.std.proofs.Common.{◌≡◌, ◌+◌, ◌*◌, Some}
use Rattle.std.specs.Prelude.{slice_get}
use Rattle.csn_sample.specs.Covering.{Sets, MeetsFew}
use Rattle.csn_sample.proofs.marks.WayMarks.+add.Given as goal

abbrev pub decreases-add : goal.decreases-add
decreases-add g l = 3 * l.deep

abbrev pub decreases-add_inside : goal.decreases-add_inside
decreases-add_inside g l = 3 * l.deep + 2

abbrev pub decreases-add_alternative : goal.decreases-add_alternative
decreases-add_alternative g l = 3 * l.deep + 1

abbrev pub decreases-add_row : goal.decreases-add_row
decreases-add_row g l = 3 * l.deep + 1

abbrev pub decreases-add_turns : goal.decreases-add_turns
decreases-add_turns g l = 3 * l.deep + 1

abbrev pub invariant-add_row-loop-at : goal.invariant-add_row-loop-at
invariant-add_row-loop-at g l =
    Sets l.fn.self l.self (MeetsFew l.plan (λ k part. slice_get l.parts k ≡ Some part) l.rows l.at) l.first

abbrev pub invariant-add_turns-loop-at : goal.invariant-add_turns-loop-at
invariant-add_turns-loop-at g l = Sets l.fn.self l.self (MeetsFew l.plan (λ k part. part ≡ l.part) l.rows l.at) l.first
