use Rattle.std.proofs.Common.{◌+◌, ◌-◌, ◌%◌, ◌<◌, ◌≤◌, false, take}
use Rattle.csn_certify.specs.declared.pick.Pick.TheVariants.{Refuse}
use Rattle.csn_certify.specs.Picks.{Picks}
use Rattle.csn_judge.proofs.machine.Machine.followed.Given as goal

abbrev pub invariant-loop-count : goal.invariant-loop-count
invariant-loop-count g l =
    (l.count < l.ready)
    × Picks l.self.plan.now 12 l.i (l.source.place % 8) (take (l.count + 1) l.source.bits) false Refuse
    × (l.steps + l.count ≤ l.fn.steps + (l.ready - 1))

abbrev pub decreases-loop-count : goal.decreases-loop-count
decreases-loop-count g l = l.count
