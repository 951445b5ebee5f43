use Rattle.std.proofs.Common.{◌≡◌}
use Rattle.csn_judge.specs.Credit.{credit_in}
use Rattle.csn_judge.specs.Turns.{state_of}
use Rattle.csn_judge.proofs.GoingOn.{Going}
use Rattle.csn_judge.proofs.machine.Machine.go.Given as goal

abbrev pub invariant-loop-place : goal.invariant-loop-place
invariant-loop-place g l =
    (l.self.plan ≡ l.fn.self.plan) × Going l.fn.self.plan.now g.T.Track.takes (state_of l.fn.self l.fn.source)
    (state_of l.self l.source) l.fn.track l.track l.fn.steps l.steps

abbrev pub decreases-loop-place : goal.decreases-loop-place
decreases-loop-place g l = credit_in l.fn.self.plan.now (state_of l.self l.source)
