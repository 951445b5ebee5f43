use Rattle.std.proofs.Common.{◌≡◌}
use Rattle.csn_judge.specs.declared.frame.Frame.TheVariants as frame
use Rattle.csn_judge.specs.Credit.{credit_in}
use Rattle.csn_judge.specs.Turns.{state_with}
use Rattle.csn_judge.proofs.GoingOn.{Going}
use Rattle.csn_judge.proofs.machine.Machine.enter_along.Given as goal

abbrev pub invariant-loop-node : goal.invariant-loop-node
invariant-loop-node g l =
    (l.self.plan ≡ l.fn.self.plan)
    × Going l.fn.self.plan.now g.T.Track.takes (state_with (frame.Begin l.first) l.fn.self l.fn.source)
    (state_with (frame.Begin l.begins) l.self l.source) l.fn.track l.track l.fn.steps l.steps

abbrev pub decreases-loop-node : goal.decreases-loop-node
decreases-loop-node g l = credit_in l.fn.self.plan.now (state_with (frame.Begin l.begins) l.self l.source)
