use Rattle.std.proofs.Common.{◌≡◌, ◌-◌, length}
use Rattle.csn_judge.specs.declared.frame.Frame.TheVariants as frame
use Rattle.csn_judge.specs.Turns.{state_with}
use Rattle.csn_judge.proofs.GoingOn.{Going}
use Rattle.csn_judge.proofs.machine.Machine.seq.Given as goal

abbrev pub invariant-loop-at : goal.invariant-loop-at
invariant-loop-at g l =
    (l.self.plan ≡ l.fn.self.plan)
    × Going l.fn.self.plan.now g.T.Track.takes (state_with (frame.Seq l.i l.fn.at l.values) l.fn.self l.fn.source)
    (state_with (frame.Seq l.i l.at l.values) l.self l.source) l.fn.track l.track 0 0

abbrev pub decreases-loop-at : goal.decreases-loop-at
decreases-loop-at g l = length l.parts - l.at
