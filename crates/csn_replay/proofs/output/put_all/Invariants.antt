use Rattle.std.proofs.Common.{◌≡◌, ◌≤◌, ◌-◌, length, take}
use Rattle.csn_io.specs.Put.{Appended}
use Rattle.csn_replay.proofs.output.put_all.Given as goal

abbrev pub invariant-loop-passed : goal.invariant-loop-passed
invariant-loop-passed g l =
    record {
      within : l.passed ≤ length l.text;
      took : Appended (g.K.Sink.taken l.fn.out) (g.K.Sink.taken l.out) (take l.passed l.text);
      no_fault : g.K.Sink.faults l.out ≡ g.K.Sink.faults l.fn.out;
      steady : g.K.Sink.steady l.fn.out → g.K.Sink.steady l.out;
    }

abbrev pub decreases-loop-passed : goal.decreases-loop-passed
decreases-loop-passed g l = length l.text - l.passed
