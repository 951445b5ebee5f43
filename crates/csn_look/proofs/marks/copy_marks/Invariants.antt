use Rattle.std.proofs.Common.{◌-◌, ◌≤◌}
use Rattle.csn_look.specs.KeySteps.{Copies}
use Rattle.csn_look.proofs.marks.copy_marks.Given as goal

-- the first marks are copied
abbrev pub invariant-loop-done : goal.invariant-loop-done
invariant-loop-done l = record {
  within : l.done ≤ l.count;
  copied : Copies l.initial.marks l.marks l.others l.to l.from l.done;
}

abbrev pub decreases-loop-done : goal.decreases-loop-done
decreases-loop-done l = l.count - l.done
