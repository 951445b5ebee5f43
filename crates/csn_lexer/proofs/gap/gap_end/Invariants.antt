use Rattle.std.proofs.Common.{◌-◌, ◌≤◌, length}
use Rattle.csn_lexer.specs.Gap.{IsGap}
use Rattle.csn_lexer.proofs.gap.gap_end.Given as goal

abbrev pub invariant-loop-end : goal.invariant-loop-end
invariant-loop-end l = record {
  from : l.at ≤ l.end;
  within : l.end ≤ length l.text;
  gap : IsGap l.text l.at l.end;
}

abbrev pub decreases-loop-end : goal.decreases-loop-end
decreases-loop-end l = length l.text - l.end
