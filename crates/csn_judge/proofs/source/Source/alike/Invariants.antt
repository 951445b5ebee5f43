use Rattle.std.proofs.Common.{◌≡◌, ◌-◌, ◌/◌, ◌^◌}
use Rattle.csn_judge.proofs.source.Source.alike.Given as goal

abbrev pub invariant-loop-at : goal.invariant-loop-at
invariant-loop-at l = l.given / 2 ^ (l.count - l.at) ≡ l.number / 2 ^ (l.count - l.at)
