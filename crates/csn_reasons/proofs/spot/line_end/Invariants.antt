use Rattle.std.proofs.Common.{◌≡◌, ℕ, ◌<◌, false, get_or}
use Rattle.csn_reasons.specs.Spots.{ends_line}
use Rattle.csn_reasons.proofs.spot.line_end.Given as goal

abbrev pub invariant-loop-at : goal.invariant-loop-at
invariant-loop-at l = (k : ℕ) → k < l.at → ends_line (get_or l.text k 0) ≡ false
