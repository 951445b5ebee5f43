use Rattle.std.proofs.Common.{◌≡◌, ℕ, ◌<◌, ◌-◌, get_or, length}
use Rattle.csn_reasons.proofs.alike.alike_last.Given as goal

abbrev pub invariant-loop-back : goal.invariant-loop-back
invariant-loop-back l = (k : ℕ) → k < l.back → get_or l.a (length l.a - 1 - k) 0 ≡ get_or l.b (length l.b - 1 - k) 0
