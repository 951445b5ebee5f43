use Rattle.std.proofs.Common.{◌≤◌}
use Rattle.csn_explaining.proofs.text.hex_width.Given as goal

abbrev pub invariant-loop-digits : goal.invariant-loop-digits
invariant-loop-digits l = (1 ≤ l.width) × (l.width ≤ 16)
