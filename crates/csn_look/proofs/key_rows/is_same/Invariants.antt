use Rattle.std.proofs.Common.{◌≡◌, ℕ, ◌<◌, get_or}
use Rattle.csn_look.proofs.key_rows.is_same.Given as goal

-- the places before this one have the number of the first
abbrev pub invariant-loop-octet : goal.invariant-loop-octet
invariant-loop-octet l = (o : ℕ) → o < l.octet → get_or l.row o 0 ≡ get_or l.row 0 0
