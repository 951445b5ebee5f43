use Rattle.std.proofs.Common.{◌≡◌, ℕ, ◌+◌, ◌%◌, ◌<◌, length, get_or}
use Rattle.csn_look.proofs.key_rows.turned.Given as goal

-- the places before this one are filled
abbrev pub invariant-loop-size : goal.invariant-loop-size
invariant-loop-size l =
    (length l.turned ≡ 8)
    × ((k : ℕ) → k < l.size → get_or l.turned k 0 ≡ get_or l.row ((l.octet + k) % 8) 0)
