use Rattle.std.proofs.Common.{◌≡◌, ℕ, ◌+◌, ◌<◌, get_or}
use Rattle.csn_desc.specs.Spelled.{symbol_bit}
use Rattle.csn_encode.proofs.symbols.are_sent.Given as goal

abbrev pub invariant-loop-at : goal.invariant-loop-at
invariant-loop-at l = (k : ℕ) → k < l.at → get_or l.bits k 0 ≡ symbol_bit l.symbol (l.place + k)
