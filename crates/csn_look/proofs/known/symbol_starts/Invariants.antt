use Rattle.std.proofs.Common.{◌≡◌}
use Rattle.csn_desc.specs.Spelled.{symbol_bit}
use Rattle.csn_look.proofs.Basics.Octets.{Below}
use Rattle.csn_look.proofs.known.symbol_starts.Given as goal

abbrev pub invariant-loop-octet : goal.invariant-loop-octet
invariant-loop-octet l = Below (λ o. symbol_bit l.symbol o ≡ l.bit) l.octet l.starts
