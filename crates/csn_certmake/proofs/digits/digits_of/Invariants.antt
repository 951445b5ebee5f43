use Rattle.std.proofs.Common.{◌<◌}
use Rattle.std.specs.Prelude.{◌^◌}
use Rattle.csn_look.specs.Sums.{Has}
use Rattle.csn_certmake.specs.Digits.{DigitsAre}
use Rattle.csn_certmake.proofs.digits.digits_of.Given as goal

abbrev pub invariant-loop-octet : goal.invariant-loop-octet
invariant-loop-octet l = (l.digits < 2 ^ l.octet) × DigitsAre l.octet l.digits (Has l.octets)
