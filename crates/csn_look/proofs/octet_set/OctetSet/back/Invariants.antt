use Rattle.std.proofs.Common.{◌-◌, ◌%◌}
use Rattle.csn_look.specs.Sums.{Has}
use Rattle.csn_look.proofs.Basics.Octets.{Below}
use Rattle.csn_look.proofs.octet_set.OctetSet.back.Given as goal

abbrev pub invariant-loop-octet : goal.invariant-loop-octet
invariant-loop-octet l = Below (λ o. Has l.self ((8 - o) % 8)) l.octet l.back
