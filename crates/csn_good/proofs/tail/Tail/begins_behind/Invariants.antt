use Rattle.std.proofs.Common.{◌<◌}
use Rattle.csn_good.specs.ClaimedSets.{claims_of}
use Rattle.csn_good.specs.Octets.{OctetsAre}
use Rattle.csn_good.specs.Tails.{StartsBehind}
use Rattle.csn_good.proofs.tail.Tail.begins_behind.Given as goal

abbrev pub invariant-loop-octet : goal.invariant-loop-octet
invariant-loop-octet l = OctetsAre l.begins.has (λ o. StartsBehind (claims_of l.c) l.self l.i o l.bit × (o < l.octet))
