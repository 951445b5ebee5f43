use Rattle.std.proofs.Common.{◌-◌}
use Rattle.csn_look.specs.Marks.{marks_of}
use Rattle.csn_look.proofs.Basics.Octets.{Closing}
use Rattle.csn_look.proofs.octet_set.OctetSet.repeated.Given as goal

abbrev pub invariant-loop-sums : goal.invariant-loop-sums
invariant-loop-sums l = Closing l.self l.sums

abbrev pub decreases-loop-sums : goal.decreases-loop-sums
decreases-loop-sums l = 256 - marks_of l.sums
