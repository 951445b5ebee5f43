use Rattle.std.proofs.Common.{take, map}
use Rattle.csn_good.specs.Covering.{AreCovered}
use Rattle.csn_good.specs.Numbers.{pattern_of}
use Rattle.csn_good.proofs.keys.are_covered.Given as goal

abbrev pub invariant-loop-number : goal.invariant-loop-number
invariant-loop-number l = AreCovered l.c l.i l.octet (take l.number-index (map pattern_of l.number-items))
