use Rattle.std.proofs.Common.{◌≡◌, take, replicate}
use Rattle.csn_cert.specs.declared.pattern.Mark.TheVariants.{Any}
use Rattle.csn_good.proofs.leaf.any_bits.Given as goal

abbrev pub invariant-loop-at : goal.invariant-loop-at
invariant-loop-at l = (l.pattern.marks ≡ take l.at (replicate l.size Any)) × (l.pattern.whole ≡ l.initial.pattern.whole)
