use Rattle.std.proofs.Common.{List, ℕ, subst}
use Rattle.csn_bits.specs.Octets.{IsBits}
use Rattle.csn_bits.proofs.NumberFacts.{IsBits-low_bits}
use Rattle.csn_judge.proofs.leaf.take.Goals as goal

pub returns-clause-bits : goal.returns-clause-bits
returns-clause-bits g c = subst (λ (l : List ℕ). IsBits l) c.take-number.ensures.written (IsBits-low_bits c.args.count c.take-number.result)
