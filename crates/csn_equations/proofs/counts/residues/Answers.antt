use Rattle.csn_equations.proofs.Powers.{low_power, high_power}
use Rattle.csn_equations.proofs.counts.residues.Goals as goal

pub returns-then-width-lt3-clause-most : goal.returns-then-width-lt3-clause-most
returns-then-width-lt3-clause-most c = low_power c.args.width c.if-width-lt3.true

pub returns-else-width-lt3-clause-values : goal.returns-else-width-lt3-clause-values
returns-else-width-lt3-clause-values c = high_power c.args.width c.if-width-lt3.false
