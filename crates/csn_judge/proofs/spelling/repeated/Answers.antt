use Rattle.std.proofs.Common.{arith}
use Rattle.csn_bits.proofs.NumberFacts.{masked_small}
use Rattle.csn_judge.proofs.SpellingFacts.{repeated_bits}
use Rattle.csn_judge.proofs.spelling.repeated.Goals as goal

pub returns-clause-value : goal.returns-clause-value
returns-clause-value c = repeated_bits c.args.symbol c.many_times.result c.args.count c.args.place c.many_times.ensures c.requires.few

pub returns-clause-small : goal.returns-clause-small
returns-clause-small c = masked_small _ c.args.count (omega (arith, c.requires.few))
