use Rattle.std.proofs.Common.{◌∙◌, arith}
use Rattle.csn_treetext.proofs.UpperValues.{upper_digit, no_upper_digit}
use Rattle.csn_treetext.proofs.long.upper_value.Goals as goal

pub returns-then-byte-ge97-clause-value : goal.returns-then-byte-ge97-clause-value
returns-then-byte-ge97-clause-value c = no_upper_digit c.args.byte (omega (arith, c.ranges.byte.fits)) (omega (arith, c.if-byte-ge97.true))

pub returns-clause-value : goal.returns-clause-value
returns-clause-value c = c.digit_value.ensures.value ∙ upper_digit c.args.byte (omega (arith, c.ranges.byte.fits)) (omega (arith, c.if-byte-ge97.false))
