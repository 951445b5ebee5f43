use Rattle.std.proofs.Common.{ap, ◌∙◌, arith}
use Rattle.hex.specs.Hex.{hex_digit_value}
use Rattle.csn_bits.proofs.DigitValues.{is_digit, no_digit}
use Rattle.csn_bits.proofs.digit.digit_value.Goals as goal

pub returns-then-value-lt16-clause-value : goal.returns-then-value-lt16-clause-value
returns-then-value-lt16-clause-value c = is_digit c.from.result (omega (arith, c.from.ensures, c.ranges.byte.fits))
    c.if-value-lt16.true ∙ ap hex_digit_value c.from.ensures

pub returns-else-value-lt16-clause-value : goal.returns-else-value-lt16-clause-value
returns-else-value-lt16-clause-value c = no_digit c.from.result (omega (arith, c.from.ensures, c.ranges.byte.fits))
    c.if-value-lt16.false ∙ ap hex_digit_value c.from.ensures
