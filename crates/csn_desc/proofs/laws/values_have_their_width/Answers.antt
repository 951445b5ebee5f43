use Rattle.csn_desc.proofs.NumberFacts.{value_has_width}
use Rattle.csn_desc.proofs.laws.values_have_their_width.Goals as goal
use Rattle.csn_bits.proofs.NumberFacts.{number_of-lt}

pub returns-clause-width : goal.returns-clause-width
returns-clause-width c = λ d i o v b t width is h. value_has_width d width is h

pub returns-clause-number : goal.returns-clause-number
returns-clause-number c = number_of-lt
