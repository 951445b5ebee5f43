use Rattle.csn_encode.proofs.Blocks.{fits_or_misses, fitting}
use Rattle.csn_encode.proofs.laws.trees_fit_or_miss.Goals as goal

pub returns-clause-some : goal.returns-clause-some
returns-clause-some c = λ d t is certified leaves. fits_or_misses d is certified c.turns_have_bits.ensures.free t leaves

pub returns-clause-blocks : goal.returns-clause-blocks
returns-clause-blocks c = λ d t b is certified leaves. fitting d is certified c.turns_have_bits.ensures.free t leaves b
