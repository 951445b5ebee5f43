use Rattle.csn_desc.proofs.Places.{place_of_block, one_place}
use Rattle.csn_desc.proofs.laws.blocks_have_one_place.Goals as goal

pub returns-clause-some : goal.returns-clause-some
returns-clause-some c = λ d b is. place_of_block d b is

pub returns-clause-one : goal.returns-clause-one
returns-clause-one c = λ d b m n left right. one_place d b m n left right
