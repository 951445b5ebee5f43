use Rattle.std.proofs.Common.{◌≤◌, arith}
use Rattle.csn_grammar.proofs.Places.{place_of}
use Rattle.csn_grammar.proofs.laws.blocks_have_one_place.Goals as goal

pub returns-clause-some : goal.returns-clause-some
returns-clause-some c = λ rules r n b none decided. place_of rules r n b none decided

pub returns-clause-one : goal.returns-clause-one
returns-clause-one c = λ rules r n b place other left right.
    let least : place ≤ other = right.greatest place left.within left.followed in
    let most : other ≤ place = left.greatest other right.within right.followed in omega arith
