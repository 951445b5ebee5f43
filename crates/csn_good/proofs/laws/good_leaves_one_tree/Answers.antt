use Rattle.csn_good.specs.ClaimedSets.{claims_of}
use Rattle.csn_good.proofs.laws.good_leaves_one_tree.Goals as goal

pub returns : goal.returns
returns c = λ d certificate b t u is good left right. c.held_claims_leave_one_tree.ensures d 12
    (claims_of certificate) b t u is (c.good_claims_hold.ensures d certificate is good) left right
