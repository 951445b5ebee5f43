use Rattle.csn_good.proofs.Holding.{good_holds}
use Rattle.csn_good.proofs.laws.good_claims_hold.Goals as goal

pub returns : goal.returns
returns c = λ d certificate is good. good_holds d certificate is good
