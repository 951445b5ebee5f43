use Rattle.csn_resolve.proofs.Answered.{answered}
use Rattle.csn_resolve.proofs.laws.names_are_answered.Goals as goal

pub returns : goal.returns
returns c = λ rules r n shaped. answered rules r n shaped
