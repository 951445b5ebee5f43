use Rattle.csn_resolve.proofs.Answered.{empty_followed}
use Rattle.csn_resolve.proofs.laws.empty_bits_are_followed.Goals as goal

pub returns : goal.returns
returns c = λ rules r n shaped none. empty_followed rules r n shaped c.empty_bits_are_followed.ensures.block none
