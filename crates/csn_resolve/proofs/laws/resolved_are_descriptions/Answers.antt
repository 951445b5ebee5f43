use Rattle.csn_resolve.proofs.Answered.{is_description}
use Rattle.csn_resolve.proofs.laws.resolved_are_descriptions.Goals as goal

pub returns : goal.returns
returns c = λ rules r n d shaped h. is_description rules r n shaped h
