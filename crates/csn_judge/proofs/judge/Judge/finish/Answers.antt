use Rattle.csn_judge.proofs.JudgingFacts.{untold_end}
use Rattle.csn_judge.proofs.judge.Judge.finish.Goals as goal

pub returns-clause-ends : goal.returns-clause-ends
returns-clause-ends g c = untold_end _ _ c.finish_to.result c.finish_to.ensures.ends
