use Rattle.csn_judge.proofs.JudgingFacts.{untold_end}
use Rattle.csn_judge.proofs.judge.Judge.next_block.Goals as goal

pub returns-clause-ends : goal.returns-clause-ends
returns-clause-ends g c = untold_end _ _ c.next_block_to.result c.next_block_to.ensures.ends
