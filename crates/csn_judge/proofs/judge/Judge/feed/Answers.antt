use Rattle.csn_judge.proofs.JudgingFacts.{untold}
use Rattle.csn_judge.proofs.judge.Judge.feed.Goals as goal

pub returns-clause-judges : goal.returns-clause-judges
returns-clause-judges g c = untold _ _ _ _ c.feed_to.result c.feed_to.ensures.judges
