use Rattle.csn_sample.proofs.Trees.{has_some}
use Rattle.csn_sample.proofs.sampler.is_string.Goals as goal

pub returns-in-Ok : goal.returns-in-Ok
returns-in-Ok c = λ yes. has_some c.args.plan.now c.args.block.now c.len-count.ensures.one_tree c.in-Ok.ensures
