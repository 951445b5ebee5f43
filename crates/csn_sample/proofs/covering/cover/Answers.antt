use Rattle.csn_sample.proofs.WaysUnset.{told_of}
use Rattle.csn_sample.proofs.covering.cover.Goals as goal

pub returns-clause-ways : goal.returns-clause-ways
returns-clause-ways g c = told_of c.args.plan.now _ _ _ c.in_ok-blocks.ensures.marks c.in_ok-unmet.ensures.ways
