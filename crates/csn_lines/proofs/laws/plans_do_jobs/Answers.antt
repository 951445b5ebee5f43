use Rattle.csn_lines.proofs.LanguagesAgree.{plans_do, rules_and_plans}
use Rattle.csn_lines.proofs.laws.plans_do_jobs.Goals as goal

pub returns-clause-agree : goal.returns-clause-agree
returns-clause-agree c = rules_and_plans c.known.ensures

pub returns-clause-same : goal.returns-clause-same
returns-clause-same c = plans_do c.known.ensures
