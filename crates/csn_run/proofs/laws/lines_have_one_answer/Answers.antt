use Rattle.csn_run.proofs.AskedJobs.{each_asked, one_asked}
use Rattle.csn_run.proofs.laws.lines_have_one_answer.Goals as goal

pub returns-clause-some_answer : goal.returns-clause-some_answer
returns-clause-some_answer c = each_asked c.jobs_have_one_answer.ensures.some_answer

pub returns-clause-one_answer : goal.returns-clause-one_answer
returns-clause-one_answer c = one_asked c.jobs_have_one_answer.ensures.one_answer
