use Rattle.csn_lines.proofs.JobAnswers.{each_in_job, one_in_job}
use Rattle.csn_lines.proofs.laws.jobs_have_one_answer.Goals as goal

pub returns-clause-some_answer : goal.returns-clause-some_answer
returns-clause-some_answer c = each_in_job c.known.ensures

pub returns-clause-one_answer : goal.returns-clause-one_answer
returns-clause-one_answer c = one_in_job c.known.ensures
