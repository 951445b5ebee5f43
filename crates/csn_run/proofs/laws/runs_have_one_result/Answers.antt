use Rattle.csn_run.proofs.OneResult as one
use Rattle.csn_run.proofs.ResultExists as exists
use Rattle.csn_run.proofs.WholeText.{pieces_alike}
use Rattle.csn_run.proofs.laws.runs_have_one_result.Goals as goal

pub returns-clause-some_result : goal.returns-clause-some_result
returns-clause-some_result c =
    exists.some_result c.known.ensures.of_texts c.known.ensures.of_answers.of_blocks.decided
    c.lines_have_one_answer.ensures.some_answer

pub returns-clause-one_result : goal.returns-clause-one_result
returns-clause-one_result c = one.one_result c.known.ensures.of_texts c.lines_have_one_answer.ensures.one_answer

pub returns-clause-pieces : goal.returns-clause-pieces
returns-clause-pieces c = pieces_alike (one.one_result c.known.ensures.of_texts c.lines_have_one_answer.ensures.one_answer)
