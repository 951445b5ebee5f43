use Rattle.std.proofs.Common.{ap, ◌∙◌, Err}
use Rattle.std.proofs.lemmas.Result.{IfOk-from_err, err_from_is_err_and}
use Rattle.csn_lines.proofs.Blames.{blames_none, blames_same}
use Rattle.csn_companion.proofs.Ends.{end_of_finished}
use Rattle.csn_companion.proofs.running.answer_lines.Goals as goal

pub returns-in_err-answer_all-clause-finished : goal.returns-in_err-answer_all-clause-finished
returns-in_err-answer_all-clause-finished g c = IfOk-from_err c.from_residual.result _ c.from_residual.ensures.0

pub returns-in_err-answer_all-clause-blames : goal.returns-in_err-answer_all-clause-blames
returns-in_err-answer_all-clause-blames g c =
    let p = err_from_is_err_and c.from_residual.result c.from_residual.ensures.1 in
    let met = c.in_err-answer_all.ensures in
    blames_same (p.1 ∙ ap Err p.2) met.read met.write met.input met.out

pub returns : goal.returns
returns g c =
    let all = c.in_ok-answer_all.ensures in
    record { finished = end_of_finished _ _ c.end_by_lines.ensures; blames = blames_none all.input all.out }
