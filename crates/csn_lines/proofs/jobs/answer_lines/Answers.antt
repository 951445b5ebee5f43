use Rattle.std.proofs.Common.{ap, ◌∙◌, Err}
use Rattle.std.proofs.lemmas.Result.{IfOk-from_err, err_from_is_err_and}
use Rattle.csn_plan.proofs.Texts.{on_ok_none}
use Rattle.csn_lines.proofs.Blames.{blames_none, blames_same}
use Rattle.csn_lines.proofs.Following.{job_answers, job_stops}
use Rattle.csn_lines.proofs.jobs.answer_lines.Goals as goal

pub answer_all-requires : goal.answer_all-requires
answer_all-requires g c = record {
  begin = c.requires.begin;
  line = c.requires.ready.line;
  pending =
      c.requires.ready.pending;
  refused = c.requires.ready.refused;
  unfailed = c.requires.unfailed;
}

pub returns-in_err-answer_all-clause-ok : goal.returns-in_err-answer_all-clause-ok
returns-in_err-answer_all-clause-ok g c = on_ok_none c.from_residual.result _ c.from_residual.ensures.0

pub returns-in_err-answer_all-clause-blames : goal.returns-in_err-answer_all-clause-blames
returns-in_err-answer_all-clause-blames g c =
    let p = err_from_is_err_and c.from_residual.result c.from_residual.ensures.1 in
    let met = c.in_err-answer_all.ensures in
    blames_same (p.1 ∙ ap Err p.2) met.read met.write met.input met.out

pub returns : goal.returns
returns g c =
    let all = c.in_ok-answer_all.ensures in
    record {
      ok = λ job begins. job_answers c.plans_do_jobs.ensures.same begins all.ok;
      end = c.end_by_lines.ensures;
      err = tt;
      blames = blames_none all.input all.out;
    }

pub returns-in_err-answer_all-clause-end : goal.returns-in_err-answer_all-clause-end
returns-in_err-answer_all-clause-end g c = IfOk-from_err c.from_residual.result _ c.from_residual.ensures.0

pub returns-in_err-answer_all-clause-err : goal.returns-in_err-answer_all-clause-err
returns-in_err-answer_all-clause-err g c =
    let p = err_from_is_err_and c.from_residual.result c.from_residual.ensures.1 in
    rw (p.1, p.2) (λ job begins. job_stops c.plans_do_jobs.ensures.same begins _ c.in_err-answer_all.ensures.err)
