use Rattle.std.proofs.Common.{inl, inr, refl, ap, Err}
use Rattle.csn_lines.specs.Jobs.{by_rule}
use Rattle.csn_run.proofs.JobLemmas.{asked_by_rule, lines_end, refused_by_file, refused_ends, refused_missing, refused_read, refused_write}
use Rattle.csn_run.proofs.JobParts.{streams_alone, streams_of_lines}
use Rattle.csn_lines.proofs.OutsideLemmas.{keeps_along}
use Rattle.csn_run.proofs.top.answer_by_rule.Goals as goal

pub refuse-requires : goal.refuse-requires
refuse-requires g c = c.requires.ready.pending

pub answer_by_plan-requires : goal.answer_by_plan-requires
answer_by_plan-requires g c = record { ready = c.requires.ready; unfailed = c.requires.unfailed }

pub returns-in-Err : goal.returns-in-Err
returns-in-Err g c = record {
  ends = λ words watchers row. refused_ends words c.args.rule (inr (c.args.command, row))
      _ watchers _ _ _ c.in-Err.why _ c.in-Err.ensures.none c.refuse.ensures;
  read = λ e. inr (c.in-Err.ensures.read (ap Err (refused_read c.in-Err.why _ _ c.refuse.ensures e)));
  missing = λ lacks. (let over = refused_missing (Err c.in-Err.why) c.in-Err.why _ _ refl c.refuse.ensures
      (c.in-Err.ensures.missing lacks) in (over.0, refl, refl, over.1));
  fetched = c.in-Err.ensures.fetched;
  shelf = keeps_along (refused_by_file (Err c.in-Err.why) c.in-Err.why _ _ refl c.refuse.ensures) c.in-Err.ensures.shelf;
  streams = streams_alone (refused_write _ c.args.rule c.in-Err.why _ _ c.in-Err.ensures.none c.refuse.ensures);
}

pub returns-clause-ends : goal.returns-clause-ends
returns-clause-ends g c = λ words watchers row.
    let is = c.in-Ok.ensures.plan in
    lines_end words _ watchers (by_rule c.args.command is.rules c.args.rule.name.now c.args.rule.reading) _ _ _ _ _ _ _
    (asked_by_rule words _ watchers c.args.command c.args.rule c.in-Ok.plan row is)
    c.answer_by_plan.ensures.ok c.answer_by_plan.ensures.end c.answer_by_plan.ensures.err
    (record { does = (is.text, c.in-Ok.plan, is.compiled, refl); begins = record { bodies = tt; watchers = refl } })

pub returns-clause-read : goal.returns-clause-read
returns-clause-read g c = λ e. inl (c.answer_by_plan.ensures.blames.read e)

pub returns-clause-fetched : goal.returns-clause-fetched
returns-clause-fetched g c = c.in-Ok.ensures.fetched

pub returns-clause-streams : goal.returns-clause-streams
returns-clause-streams g c =
    let is = c.in-Ok.ensures.plan in
    streams_of_lines (λ words watchers row. (
      by_rule c.args.command is.rules c.args.rule.name.now c.args.rule.reading,
      asked_by_rule words _ watchers c.args.command c.args.rule c.in-Ok.plan row is,
    ))
    _ c.answer_by_plan.ensures.end c.answer_by_plan.ensures.blames
