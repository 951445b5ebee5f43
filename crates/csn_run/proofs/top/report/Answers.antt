use Rattle.std.proofs.Common.{inl}
use Rattle.csn_run.proofs.JobLemmas.{report_ends, refused_ends}
use Rattle.csn_run.proofs.top.report.Goals as goal

pub returns-in-Err-clause-ends : goal.returns-in-Err-clause-ends
returns-in-Err-clause-ends g c = λ words row watchers left taken. refused_ends words c.args.rule
    (inl (c.args.report, row)) _ watchers left taken _ c.in-Err.why _ c.in-Err.ensures.none c.refuse.ensures

pub returns-clause-ends : goal.returns-clause-ends
returns-clause-ends g c = λ words row watchers left taken. report_ends words _ watchers c.args.report c.args.rule
    c.in-Ok.plan left taken _ _ row c.in-Ok.ensures.plan c.report_plan.ensures.ok c.report_plan.ensures.err
