-- Jobs that words ask for have plans, so each line has one answer in them.
use Rattle.std.proofs.Common.{ℕ, List, Option, refl, sym, subst}
use Rattle.csn_replay.specs.Watched.{Watched}
use Rattle.csn_lines.specs.Jobs.{LineJob, HasPlans}
use Rattle.csn_lines.specs.Language.{of_plan, of_plans}
use Rattle.csn_lines.specs.Work.{answering, joining, renewing, watching}
use Rattle.csn_lines.specs.Laws.{JobsHaveAnswers, JobsHaveOneAnswer}
use Rattle.csn_run.specs.Laws.{LinesHaveAnswers, LinesHaveOneAnswer}
use Rattle.csn_run.specs.Result.{AsksFor, asks_by_rule, asks_migrate, asks_segments, asks_replay}

has_plans : {words : List (List ℕ)} {files : List ℕ → Option (List ℕ)} {watchers : List Watched} {job : LineJob}
    → AsksFor words files watchers job → HasPlans job
has_plans (asks_by_rule command file name text reading rules d row held fits compiled is) =
    subst HasPlans (sym is) (answering command (of_plan d), (text, d, compiled, refl))
has_plans (asks_migrate row is) = subst HasPlans (sym is) (renewing, refl)
has_plans (asks_segments reading rules d row fits compiled is) = subst HasPlans (sym is) (joining (of_plan d), (d, compiled, refl))
has_plans (asks_replay reading rules plans row fits compiled is) = subst HasPlans (sym is) (watching (of_plans plans), (plans, compiled, refl))

pub each_asked : JobsHaveAnswers → LinesHaveAnswers
each_asked law words files watchers job asked before line = law job (has_plans asked) before line

pub one_asked : JobsHaveOneAnswer → LinesHaveOneAnswer
one_asked law words files watchers job asked before line text other after end a b = law job (has_plans asked) before line text other after end a b
