-- The jobs over the lines of an input.
use Rattle.std.specs.Prelude.{◌≡◌, ℕ, List, []}
use Rattle.csn_catalogue.specs.declared.entry.Entry.TheVariants.{Downlink}
use Rattle.csn_catalogue.specs.Entries.{all_entries, entry_root}
use Rattle.csn_catalogue.specs.Text.{catalogue_text}
use Rattle.csn_desc.specs.declared.reading.Reading.{Reading}
use Rattle.csn_desc.specs.Nodes.{DescV}
use Rattle.csn_grammar.specs.RulesV.{RulesV}
use Rattle.csn_replay.specs.Watched.{Watched}
use Rattle.csn_command.specs.declared.command.RuleCommand.{RuleCommand}
use Rattle.csn_plan.specs.Compiled.{AreCompiled, IsCompiled}
use Rattle.csn_lines.specs.Language.{of_plan, of_plans, of_rule, of_rules}
use Rattle.csn_lines.specs.LineState.{Kept, LineState, nothing_yet}
use Rattle.csn_lines.specs.Work.{Gives, LineWork, Stands, answering, joining, renewing, watching}

-- the jobs that answer the lines of the input: a command by a rule of some rules, `migrate`, `segments` by the rule of
-- some rules that describes downlink blocks, and `replay` by those that describe the blocks of the entries, with watchers
pub data LineJob : Type 0 where
  by_rule : RuleCommand → RulesV → List ℕ → Reading → LineJob
  migrating : LineJob
  segmenting : RulesV → Reading → LineJob
  replaying : RulesV → Reading → List Watched → LineJob

-- what is done in a job, by the languages of its rules
abbrev pub work_of : LineJob → LineWork
work_of (by_rule command rules name reading) = answering command (of_rule rules name reading)
work_of migrating = renewing
work_of (segmenting rules reading) = joining (of_rules rules reading Downlink)
work_of (replaying rules reading watchers) = watching (of_rules rules reading)

-- what a line gives in such a job, and how it takes the state further
abbrev pub Steps : LineJob → LineState → List ℕ → List ℕ → LineState → Type 0
Steps job = Gives (work_of job)

-- the state in front of the first line
abbrev pub beginning : LineJob → LineState
beginning (by_rule command rules name reading) = nothing_yet
beginning migrating = nothing_yet
beginning (segmenting rules reading) = nothing_yet
beginning (replaying rules reading watchers) = record { blocks = []; watchers = watchers }

-- the same is done by plans: by the languages of the descriptions that the rules have, which are certified
abbrev pub DoesJob : LineJob → LineWork → Type 0
DoesJob (by_rule command rules name reading) work =
    (text : List ℕ) × (d : DescV) × IsCompiled text name reading rules d × (work ≡ answering command (of_plan d))
DoesJob migrating work = work ≡ renewing
DoesJob (segmenting rules reading) work =
    (d : DescV) × IsCompiled catalogue_text (entry_root Downlink) reading rules d × (work ≡ joining (of_plan d))
DoesJob (replaying rules reading watchers) work =
    (plans : List DescV) × AreCompiled rules reading all_entries plans × (work ≡ watching (of_plans plans))

-- the rules that a job goes by have certified descriptions
abbrev pub HasPlans : LineJob → Type 0
HasPlans job = (work : LineWork) × DoesJob job work

-- a command that does this work, and keeps this, does the job from its beginning
pub record BeginsJob (job : LineJob) (work : LineWork) (kept : Kept) : Type 0 where
  pub does : DoesJob job work
  pub begins : Stands work kept (beginning job)
