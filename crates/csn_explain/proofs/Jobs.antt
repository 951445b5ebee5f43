-- The commands of jobs, one behind another.
use Rattle.std.proofs.Common.{◌≡◌, Bool, true, false, List, [], ◌∷◌, ◌++◌, refl}
use Rattle.std.specs.Prelude.{◌&&◌, not}
use Rattle.clap.specs.Words.{App, with_subcommand}
use Rattle.clap.specs.Simple.{shape_of}
use Rattle.clap.specs.declared.builder.command.Command.{Command}
use Rattle.clap.specs.declared.builder.command.Command.TheViews.{out-Command}
use Rattle.csn_companion.specs.declared.asked.Job.{Job}
use Rattle.csn_companion.specs.declared.asked.Job.TheVariants.{Check, Nodes, Fields, Show, Picture, Write, Blocks, Cover, Nearly}
use Rattle.csn_explain.specs.Words.{job_words, with_jobs}

pub jobs_behind : (app : App) (before : List Job) (job : Job)
    → with_jobs app (before ++ job ∷ []) ≡ with_subcommand (with_jobs app before) (job_words job).top
jobs_behind app [] job = refl
jobs_behind app (other ∷ before) job = jobs_behind (with_subcommand app (job_words other).top) before job

no_global : (a b c rest : Bool) → (a && (b && (not c && rest))) ≡ true → c ≡ false
no_global a b false rest plain = refl
no_global false b true rest plain = cc
no_global true false true rest plain = cc
no_global true true true rest plain = cc

-- a plain command has no global argument
pub is_local : (command : Command) → (shape_of command).is_plain ≡ true → (out-Command command).has_globals ≡ false
is_local command plain = no_global _ _ (out-Command command).has_globals _ plain

pub job_is_plain : (job : Job) → (job_words job).top.is_plain ≡ true
job_is_plain Check = refl
job_is_plain Nodes = refl
job_is_plain Fields = refl
job_is_plain Show = refl
job_is_plain Picture = refl
job_is_plain Write = refl
job_is_plain (Blocks order) = refl
job_is_plain Cover = refl
job_is_plain Nearly = refl
