use Rattle.std.proofs.Common.{◌≡◌, take}
use Rattle.clap.specs.Words.{app_of}
use Rattle.csn_explain.specs.Words.{bare_program, jobs, with_jobs}
use Rattle.csn_explain.proofs.words.program_words.Given as goal

abbrev pub invariant-loop-job : goal.invariant-loop-job
invariant-loop-job l = app_of l.program ≡ with_jobs bare_program (take l.job-index jobs)
