use Rattle.std.proofs.Common.{◌≡◌, ◌<◌, ◌+◌, suc, [], ◌∷◌, ◌++◌, length, take, get_or, sym, ◌∙◌, ap, ap₂, arith}
use Rattle.std.proofs.Math.Seq.{take-suc}
use Rattle.clap.specs.Words.{App, Shape, with_subcommand}
use Rattle.csn_companion.specs.declared.asked.Job.TheVariants.{Check}
use Rattle.csn_explain.specs.Words.{bare_program, jobs, with_jobs}
use Rattle.csn_explain.proofs.Jobs.{is_local, job_is_plain, jobs_behind}
use Rattle.csn_explain.proofs.words.program_words.Goals as goal

pub loop-job-preserved : goal.loop-job-preserved
loop-job-preserved c =
    let at = c.loop-job.job-index in
    let job = get_or jobs at Check in
    let inside : at < length jobs = omega (arith, c.loop-job-test.true) in
    let next : at + 1 ≡ suc at = omega arith in
    let more : take (at + 1) jobs ≡ take at jobs ++ job ∷ [] = ap (λ n. take n jobs) next ∙ take-suc jobs at Check inside in
    let words = ap (λ (a : App). a.top) c.in_ok-job_words.ensures in
    let plain = ap (λ (s : Shape). s.is_plain) words ∙ job_is_plain job in
    c.in_ok-program.ensures.shape (is_local c.in_ok-job_words.field-0 plain) ∙ ap₂ with_subcommand c.loop-job.invariant words
    ∙ sym (ap (with_jobs bare_program) more ∙ jobs_behind bare_program (take at jobs) job)
