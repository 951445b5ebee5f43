use Rattle.std.proofs.Common.{◌≢◌, List, IfOk, map, subst}
use Rattle.std.specs.String.{string_bytes}
use Rattle.csn_io.specs.Files.{file_of}
use Rattle.csn_replay.specs.Watched.{Watched}
use Rattle.csn_plan.specs.declared.ended.Ended.TheVariants.{Usage}
use Rattle.csn_run.specs.Result.{BeginsResult, IsFinished, Result}
use Rattle.csn_run.proofs.WholeText.{none_watch}
use Rattle.csn_run.proofs.memory.run_in_memory.Goals as goal

pub returns-clause-result : goal.returns-clause-result
returns-clause-result c =
    let P : List Watched → Type 0 = λ watchers. IfOk c.run_watched.result
    (λ ran. IsFinished ran.ended → Result (map string_bytes c.args.words.now) (file_of c.args.files)
    watchers c.args.input.items ran.text.items ran.ended) in
    subst P (none_watch _ _ c.new.ensures.items) c.run_watched.ensures.result

pub returns-clause-begins : goal.returns-clause-begins
returns-clause-begins c =
    let P : List Watched → Type 0 = λ watchers. IfOk c.run_watched.result (λ ran. ran.ended ≢ Usage → BeginsResult
    (map string_bytes c.args.words.now) (file_of c.args.files) watchers c.args.input.items ran.text.items) in
    subst P (none_watch _ _ c.new.ensures.items) c.run_watched.ensures.begins
