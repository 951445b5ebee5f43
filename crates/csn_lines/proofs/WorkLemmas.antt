-- What a line gives by what a command keeps, where it gives that whatever state this stands for.
use Rattle.std.proofs.Common.{◌≡◌, ℕ, List, ◌∷◌, [], ◌++◌, Option, refl, ap, subst, ◌∙◌}
use Rattle.csn_catalogue.specs.declared.entry.Entry.{Entry}
use Rattle.csn_command.specs.declared.command.RuleCommand.{RuleCommand}
use Rattle.csn_replay.specs.declared.seen.Seen.{Seen}
use Rattle.csn_replay.specs.Watched.{Watched}
use Rattle.csn_lines.specs.Language.{Language}
use Rattle.csn_lines.specs.LineState.{Kept, AnswersAlone}
use Rattle.csn_lines.specs.OutLine.{AnswersLine, CaptureLine, MigratesLine, TellsWatchers}
use Rattle.csn_lines.specs.Work.{JoinsLine, Works, answering, renewing, joining, watching}

-- a line that is answered alone
pub answered_alone : {command : RuleCommand} {language : Language} {kept kept' : Kept} (line : List ℕ) {text : List ℕ}
    → AnswersAlone (AnswersLine command language) kept line text kept' → Works (answering command language) kept line text kept'
answered_alone line (answer, is, text_is, same) before stands =
    (before, (answer, is, text_is, refl), record { bodies = tt; watchers = ap (λ k. k.watchers) same ∙ stands.watchers })

pub renewed_alone : {kept kept' : Kept} {line text : List ℕ} → AnswersAlone MigratesLine kept line text kept' → Works renewing kept line text kept'
renewed_alone (answer, is, text_is, same) before stands =
    (before, (answer, is, text_is, refl), record { bodies = tt; watchers = ap (λ k. k.watchers) same ∙ stands.watchers })

-- a line whose block is joined to those before
pub joined_line : {language : Language} {kept kept' : Kept} {line text : List ℕ} (answer : List ℕ)
    → JoinsLine language kept.bodies line answer kept'.bodies → text ≡ answer ++ 10 ∷ [] → kept'.watchers ≡ kept.watchers
    → Works (joining language) kept line text kept'
joined_line answer joins text_is same before stands =
    let next = joins before.blocks stands.bodies in (
      record { blocks = next.0; watchers = before.watchers },
      (answer, next.2, text_is, refl),
      record { bodies = next.1; watchers = same ∙ stands.watchers },
    )

-- a line whose block is shown to watchers
pub watched_line : {languages : Entry → Language} {kept kept' : Kept} {line text : List ℕ} (answer : List ℕ) (seen : Option Seen)
    → CaptureLine languages line answer seen → TellsWatchers answer seen kept.watchers text kept'.watchers
    → Works (watching languages) kept line text kept'
watched_line {kept' = kept'} {text = text} answer seen captures tells before stands = (
  record { blocks = before.blocks; watchers = kept'.watchers },
  (
    answer,
    seen,
    captures,
    subst (λ (w : List Watched). TellsWatchers answer seen w text kept'.watchers) stands.watchers tells,
    refl,
  ),
  record { bodies = tt; watchers = refl },
)
