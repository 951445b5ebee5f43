-- Each line has one answer, in each job over lines.
use Rattle.std.proofs.Common.{◌≡◌, ℕ, inl, inr, List, [], ◌∷◌, ◌++◌, codes, refl, sym, ◌∙◌, ap}
use Rattle.std.specs.Fmt.{decimal}
use Rattle.csn_catalogue.specs.Text.{catalogue_text}
use Rattle.csn_desc.specs.declared.reading.Reading.{Reading}
use Rattle.csn_desc.specs.Nodes.{DescV}
use Rattle.csn_grammar.specs.RulesV.{RulesV}
use Rattle.csn_treetext.specs.declared.version.Version.TheVariants.{First, Second}
use Rattle.csn_treetext.specs.Text.{text_of}
use Rattle.csn_command.specs.declared.command.RuleCommand.{RuleCommand}
use Rattle.csn_command.specs.declared.command.RuleCommand.TheVariants.{Show, Write}
use Rattle.csn_lines.specs.Language.{of_rule}
use Rattle.csn_lines.specs.Known.{KnownOfTrees, Known}
use Rattle.csn_plan.specs.Compiled.{IsCompiled}
use Rattle.csn_lines.specs.LineState.{LineState, AnswersAlone}
use Rattle.csn_lines.specs.OutLine.{AnswersLine, MigratesLine, migrates_tree, migrates_place}
use Rattle.csn_lines.specs.Jobs.{by_rule, migrating, segmenting, replaying}
use Rattle.csn_lines.specs.Laws.{JobsHaveAnswers, JobsHaveOneAnswer}
use Rattle.csn_lines.proofs.ShownLines.{each_shown, one_shown}
use Rattle.csn_lines.proofs.JoinedLines.{each_segments, one_segments}
use Rattle.csn_lines.proofs.ReplayedLines.{each_replays, one_replays}
use Rattle.csn_lines.proofs.WrittenLines.{each_written, one_written}

each_migrated : KnownOfTrees → (line : List ℕ) → (answer : List ℕ) × MigratesLine line answer
each_migrated known line = elim (known.decided First line) [
  | inl is ↦ (codes "ok " ++ text_of Second is.0, migrates_tree is.0 (text_of Second is.0) is.1 (known.shared First Second is.0 line is.1) refl)
  | inr place ↦ (codes "bad " ++ decimal place.0, migrates_place place.0 place.1 refl)
]

one_migrated : KnownOfTrees → (line answer other : List ℕ) → MigratesLine line answer → MigratesLine line other → answer ≡ other
one_migrated known line answer other (migrates_tree t text old is e) (migrates_tree t' text' old' is' e') =
    let tree : t ≡ t' = known.one_old_tree t t' line old old' in
    let texts : text ≡ text' = is.spelled ∙ ap (text_of Second) tree ∙ sym is'.spelled in
    e ∙ ap (λ l. codes "ok " ++ l) texts ∙ sym e'
one_migrated known line answer other (migrates_tree t text old is e) (migrates_place place at e') = absurd (at.no_tree t old)
one_migrated known line answer other (migrates_place place at e) (migrates_tree t text old is e') = absurd (at.no_tree t old)
one_migrated known line answer other (migrates_place place at e) (migrates_place place' at' e') =
    let same : place ≡ place' = known.one_place First line place place' at at' in
    e ∙ ap (λ p. codes "bad " ++ decimal p) same ∙ sym e'

module _ (known : Known) (text : List ℕ) (rules : RulesV) (name : List ℕ) (reading : Reading) (d : DescV) (is : IsCompiled text name reading rules d) where
  each_by_rule : (command : RuleCommand) (line : List ℕ) → (answer : List ℕ) × AnswersLine command (of_rule rules name reading) line answer
  each_by_rule (Show form) line = each_shown known text rules name reading d is form line
  each_by_rule (Write form) line = each_written known text rules name reading d is form line

  one_by_rule : (command : RuleCommand) (line answer other : List ℕ)
      → AnswersLine command (of_rule rules name reading) line answer → AnswersLine command (of_rule rules name reading) line other
      → answer ≡ other
  one_by_rule (Show form) = one_shown known text rules name reading d is form
  one_by_rule (Write form) = one_written known text rules name reading d is form

-- an answer that settles a line alone has its line feed
alone : (Answer : List ℕ → List ℕ → Type 0) (before : LineState) (line : List ℕ) → (answer : List ℕ)
    × Answer line answer → (text : List ℕ) × (after : LineState) × AnswersAlone Answer before line text after
alone Answer before line a = (a.0 ++ 10 ∷ [], before, (a.0, a.1, refl, refl))

one_alone :
    (Answer : List ℕ → List ℕ → Type 0) (line : List ℕ) {before : LineState} {text other : List ℕ} {after end : LineState}
    → ((answer other : List ℕ) → Answer line answer → Answer line other → answer ≡ other)
    → AnswersAlone Answer before line text after → AnswersAlone Answer before line other end → (text ≡ other) × (after ≡ end)
one_alone Answer line one a b = (a.2 ∙ ap (λ l. l ++ 10 ∷ []) (one a.0 b.0 a.1 b.1) ∙ sym b.2, a.3 ∙ sym b.3)

pub each_in_job : Known → JobsHaveAnswers
each_in_job known (by_rule command rules name reading) (work, does) before line =
    alone (AnswersLine command (of_rule rules name reading)) before line
    (each_by_rule known does.0 rules name reading does.1 does.2 command line)
each_in_job known migrating plans before line = alone MigratesLine before line (each_migrated known.of_trees line)
each_in_job known (segmenting rules reading) (work, does) before line =
    each_segments known catalogue_text rules reading does.0 does.1 before line
each_in_job known (replaying rules reading watchers) (work, does) before line =
    each_replays known rules reading does.0 does.1 before line

pub one_in_job : Known → JobsHaveOneAnswer
one_in_job known (by_rule command rules name reading) (work, does) before line text other after end a b =
    one_alone (AnswersLine command (of_rule rules name reading)) line
    (one_by_rule known does.0 rules name reading does.1 does.2 command line) a b
one_in_job known migrating plans before line text other after end a b = one_alone MigratesLine line (one_migrated known.of_trees line) a b
one_in_job known (segmenting rules reading) (work, does) before line text other after end a b =
    one_segments known catalogue_text rules reading does.0 does.1 a b
one_in_job known (replaying rules reading watchers) (work, does) before line text other after end a b =
    one_replays known rules reading does.0 does.1 a b
