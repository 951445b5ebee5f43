-- Each line being answered in one way, so is an input.
use Rattle.std.proofs.Common.{◌≡◌, ℕ, Bool, List, [], ◌∷◌, ◌++◌, take, refl, sym, ◌∙◌, ap, subst, arith}
use Rattle.std.proofs.lemmas.List.{append-nil}
use Rattle.std.specs.List.{list_any}
use Rattle.csn_plan.specs.declared.ended.Ended.{Ended}
use Rattle.csn_lines.specs.declared.lines.TheConstants.{MOST_INPUT}
use Rattle.csn_lines.specs.Lines.{between_feeds, answered, text_of, is_refusal}
use Rattle.csn_lines.specs.LineState.{LineState, closing}
use Rattle.csn_lines.specs.Progress.{AllSteps, Answers, EndsIn}
use Rattle.csn_lines.specs.Jobs.{LineJob, Steps, beginning}
use Rattle.csn_lines.specs.Ends.{end_of}
use Rattle.csn_run.specs.Result.{AnswersInput, answers_all, answers_front}
use Rattle.csn_lines.proofs.LinesLemmas.{between_feeds-one}
use Rattle.csn_command.proofs.Words.{last_apart}

-- bytes have one list of lines that have ended in them
pub one_end : (bytes line other : List ℕ) (ended others : List (List ℕ)) → EndsIn bytes ended line → EndsIn bytes others other → ended ≡ others
one_end bytes line other ended others a b = (last_apart ended others line other (sym (pieces ended line a) ∙ pieces others other b)).0
  where
    pieces : (ended : List (List ℕ)) (line : List ℕ) → EndsIn bytes ended line → between_feeds (bytes ++ []) ≡ ended ++ line ∷ []
    pieces ended line is = is.whole [] ∙ ap (λ l. ended ++ between_feeds l) (append-nil line) ∙ ap (λ l. ended ++ l) (between_feeds-one line is.unended)

abbrev pub Written : List ℕ → Ended → List ℕ → Ended → Type 0
Written w e v f = (w ≡ v) × (e ≡ f)

module _ (job : LineJob) (one : (before : LineState) (line text other : List ℕ) (after end : LineState)
    → Steps job before line text after → Steps job before line other end → (text ≡ other) × (after ≡ end)) where
  one_each : (before after end : LineState) (found texts others : List (List ℕ))
      → AllSteps (Steps job) before found texts after → AllSteps (Steps job) before found others end
      → (texts ≡ others) × (after ≡ end)
  one_each before after end [] [] [] h k = (refl, h ∙ sym k)
  one_each before after end [] [] (b ∷ others) h k = absurd k
  one_each before after end [] (a ∷ texts) others h k = absurd h
  one_each before after end (line ∷ found) [] others h k = absurd h
  one_each before after end (line ∷ found) (a ∷ texts) [] h k = absurd k
  one_each before after end (line ∷ found) (a ∷ texts) (b ∷ others) h k =
      let first = one before line a b h.0 k.0 h.1 k.1 in
      let rest = one_each k.0 after end found texts others (subst (λ s. AllSteps (Steps job) s found texts after) first.1 h.2) k.2 in
      (ap (λ x. x ∷ texts) first.0 ∙ ap (λ l. b ∷ l) rest.0, rest.1)

  -- pieces give one text, and come to one state
  pub record OneText (text other : List ℕ) (after end : LineState) (refused refused' : Bool) : Type 0 where
    pub text_is : text ≡ other
    pub after_is : after ≡ end
    pub refused_is : refused ≡ refused'

  one_text :
      (before after end : LineState) (pieces : List (List ℕ)) (text other : List ℕ) (refused refused' : Bool)
      → Answers (Steps job) before pieces text after refused → Answers (Steps job) before pieces other end refused'
      → OneText text other after end refused refused'
  one_text before after end pieces text other refused refused' a b =
      let same = one_each before after end (answered pieces) a.texts b.texts a.each b.each in
      record {
        text_is = a.text_is ∙ ap text_of same.0 ∙ sym b.text_is;
        after_is = same.1;
        refused_is = a.refused_is ∙ ap (list_any is_refusal) same.0 ∙ sym b.refused_is;
      }

  pub one_input : (input w v : List ℕ) (e f : Ended) → AnswersInput job input w e → AnswersInput job input v f → Written w e v f
  one_input input w v e f (answers_all text after refused fits a closed is) (answers_all text' after' refused' fits' b closed' is') =
      let same = one_text (beginning job) after after' (between_feeds input) text text' refused refused' a b in
      (closed ∙ ap (λ t. t ++ closing after) same.text_is ∙ ap (λ s. text' ++ closing s) same.after_is ∙ sym closed', is ∙ ap end_of same.refused_is ∙ sym is')
  one_input input w v e f (answers_all text after refused fits a closed is) (answers_front found line after' refused' long ends b is') = absurd (omega arith)
  one_input input w v e f (answers_front found line after refused long ends a is) (answers_all text after' refused' fits' b closed is') = absurd (omega arith)
  one_input input w v e f (answers_front found line after refused long ends a is) (answers_front found' line' after' refused' long' ends' b is') =
      let pieces : found ≡ found' = one_end (take MOST_INPUT input) line line' found found' ends ends' in
      let same = one_text (beginning job) after after' found' w v refused refused'
      (subst (λ (p : List (List ℕ)). Answers (Steps job) (beginning job) p w after refused) pieces a) b in
      (same.text_is, is ∙ sym is')
