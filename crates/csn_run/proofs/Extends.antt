-- Answers to some of the first lines go on to the answers to the whole input, where each line has one.
use Rattle.std.proofs.Common.{◌≡◌, ℕ, ◌<◌, ◌≤◌, Bool, true, false, ◌||◌, eqb, List, [], ◌∷◌, ◌++◌, length, take, refl}
use Rattle.std.proofs.Common.{sym, ◌∙◌, ap, subst, arith, inl, inr, append_assoc, append-nil, length-append}
use Rattle.std.proofs.lemmas.Bool.{cases_Bool, cases_lt}
use Rattle.std.proofs.lemmas.List.{take_all}
use Rattle.csn_plan.specs.declared.ended.Ended.{Ended}
use Rattle.csn_plan.specs.declared.ended.Ended.TheVariants.{TooLong}
use Rattle.csn_lines.specs.declared.lines.TheConstants.{MOST_INPUT}
use Rattle.csn_lines.specs.Lines.{begin_first, between_feeds, answered}
use Rattle.csn_lines.specs.LineState.{LineState, closing}
use Rattle.csn_lines.specs.Progress.{AllSteps, Answers, EndsIn, StopsWithin}
use Rattle.csn_lines.specs.Jobs.{LineJob, Steps, beginning}
use Rattle.csn_lines.specs.Ends.{end_of}
use Rattle.csn_run.specs.Result.{AnswersInput, answers_all, answers_front}
use Rattle.csn_lines.proofs.LinesLemmas.{between_feeds-one, HasNoFeed-append}
use Rattle.csn_lines.proofs.ProgressLemmas.{adds_more}
use Rattle.csn_lines.proofs.StandingLemmas.{answers_of}

-- ---- where the last line of some bytes begins

abbrev HasEnd : List ℕ → Type 0
HasEnd bytes = (ended : List (List ℕ)) × (line : List ℕ) × EndsIn bytes ended line

feed_first : (c : ℕ) (bytes : List ℕ) → eqb c 10 ≡ true → HasEnd bytes → HasEnd (c ∷ bytes)
feed_first c bytes feed h = (
  [] ∷ h.0,
  h.1,
  record { whole = λ more. rw feed (ap (λ l. [] ∷ l) (h.2.whole more)); unended = h.2.unended },
)

other_first : (c : ℕ) (bytes : List ℕ) → eqb c 10 ≡ false → HasEnd bytes → HasEnd (c ∷ bytes)
other_first c bytes other ([], line, is) = (
  [],
  c ∷ line,
  record {
    whole = λ more. rw other (ap (begin_first c) (is.whole more));
    unended = ((let no : c ≡ 10 → ⊥ = grind arith in no), is.unended);
  },
)
other_first c bytes other (first ∷ ended, line, is) = (
  (c ∷ first) ∷ ended,
  line,
  record { whole = λ more. rw other (ap (begin_first c) (is.whole more)); unended = is.unended },
)

has_end : (bytes : List ℕ) → HasEnd bytes
has_end [] = ([], [], record { whole = λ more. refl; unended = tt })
has_end (c ∷ bytes) = elim (cases_Bool (eqb c 10)) [
  | inl feed ↦ feed_first c bytes feed (has_end bytes)
  | inr other ↦ other_first c bytes other (has_end bytes)
]

one_more : (u z : List ℕ) (before front : List (List ℕ)) → u ≡ z → (behind : List (List ℕ))
    × (before ≡ front ++ behind) → (behind : List (List ℕ)) × (u ∷ before ≡ z ∷ (front ++ behind))
one_more u z before front first (behind, is) = (behind, cc)

-- a list that begins lists which differ in their last element begins what stands before it
begins_before : (before front : List (List ℕ)) (x y : List ℕ) (b c : List (List ℕ)) → before ++ x ∷ [] ≡ front ++ b
    → before ++ y ∷ [] ≡ front ++ c → (x ≡ y → ⊥) → (behind : List (List ℕ)) × (before ≡ front ++ behind)
begins_before before [] x y b c e f differ = (before, refl)
begins_before [] (z ∷ front) x y b c e f differ =
    let same : x ≡ y = cc in absurd (differ same)
begins_before (u ∷ before) (z ∷ front) x y b c e f differ =
    let left : before ++ x ∷ [] ≡ front ++ b = cc in
    let right : before ++ y ∷ [] ≡ front ++ c = cc in
    one_more u z before front (cc) (begins_before before front x y b c left right differ)

longer : (line : List ℕ) → line ≡ line ++ 0 ∷ [] → ⊥
longer line e = omega (arith, ap length e, length-append line (0 ∷ []))

-- pieces that begin the input whatever stands behind the bytes have ended in them
ended_first : (bytes line : List ℕ) (ended front : List (List ℕ))
    → EndsIn bytes ended line → ((more : List ℕ) → (behind : List (List ℕ))
    × (between_feeds (bytes ++ more) ≡ front ++ behind)) → (behind : List (List ℕ)) × (ended ≡ front ++ behind)
ended_first bytes line ended front is begins =
    let one : between_feeds (line ++ []) ≡ line ∷ [] = ap between_feeds (append-nil line) ∙ between_feeds-one line is.unended in
    let other : between_feeds (line ++ 0 ∷ []) ≡ (line ++ 0 ∷ []) ∷ [] = between_feeds-one (line ++ 0 ∷ [])
    (HasNoFeed-append line (0 ∷ []) is.unended ((λ e. cc), tt)) in
    let first = begins [] in
    let second = begins (0 ∷ []) in
    begins_before ended front line (line ++ 0 ∷ []) first.0 second.0
    (ap (λ l. ended ++ l) (sym one) ∙ sym (is.whole []) ∙ first.1)
    (ap (λ l. ended ++ l) (sym other) ∙ sym (is.whole (0 ∷ [])) ∙ second.1)
    (longer line)

-- ---- each line has an answer

module _ (job : LineJob) (has_answer : (before : LineState) (line : List ℕ) → (text : List ℕ) × (after : LineState) × Steps job before line text after) where
  each_line : (before : LineState) (lines : List (List ℕ)) → (texts : List (List ℕ)) × (after : LineState) × AllSteps (Steps job) before lines texts after
  each_line before [] = ([], before, refl)
  each_line before (line ∷ lines) =
      let first = has_answer before line in
      let rest = each_line first.1 lines in
      (first.0 ∷ rest.0, rest.1, (first.1, first.2, rest.2))

  pieces_answered : (before : LineState) (pieces : List (List ℕ)) → (text : List ℕ) × (after : LineState)
      × (refused : Bool) × Answers (Steps job) before pieces text after refused
  pieces_answered before pieces =
      let all = each_line before (answered pieces) in
      (_, all.1, _, record { texts = all.0; each = all.2; text_is = refl; refused_is = refl })

  -- the answers to some pieces, and then to those behind them
  goes_on : {before after : LineState} (front behind : List (List ℕ)) (whole_text text rest : List ℕ) (refused : Bool)
      → Answers (Steps job) before front whole_text after refused → whole_text ≡ text ++ rest → (more : List ℕ)
      × (end : LineState) × (now : Bool) × Answers (Steps job) before (front ++ behind) (text ++ more) end now
  goes_on {before} {after} front behind whole_text text rest refused a split =
      let b = pieces_answered after behind in
      let joined : Answers (Steps job) before (front ++ behind) (whole_text ++ b.0) b.1 (refused || b.2) =
      answers_of (Steps job) _ _ _ (adds_more (Steps job) front behind [] whole_text (whole_text ++ b.0) refused b.2
      (record { text = whole_text; answers = a; new_is = refl })
      (record { text = b.0; answers = b.3; new_is = refl })) in (
        rest ++ b.0,
        b.1,
        refused || b.2,
        subst (λ (t : List ℕ). Answers (Steps job) before (front ++ behind) t b.1
            (refused || b.2)) (ap (λ l. l ++ b.0) split ∙ append_assoc text rest b.0) joined,
      )

  -- what was written within the limit of an input begins what a whole run writes
  pub extends : (input text : List ℕ) → StopsWithin (Steps job) (beginning job) (take MOST_INPUT input) text
      → (rest : List ℕ) × (ended : Ended) × AnswersInput job input (text ++ rest) ended
  extends input text s = elim (cases_lt MOST_INPUT (length input)) [
    | inl long ↦ past_limit long
    | inr fits ↦ within_limit fits
  ]
    where
      past_limit : MOST_INPUT < length input → (rest : List ℕ) × (ended : Ended) × AnswersInput job input (text ++ rest) ended
      past_limit long =
          let end = has_end (take MOST_INPUT input) in
          let behind = ended_first (take MOST_INPUT input) end.1 end.0 s.ended end.2 s.begins in
          let all = goes_on s.ended behind.0 s.whole_text text s.rest s.refused s.answers s.text_begins in (
            all.0,
            TooLong,
            answers_front end.0 end.1 all.1 all.2 long end.2
                (subst (λ (p : List (List ℕ)). Answers (Steps job) (beginning job) p (text ++ all.0) all.1 all.2)
                (sym behind.1) all.3) refl,
          )

      within_limit : length input ≤ MOST_INPUT → (rest : List ℕ) × (ended : Ended) × AnswersInput job input (text ++ rest) ended
      within_limit fits =
          let behind = s.begins [] in
          let whole : take MOST_INPUT input ≡ input = take_all MOST_INPUT input fits in
          let pieces : between_feeds input ≡ s.ended ++ behind.0 = ap between_feeds (sym (append-nil input) ∙ ap (λ l. l ++ []) (sym whole)) ∙ behind.1 in
          let all = goes_on s.ended behind.0 s.whole_text text s.rest s.refused s.answers s.text_begins in (
            all.0 ++ closing all.1,
            end_of all.2,
            answers_all (text ++ all.0) all.1 all.2 fits
                (subst (λ (p : List (List ℕ)). Answers (Steps job) (beginning job) p (text ++ all.0) all.1 all.2)
                (sym pieces) all.3) (sym (append_assoc text all.0 (closing all.1))) refl,
          )

  -- a whole run writes something
  pub some_answers : (input : List ℕ) → (written : List ℕ) × (ended : Ended) × AnswersInput job input written ended
  some_answers input = extends input [] (record {
    ended = [];
    whole_text = [];
    rest = [];
    after = beginning job;
    refused = false;
    begins = λ more. (between_feeds (take MOST_INPUT input ++ more), refl);
    answers = record { texts = []; each = refl; text_is = refl; refused_is = refl };
    text_begins = refl;
  })
