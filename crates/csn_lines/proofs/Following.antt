-- What a command keeps of the lines before, and the states that it stands for: what it gives for the lines, a job gives that it
-- does.
use Rattle.std.proofs.Common.{◌≡◌, ℕ, Bool, List, [], ◌∷◌, ◌++◌, Option, refl, sym, ◌∙◌, ap, subst}
use Rattle.csn_replay.specs.Watched.{reports}
use Rattle.csn_lines.specs.declared.fault.Fault.{Fault}
use Rattle.csn_lines.specs.declared.fault.Fault.TheVariants.{Read, Write, Memory, TooLong}
use Rattle.csn_lines.specs.Lines.{answered}
use Rattle.csn_lines.specs.Jobs.{BeginsJob, LineJob, Steps, beginning}
use Rattle.csn_lines.specs.Laws.{PlansDoJobs}
use Rattle.csn_lines.specs.LineState.{LineState, Kept, closing, closing_of}
use Rattle.csn_lines.specs.Progress.{AllSteps, Answers, AnswersAll, KeepsUp, StopsAfter, StopsWithin, StopsWhere, Stops}
use Rattle.csn_lines.specs.Work.{LineWork, Stands, Works}

-- the command goes on from what it keeps to what it keeps then, and from each state that the first stands for a line
-- takes the job to one that the second stands for
abbrev pub Follows : (Kept → LineState → Type 0) → (Kept → List ℕ → List ℕ → Kept → Type 0) → (LineState → List ℕ → List ℕ → LineState → Type 0) → Type 0
Follows StandsFor A B =
    (kept : Kept) (line text : List ℕ) (kept' : Kept) → A kept line text kept' → (before : LineState) → StandsFor kept before
    → (after : LineState) × B before line text after × StandsFor kept' after

module _ (StandsFor : Kept → LineState → Type 0) (A : Kept → List ℕ → List ℕ → Kept → Type 0)
    (B : LineState → List ℕ → List ℕ → LineState → Type 0) (follows : Follows StandsFor A B) where
  steps_follow : (kept kept' : Kept) (before : LineState) (lines texts : List (List ℕ))
      → AllSteps A kept lines texts kept' → StandsFor kept before → (after : LineState)
      × AllSteps B before lines texts after × StandsFor kept' after
  steps_follow kept kept' before [] [] h is = (before, refl, subst (λ k. StandsFor k before) (sym h) is)
  steps_follow kept kept' before [] (text ∷ texts) h is = absurd h
  steps_follow kept kept' before (line ∷ lines) [] h is = absurd h
  steps_follow kept kept' before (line ∷ lines) (text ∷ texts) h is =
      let first = follows kept line text h.0 h.1 before is in
      let rest = steps_follow h.0 kept' first.0 lines texts h.2 first.2 in
      (rest.0, (first.0, first.1, rest.1), rest.2)

  answers_follow : {kept kept' : Kept} {before : LineState} {pieces : List (List ℕ)} {text : List ℕ} {refused : Bool}
      → StandsFor kept before → Answers A kept pieces text kept' refused → (after : LineState)
      × Answers B before pieces text after refused × StandsFor kept' after
  answers_follow {kept} {kept'} {before} {pieces} is a =
      let all = steps_follow kept kept' before (answered pieces) a.texts a.each is in
      (all.0, record { texts = a.texts; each = all.1; text_is = a.text_is; refused_is = a.refused_is }, all.2)

  module _ (kept : Kept) (begin : LineState) (is : StandsFor kept begin) where
    after_follows : {input text : List ℕ} → StopsAfter A kept input text → StopsAfter B begin input text
    after_follows a =
        let answers = answers_follow is a.answers in
        record { ended = a.ended; line = a.line; after = answers.0; refused = a.refused; ends = a.ends; answers = answers.1 }

    keeps_up_follows : {given text : List ℕ} → KeepsUp A kept given text → KeepsUp B begin given text
    keeps_up_follows a = record {
      before = a.before;
      piece = a.piece;
      front = a.front;
      rest = a.rest;
      given_is =
          a.given_is;
      short = a.short;
      stopped = after_follows a.stopped;
      text_is = a.text_is;
    }

    all_follow :
        ((kept : Kept) (state : LineState) → StandsFor kept state → closing_of kept ≡ closing state)
        → {left left' taken taken' : Option (List ℕ)} {waits : List ℕ} {refused : Bool}
        → AnswersAll A closing_of kept left left' taken taken' waits refused → AnswersAll B closing begin left left' taken taken' waits refused
    all_follow closes a =
        let answers = answers_follow is a.answers in
        record {
          given = a.given;
          took = a.took;
          text = a.text;
          after = answers.0;
          source = a.source;
          nothing_left =
              a.nothing_left;
          fits = a.fits;
          sink = a.sink;
          keeps_up = keeps_up_follows a.keeps_up;
          answers =
              answers.1;
          closed = a.closed ∙ ap (λ l. a.text ++ l) (closes a.after answers.0 answers.2);
        }

    within_follows : {input text : List ℕ} → StopsWithin A kept input text → StopsWithin B begin input text
    within_follows a =
        let answers = answers_follow is a.answers in
        record {
          ended = a.ended;
          whole_text = a.whole_text;
          rest = a.rest;
          after = answers.0;
          refused =
              a.refused;
          begins = a.begins;
          answers = answers.1;
          text_begins = a.text_begins;
        }

    by_follows : (fault : Fault) (given text : List ℕ) → StopsWhere A kept fault given text → StopsWhere B begin fault given text
    by_follows Read given text h = (h.0, after_follows h.1)
    by_follows Write given text h = within_follows h
    by_follows Memory given text h = within_follows h
    by_follows TooLong given text h = (h.0, after_follows h.1)

    stops_follow : {left left' taken taken' : Option (List ℕ)} {waits : List ℕ} (fault : Fault)
        → Stops A kept fault left left' taken taken' waits → Stops B begin fault left left' taken taken' waits
    stops_follow fault s = record {
      given = s.given;
      took = s.took;
      source = s.source;
      few = s.few;
      sink =
          s.sink;
      keeps_up = keeps_up_follows s.keeps_up;
      by = by_follows fault s.given _ s.by;
    }

-- ---- a command that begins a job

module _ (plans : PlansDoJobs) {job : LineJob} {work : LineWork} {kept : Kept} (begins : BeginsJob job work kept) where
  job_follows : Follows (Stands work) (Works work) (Steps job)
  job_follows from line text to works before stands =
      let next = works before stands in (next.0, (plans job work begins.does before line text next.0).0 next.1, next.2)

  pub job_answers :
      {left left' taken taken' : Option (List ℕ)} {waits : List ℕ} {refused : Bool}
      → AnswersAll (Works work) closing_of kept left left' taken taken' waits refused
      → AnswersAll (Steps job) closing (beginning job) left left' taken taken' waits refused
  job_answers answers = all_follow (Stands work) (Works work) (Steps job) job_follows kept (beginning job) begins.begins
      (λ from state stands. ap reports stands.watchers) answers

  pub job_stops :
      {left left' taken taken' : Option (List ℕ)} {waits : List ℕ} (fault : Fault)
      → Stops (Works work) kept fault left left' taken taken' waits
      → Stops (Steps job) (beginning job) fault left left' taken taken' waits
  job_stops fault stops = stops_follow (Stands work) (Works work) (Steps job) job_follows kept (beginning job) begins.begins fault stops
