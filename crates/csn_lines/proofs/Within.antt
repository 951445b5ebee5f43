-- What begins the answers to some of the first lines, of fewer bytes and of more.
use Rattle.std.proofs.Common.{◌≡◌, ℕ, ◌+◌, ◌-◌, ◌≤◌, inl, inr, List, [], ◌++◌, length, take, sym, subst, ◌∙◌, ap, arith, append_assoc}
use Rattle.std.proofs.lemmas.Bool.{cases_lt}
use Rattle.std.proofs.lemmas.List.{append-nil, take_all, take-append-le}
use Rattle.std.proofs.Math.Seq.{take-append-add}
use Rattle.csn_lines.specs.declared.fault.Fault.{Fault}
use Rattle.csn_lines.specs.declared.fault.Fault.TheVariants.{Read, Write, Memory, TooLong}
use Rattle.csn_lines.specs.declared.lines.TheConstants.{MOST_INPUT}
use Rattle.csn_lines.specs.Lines.{between_feeds}
use Rattle.csn_lines.specs.Progress.{StopsAfter, StopsWithin, StopsWhere}

-- a job that stopped behind some lines stopped within them
pub within_from_after : {St : Type 0} {begin : St} (Step : St → List ℕ → List ℕ → St → Type 0) (input text : List ℕ)
    → StopsAfter Step begin input text → StopsWithin Step begin input text
within_from_after {begin = begin} Step input text a = record {
  ended = a.ended;
  after = a.after;
  whole_text = text;
  rest = [];
  refused = a.refused;
  begins = λ more. (between_feeds (a.line ++ more), a.ends.whole more);
  answers = a.answers;
  text_begins = sym (append-nil text);
}

-- of what begins the answers, so does the front
pub within_shorter : {St : Type 0} {begin : St} (Step : St → List ℕ → List ℕ → St → Type 0)
    (input text front rest : List ℕ) → text ≡ front ++ rest → StopsWithin Step begin input text
    → StopsWithin Step begin input front
within_shorter {begin = begin} Step input text front rest split a = record {
  ended = a.ended;
  after = a.after;
  whole_text = a.whole_text;
  rest = rest ++ a.rest;
  refused = a.refused;
  begins = a.begins;
  answers = a.answers;
  text_begins = a.text_begins ∙ ap (λ l. l ++ a.rest) split ∙ append_assoc front rest a.rest;
}

-- what begins the answers to the front of an input begins those to all of it
pub within_longer : {St : Type 0} {begin : St} (Step : St → List ℕ → List ℕ → St → Type 0)
    (input given past text : List ℕ) → input ≡ given ++ past → StopsWithin Step begin given text
    → StopsWithin Step begin input text
within_longer {begin = begin} Step input given past text split a = record {
  ended = a.ended;
  after = a.after;
  whole_text = a.whole_text;
  rest = a.rest;
  refused = a.refused;
  begins = λ more. let b = a.begins (past ++ more) in (b.0, ap between_feeds (ap (λ l. l ++ more) split ∙ append_assoc given past more) ∙ b.1);
  answers = a.answers;
  text_begins = a.text_begins;
}

-- the first bytes of a front that is no longer
pub take_longer : (most : ℕ) (front past : List ℕ) → length front ≤ most → (more : List ℕ) × (take most (front ++ past) ≡ front ++ more)
take_longer most front past fits =
    let count : most ≡ length front + (most - length front) = omega arith in
    (take (most - length front) past, ap (λ n. take n (front ++ past)) count ∙ take-append-add front past (most - length front))

-- the first bytes of a list begin those of a longer one
pub take_both : (most : ℕ) (front past : List ℕ) → (more : List ℕ) × (take most (front ++ past) ≡ take most front ++ more)
take_both most front past = elim (cases_lt most (length front)) [
  | inl long ↦ ([], take-append-le most front past (omega arith) ∙ sym (append-nil (take most front)))
  | inr fits ↦ (
      let longer = take_longer most front past fits in
      (longer.0, longer.1 ∙ ap (λ l. l ++ longer.0) (sym (take_all most front fits))))
]

-- a job that met a fault stopped within the lines that end within the limit of an input
pub within_from_by : {St : Type 0} {begin : St} (Step : St → List ℕ → List ℕ → St → Type 0) (fault : Fault)
    (given text : List ℕ) → StopsWhere Step begin fault given text → StopsWithin Step begin (take MOST_INPUT given) text
within_from_by {begin = begin} Step Read given text h =
    subst (λ (l : List ℕ). StopsWithin Step begin l text) (sym (take_all MOST_INPUT given h.0)) (within_from_after Step given text h.1)
within_from_by {begin = begin} Step Write given text h = h
within_from_by {begin = begin} Step Memory given text h = h
within_from_by {begin = begin} Step TooLong given text h = within_from_after Step (take MOST_INPUT given) text h.1

-- the same of an input that goes on behind what was given, and of the front of what was written
pub within_input : {St : Type 0} {begin : St} (Step : St → List ℕ → List ℕ → St → Type 0) (fault : Fault)
    (input given past text front rest : List ℕ) → input ≡ given ++ past → text ≡ front ++ rest
    → StopsWhere Step begin fault given text → StopsWithin Step begin (take MOST_INPUT input) front
within_input {begin = begin} Step fault input given past text front rest goes_on split h =
    let more = take_both MOST_INPUT given past in
    within_longer Step (take MOST_INPUT input) (take MOST_INPUT given) more.0 front (ap (take MOST_INPUT) goes_on ∙ more.1)
    (within_shorter Step (take MOST_INPUT given) text front rest split (within_from_by Step fault given text h))
