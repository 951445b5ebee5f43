-- What a run has written when it is over, over files that are told.
use Rattle.std.proofs.Common.{◌≡◌, ℕ, ◌+◌, ◌≤◌, Bool, true, false, ◌⊎◌, inl, inr, List, [], ◌∷◌, ◌++◌, length}
use Rattle.std.proofs.Common.{Option, Some, None, Result, Ok, Err, refl, sym, ◌∙◌, ap, subst, arith, append_assoc}
use Rattle.std.proofs.Common.{length-append}
use Rattle.std.proofs.lemmas.List.{append-nil, take-append-le}
use Rattle.std.specs.Option.{option_map}
use Rattle.csn_desc.specs.declared.reading.Reading.{Reading}
use Rattle.csn_io.specs.Got.{Gave, NothingLeft}
use Rattle.csn_io.specs.Put.{Appended}
use Rattle.csn_replay.specs.Watched.{Watched}
use Rattle.csn_plan.specs.declared.ended.Ended.{Ended}
use Rattle.csn_plan.specs.declared.ended.Ended.TheVariants.{Done, SomeRefused, Usage, BadDescription, NotCertified}
use Rattle.csn_plan.specs.declared.ended.Ended.TheVariants.{ReadFault, WriteFault, NoMemory, TooLong as Long}
use Rattle.csn_lines.specs.declared.fault.Fault.{Fault}
use Rattle.csn_lines.specs.declared.fault.Fault.TheVariants.{Read, Write, Memory, TooLong}
use Rattle.csn_lines.specs.declared.lines.TheConstants.{MOST_INPUT}
use Rattle.csn_lines.specs.Progress.{EndsIn, KeepsUp, StopsWhere}
use Rattle.csn_command.specs.Command.{ReadsLines, leaves_report, leaves_soak, leaves_compat, leaves_verify}
use Rattle.csn_run.specs.Known.{KnownOfTexts}
use Rattle.csn_plan.specs.Compiled.{no_rules, rules_refused, not_certified}
use Rattle.csn_run.specs.Told.{compares_ok, compares_no, verifies_good, verifies_fault, verifies_none}
use Rattle.csn_run.specs.Job.{JobEnds, unread, before_lines, all_lines, some_lines, end_with, IsBeforeLines, EndedBefore, Asked}
use Rattle.csn_lines.specs.Ends.{end_by, end_of}
use Rattle.csn_lines.specs.Jobs.{LineJob, Steps, beginning}
use Rattle.csn_run.specs.Outside.{GoesByFiles, IsLeft, Passes}
use Rattle.csn_run.specs.Ran.{ComesToNoLine}
use Rattle.csn_run.specs.Result as whole
use Rattle.csn_run.specs.Laws.{LinesHaveAnswers}
use Rattle.csn_run.proofs.Extends.{extends}
use Rattle.csn_run.proofs.OneResult.{before_or_job}
use Rattle.csn_lines.proofs.Within.{within_input}

-- ---- what passed

-- nothing in front of nothing
no_front : (front rest : List ℕ) → front ++ rest ≡ [] → front ≡ []
no_front [] rest e = refl
no_front (x ∷ front) rest e = cc

-- bytes that a told source gave are the front of what it had
pub given_front : (whole given : List ℕ) (left' : Option (List ℕ)) → Gave (Some whole) left' given → (rest : List ℕ)
    × (whole ≡ given ++ rest) × (left' ≡ Some rest)
given_front whole given left' g = g

-- a source that has nothing left gave all
pub given_all : (whole given : List ℕ) (left' : Option (List ℕ)) → Gave (Some whole) left' given → NothingLeft left' → whole ≡ given
given_all whole given left' g none =
    let nothing : g.0 ≡ [] = subst NothingLeft g.2 none in
    g.1 ∙ ap (λ l. given ++ l) nothing ∙ append-nil given

-- a source that has left what it had gave nothing
pub given_none : (left left' : Option (List ℕ)) → left' ≡ left → Gave left left' []
given_none None left' same = same
given_none (Some left) left' same = (left, refl, same)

-- what a source has left, and that it is nothing
pub some_left : (left : Option (List ℕ)) → (rest : List ℕ) × IsLeft left rest
some_left None = ([], tt)
some_left (Some left) = (left, refl)

none_left : (left : Option (List ℕ)) → NothingLeft left → IsLeft left []
none_left None none = tt
none_left (Some left) none = none

-- what a sink took in a job, and then of what waited
taken_then : (taken taken' taken'' : Option (List ℕ)) (took front : List ℕ)
    → Appended taken taken' took → Appended taken' taken'' front → Appended taken taken'' (took ++ front)
taken_then None taken' taken'' took front job rest = rest ∙ ap (option_map (λ taken. taken ++ front)) job
taken_then (Some before) taken' taken'' took front job rest =
    rest ∙ ap (option_map (λ taken. taken ++ front)) job ∙ ap Some (append_assoc before took front)

-- nothing was read of a source, and a sink took the front of what waited
pub passes_front : {P : List ℕ → List ℕ → List ℕ → Type 0} (left left' taken taken' taken'' : Option (List ℕ)) (front : List ℕ)
    → left' ≡ left → taken' ≡ taken → Appended taken' taken'' front → ((rest : List ℕ) → P [] rest front) → Passes left left' taken taken'' P
passes_front left left' taken taken' taken'' front same_left same_taken handed holds =
    let rest = some_left left' in record {
      given = [];
      rest = rest.0;
      written = front;
      source = given_none left left' same_left;
      rest_is = rest.1;
      sink = handed ∙ ap (option_map (λ taken. taken ++ front)) same_taken;
      holds = holds rest.0;
    }

-- some of an input was read, and a sink took some bytes and then the front of what waited
passes_some : {P : List ℕ → List ℕ → List ℕ → Type 0} (left left' taken taken' taken'' : Option (List ℕ)) (given took front : List ℕ)
    → Gave left left' given → Appended taken taken' took → Appended taken' taken'' front → ((rest : List ℕ) → P given rest (took ++ front))
    → Passes left left' taken taken'' P
passes_some left left' taken taken' taken'' given took front gave sink handed holds =
    let rest = some_left left' in record {
      given = given;
      rest = rest.0;
      written = took ++ front;
      source = gave;
      rest_is = rest.1;
      sink = taken_then taken taken' taken'' took front sink handed;
      holds = holds rest.0;
    }

-- all of it was read
passes_all : {P : List ℕ → List ℕ → List ℕ → Type 0} (left left' taken taken' taken'' : Option (List ℕ)) (given took front : List ℕ)
    → Gave left left' given → NothingLeft left' → Appended taken taken' took → Appended taken' taken'' front
    → P given [] (took ++ front) → Passes left left' taken taken'' P
passes_all left left' taken taken' taken'' given took front gave none sink handed holds = record {
  given = given;
  rest = [];
  written = took ++ front;
  source = gave;
  rest_is = none_left left' none;
  sink = taken_then taken taken' taken'' took front sink handed;
  holds = holds;
}

-- ---- the end of a run

end_after_lines : (refused : Bool) (ended : Ended) (end : Result Ended Fault) → ended ≡ end_with end → end ≡ Ok (end_of refused) → ended ≡ end_of refused
end_after_lines refused ended end is e = is ∙ ap end_with e

-- how `compat` ends over two files that are there, and are certified or too long
pub pair_apart : {files : List ℕ → Option (List ℕ)} {old new name written : List ℕ} {reading : Reading}
    {ended : Ended} → whole.EndsPair files old new name reading written ended → (ended ≡ Done → ⊥)
    × (ended ≡ SomeRefused → ⊥) × (ended ≡ Long → ⊥) → ⊥
pair_apart (whole.long_before was held long is e) apart = apart.2 e
pair_apart (whole.long_after was now held few has long is e) apart = apart.2 e
pair_apart (whole.compared was now line rules others d x held has few small a b (compares_ok takes text e) is) apart = apart.0 e
pair_apart (whole.compared was now line rules others d x held has few small a b (compares_no not text e) is) apart = apart.1 e

-- how `verify` ends over two files that are there
pub verify_apart : {files : List ℕ → Option (List ℕ)} {file name certificate written : List ℕ} {reading : Reading}
    {ended : Ended} → whole.EndsVerify files file name reading certificate written ended → (ended ≡ Done → ⊥)
    × (ended ≡ BadDescription → ⊥) × (ended ≡ NotCertified → ⊥) × (ended ≡ Long → ⊥) → ⊥
verify_apart (whole.no_description text held (whole.long_text long is e) other) apart = apart.3 e
verify_apart (whole.no_description text held (whole.no_plan line fits (no_rules place at is e) all) other) apart = apart.1 e
verify_apart (whole.no_description text held (whole.no_plan line fits (rules_refused rules why place has why_not is e) all) other) apart = apart.1 e
verify_apart (whole.no_description text held (whole.no_plan line fits (not_certified rules d c has resolved first is e) all) other) apart = apart.2 e
verify_apart (whole.long_certificate text bytes rules d is held long none e) apart = apart.3 e
verify_apart (whole.verified text bytes line rules d is held few (verifies_good c spells good told e) all) apart = apart.0 e
verify_apart (whole.verified text bytes line rules d is held few (verifies_fault c rule node spells fault told e) all) apart = apart.2 e
verify_apart (whole.verified text bytes line rules d is held few (verifies_none none told e) all) apart = apart.2 e

-- a fault that ends a job ends no finished run, but for an input that is too long
unfinished : (fault : Fault) (ended : Ended) (end : Result Ended Fault) → ended ≡ end_with end → end ≡ Err fault
    → whole.IsFinished ended → whole.IsFinished (end_by fault)
unfinished fault ended end is e finished = subst whole.IsFinished (is ∙ ap end_with e) finished

-- no answer is kept back of a text that goes on
keeps_up_longer : {St : Type 0} {Step : St → List ℕ → List ℕ → St → Type 0} {begin : St} {given text : List ℕ}
    (more : List ℕ) → KeepsUp Step begin given text → KeepsUp Step begin given (text ++ more)
keeps_up_longer more k = record {
  before = k.before;
  piece = k.piece;
  front = k.front;
  rest = k.rest ++ more;
  given_is = k.given_is;
  short = k.short;
  stopped = k.stopped;
  text_is = ap (λ l. l ++ more) k.text_is ∙ append_assoc k.front k.rest more;
}

module _ (words : List (List ℕ)) (files : List ℕ → Option (List ℕ)) (watchers : List Watched) (left left' taken taken' taken'' : Option (List ℕ)) where
  -- what a run has written whose job is over, where all that waited was handed on
  pub result_of :
      (waits : List ℕ) (end : Result Ended Fault) (ended : Ended)
      → JobEnds words (Some files) watchers left left' taken taken' waits end → Appended taken' taken'' waits
      → ended ≡ end_with end → whole.IsFinished ended
      → Passes left left' taken taken'' (λ given rest written. whole.Result words files watchers (given ++ rest) written ended)
  result_of waits end ended (unread same_left same_taken none cause) handed is finished =
      elim cause [
        | inl e ↦ absurd (unfinished Read ended end is e finished)
        | inr e ↦ absurd (unfinished Memory ended end is e finished)
      ]
  result_of waits end ended (before_lines gives same_left same_taken) handed is finished =
      passes_front left left' taken taken' taken'' waits same_left same_taken handed
      (λ rest. whole.no_line (subst (λ (d : Ended). whole.EndsBefore words files waits d) (sym is) gives))
  result_of waits end ended (all_lines job refused asked a e) handed is finished =
      passes_all left left' taken taken' taken'' a.given a.took waits a.source a.nothing_left a.sink handed
      (whole.lines job asked (subst (λ (i : List ℕ). whole.AnswersInput job i (a.took ++ waits) ended) (sym (append-nil a.given))
      (whole.answers_all a.text a.after refused a.fits a.answers a.closed (end_after_lines refused ended end is e))))
  result_of waits end ended (some_lines job Read asked s e) handed is finished = absurd (unfinished Read ended end is e finished)
  result_of waits end ended (some_lines job Write asked s e) handed is finished = absurd (unfinished Write ended end is e finished)
  result_of waits end ended (some_lines job Memory asked s e) handed is finished = absurd (unfinished Memory ended end is e finished)
  result_of waits end ended (some_lines job TooLong asked s e) handed is finished =
      passes_some left left' taken taken' taken'' s.given s.took waits s.source s.sink handed
      (λ rest. (let after = s.by.1 in
      let fits : MOST_INPUT ≤ length s.given = omega (arith, s.by.0) in
      whole.lines job asked (whole.answers_front after.ended after.line after.after after.refused
      (omega (arith, s.by.0, length-append s.given rest))
      (subst (λ (i : List ℕ). EndsIn i after.ended after.line) (sym (take-append-le MOST_INPUT s.given rest fits)) after.ends)
      after.answers (is ∙ ap end_with e))))

  -- ---- what stands written where a run was stopped

  -- what a run has written, of which the sink took the front of what waited
  pub begun_of :
      LinesHaveAnswers → (waits front rest : List ℕ) (end : Result Ended Fault)
      → JobEnds words (Some files) watchers left left' taken taken' waits end → waits ≡ front ++ rest → Appended taken' taken'' front
      → Passes left left' taken taken'' (λ given rest written. whole.BeginsResult words files watchers (given ++ rest) written)
  begun_of each_in_job waits front rest end (unread same_left same_taken none cause) split handed =
      passes_front left left' taken taken' taken'' front same_left same_taken handed
      (λ more. whole.begins_none (no_front front rest (sym split ∙ none)))
  begun_of each_in_job waits front rest end (before_lines gives same_left same_taken) split handed =
      passes_front left left' taken taken' taken'' front same_left same_taken handed
      (λ more. whole.begins_whole rest (end_with end)
      (whole.no_line (subst (λ (w : List ℕ). whole.EndsBefore words files w (end_with end)) split gives)))
  begun_of each_in_job waits front rest end (all_lines job refused asked a e) split handed =
      let text_is : a.took ++ waits ≡ (a.took ++ front) ++ rest = ap (λ l. a.took ++ l) split ∙ sym (append_assoc a.took front rest) in
      passes_all left left' taken taken' taken'' a.given a.took front a.source a.nothing_left a.sink handed
      (whole.begins_whole rest (end_of refused) (whole.lines job asked
      (subst (λ (i : List ℕ). whole.AnswersInput job i ((a.took ++ front) ++ rest) (end_of refused)) (sym (append-nil a.given))
      (whole.answers_all a.text a.after refused a.fits a.answers (sym text_is ∙ a.closed) refl))))
  begun_of each_in_job waits front rest end (some_lines job fault asked s e) split handed =
      let text_is : s.took ++ waits ≡ (s.took ++ front) ++ rest = ap (λ l. s.took ++ l) split ∙ sym (append_assoc s.took front rest) in
      passes_some left left' taken taken' taken'' s.given s.took front s.source s.sink handed
      (λ more. (let within = within_input (Steps job) fault (s.given ++ more) s.given more (s.took ++ waits) (s.took ++ front) rest refl text_is s.by in
      let all = extends job (each_in_job words files watchers job asked) (s.given ++ more) (s.took ++ front) within in
      whole.begins_whole all.0 all.1 (whole.lines job asked all.2)))

  -- ---- a fault of the outside while it is read

  -- what a run has written that a fault of the source, or of the shelf, stopped
  pub read_of :
      (waits : List ℕ) (end : Result Ended Fault)
      → JobEnds words (Some files) watchers left left' taken taken' waits end → Appended taken' taken'' waits → ReadFault ≡ end_with end
      → Passes left left' taken taken'' (λ given rest written. whole.StopsReading words files watchers given written)
  read_of waits end (unread same_left same_taken none cause) handed fault =
      passes_front left left' taken taken' taken'' waits same_left same_taken handed (λ rest. whole.before_reading refl none)
  read_of waits end (before_lines gives same_left same_taken) handed fault =
      absurd (no_read waits (subst (λ (d : Ended). whole.EndsBefore words files waits d) (sym fault) gives))
    where
      no_read : (written : List ℕ) → whole.EndsBefore words files written ReadFault → ⊥
      no_read written (whole.no_job front rule behind compiles earlier (whole.long_text long is e)) = cc
      no_read written (whole.no_job front rule behind compiles earlier (whole.no_plan line fits (no_rules place at is e) ends)) = cc
      no_read written (whole.no_job front rule behind compiles earlier (whole.no_plan line fits (rules_refused rules why place has why_not is e) ends)) = cc
      no_read written (whole.no_job front rule behind compiles earlier (whole.no_plan line fits (not_certified rules d c has resolved first is e) ends)) = cc
      no_read written (whole.reported report file name text reading rules d row held fits compiled is e) = cc
      no_read written (whole.soaked entry n rules d counts row fits compiled from is e) = cc
      no_read written (whole.of_two old new name reading row ends) = pair_apart ends ((λ h. cc), (λ h. cc), (λ h. cc))
      no_read written (whole.of_certificate file name reading certificate row ends) = verify_apart ends ((λ h. cc), (λ h. cc), (λ h. cc), (λ h. cc))
  read_of waits end (all_lines job refused asked a e) handed fault = absurd (no_read refused (fault ∙ ap end_with e))
    where
      no_read : (refused : Bool) → ReadFault ≡ end_of refused → ⊥
      no_read true e = cc
      no_read false e = cc
  read_of waits end (some_lines job cause asked s e) handed fault =
      let is_read : cause ≡ Read = is_read_end cause (fault ∙ ap end_with e) in
      passes_some left left' taken taken' taken'' s.given s.took waits s.source s.sink handed
      (λ rest. whole.while_reading (record {
        job = job;
        asked = asked;
        stopped = (subst (λ (f : Fault). StopsWhere (Steps job) (beginning job) f s.given (s.took ++ waits)) is_read s.by).1;
      }))
    where
      is_read_end : (cause : Fault) → ReadFault ≡ end_by cause → cause ≡ Read
      is_read_end Read e = refl
      is_read_end Write e = cc
      is_read_end Memory e = cc
      is_read_end TooLong e = cc

  -- ---- no answer is kept back

  -- what a run has written, of which the sink took the front of what waited
  pub prompt_of :
      (waits front : List ℕ) (end : Result Ended Fault)
      → JobEnds words (Some files) watchers left left' taken taken' waits end → Appended taken' taken'' front
      → Passes left left' taken taken'' (λ given rest written. whole.AnswersPromptly words files watchers given written)
  prompt_of waits front end (unread same_left same_taken none cause) handed =
      passes_front left left' taken taken' taken'' front same_left same_taken handed (λ rest. whole.nothing_read refl)
  prompt_of waits front end (before_lines gives same_left same_taken) handed =
      passes_front left left' taken taken' taken'' front same_left same_taken handed (λ rest. whole.nothing_read refl)
  prompt_of waits front end (all_lines job refused asked a e) handed =
      passes_all left left' taken taken' taken'' a.given a.took front a.source a.nothing_left a.sink handed
      (whole.some_read job asked (keeps_up_longer front a.keeps_up))
  prompt_of waits front end (some_lines job fault asked s e) handed =
      passes_some left left' taken taken' taken'' s.given s.took front s.source s.sink handed
      (λ rest. whole.some_read job asked (keeps_up_longer front s.keeps_up))

-- ---- what is left of the input

-- the end of a job whose lines were all answered, one or more being refused or none
abbrev pub IsAnswered : Ended → Type 0
IsAnswered ended = (ended ≡ Done) ⊎ (ended ≡ SomeRefused)

-- an end that is another
pub ended_apart : (ended x : Ended) → ended ≡ x → (x ≡ Done → ⊥) → (x ≡ SomeRefused → ⊥) → IsAnswered ended → ⊥
ended_apart ended x is done refused (inl e) = done (sym is ∙ e)
ended_apart ended x is done refused (inr e) = refused (sym is ∙ e)

-- a run that comes to no line and is done has reported
before_answered : (words : List (List ℕ)) (files : Option (List ℕ → Option (List ℕ))) (written : List ℕ)
    (ended : Ended) → EndedBefore words files written ended → IsAnswered ended → ReadsLines words → ⊥
before_answered words None written ended (inl before) answered reads = no_line before
  where
    no_line : IsBeforeLines ended → ⊥
    no_line (inl e) = ended_apart ended BadDescription e (λ h. cc) (λ h. cc) answered
    no_line (inr (inl e)) = ended_apart ended NotCertified e (λ h. cc) (λ h. cc) answered
    no_line (inr (inr e)) = ended_apart ended Long e (λ h. cc) (λ h. cc) answered
before_answered words None written ended (inr done) answered reads = done.1 reads
before_answered words (Some files) written ended gives answered reads = by_end gives answered
  where
    by_end : whole.EndsBefore words files written ended → IsAnswered ended → ⊥
    by_end (whole.no_job front rule behind compiles earlier (whole.long_text long is e)) answered = ended_apart ended Long e (λ h. cc) (λ h. cc) answered
    by_end (whole.no_job front rule behind compiles earlier (whole.no_plan line fits (no_rules place at is e) ends))
        answered = ended_apart ended BadDescription e (λ h. cc) (λ h. cc) answered
    by_end (whole.no_job front rule behind compiles earlier
        (whole.no_plan line fits (rules_refused rules why place has why_not is e) ends)) answered =
        ended_apart ended BadDescription e (λ h. cc) (λ h. cc) answered
    by_end (whole.no_job front rule behind compiles earlier
        (whole.no_plan line fits (not_certified rules d c has resolved first is e) ends)) answered =
        ended_apart ended NotCertified e (λ h. cc) (λ h. cc) answered
    by_end (whole.reported report file name text reading rules d row held fits compiled is e) answered = reads (leaves_report report file name reading row)
    by_end (whole.soaked entry n rules d counts row fits compiled from is e) answered = reads (leaves_soak entry n row)
    by_end (whole.of_two old new name reading row ends) answered = reads (leaves_compat old new name reading row)
    by_end (whole.of_certificate file name reading certificate row ends) answered = reads (leaves_verify file name reading certificate row)

pub fault_answered : (fault : Fault) → IsAnswered (end_by fault) → ⊥
fault_answered Read (inl e) = cc
fault_answered Read (inr e) = cc
fault_answered Write (inl e) = cc
fault_answered Write (inr e) = cc
fault_answered Memory (inl e) = cc
fault_answered Memory (inr e) = cc
fault_answered TooLong (inl e) = cc
fault_answered TooLong (inr e) = cc

-- the source has nothing left where all lines are answered
pub nothing_left_of :
    (words : List (List ℕ)) (files : Option (List ℕ → Option (List ℕ))) (watchers : List Watched)
    (left left' taken taken' : Option (List ℕ)) (waits : List ℕ) (end : Result Ended Fault)
    → JobEnds words files watchers left left' taken taken' waits end → IsAnswered (end_with end) → ReadsLines words → NothingLeft left'
nothing_left_of words files watchers left left' taken taken' waits end (unread same_left same_taken none cause) answered reads =
    elim cause [
      | inl e ↦ absurd (fault_answered Read (subst (λ (r : Result Ended Fault). IsAnswered (end_with r)) e answered))
      | inr e ↦ absurd (fault_answered Memory (subst (λ (r : Result Ended Fault). IsAnswered (end_with r)) e answered))
    ]
nothing_left_of words files watchers left left' taken taken' waits end (before_lines gives same_left same_taken)
    answered reads = absurd (before_answered words files waits (end_with end) gives answered reads)
nothing_left_of words files watchers left left' taken taken' waits end (all_lines job some asked a e) answered reads = a.nothing_left
nothing_left_of words files watchers left left' taken taken' waits end (some_lines job fault asked s e) answered reads =
    absurd (fault_answered fault (subst (λ (r : Result Ended Fault). IsAnswered (end_with r)) e answered))

-- a source that has left what it had is within the limit
pub as_before : (whole rest : List ℕ) → Some whole ≡ Some rest → length whole ≤ length rest + MOST_INPUT + 1
as_before whole rest e = let same : whole ≡ rest = cc in omega (arith, ap length same)

-- no more is taken of a source than a byte past its limit
pub bounded_of :
    (words : List (List ℕ)) (files : Option (List ℕ → Option (List ℕ))) (watchers : List Watched)
    (whole rest : List ℕ) (left' taken taken' : Option (List ℕ)) (waits : List ℕ) (end : Result Ended Fault)
    → JobEnds words files watchers (Some whole) left' taken taken' waits end → left' ≡ Some rest → length whole ≤ length rest + MOST_INPUT + 1
bounded_of words files watchers whole rest left' taken taken' waits end (unread same_left same_taken none cause) is = as_before whole rest (sym same_left ∙ is)
bounded_of words files watchers whole rest left' taken taken' waits end (before_lines gives same_left same_taken) is =
    as_before whole rest (sym same_left ∙ is)
bounded_of words files watchers whole rest left' taken taken' waits end (all_lines job some asked a e) is =
    let none = given_all whole a.given left' a.source a.nothing_left in omega (arith, ap length none, a.fits)
bounded_of words files watchers whole rest left' taken taken' waits end (some_lines job fault asked s e) is =
    let front = given_front whole s.given left' s.source in
    let same : front.0 ≡ rest = (let there : Some front.0 ≡ Some rest = sym front.2 ∙ is in cc) in
    omega (arith, ap length same, ap length front.1, length-append s.given front.0, s.few)

-- ---- a run that comes to no line

-- it leaves the source alone
pub untouched :
    {S : Type 0} (known : KnownOfTexts) (words : List (List ℕ)) (told : Option (List ℕ → Option (List ℕ)))
    (watchers : List Watched) (old new : S) → ComesToNoLine words told
    → (new ≡ old) ⊎ (ReadsLines words × ((files : Option (List ℕ → Option (List ℕ))) → GoesByFiles words told files
    → (job : LineJob) × Asked words files watchers job)) → new ≡ old
untouched known words told watchers old new none (inl same) = same
untouched known words told watchers old new (files, written, ended, by, before) (inr (reads, comes)) =
    let job = comes (Some files) by in absurd (before_or_job known words files job.0 before job.1)

-- ---- a file that is told as not held

appended_none : (taken taken' : Option (List ℕ)) → Appended taken taken' [] → taken' ≡ taken
appended_none None taken' h = h
appended_none (Some t) taken' h = h ∙ ap Some (append-nil t)

-- a sink takes nothing where nothing waits
pub nothing_taken : (taken taken' taken'' : Option (List ℕ)) (waits front rest : List ℕ)
    → taken' ≡ taken → waits ≡ [] → waits ≡ front ++ rest → Appended taken' taken'' front → taken'' ≡ taken
nothing_taken taken taken' taken'' waits front rest same none split handed =
    appended_none taken' taken'' (subst (λ (t : List ℕ). Appended taken' taken'' t) (no_front front rest (sym split ∙ none)) handed) ∙ same

-- an end is one of two, or none of them
faulty : (ended : Ended) → (ended ≡ WriteFault) ⊎ ((ended ≡ NoMemory) ⊎ ((ended ≡ WriteFault → ⊥) × (ended ≡ NoMemory → ⊥)))
faulty WriteFault = inl refl
faulty NoMemory = inr (inl refl)
faulty Done = inr (inr ((λ h. cc), (λ h. cc)))
faulty SomeRefused = inr (inr ((λ h. cc), (λ h. cc)))
faulty Usage = inr (inr ((λ h. cc), (λ h. cc)))
faulty BadDescription = inr (inr ((λ h. cc), (λ h. cc)))
faulty NotCertified = inr (inr ((λ h. cc), (λ h. cc)))
faulty ReadFault = inr (inr ((λ h. cc), (λ h. cc)))
faulty Long = inr (inr ((λ h. cc), (λ h. cc)))

-- the end of a run that a fault stopped, where what waited was handed on or not
stopped : (fault : Fault) → whole.IsStopped (end_by fault) → (end : Result Ended Fault) (ended : Ended) → end ≡ Err fault
    → ((ended ≡ WriteFault → ⊥) → (ended ≡ NoMemory → ⊥) → ended ≡ end_with end) → whole.IsStopped ended
stopped fault is end ended e unless = elim (faulty ended) [
  | inl write ↦ inr (inl write)
  | inr other ↦ elim other [
    | inl memory ↦ inr (inr memory)
    | inr none ↦ (let P : Ended → Type 0 = λ x. whole.IsStopped x in subst P (sym (unless none.0 none.1 ∙ ap end_with e)) is)
  ]
]

-- the ends of a run that could not read, or had no memory
pub unread_ends :
    (end : Result Ended Fault) (ended : Ended) → (end ≡ Err Read) ⊎ (end ≡ Err Memory)
    → ((ended ≡ WriteFault → ⊥) → (ended ≡ NoMemory → ⊥) → ended ≡ end_with end) → whole.IsStopped ended
unread_ends end ended (inl e) unless = stopped Read (inl refl) end ended e unless
unread_ends end ended (inr e) unless = stopped Memory (inr (inr refl)) end ended e unless

-- the end of a run that could not write
pub unwritten_ends :
    (end : Result Ended Fault) (ended : Ended) → end ≡ Err Write
    → ((ended ≡ WriteFault → ⊥) → (ended ≡ NoMemory → ⊥) → ended ≡ end_with end) → whole.IsStopped ended
unwritten_ends end ended e unless = stopped Write (inr (inl refl)) end ended e unless

-- ---- which jobs end so

-- an end that a run of no job has, but by a fault
abbrev pub OnlyBy : Ended → Type 0
OnlyBy x = (x ≡ Done → ⊥) × (x ≡ SomeRefused → ⊥) × (x ≡ BadDescription → ⊥) × (x ≡ NotCertified → ⊥) × (x ≡ Long → ⊥)

before_apart : (words : List (List ℕ)) (files : Option (List ℕ → Option (List ℕ))) (written : List ℕ) (ended : Ended)
    → EndedBefore words files written ended → OnlyBy ended → ⊥
before_apart words None written ended (inl (inl e)) only = only.2 e
before_apart words None written ended (inl (inr (inl e))) only = only.3 e
before_apart words None written ended (inl (inr (inr e))) only = only.4 e
before_apart words None written ended (inr (inl e, never)) only = only.0 e
before_apart words None written ended (inr (inr e, never)) only = only.1 e
before_apart words (Some files) written ended gives only = by_end gives
  where
    by_end : whole.EndsBefore words files written ended → ⊥
    by_end (whole.no_job front rule behind compiles earlier (whole.long_text long is e)) = only.4 e
    by_end (whole.no_job front rule behind compiles earlier (whole.no_plan line fits (no_rules place at is e) ends)) = only.2 e
    by_end (whole.no_job front rule behind compiles earlier (whole.no_plan line fits (rules_refused rules why place has why_not is e) ends)) = only.2 e
    by_end (whole.no_job front rule behind compiles earlier (whole.no_plan line fits (not_certified rules d c has resolved first is e) ends)) = only.3 e
    by_end (whole.reported report file name text reading rules d row held fits compiled is e) = only.0 e
    by_end (whole.soaked entry n rules d counts row fits compiled from is e) = only.0 e
    by_end (whole.of_two old new name reading row ends) = pair_apart ends (only.0, only.1, only.4)
    by_end (whole.of_certificate file name reading certificate row ends) = verify_apart ends (only.0, only.2, only.3, only.4)

-- a job that ends so met a fault
pub by_fault :
    {words : List (List ℕ)} {files : Option (List ℕ → Option (List ℕ))} {watchers : List Watched}
    {left left' taken taken' : Option (List ℕ)} {waits : List ℕ} (end : Result Ended Fault) (x : Ended)
    → JobEnds words files watchers left left' taken taken' waits end → end_with end ≡ x → OnlyBy x
    → (fault : Fault) × (end ≡ Err fault) × (end_by fault ≡ x)
by_fault end x (unread same_left same_taken none (inl e)) is only = (Read, e, sym (ap end_with e) ∙ is)
by_fault end x (unread same_left same_taken none (inr e)) is only = (Memory, e, sym (ap end_with e) ∙ is)
by_fault {words} {files} {waits = waits} end x (before_lines gives same_left same_taken) is only =
    let P : Ended → Type 0 = λ y. EndedBefore words files waits y in absurd (before_apart words files waits x (subst P is gives) only)
by_fault end x (all_lines job refused asked a e) is only = absurd (answered refused (sym (ap end_with e) ∙ is))
  where
    answered : (refused : Bool) → end_of refused ≡ x → ⊥
    answered true same = only.1 (sym same)
    answered false same = only.0 (sym same)
by_fault end x (some_lines job fault asked s e) is only = (fault, e, sym (ap end_with e) ∙ is)

pub not_usage : {words : List (List ℕ)} {files : Option (List ℕ → Option (List ℕ))} {watchers : List Watched}
    {left left' taken taken' : Option (List ℕ)} {waits : List ℕ} (end : Result Ended Fault)
    → JobEnds words files watchers left left' taken taken' waits end → end_with end ≡ Usage → ⊥
not_usage end ends is = no_fault by.0 by.2
  where
    by : (fault : Fault) × (end ≡ Err fault) × (end_by fault ≡ Usage)
    by = by_fault end Usage ends is ((λ h. cc), (λ h. cc), (λ h. cc), (λ h. cc), (λ h. cc))

    no_fault : (fault : Fault) → end_by fault ≡ Usage → ⊥
    no_fault Read e = cc
    no_fault Write e = cc
    no_fault Memory e = cc
    no_fault TooLong e = cc

-- the fault that ends a run so
abbrev fault_of : Ended → Fault
fault_of ReadFault = Read
fault_of WriteFault = Write
fault_of Long = TooLong
fault_of ended = Memory

fault_back : (fault : Fault) → fault_of (end_by fault) ≡ fault
fault_back Read = refl
fault_back Write = refl
fault_back Memory = refl
fault_back TooLong = refl

-- a job that ends as a fault ends it met this fault
stopped_by : {words : List (List ℕ)} {files : Option (List ℕ → Option (List ℕ))} {watchers : List Watched}
    {left left' taken taken' : Option (List ℕ)} {waits : List ℕ} (end : Result Ended Fault) (fault : Fault)
    → JobEnds words files watchers left left' taken taken' waits end → end_with end ≡ end_by fault
    → OnlyBy (end_by fault) → end ≡ Err fault
stopped_by end fault ends is only =
    let by : (other : Fault) × (end ≡ Err other) × (end_by other ≡ end_by fault) = by_fault end (end_by fault) ends is only in
    by.1 ∙ ap Err (sym (fault_back by.0) ∙ ap fault_of by.2 ∙ fault_back fault)

pub read_stopped : {words : List (List ℕ)} {files : Option (List ℕ → Option (List ℕ))} {watchers : List Watched}
    {left left' taken taken' : Option (List ℕ)} {waits : List ℕ} (end : Result Ended Fault)
    → JobEnds words files watchers left left' taken taken' waits end → end_with end ≡ ReadFault → end ≡ Err Read
read_stopped end ends is = stopped_by end Read ends is ((λ h. cc), (λ h. cc), (λ h. cc), (λ h. cc), (λ h. cc))

pub write_stopped : {words : List (List ℕ)} {files : Option (List ℕ → Option (List ℕ))} {watchers : List Watched}
    {left left' taken taken' : Option (List ℕ)} {waits : List ℕ} (end : Result Ended Fault)
    → JobEnds words files watchers left left' taken taken' waits end → end_with end ≡ WriteFault → end ≡ Err Write
write_stopped end ends is = stopped_by end Write ends is ((λ h. cc), (λ h. cc), (λ h. cc), (λ h. cc), (λ h. cc))

-- ---- every end is one of these

pub complete_of : (ended : Ended) → (ended ≡ Usage → ⊥) → (ended ≡ ReadFault → ⊥) → (ended ≡ WriteFault → ⊥) → whole.IsFinished ended ⊎ (ended ≡ NoMemory)
complete_of Done u r w = inl tt
complete_of SomeRefused u r w = inl tt
complete_of Usage u r w = absurd (u refl)
complete_of BadDescription u r w = inl tt
complete_of NotCertified u r w = inl tt
complete_of ReadFault u r w = absurd (r refl)
complete_of WriteFault u r w = absurd (w refl)
complete_of NoMemory u r w = inr refl
complete_of Long u r w = inl tt

pub finished_no_write : (ended : Ended) → whole.IsFinished ended → ended ≡ WriteFault → ⊥
finished_no_write ended h e = subst whole.IsFinished e h

pub finished_no_memory : (ended : Ended) → whole.IsFinished ended → ended ≡ NoMemory → ⊥
finished_no_memory ended h e = subst whole.IsFinished e h

-- a sink that took the front of what waited, where nothing stands behind it, took all
pub handed_all : (taken taken' : Option (List ℕ)) (waits front rest : List ℕ)
    → waits ≡ front ++ rest → Appended taken taken' front → rest ≡ [] → Appended taken taken' waits
handed_all taken taken' waits front rest split handed none = subst (λ (t : List ℕ). Appended taken taken' t)
    (sym (split ∙ ap (λ l. front ++ l) none ∙ append-nil front)) handed

-- a job that ends as no fault does
pub ok_of : (end : Result Ended Fault) (x : Ended) → end_with end ≡ x → ((fault : Fault) → end_by fault ≡ x → ⊥) → end ≡ Ok x
ok_of (Ok ended) x is no_fault = ap Ok is
ok_of (Err fault) x is no_fault = absurd (no_fault fault is)

pub no_fault_bad : (fault : Fault) → end_by fault ≡ BadDescription → ⊥
no_fault_bad Read e = cc
no_fault_bad Write e = cc
no_fault_bad Memory e = cc
no_fault_bad TooLong e = cc

pub no_fault_uncertified : (fault : Fault) → end_by fault ≡ NotCertified → ⊥
no_fault_uncertified Read e = cc
no_fault_uncertified Write e = cc
no_fault_uncertified Memory e = cc
no_fault_uncertified TooLong e = cc
