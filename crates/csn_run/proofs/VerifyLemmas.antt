-- How the job of `verify` is over.
use Rattle.std.proofs.Common.{◌≡◌, ◌↔◌, ℕ, ◌⊎◌, inl, inr, List, [], ◌∷◌, ◌++◌, length, codes, Option, Some, None}
use Rattle.std.proofs.Common.{Result, Ok, Err, IfOk, IfErr, refl, sym, ◌∙◌, ap, subst, arith}
use Rattle.csn_certify.specs.declared.certifying.CertifyFault.{CertifyFault}
use Rattle.csn_desc.specs.declared.reading.Reading.{Reading}
use Rattle.csn_desc.specs.Nodes.{DescV}
use Rattle.csn_cert.specs.CertificateV.{NodeV}
use Rattle.csn_cert.specs.CertificateText.{CertificateText}
use Rattle.csn_good.specs.Good.{Good, FirstFault}
use Rattle.csn_good.specs.declared.checking.Checked.{Checked}
use Rattle.csn_good.specs.declared.checking.Checked.TheVariants.{Proved, Unproved}
use Rattle.csn_grammar.specs.declared.fault.GrammarFault.TheVariants.{Syntax, NoMemory as no_memory_for_rules}
use Rattle.csn_grammar.specs.RulesV.{RulesV}
use Rattle.csn_io.specs.ShelfFault.{LacksFile}
use Rattle.csn_replay.specs.Watched.{Watched}
use Rattle.csn_resolve.specs.declared.fault.ResolveFault.TheVariants.{Refused, NoMemory as no_memory_for_nodes}
use Rattle.csn_command.specs.declared.command.RuleWords.{RuleWords}
use Rattle.csn_plan.specs.declared.compiling.NoPlan.{NoPlan}
use Rattle.csn_plan.specs.declared.compiling.NoPlan.TheVariants.{Rules, Description, Plan}
use Rattle.csn_plan.specs.declared.compiling.TheConstants.{MOST_DESCRIPTION}
use Rattle.csn_plan.specs.declared.ended.Ended.{Ended}
use Rattle.csn_plan.specs.declared.ended.Ended.TheVariants.{NotCertified, BadDescription}
use Rattle.csn_lines.specs.declared.fault.Fault.{Fault}
use Rattle.csn_lines.specs.declared.fault.Fault.TheVariants.{Read, Write, Memory, TooLong}
use Rattle.csn_run.specs.declared.planned.Unplanned.{Unplanned}
use Rattle.csn_run.specs.declared.planned.Unplanned.TheVariants.{File, Text}
use Rattle.csn_run.specs.declared.verifying.TheConstants.{MOST_CERTIFICATE}
use Rattle.csn_run.specs.Known.{KnownOfTexts}
use Rattle.csn_command.specs.Command.{IsVerify, names_certificate, leaves_verify}
use Rattle.csn_plan.specs.Compiled.{Tells, line_of}
use Rattle.csn_run.specs.Told.{Verifies, verifies_good, verifies_fault, verifies_none}
use Rattle.csn_run.specs.Job.{IsWhole, IsLonger, ComesTo, EndedBefore, JobEnds, unread, before_lines}
use Rattle.csn_run.specs.Planned.{HasDescription, IsWhy, IsChecked, TellsChecked, Refuses}
use Rattle.csn_run.specs.Result.{IsDescribed, long_text, no_plan, of_certificate, no_description, long_certificate}
use Rattle.csn_run.specs.Result.{verified, comes_first, comes_second, comes_certificate}
use Rattle.csn_run.proofs.CommandLemmas.{verify_files}
use Rattle.csn_run.proofs.JobLemmas.{long_file, whole_file, no_plan_of, tells_before}
use Rattle.csn_run.proofs.OneResult.{one_held, one_verify, none_or_described, not_compat}

-- the line that tells what a certificate comes to
pub verifies_of : (d : DescV) (text : List ℕ) (checked : Checked) (line : List ℕ) (ended : Ended)
    → IsChecked d text checked → TellsChecked d checked line ended → Verifies d text line ended
verifies_of d text Proved line ended is tells = verifies_good is.0 is.1 is.2 tells.0 tells.1
verifies_of d text (Unproved rule node) line ended (inl some) tells = verifies_fault some.0 rule node some.1 some.2 tells.0 tells.1
verifies_of d text (Unproved rule node) line ended (inr none) tells =
    verifies_none none.0 (tells.0 ∙ ap (λ r. line_of (codes "unproved") (r ∷ node ∷ [])) none.1 ∙ ap
    (λ n. line_of (codes "unproved") (1 ∷ n ∷ [])) none.2) tells.1

-- a checker's answer is what the text comes to
pub is_checked :
    {E : Type 0} (d : DescV) (text : List ℕ) (c : List NodeV) (result : Result Checked E)
    → CertificateText c text → IfOk result (λ checked. (checked ≡ Proved) ↔ Good d c)
    → ((broken node : ℕ) → IfOk result (λ checked. checked ≡ Unproved broken node → FirstFault d c broken node)) → IfOk result (IsChecked d text)
is_checked d text c (Err e) spells proved unproved = tt
is_checked d text c (Ok Proved) spells proved unproved = (c, spells, proved.0 refl)
is_checked d text c (Ok (Unproved broken node)) spells proved unproved = inl (c, spells, unproved broken node refl)

-- the line is told, with a line feed behind it
pub line_told :
    (waits none : List ℕ) {E : Type 0} (d : DescV) (text : List ℕ) (checked : Checked) (between : List ℕ) → IsChecked d text checked
    → (line : Result Ended E) → none ≡ [] → IfOk line (λ ended. (told : List ℕ) × (between ≡ none ++ told) × TellsChecked d checked told ended)
    → (end : Result Ended Fault) → IfOk end (λ ended. (line ≡ Ok ended) × (waits ≡ between ++ 10 ∷ []))
    → IfOk end (λ ended. (told : List ℕ) × Verifies d text told ended × (waits ≡ told ++ 10 ∷ []))
line_told waits none d text checked between is line empty tells (Err fault) ok = tt
line_told waits none d text checked between is (Err why) empty tells (Ok ended) ok = absurd (let clash : Err why ≡ Ok ended = ok.0 in cc)
line_told waits none d text checked between is (Ok was) empty tells (Ok ended) ok =
    let there : Ok was ≡ Ok ended = ok.0 in
    let same : was ≡ ended = cc in
    let all : between ≡ tells.0 = tells.1 ∙ ap (λ l. l ++ tells.0) empty in
    let P : Ended → Type 0 = λ x. TellsChecked d checked tells.0 x in
    (tells.0, verifies_of d text checked tells.0 ended is (subst P same tells.2), ok.1 ∙ ap (λ l. l ++ 10 ∷ []) all)

-- why there is no description
pub same_why : {T : Type 0} (why : Unplanned) → (◌≡◌ {A = Result T Unplanned} (Err why) (Err (File Read)))
    ⊎ (◌≡◌ {A = Result T Unplanned} (Err why) (Err (File Memory))) → (why ≡ File Read) ⊎ (why ≡ File Memory)
same_why why (inl e) = let same : why ≡ File Read = cc in inl same
same_why why (inr e) = let same : why ≡ File Memory = cc in inr same

-- a reason that is no conflict ends no run as one
tells_other : (reason : NoPlan) (line : List ℕ) (ended : Ended) → ((fault : CertifyFault) → reason ≡ Plan fault → ⊥)
    → Tells reason line ended → ended ≡ NotCertified → ⊥
tells_other (Rules (Syntax place)) line ended other tells e = let clash : BadDescription ≡ NotCertified = sym tells.1 ∙ e in cc
tells_other (Rules no_memory_for_rules) line ended other tells e = tells
tells_other (Description (Refused why place)) line ended other tells e = let clash : BadDescription ≡ NotCertified = sym tells.1 ∙ e in cc
tells_other (Description no_memory_for_nodes) line ended other tells e = tells
tells_other (Plan fault) line ended other tells e = other fault refl

module _ (words : List (List ℕ)) (rule : RuleWords) (certificate : List ℕ) (row : IsVerify words rule.file.now rule.name.now rule.reading certificate) where
  described_by : (files : List ℕ → Option (List ℕ)) (d : DescV) (is : HasDescription (Some files) rule d)
      → IsDescribed files rule.file.now rule.name.now is.text rule.reading is.rules d
  described_by files d is = record {
    held = whole_file files rule.file.now is.text is.fetched;
    fits =
        is.fetched.fits;
    has_rules = is.has_rules;
    resolved = is.resolved;
  }

  verified_before : {d : DescV} {bytes line : List ℕ} {ended : Ended} (waits : List ℕ) → Verifies d bytes line ended → EndedBefore words None waits ended
  verified_before waits (verifies_good c spells good told e) =
      inr (inl e, λ reads. reads (leaves_verify rule.file.now rule.name.now rule.reading certificate row))
  verified_before waits (verifies_fault c broken node spells fault told e) = inl (inr (inl e))
  verified_before waits (verifies_none none told e) = inl (inr (inl e))

  -- the job is over with what the certificate comes to
  pub certificate_ends :
      (files : Option (List ℕ → Option (List ℕ))) (watchers : List Watched) (d : DescV) (bytes : List ℕ)
      (left taken : Option (List ℕ)) (waits : List ℕ) (end : Result Ended Fault)
      → HasDescription files rule d → IsWhole MOST_CERTIFICATE files certificate bytes
      → IfOk end (λ ended. (line : List ℕ) × Verifies d bytes line ended × (waits ≡ line ++ 10 ∷ []))
      → IfErr end (λ fault. (fault ≡ Memory) × (waits ≡ [])) → JobEnds words files watchers left left taken taken waits end
  certificate_ends files watchers d bytes left taken waits (Err fault) is has ok err = unread refl refl err.1 (inr (ap Err err.0))
  certificate_ends None watchers d bytes left taken waits (Ok ended) is has ok err = before_lines (verified_before waits ok.1) refl refl
  certificate_ends (Some files) watchers d bytes left taken waits (Ok ended) is has ok err =
      before_lines (of_certificate rule.file.now rule.name.now rule.reading certificate row
      (verified is.text bytes ok.0 is.rules d (described_by files d is) (whole_file files certificate bytes has)
      has.fits ok.1 ok.2)) refl refl

  -- the job is over with a description that is too long
  long_ends :
      (files : Option (List ℕ → Option (List ℕ))) (watchers : List Watched) (left taken : Option (List ℕ)) (waits : List ℕ)
      → IsLonger MOST_DESCRIPTION files rule.file.now → waits ≡ [] → JobEnds words files watchers left left taken taken waits (Err TooLong)
  long_ends None watchers left taken waits long none = before_lines (inl (inr (inr refl))) refl refl
  long_ends (Some files) watchers left taken waits long none =
      let text = long_file MOST_DESCRIPTION files rule.file.now long.0 long.1 long.2 in
      before_lines (of_certificate rule.file.now rule.name.now rule.reading certificate row
      (no_description text.0 text.1 (long_text text.2 none refl) (λ h. cc))) refl refl

  -- it is over by the text of the description
  reason_ends :
      (files : Option (List ℕ → Option (List ℕ))) (watchers : List Watched) (left taken : Option (List ℕ))
      (waits : List ℕ) (reason : NoPlan) (end : Result Ended Fault)
      → IsWhy files rule (Text reason) → ((fault : CertifyFault) → reason ≡ Plan fault → ⊥)
      → Refuses (Text reason) waits end → JobEnds words files watchers left left taken taken waits end
  reason_ends files watchers left taken waits reason (Err fault) is other refuses = unread refl refl refuses.1 (inr (ap Err refuses.0))
  reason_ends None watchers left taken waits reason (Ok ended) is other refuses = before_lines (inl (tells_before reason refuses.0 ended refuses.2)) refl refl
  reason_ends (Some files) watchers left taken waits reason (Ok ended) is other refuses =
      let none = no_plan refuses.0 is.1.fits (no_plan_of is.0 rule.name.now rule.reading reason refuses.0 ended is.2 refuses.2) refuses.1 in
      before_lines (of_certificate rule.file.now rule.name.now rule.reading certificate row
      (no_description is.0 (whole_file files rule.file.now is.0 is.1) none
      (tells_other reason refuses.0 ended other refuses.2))) refl refl

  -- it is over without a description
  pub refused_ends :
      (files : Option (List ℕ → Option (List ℕ))) (watchers : List Watched) (left taken : Option (List ℕ))
      (waits : List ℕ) (why : Unplanned) (end : Result Ended Fault)
      → IsWhy files rule why → ((fault : CertifyFault) → why ≡ Text (Plan fault) → ⊥)
      → Refuses why waits end → JobEnds words files watchers left left taken taken waits end
  refused_ends files watchers left taken waits (File Read) end is other refuses = unread refl refl refuses.1 (inl refuses.0)
  refused_ends files watchers left taken waits (File Write) end is other refuses = absurd (is.0 refl)
  refused_ends files watchers left taken waits (File Memory) end is other refuses = unread refl refl refuses.1 (inr refuses.0)
  refused_ends files watchers left taken waits (File TooLong) end is other refuses =
      let P : Result Ended Fault → Type 0 = λ e. JobEnds words files watchers left left taken taken waits e in
      subst P (sym refuses.0) (long_ends files watchers left taken waits (is.1 refl) refuses.1)
  refused_ends files watchers left taken waits (Text reason) end is other refuses =
      reason_ends files watchers left taken waits reason end is (λ fault e. other fault (ap Text e)) refuses

  -- it is over with a fault at the certificate
  pub fault_ends :
      (files : Option (List ℕ → Option (List ℕ))) (watchers : List Watched) (d : DescV) (left taken : Option (List ℕ)) (waits : List ℕ) (fault : Fault)
      → HasDescription files rule d → (fault ≡ Write → ⊥)
      → (fault ≡ TooLong → IsLonger MOST_CERTIFICATE files certificate)
      → waits ≡ [] → JobEnds words files watchers left left taken taken waits (Err fault)
  fault_ends files watchers d left taken waits Read is not long none = unread refl refl none (inl refl)
  fault_ends files watchers d left taken waits Write is not long none = absurd (not refl)
  fault_ends files watchers d left taken waits Memory is not long none = unread refl refl none (inr refl)
  fault_ends None watchers d left taken waits TooLong is not long none = before_lines (inl (inr (inr refl))) refl refl
  fault_ends (Some files) watchers d left taken waits TooLong is not long none =
      let longer = long refl in
      let bytes = long_file MOST_CERTIFICATE files certificate longer.0 longer.1 longer.2 in
      before_lines (of_certificate rule.file.now rule.name.now rule.reading certificate row
      (long_certificate is.text bytes.0 is.rules d (described_by files d is) bytes.1 bytes.2 none refl)) refl refl

  -- the files that the run comes to: the description, and behind one that is there the certificate
  pub comes_description : (files : Option (List ℕ → Option (List ℕ))) → ComesTo words files rule.file.now
  comes_description None = ([], certificate ∷ [], names_certificate rule.file.now rule.name.now rule.reading certificate row refl)
  comes_description (Some files) = comes_first (certificate ∷ []) (names_certificate rule.file.now rule.name.now rule.reading certificate row refl)

  pub comes_behind : (files : Option (List ℕ → Option (List ℕ))) (d : DescV) → HasDescription files rule d → ComesTo words files certificate
  comes_behind None d is = (rule.file.now ∷ [], [], names_certificate rule.file.now rule.name.now rule.reading certificate row refl)
  comes_behind (Some files) d is = comes_certificate rule.file.now rule.name.now is.text rule.reading is.rules d row (described_by files d is)

  -- a file that it comes to and that is not held is the first, or the certificate behind a description
  pub lacks_one :
      (files : Option (List ℕ → Option (List ℕ))) (file : List ℕ) → ComesTo words files file → LacksFile files file
      → LacksFile files rule.file.now
      ⊎ ((told : List ℕ → Option (List ℕ)) × (text : List ℕ) × (rules : RulesV) × (d : DescV) × (files ≡ Some told)
      × IsDescribed told rule.file.now rule.name.now text rule.reading rules d × LacksFile files certificate)
  lacks_one None file comes lacks = absurd lacks
  lacks_one (Some files) file (comes_first behind names) lacks =
      let same : file ∷ behind ≡ rule.file.now ∷ certificate ∷ [] = verify_files row names in
      let first : file ≡ rule.file.now = cc in
      inl (ap files (sym first) ∙ lacks)
  lacks_one (Some files) file (comes_second before name text reading row' held fits) lacks = absurd (not_compat row' row)
  lacks_one (Some files) file (comes_certificate description name text reading rules d row' is) lacks =
      let same = one_verify row' row in
      let P : List ℕ → Type 0 = λ f. IsDescribed files f name text reading rules d in
      let Q : List ℕ → Type 0 = λ n. IsDescribed files rule.file.now n text reading rules d in
      let R : Reading → Type 0 = λ r. IsDescribed files rule.file.now rule.name.now text r rules d in
      inr (files, text, rules, d, refl, subst R same.reading_is (subst Q same.name_is (subst P same.file_is is)), ap files (sym same.word_is) ∙ lacks)

  -- a rule that has a description is refused for a fault alone
  described_refused :
      KnownOfTexts → (files : List ℕ → Option (List ℕ)) (text : List ℕ) (rules : RulesV) (d : DescV) (why : Unplanned)
      (waits : List ℕ) (end : Result Ended Fault)
      → IsDescribed files rule.file.now rule.name.now text rule.reading rules d → IsWhy (Some files) rule why
      → ((fault : CertifyFault) → why ≡ Text (Plan fault) → ⊥) → Refuses why waits end
      → ((end ≡ Err Read) ⊎ (end ≡ Err Memory)) × (waits ≡ [])
  described_refused known files text rules d (File Read) waits end is why other refuses = (inl refuses.0, refuses.1)
  described_refused known files text rules d (File Write) waits end is why other refuses = absurd (why.0 refl)
  described_refused known files text rules d (File Memory) waits end is why other refuses = (inr refuses.0, refuses.1)
  described_refused known files text rules d (File TooLong) waits end is why other refuses =
      let longer = why.1 refl in
      let long = long_file MOST_DESCRIPTION files rule.file.now longer.0 longer.1 longer.2 in
      absurd (omega (arith, long.2, is.fits, ap length (one_held is.held long.1)))
  described_refused known files text rules d (Text reason) waits (Err fault) is why other refuses = (inr (ap Err refuses.0), refuses.1)
  described_refused known files text rules d (Text reason) waits (Ok ended) is why other refuses =
      let none = no_plan refuses.0 why.1.fits (no_plan_of why.0 rule.name.now rule.reading reason refuses.0 ended why.2 refuses.2) refuses.1 in
      let P : List ℕ → Type 0 = λ t. IsDescribed files rule.file.now rule.name.now t rule.reading rules d in
      let here = subst P (one_held is.held (whole_file files rule.file.now why.0 why.1)) is in
      absurd (none_or_described known none (tells_other reason refuses.0 ended (λ fault e. other fault (ap Text e))
      refuses.2) here.fits here.has_rules here.resolved)

  -- a run that lacks a file that it comes to, and has no description, could not read or had no memory
  pub refused_lacks :
      KnownOfTexts → (files : Option (List ℕ → Option (List ℕ))) (file : List ℕ) (why : Unplanned) (waits : List ℕ)
      (end : Result Ended Fault) → ComesTo words files file → LacksFile files file
      → IsWhy files rule why → ((fault : CertifyFault) → why ≡ Text (Plan fault) → ⊥) → Refuses why waits end
      → (LacksFile files rule.file.now → (why ≡ File Read) ⊎ (why ≡ File Memory)) → ((end ≡ Err Read) ⊎ (end ≡ Err Memory)) × (waits ≡ [])
  refused_lacks known files file why waits end comes lacks is other refuses first = elim (lacks_one files file comes lacks) [
    | inl none ↦ by_file (first none)
    | inr behind ↦
        let P : Option (List ℕ → Option (List ℕ)) → Type 0 = λ f. IsWhy f rule why in
        described_refused known behind.0 behind.1 behind.2 behind.3 why waits end behind.5 (subst P behind.4 is) other refuses
  ]
    where
      by_file : (why ≡ File Read) ⊎ (why ≡ File Memory) → ((end ≡ Err Read) ⊎ (end ≡ Err Memory)) × (waits ≡ [])
      by_file (inl e) =
          let P : Unplanned → Type 0 = λ w. Refuses w waits end in
          let r = subst P e refuses in (inl r.0, r.1)
      by_file (inr e) =
          let P : Unplanned → Type 0 = λ w. Refuses w waits end in
          let r = subst P e refuses in (inr r.0, r.1)

  -- the certificate is what it lacks, where the description is there
  pub lacks_certificate :
      (files : Option (List ℕ → Option (List ℕ))) (file : List ℕ) → ComesTo words files file → LacksFile files file
      → (LacksFile files rule.file.now → ⊥) → LacksFile files certificate
  lacks_certificate files file comes lacks held = elim (lacks_one files file comes lacks) [
    | inl none ↦ absurd (held none)
    | inr behind ↦ behind.6
  ]
