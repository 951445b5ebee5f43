-- Where the files are there that a run comes to, a whole run writes something.
use Rattle.std.proofs.Common.{◌≡◌, ℕ, ◌≤◌, ◌⊎◌, inl, inr, List, [], ◌∷◌, ◌++◌, length, map, codes, Option, Some, None, IsSome, refl, sym, subst, append_assoc}
use Rattle.std.proofs.lemmas.Bool.{cases_lt}
use Rattle.std.proofs.lemmas.List.{append-nil}
use Rattle.std.specs.List.{AllByRecursion}
use Rattle.csn_catalogue.specs.declared.entry.Entry.{Entry}
use Rattle.csn_catalogue.specs.declared.entry.Entry.TheVariants.{Downlink}
use Rattle.csn_catalogue.specs.Entries.{all_entries, entry_root}
use Rattle.csn_catalogue.specs.Text.{catalogue_text}
use Rattle.csn_desc.specs.declared.reading.Reading.{Reading}
use Rattle.csn_desc.specs.declared.reading.Reading.TheVariants.{Sent}
use Rattle.csn_desc.specs.Laws.{MeaningIsDecided}
use Rattle.csn_desc.specs.Nodes.{DescV}
use Rattle.csn_grammar.specs.RulesV.{RulesV}
use Rattle.csn_grammar.specs.Place.{HasRules}
use Rattle.csn_replay.specs.Watched.{Watched}
use Rattle.csn_resolve.specs.Why.{number_of}
use Rattle.csn_resolve.specs.Resolved.{IsResolved}
use Rattle.csn_plan.specs.declared.ended.Ended.{Ended}
use Rattle.csn_plan.specs.declared.ended.Ended.TheVariants.{Done, SomeRefused, BadDescription, NotCertified, TooLong}
use Rattle.csn_plan.specs.declared.compiling.TheConstants.{MOST_DESCRIPTION}
use Rattle.csn_run.specs.declared.verifying.TheConstants.{MOST_CERTIFICATE}
use Rattle.csn_run.specs.Known.{KnownOfTexts}
use Rattle.csn_command.specs.declared.command.RuleReport.{RuleReport}
use Rattle.csn_command.specs.declared.command.RuleReport.TheVariants.{Check, Certificate}
use Rattle.csn_command.specs.Command.{IsReport, IsOverRule, IsOverEntries, IsCompat, IsVerify, over_downlink}
use Rattle.csn_command.specs.Command.{over_all, over_soaked, rule_row, entries_row, migrate_row, compat_row}
use Rattle.csn_command.specs.Command.{verify_row, names_one, names_pair, names_certificate}
use Rattle.csn_plan.specs.Compiled.{RuleOf, rule_of_entry, line_of, conflict_line, certified_line, HasNoPlan}
use Rattle.csn_plan.specs.Compiled.{no_rules, rules_refused, not_certified, AreCompiled, IsCompiled}
use Rattle.csn_run.specs.Told.{soaked_line, compares_ok, compares_no}
use Rattle.csn_run.specs.Laws.{IsDecided, HasCertificate, LinesHaveAnswers, RunsHaveResults}
use Rattle.csn_lines.specs.Jobs.{LineJob, by_rule, migrating, segmenting, replaying}
use Rattle.csn_run.specs.Result.{AsksFor, asks_by_rule, asks_migrate, asks_segments, Compiles, of_file, of_catalogue}
use Rattle.csn_run.specs.Result.{of_pair, HasNoJob, long_text, no_plan, no_job, reported, soaked, of_two, long_before}
use Rattle.csn_run.specs.Result.{long_after, compared, of_certificate, no_description, long_certificate, verified}
use Rattle.csn_run.specs.Result.{IsDescribed, Result, no_line, lines, asks_replay, comes_first, comes_second, comes_certificate}
use Rattle.csn_plan.specs.Compiled.{HasJob}
use Rattle.csn_look.specs.declared.word.TheConstants.{MOST_WORD}
use Rattle.csn_certify.specs.declared.conflict.Conflict.{Conflict}
use Rattle.csn_certify.specs.Conflicts.{Certified, IsFirstConflict}
use Rattle.csn_run.proofs.Extends.{some_answers}
use Rattle.csn_run.proofs.OneResult.{rule_of}
use Rattle.csn_run.proofs.SoakedBlocks.{each_soaked}

held_text : (o : Option (List ℕ)) → IsSome o → (text : List ℕ) × (o ≡ Some text)
held_text None h = absurd (cc)
held_text (Some text) h = (text, refl)

all_append : (front : List RuleOf) (rule : RuleOf) → AllByRecursion HasJob front → HasJob rule → AllByRecursion HasJob (front ++ rule ∷ [])
all_append [] rule has job = (job, tt)
all_append (first ∷ front) rule has job = (has.0, all_append front rule has.1 job)

module _ (known : KnownOfTexts) (decides : MeaningIsDecided) (each_in_job : LinesHaveAnswers) (words : List (List ℕ))
    (files : List ℕ → Option (List ℕ)) (watchers : List Watched) (input : List ℕ) where
  abbrev HasResult : Type 0
  HasResult = (written : List ℕ) × (ended : Ended) × Result words files watchers input written ended

  -- the rules of a text that are there give entries descriptions, where each of them has a job
  all_compiled : (reading : Reading) (rules : RulesV) → HasRules catalogue_text rules → (entries : List Entry)
      → AllByRecursion HasJob (map (rule_of_entry reading) entries) → (plans : List DescV)
      × AreCompiled rules reading entries plans
  all_compiled reading rules has_rules [] has = ([], tt)
  all_compiled reading rules has_rules (entry ∷ entries) has =
      let job = has.0 in
      let rest = all_compiled reading rules has_rules entries has.1 in
      let same : job.1 ≡ rules = known.one_list catalogue_text job.1 rules job.3.has_rules has_rules in
      (job.2 ∷ rest.0, (subst (λ (r : RulesV). IsCompiled catalogue_text (entry_root entry) reading r job.2) same job.3, rest.1))

  job_result : (job : LineJob) → AsksFor words files watchers job → HasResult
  job_result job asked =
      let all = some_answers job (each_in_job words files watchers job asked) input in
      (all.0, all.1, lines job asked all.2)

  -- whether a rule has a job is decided
  module _ (rule : RuleOf) (decided : (rules : RulesV) (d : DescV)
      → HasRules rule.text rules → IsResolved rules rule.name rule.reading d → Certified d MOST_WORD
      ⊎ ((conflict : Conflict) × IsFirstConflict d MOST_WORD conflict)) where
    abbrev Decided : Type 0
    Decided = HasJob rule ⊎ ((written : List ℕ) × (ended : Ended) × HasNoJob rule.text rule.name rule.reading written ended)

    none_by_plan : length rule.text ≤ MOST_DESCRIPTION → (line : List ℕ) (ended : Ended) → HasNoPlan rule.text rule.name rule.reading line ended → Decided
    none_by_plan fits line ended none = inr (line ++ 10 ∷ [], ended, no_plan line fits none refl)

    by_desc : length rule.text ≤ MOST_DESCRIPTION → (rules : RulesV) (d : DescV)
        → HasRules rule.text rules → IsResolved rules rule.name rule.reading d → Decided
    by_desc fits rules d has resolved = elim (decided rules d has resolved) [
      | inl certified ↦ inl (fits, rules, d, record { has_rules = has; resolved = resolved; certified = certified })
      | inr conflict ↦ none_by_plan fits (conflict_line conflict.0) NotCertified (not_certified rules d conflict.0 has resolved conflict.1 refl refl)
    ]

    by_rules : length rule.text ≤ MOST_DESCRIPTION → (rules : RulesV) → HasRules rule.text rules → Decided
    by_rules fits rules has = elim (known.answered rules rule.reading rule.name (known.shaped rule.text rules has)) [
      | inl refusal ↦ none_by_plan fits (line_of (codes "description") (number_of refusal.0 ∷ refusal.1 ∷ []))
          BadDescription (rules_refused rules refusal.0 refusal.1 has refusal.2 refl refl)
      | inr d ↦ by_desc fits rules d.0 has d.1
    ]

    job_decided : Decided
    job_decided = elim (cases_lt MOST_DESCRIPTION (length rule.text)) [
      | inl long ↦ inr ([], TooLong, long_text long refl refl)
      | inr fits ↦ elim (known.decided rule.text) [
        | inl rules ↦ by_rules fits rules.0 rules.1
        | inr place ↦ none_by_plan fits (line_of (codes "syntax") (place.0 ∷ [])) BadDescription (no_rules place.0 place.1 refl refl)
      ]
    ]

  module _ (decided : IsDecided words files) (told : HasCertificate words files) where
    -- the first rule that has no job is told, or all have one
    first_told : (front rest : List RuleOf) → Compiles words files (front ++ rest)
        → AllByRecursion HasJob front → HasResult ⊎ AllByRecursion HasJob (front ++ rest)
    first_told front [] compiles has = inr (subst (λ (l : List RuleOf). AllByRecursion HasJob l) (sym (append-nil front)) has)
    first_told front (rule ∷ rest) compiles has =
        elim (job_decided rule (λ rules d has_rules resolved. decided.certified front rest rule rules d compiles
        has_rules resolved)) [
          | inr none ↦ inl (none.0, none.1, no_line (no_job front rule rest compiles has none.2))
          | inl job ↦
              let split : front ++ rule ∷ rest ≡ (front ++ rule ∷ []) ++ rest = sym (append_assoc front (rule ∷ []) rest) in
              let more = first_told (front ++ rule ∷ []) rest (subst (λ (l : List RuleOf). Compiles words files l)
              split compiles) (all_append front rule has job) in
              elim more [
                | inl result ↦ inl result
                | inr all ↦ inr (subst (λ (l : List RuleOf). AllByRecursion HasJob l) (sym split) all)
              ]
        ]

    rule_result : (file name text : List ℕ) (reading : Reading) (row : IsOverRule words file name reading) → files file ≡ Some text → HasResult
    rule_result file name text reading row held = elim (first_told [] (rule_of text name reading ∷ []) (of_file file name text reading row held refl) tt) [
      | inl result ↦ result
      | inr all ↦ compiled row all.0
    ]
      where
        reported_result : (report : RuleReport) → IsReport report words file name reading → HasJob (rule_of text name reading) → HasResult
        reported_result Check row job = (
          certified_line job.2 ++ 10 ∷ [],
          Done,
          no_line
              (reported Check file name text reading job.1 job.2 row held job.0 job.3 refl refl),
        )
        reported_result Certificate row job =
            let certificate = told file name text reading job.1 job.2 row held job.3 in
            (certificate.0, Done, no_line (reported Certificate file name text reading job.1 job.2 row held job.0 job.3 certificate.1 refl))

        compiled : IsOverRule words file name reading → HasJob (rule_of text name reading) → HasResult
        compiled (inl report) job = reported_result report.0 report.1 job
        compiled (inr answer) job = job_result (by_rule answer.0 job.1 name reading)
            (asks_by_rule answer.0 file name text reading job.1 job.2 answer.1 held job.0 job.3 refl)

    pair_fitted : (before after name was now : List ℕ) (reading : Reading)
        (row : IsCompat words before after name reading) → files before ≡ Some was → length was ≤ MOST_DESCRIPTION
        → files after ≡ Some now → HasResult
    pair_fitted before after name was now reading row held few has = elim (cases_lt MOST_DESCRIPTION (length now)) [
      | inl long ↦ ([], TooLong, no_line (of_two before after name reading row (long_after was now held few has long refl refl)))
      | inr small ↦ elim (first_told [] (rule_of was name reading ∷ rule_of now name reading ∷ [])
          (of_pair before after name was now reading row held has few small refl) tt) [
            | inl result ↦ result
            | inr all ↦ both small all.0 all.1.0
          ]
    ]
      where
        both : length now ≤ MOST_DESCRIPTION → HasJob (rule_of was name reading) → HasJob (rule_of now name reading) → HasResult
        both small job other = elim (decided.compared before after name reading job.2 other.2 row job.3.certified other.3.certified) [
          | inl takes ↦ (
            codes "ok compat" ++ 10 ∷ [],
            Done,
            no_line (of_two before after name reading row
                (compared was now (codes "ok compat") job.1 other.1 job.2 other.2 held has few small job.3 other.3
                (compares_ok takes refl refl) refl)),
          )
          | inr not ↦ (
            codes "no compat" ++ 10 ∷ [],
            SomeRefused,
            no_line (of_two before after name reading row
                (compared was now (codes "no compat") job.1 other.1 job.2 other.2 held has few small job.3 other.3
                (compares_no not refl refl) refl)),
          )
        ]

    -- the new file is there where the old one fits
    pair_result : (before after name was : List ℕ) (reading : Reading)
        (row : IsCompat words before after name reading) → files before ≡ Some was
        → (length was ≤ MOST_DESCRIPTION → (now : List ℕ) × (files after ≡ Some now)) → HasResult
    pair_result before after name was reading row held there = elim (cases_lt MOST_DESCRIPTION (length was)) [
      | inl long ↦ ([], TooLong, no_line (of_two before after name reading row (long_before was held long refl refl)))
      | inr few ↦ (let now = there few in pair_fitted before after name was now.0 reading row held few now.1)
    ]

    -- a rule of a text that fits has a description, or a line that says why not
    module _ (file name certificate text : List ℕ) (reading : Reading)
        (row : IsVerify words file name reading certificate) (held : files file ≡ Some text)
        (there : (rules : RulesV) (d : DescV) → IsDescribed files file name text reading rules d
        → (bytes : List ℕ) × (files certificate ≡ Some bytes)) where
      undescribed : length text ≤ MOST_DESCRIPTION → (line : List ℕ) → HasNoPlan text name reading line BadDescription → HasResult
      undescribed fits line none = (
        line ++ 10 ∷ [],
        BadDescription,
        no_line (of_certificate file name reading certificate row
            (no_description text held (no_plan line fits none refl) (λ h. cc))),
      )

      measured : (rules : RulesV) (d : DescV) → IsDescribed files file name text reading rules d → HasResult
      measured rules d is = (let bytes = there rules d is in elim (cases_lt MOST_CERTIFICATE (length bytes.0)) [
        | inl long ↦ (
          [],
          TooLong,
          no_line (of_certificate file name reading certificate row (long_certificate text bytes.0 rules d is bytes.1 long refl refl)),
        )
        | inr few ↦
            let told' = decided.verified file name certificate reading d bytes.0 row bytes.1 in (
              told'.0 ++ 10 ∷ [],
              told'.1,
              no_line (of_certificate file name reading certificate row
                  (verified text bytes.0 told'.0 rules d is bytes.1 few told'.2 refl)),
            )
      ])

      by_names : length text ≤ MOST_DESCRIPTION → (rules : RulesV) → HasRules text rules → HasResult
      by_names fits rules has_rules = elim (known.answered rules reading name (known.shaped text rules has_rules)) [
        | inl refusal ↦ undescribed fits (line_of (codes "description") (number_of refusal.0 ∷ refusal.1 ∷ []))
            (rules_refused rules refusal.0 refusal.1 has_rules refusal.2 refl refl)
        | inr d ↦ measured rules d.0 (record { held = held; fits = fits; has_rules = has_rules; resolved = d.1 })
      ]

      verify_result : HasResult
      verify_result = elim (cases_lt MOST_DESCRIPTION (length text)) [
        | inl long ↦ ([], TooLong, no_line (of_certificate file name reading certificate row (no_description text held (long_text long refl refl) (λ h. cc))))
        | inr fits ↦ elim (known.decided text) [
          | inl rules ↦ by_names fits rules.0 rules.1
          | inr place ↦ undescribed fits (line_of (codes "syntax") (place.0 ∷ [])) (no_rules place.0 place.1 refl refl)
        ]
      ]

    entries_result : (entries : List Entry) (reading : Reading) → IsOverEntries words entries reading → HasResult
    entries_result entries reading (over_downlink row is) =
        elim (first_told [] (rule_of_entry reading Downlink ∷ [])
        (of_catalogue (Downlink ∷ []) reading (over_downlink row refl) refl) tt) [
          | inl result ↦ result
          | inr all ↦ job_result (segmenting all.0.1 reading) (asks_segments reading all.0.1 all.0.2 row all.0.0 all.0.3 refl)
        ]
    entries_result entries reading (over_all row is) =
        elim (first_told [] (map (rule_of_entry reading) all_entries)
        (of_catalogue all_entries reading (over_all row refl) refl) tt) [
          | inl result ↦ result
          | inr all ↦
              let compiled = all_compiled reading all.0.1 all.0.3.has_rules all_entries all in
              job_result (replaying all.0.1 reading watchers) (asks_replay reading all.0.1 compiled.0 row all.0.0 compiled.1 refl)
        ]
    entries_result entries reading (over_soaked entry n row is sent) =
        elim (first_told [] (rule_of_entry Sent entry ∷ [])
        (of_catalogue (entry ∷ []) Sent (over_soaked entry n row refl refl) refl) tt) [
          | inl result ↦ result
          | inr all ↦ counted all.0
        ]
      where
        counted : HasJob (rule_of_entry Sent entry) → HasResult
        counted job =
            let is = known.descriptions job.1 Sent (entry_root entry) job.2 (known.shaped catalogue_text job.1 job.3.has_rules) job.3.resolved in
            let counts = each_soaked decides job.2 is entry n in
            (soaked_line n counts.0 ++ 10 ∷ [], Done, no_line (soaked entry n job.1 job.2 counts.0 row job.0 job.3 counts.1 refl refl))

pub some_result : KnownOfTexts → MeaningIsDecided → LinesHaveAnswers → RunsHaveResults
some_result known decides each_in_job words files watchers input (rule_row file name reading row) held decided told =
    let text = held_text (files file) (held file (comes_first [] (names_one file name reading row refl))) in
    rule_result known decides each_in_job words files watchers input decided told file name text.0 reading row text.1
some_result known decides each_in_job words files watchers input (entries_row entries reading row) held decided told =
    entries_result known decides each_in_job words files watchers input decided told entries reading row
some_result known decides each_in_job words files watchers input (migrate_row row) held decided told =
    job_result known decides each_in_job words files watchers input migrating (asks_migrate row refl)
some_result known decides each_in_job words files watchers input (compat_row before after name reading row) held decided told =
    let was = held_text (files before) (held before (comes_first (after ∷ []) (names_pair before after name reading row refl))) in
    pair_result known decides each_in_job words files watchers input decided told before after name was.0 reading row was.1
    (λ few. held_text (files after) (held after (comes_second before name was.0 reading row was.1 few)))
some_result known decides each_in_job words files watchers input (verify_row file name reading certificate row) held decided told =
    let text = held_text (files file) (held file (comes_first (certificate ∷ []) (names_certificate file name reading certificate row refl))) in
    verify_result known decides each_in_job words files watchers input decided told file name certificate text.0 reading row text.1
    (λ rules d is. held_text (files certificate) (held certificate (comes_certificate file name text.0 reading rules d row is)))
