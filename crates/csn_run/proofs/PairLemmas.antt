-- How the job of `compat` is over.
use Rattle.std.proofs.Common.{◌≡◌, ℕ, ◌+◌, ◌<◌, ◌≤◌, ◌⊎◌, inl, inr, List, [], ◌∷◌, ◌++◌, length, Option, Some, None}
use Rattle.std.proofs.Common.{Result, Ok, Err, IfOk, IfErr, refl, sym, ◌∙◌, ap, subst, take, arith}
use Rattle.std.specs.Option.{option_map}
use Rattle.std.proofs.lemmas.List.{take_all}
use Rattle.csn_desc.specs.declared.reading.Reading.{Reading}
use Rattle.csn_desc.specs.Nodes.{DescV}
use Rattle.csn_grammar.specs.RulesV.{RulesV}
use Rattle.csn_io.specs.ShelfFault.{BeginsFile, LacksFile}
use Rattle.csn_replay.specs.Watched.{Watched}
use Rattle.csn_command.specs.declared.command.PairWords.{PairWords}
use Rattle.csn_plan.specs.declared.compiling.TheConstants.{MOST_DESCRIPTION}
use Rattle.csn_plan.specs.declared.ended.Ended.{Ended}
use Rattle.csn_lines.specs.declared.fault.Fault.{Fault}
use Rattle.csn_lines.specs.declared.fault.Fault.TheVariants.{Read, Write, Memory, TooLong}
use Rattle.csn_command.specs.Command.{IsCompat, names_pair, leaves_compat}
use Rattle.csn_plan.specs.Compiled.{IsCompiled}
use Rattle.csn_run.specs.Told.{Compares, compares_ok, compares_no}
use Rattle.csn_run.specs.Job.{IsDescription, ComesTo, JobEnds, unread, before_lines}
use Rattle.csn_run.specs.Planned.{IsLongPair, is_long_before, is_long_after, ComparesTexts, compares_none, refuses_before, refuses_after, compares_both}
use Rattle.csn_run.specs.Result.{Compiles, of_pair, long_before, long_after, compared, of_two, comes_first, comes_second, comes_certificate}
use Rattle.csn_run.proofs.CommandLemmas.{two_files}
use Rattle.csn_run.proofs.JobLemmas.{long_file, whole_file, reason_ends}
use Rattle.csn_run.proofs.OneResult.{one_pair, not_compat, rule_of}

-- the files in which descriptions were found
told_text : (files : Option (List ℕ → Option (List ℕ))) (told : List ℕ → Option (List ℕ)) (file text : List ℕ)
    → files ≡ Some told → IsDescription files file text → told file ≡ Some text
told_text files told file text e is = whole_file told file text (subst (λ (f : Option (List ℕ → Option (List ℕ))). IsDescription f file text) e is)

-- a text in a file is the whole description, where it fits
pub is_description : (files : List ℕ → Option (List ℕ)) (file text : List ℕ)
    → files file ≡ Some text → length text ≤ MOST_DESCRIPTION → IsDescription (Some files) file text
is_description files file text held fits = record {
  front = ap (option_map (take (MOST_DESCRIPTION + 1))) held ∙ ap Some (take_all (MOST_DESCRIPTION + 1) text (omega (arith, fits)));
  fits = fits;
}

-- a file that is longer than a description is none
pub not_longer : (files : Option (List ℕ → Option (List ℕ))) (file text front : List ℕ)
    → LacksFile files file ⊎ IsDescription files file text → BeginsFile files file (MOST_DESCRIPTION + 1) front
    → MOST_DESCRIPTION < length front → (files ≡ None → ⊥) → ⊥
not_longer None file text front is begins long told = told refl
not_longer (Some files) file text front (inl lacks) begins long told =
    let none : None ≡ Some front = sym (ap (option_map (take (MOST_DESCRIPTION + 1))) lacks) ∙ begins in cc
not_longer (Some files) file text front (inr is) begins long told =
    let there : Some text ≡ Some front = sym is.front ∙ begins in
    let same : text ≡ front = cc in omega (arith, ap length same, long, is.fits)

-- one fault is told as that of another job
pub same_fault : {T U : Type 0} (fault : Fault) → (◌≡◌ {A = Result T Fault} (Err fault) (Err Read))
    ⊎ (◌≡◌ {A = Result T Fault} (Err fault) (Err Memory)) → (◌≡◌ {A = Result U Fault} (Err fault) (Err Read))
    ⊎ (◌≡◌ {A = Result U Fault} (Err fault) (Err Memory))
same_fault fault (inl e) = let same : fault ≡ Read = cc in inl (ap Err same)
same_fault fault (inr e) = let same : fault ≡ Memory = cc in inr (ap Err same)

-- two descriptions are compared, and there is a line feed behind the line that tells so
pub compares_end :
    {was now name waits none : List ℕ} {reading : Reading} {E : Type 0} (between : List ℕ) (rules others : RulesV)
    (d e : DescV) → IsCompiled was name reading rules d → IsCompiled now name reading others e
    → (line : Result Ended E) → none ≡ [] → IfOk line (λ ended. (text : List ℕ) × (between ≡ none ++ text) × Compares d e text ended)
    → (end : Result Ended Fault) → IfOk end (λ ended. (line ≡ Ok ended) × (waits ≡ between ++ 10 ∷ [])) → IfErr end (λ fault. (fault ≡ Memory) × (waits ≡ []))
    → ComparesTexts was now name reading waits end
compares_end between rules others d e is js line empty compares (Err fault) ok err = compares_none err.1 (ap Err err.0)
compares_end between rules others d e is js (Err why) empty compares (Ok ended) ok err = absurd (let clash : Err why ≡ Ok ended = ok.0 in cc)
compares_end between rules others d e is js (Ok told) empty compares (Ok ended) ok err =
    let there : Ok told ≡ Ok ended = ok.0 in
    let same : told ≡ ended = cc in
    let all : between ≡ compares.0 = compares.1 ∙ ap (λ l. l ++ compares.0) empty in
    compares_both rules others d e compares.0 ended is js (subst (λ (x : Ended). Compares d e compares.0 x)
    same compares.2) (ok.1 ∙ ap (λ l. l ++ 10 ∷ []) all) refl

module _ (words : List (List ℕ)) (pair : PairWords) (row : IsCompat words pair.before.now pair.after.now pair.name.now pair.reading) where
  -- what is compiled of two texts
  pair_compiled :
      (files : Option (List ℕ → Option (List ℕ))) (was now : List ℕ) → IsDescription files pair.before.now was → IsDescription files pair.after.now now
      → (told : List ℕ → Option (List ℕ)) → files ≡ Some told
      → Compiles words told (rule_of was pair.name.now pair.reading ∷ rule_of now pair.name.now pair.reading ∷ [])
  pair_compiled files was now held has told e =
      of_pair pair.before.now pair.after.now pair.name.now was now pair.reading row
      (told_text files told pair.before.now was e held) (told_text files told pair.after.now now e has)
      held.fits has.fits refl

  -- the job is over with a text that is too long
  pub long_ends :
      (files : Option (List ℕ → Option (List ℕ))) (watchers : List Watched) (left taken : Option (List ℕ)) (waits : List ℕ)
      → IsLongPair files pair → waits ≡ [] → JobEnds words files watchers left left taken taken waits (Err TooLong)
  long_ends None watchers left taken waits long none = before_lines (inl (inr (inr refl))) refl refl
  long_ends (Some files) watchers left taken waits (is_long_before front begins long) none =
      let text = long_file MOST_DESCRIPTION files pair.before.now front begins long in
      before_lines (of_two pair.before.now pair.after.now pair.name.now pair.reading row (long_before text.0 text.1 text.2 none refl)) refl refl
  long_ends (Some files) watchers left taken waits (is_long_after was front is begins long) none =
      let text = long_file MOST_DESCRIPTION files pair.after.now front begins long in
      before_lines (of_two pair.before.now pair.after.now pair.name.now pair.reading row
      (long_after was text.0 (whole_file files pair.before.now was is) is.fits text.1 text.2 none refl)) refl refl

  -- the job is over with two texts that fit
  pub texts_end :
      (files : Option (List ℕ → Option (List ℕ))) (watchers : List Watched) (was now : List ℕ)
      (left taken : Option (List ℕ)) (waits : List ℕ) (end : Result Ended Fault)
      → IsDescription files pair.before.now was → IsDescription files pair.after.now now → ComparesTexts was now pair.name.now pair.reading waits end
      → JobEnds words files watchers left left taken taken waits end
  texts_end files watchers was now left taken waits end held has (compares_none none e) = unread refl refl none (inr e)
  texts_end files watchers was now left taken waits end held has (refuses_before reason is refuses) =
      reason_ends words files watchers [] (rule_of was pair.name.now pair.reading) (rule_of now pair.name.now pair.reading ∷ []) left taken waits reason end
      (pair_compiled files was now held has) tt held.fits is refuses
  texts_end files watchers was now left taken waits end held has (refuses_after rules d reason is why refuses) =
      reason_ends words files watchers (rule_of was pair.name.now pair.reading ∷ []) (rule_of now pair.name.now pair.reading) [] left taken waits reason end
      (pair_compiled files was now held has) ((held.fits, rules, d, is), tt) has.fits why refuses
  texts_end None watchers was now left taken waits end held has (compares_both rules others d e line ended is js (compares_ok takes text done) written ends) =
      let P : Result Ended Fault → Type 0 = λ r. JobEnds words None watchers left left taken taken waits r in
      subst P (sym ends)
      (before_lines
      (inr (
        inl done,
        λ reads. reads (leaves_compat pair.before.now pair.after.now pair.name.now pair.reading
            row),
      )) refl refl)
  texts_end None watchers was now left taken waits end held has (compares_both rules others d e line ended is js (compares_no not text done) written ends) =
      let P : Result Ended Fault → Type 0 = λ r. JobEnds words None watchers left left taken taken waits r in
      subst P (sym ends)
      (before_lines
      (inr (
        inr done,
        λ reads. reads (leaves_compat pair.before.now pair.after.now pair.name.now pair.reading
            row),
      )) refl refl)
  texts_end (Some files) watchers was now left taken waits end held has (compares_both rules others d e line ended is js compares written ends) =
      let P : Result Ended Fault → Type 0 = λ r. JobEnds words (Some files) watchers left left taken taken waits r in
      let told = compared was now line rules others d e (whole_file files pair.before.now was held)
      (whole_file files pair.after.now now has) held.fits has.fits is js compares written in
      subst P (sym ends) (before_lines (of_two pair.before.now pair.after.now pair.name.now pair.reading row told) refl refl)

  -- the job is over with a fault
  pub fault_ends :
      (files : Option (List ℕ → Option (List ℕ))) (watchers : List Watched) (left taken : Option (List ℕ)) (waits : List ℕ) (fault : Fault)
      → (fault ≡ Write → ⊥) → (fault ≡ TooLong → IsLongPair files pair) → waits ≡ [] → JobEnds words files watchers left left taken taken waits (Err fault)
  fault_ends files watchers left taken waits Read not long none = unread refl refl none (inl refl)
  fault_ends files watchers left taken waits Write not long none = absurd (not refl)
  fault_ends files watchers left taken waits Memory not long none = unread refl refl none (inr refl)
  fault_ends files watchers left taken waits TooLong not long none = long_ends files watchers left taken waits (long refl) none

  -- the files that the run comes to: the old one, and behind one that fits the new one
  pub comes_before : (files : Option (List ℕ → Option (List ℕ))) → ComesTo words files pair.before.now
  comes_before None = ([], pair.after.now ∷ [], names_pair pair.before.now pair.after.now pair.name.now pair.reading row refl)
  comes_before (Some files) = comes_first (pair.after.now ∷ []) (names_pair pair.before.now pair.after.now pair.name.now pair.reading row refl)

  pub comes_after : (files : Option (List ℕ → Option (List ℕ))) (text : List ℕ) → IsDescription files pair.before.now text → ComesTo words files pair.after.now
  comes_after None text is = (pair.before.now ∷ [], [], names_pair pair.before.now pair.after.now pair.name.now pair.reading row refl)
  comes_after (Some files) text is = comes_second pair.before.now pair.name.now text pair.reading row (whole_file files pair.before.now text is) is.fits

  -- a file that it comes to and that is not held is one of these
  pub lacks_one :
      (files : Option (List ℕ → Option (List ℕ))) (file : List ℕ) → ComesTo words files file → LacksFile files file
      → LacksFile files pair.before.now ⊎ ((text : List ℕ) × IsDescription files pair.before.now text × LacksFile files pair.after.now)
  lacks_one None file comes lacks = absurd lacks
  lacks_one (Some files) file (comes_first behind names) lacks =
      let same : file ∷ behind ≡ pair.before.now ∷ pair.after.now ∷ [] = two_files row names in
      let first : file ≡ pair.before.now = cc in
      inl (ap files (sym first) ∙ lacks)
  lacks_one (Some files) file (comes_second before name text reading row' held fits) lacks =
      let same = one_pair row' row in
      inr (text, is_description files pair.before.now text (ap files (sym same.file_is) ∙ held) fits, ap files (sym same.word_is) ∙ lacks)
  lacks_one (Some files) file (comes_certificate description name text reading rules d row' is) lacks = absurd (not_compat row row')
