-- After `ok compat` each block of the old rule is one of the new rule.
use Rattle.std.proofs.Common.{◌≡◌, ℕ, inl, inr, List, [], length, Option, Some, Result, refl, sym, ◌∙◌, ap, subst, arith}
use Rattle.csn_desc.specs.declared.reading.Reading.{Reading}
use Rattle.csn_desc.specs.Nodes.{DescV}
use Rattle.csn_desc.specs.TreeV.{TreeV}
use Rattle.csn_grammar.specs.RulesV.{RulesV}
use Rattle.csn_grammar.specs.Strings.{Strings}
use Rattle.csn_compat.specs.Takes.{Takes}
use Rattle.csn_replay.specs.Watched.{Watched}
use Rattle.csn_json.specs.declared.form.TreeForm.TheVariants.{Text}
use Rattle.csn_plan.specs.declared.ended.Ended.{Ended}
use Rattle.csn_plan.specs.declared.ended.Ended.TheVariants.{Done}
use Rattle.csn_lines.specs.declared.fault.Fault.{Fault}
use Rattle.csn_lines.specs.declared.fault.Fault.TheVariants.{Read, Memory}
use Rattle.csn_run.specs.Known.{Known}
use Rattle.csn_command.specs.Command.{IsCompat}
use Rattle.csn_plan.specs.Compiled.{IsCompiled, no_rules, rules_refused, not_certified}
use Rattle.csn_run.specs.Told.{compares_ok, compares_no}
use Rattle.csn_run.specs.Job.{JobEnds, unread, before_lines, all_lines, some_lines, end_with}
use Rattle.csn_lines.specs.OutLine.{shows_block, shows_tree}
use Rattle.csn_run.specs.Result.{EndsBefore, no_job, reported, soaked, of_two, long_text, no_plan, EndsPair}
use Rattle.csn_run.specs.Result.{long_before, long_after, compared, of_certificate, BlocksStay, OldBlocksStay}
use Rattle.csn_lines.proofs.FormsAgree.{told}
use Rattle.csn_run.proofs.OneResult.{over, not_compat, not_five, one_pair, one_held, pair_no_job}
use Rattle.csn_run.proofs.ResultLemmas.{ended_apart, fault_answered}
use Rattle.csn_lines.proofs.ShownLines.{description, meant_by, string_of, tree_text}

-- the descriptions of a rule have its reading
readings_agree : {was now name : List ℕ} {reading : Reading} {rules others : RulesV} {d e : DescV}
    → IsCompiled was name reading rules d → IsCompiled now name reading others e → d.reading ≡ e.reading
readings_agree is js = cc (ap (λ (x : DescV). x.reading) is.resolved.is, ap (λ (x : DescV). x.reading) js.resolved.is)

module _ (known : Known) (was now name : List ℕ) (reading : Reading) (rules others : RulesV) (d e : DescV)
    (is : IsCompiled was name reading rules d) (js : IsCompiled now name reading others e) (takes : Takes d e 0 0 [])
  where
    strings_stay : (b : List ℕ) (t : TreeV) → Strings rules name reading b t → (u : TreeV) × Strings others name reading b u
    strings_stay b t string =
        let taken = known.of_takers d e (description known.of_answers was rules name reading d is)
        (description known.of_answers now others name reading e js) (readings_agree is js) takes b t
        (meant_by known.of_answers was rules name reading d is b t string) in
        (taken.0, string_of known.of_answers now others name reading e js b taken.0 taken.1)

    pub blocks_stay : BlocksStay rules others name reading
    blocks_stay = record {
      strings = strings_stay;
      shown = λ line text shown. (
          let a = told Text rules name reading line text shown in
          let u = strings_stay a.block a.tree a.string in
          let written = tree_text known.of_answers now others name reading e js Text a.block u.0 a.spells.few u.1 in
          (written.0, shows_block a.block a.spells (shows_tree u.0 written.0 u.1 written.1 refl))
          );
    }

module _ (known : Known) (words : List (List ℕ)) (files : List ℕ → Option (List ℕ)) where
  pair_stays : {before after name written : List ℕ} {reading : Reading} → IsCompat words before after name reading
      → EndsPair files before after name reading written Done → OldBlocksStay words files
  pair_stays row (long_before was held long none e) = absurd (let clash : Done ≡ _ = e in cc)
  pair_stays row (long_after was now held few has long none e) = absurd (let clash : Done ≡ _ = e in cc)
  pair_stays row (compared was now line rules others d x held has few small is js (compares_no not text e) all) = absurd (let clash : Done ≡ _ = e in cc)
  pair_stays {name = name} {reading = reading} row (compared was now line rules others d x held has few small is js (compares_ok takes text e) all) =
      λ before' after' name' was' now' reading' rules' others' row' held' has' has_rules has_others.
      let same = one_pair row row' in
      let old : was ≡ was' = one_held held (ap files same.file_is ∙ held') in
      let new : now ≡ now' = one_held has (ap files same.word_is ∙ has') in
      let P : List ℕ → Type 0 = λ t. IsCompiled t name reading rules d in
      let Q : List ℕ → Type 0 = λ t. IsCompiled t name reading others x in
      let here = subst P old is in
      let there = subst Q new js in
      let R : RulesV → Type 0 = λ r. BlocksStay r others name reading in
      let S : RulesV → Type 0 = λ r. BlocksStay rules' r name reading in
      let T : List ℕ → Type 0 = λ n. BlocksStay rules' others' n reading in
      let U : Reading → Type 0 = λ r. BlocksStay rules' others' name' r in
      subst U same.reading_is
      (subst T same.name_is
      (subst S (known.of_texts.one_list now' others others' there.has_rules has_others)
      (subst R (known.of_texts.one_list was' rules rules' here.has_rules has_rules)
      (blocks_stay known was' now' name reading rules others d x here there takes))))

  before_stays : (written : List ℕ) (ended : Ended) → EndsBefore words files written ended → ended ≡ Done → OldBlocksStay words files
  before_stays written ended (no_job front rule behind compiles earlier (long_text long is e)) done = absurd (ended_apart _ _ e (λ h. cc) (λ h. cc) (inl done))
  before_stays written ended (no_job front rule behind compiles earlier (no_plan line fits (no_rules place at is e)
      ends)) done = absurd (ended_apart _ _ e (λ h. cc) (λ h. cc) (inl done))
  before_stays written ended (no_job front rule behind compiles earlier
      (no_plan line fits (rules_refused rules why place has why_not is e) ends)) done =
      absurd (ended_apart _ _ e (λ h. cc) (λ h. cc) (inl done))
  before_stays written ended (no_job front rule behind compiles earlier
      (no_plan line fits (not_certified rules d c has resolved first is e) ends)) done =
      absurd (ended_apart _ _ e (λ h. cc) (λ h. cc) (inl done))
  before_stays written ended (reported report file name text reading rules d row held fits compiled is e) done =
      λ before after name' was now reading' rules' others row'. absurd (not_five (over (inl (report, row))) row'.words_are)
  before_stays written ended (soaked entry n rules d counts row fits compiled from is e) done =
      λ before after name' was now reading' rules' others row'. absurd (omega (arith, ap length row.words_are, ap length row'.words_are))
  before_stays written ended (of_two before after name reading row ends) done =
      let P : Ended → Type 0 = λ x. EndsPair files before after name reading written x in
      pair_stays row (subst P done ends)
  before_stays written ended (of_certificate file name reading certificate row ends) done =
      λ before after name' was now reading' rules' others row'. absurd (not_compat row' row)

  pub stays_of :
      {watchers : List Watched} {left left' taken taken' : Option (List ℕ)} {waits : List ℕ} (end : Result Ended Fault)
      → JobEnds words (Some files) watchers left left' taken taken' waits end → end_with end ≡ Done → OldBlocksStay words files
  stays_of end (unread same_left same_taken none cause) done =
      elim cause [
        | inl e ↦ absurd (fault_answered Read (inl (sym (ap end_with e) ∙ done)))
        | inr e ↦ absurd (fault_answered Memory (inl (sym (ap end_with e) ∙ done)))
      ]
  stays_of {waits = waits} end (before_lines gives same_left same_taken) done = before_stays waits (end_with end) gives done
  stays_of end (all_lines job some asked a e) done = λ before after name was now reading rules others row. absurd
      (pair_no_job known.of_texts words files row asked)
  stays_of end (some_lines job fault asked s e) done = λ before after name was now reading rules others row. absurd
      (pair_no_job known.of_texts words files row asked)
