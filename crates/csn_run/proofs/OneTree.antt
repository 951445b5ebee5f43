-- After a command over a rule is done, the rule gives no bits two trees.
use Rattle.std.proofs.Common.{◌≡◌, ◌∙◌, ℕ, inl, inr, List, [], Option, Some, ap, subst, Result}
use Rattle.std.specs.List.{AllByRecursion}
use Rattle.csn_cert.specs.CertificateV.{NodeV}
use Rattle.csn_desc.specs.declared.reading.Reading.{Reading}
use Rattle.csn_desc.specs.Means.{NMeans}
use Rattle.csn_desc.specs.Nodes.{DescV}
use Rattle.csn_desc.specs.TreeV.{TreeV}
use Rattle.csn_good.specs.Good.{Good}
use Rattle.csn_grammar.specs.RulesV.{RulesV}
use Rattle.csn_grammar.specs.Place.{HasRules}
use Rattle.csn_grammar.specs.Strings.{Strings}
use Rattle.csn_resolve.specs.Resolved.{IsResolved}
use Rattle.csn_replay.specs.Watched.{Watched}
use Rattle.csn_plan.specs.declared.ended.Ended.{Ended}
use Rattle.csn_lines.specs.declared.fault.Fault.TheVariants.{Read, Memory}
use Rattle.csn_lines.specs.declared.fault.Fault.{Fault}
use Rattle.csn_run.specs.Known.{Known}
use Rattle.csn_command.specs.Command.{IsVerify}
use Rattle.csn_plan.specs.Compiled.{RuleOf, no_rules, rules_refused, not_certified}
use Rattle.csn_run.specs.Told.{verifies_good, verifies_fault, verifies_none}
use Rattle.csn_run.specs.Job.{JobEnds, unread, before_lines, all_lines, some_lines, end_with}
use Rattle.csn_lines.specs.Jobs.{LineJob}
use Rattle.csn_run.specs.Result.{AsksFor, Compiles, EndsBefore, no_job, reported, soaked, of_two, long_text, no_plan}
use Rattle.csn_run.specs.Result.{long_before, long_after, compared, IsDescribed, of_certificate, no_description}
use Rattle.csn_run.specs.Result.{long_certificate, verified, goes_by_compiled, goes_by_verified, RulesHaveOneTree}
use Rattle.csn_plan.specs.Compiled.{HasJob}
use Rattle.csn_run.proofs.OneResult.{holds_at, one_held, one_list_compiles, one_verify, checked_compiles}
use Rattle.csn_run.proofs.OneResult.{soaked_compiles, pair_compiles, verify_compiles, verify_no_job, jobs_compile}
use Rattle.csn_run.proofs.ResultLemmas.{IsAnswered, fault_answered, ended_apart}
use Rattle.csn_lines.proofs.ShownLines.{one_tree}

module _ (known : Known) (words : List (List ℕ)) (files : List ℕ → Option (List ℕ)) where
  -- the rules that were compiled are those that are meant
  all_one_tree : (all : List RuleOf) → Compiles words files all → AllByRecursion HasJob all → RulesHaveOneTree words files
  all_one_tree all compiles has rule rules (goes_by_verified file certificate row held) has_rules b t u first second =
      absurd (verify_compiles known.of_texts words files row compiles)
  all_one_tree all compiles has rule rules (goes_by_compiled front behind compiles') has_rules b t u first second =
      let job = holds_at front rule behind (subst (λ (l : List RuleOf). AllByRecursion HasJob l)
      (one_list_compiles words files all _ compiles compiles') has) in
      let same : rules ≡ job.1 = known.of_texts.one_list rule.text rules job.1 has_rules job.3.has_rules in
      let Q : RulesV → TreeV → Type 0 = λ r x. Strings r rule.name rule.reading b x in
      one_tree known.of_answers rule.text job.1 rule.name rule.reading job.2 job.3 b t u (subst (λ r. Q r t) same first) (subst (λ r. Q r u) same second)

  asked_one_tree : {watchers : List Watched} (job : LineJob) → AsksFor words files watchers job → RulesHaveOneTree words files
  asked_one_tree job asked rule rules (goes_by_compiled front behind compiles) =
      all_one_tree _ compiles (jobs_compile known.of_texts words files job _ asked compiles) rule rules (goes_by_compiled front behind compiles)
  asked_one_tree job asked rule rules (goes_by_verified file certificate row held) = absurd (verify_no_job known.of_texts words files row asked)

  -- the rule for whose description there is a good certificate is the one that is meant
  verified_one_tree :
      {file name text certificate : List ℕ} {reading : Reading} {rules : RulesV} {d : DescV} (c : List NodeV) → IsVerify words file name reading certificate
      → IsDescribed files file name text reading rules d → Good d c → RulesHaveOneTree words files
  verified_one_tree c row is good rule rules' (goes_by_compiled front behind compiles) has_rules b t u first second =
      absurd (verify_compiles known.of_texts words files row compiles)
  verified_one_tree {file} {name} {text} {certificate} {reading} {rules} {d} c row is good rule rules'
      (goes_by_verified file' certificate' row' held') has_rules b t u first second =
      let same = one_verify row row' in
      let P : List ℕ → Type 0 = λ x. HasRules x rules in
      let one : rules ≡ rules' = known.of_texts.one_list rule.text rules rules'
      (subst P (one_held is.held (ap files same.file_is ∙ held')) is.has_rules) has_rules in
      let Q : RulesV → Type 0 = λ r. IsResolved r name reading d in
      let R : List ℕ → Type 0 = λ n. IsResolved rules' n reading d in
      let S : Reading → Type 0 = λ r. IsResolved rules' rule.name r d in
      let resolved = subst S same.reading_is (subst R same.name_is (subst Q one is.resolved)) in
      let shaped = known.of_texts.shaped rule.text rules' has_rules in
      let meant : (x : TreeV) → Strings rules' rule.name rule.reading b x → NMeans d 0 0 [] b x =
      λ x h. (known.of_answers.of_blocks.strings rules' rule.reading rule.name d shaped resolved b x).0 h in
      known.of_good d c b t u (known.of_texts.descriptions rules' rule.reading rule.name d shaped resolved) good (meant t first) (meant u second)

  before_one_tree : (written : List ℕ) (ended : Ended) → EndsBefore words files written ended → IsAnswered ended → RulesHaveOneTree words files
  before_one_tree written ended (no_job front rule behind compiles earlier (long_text long is e)) answered =
      absurd (ended_apart _ _ e (λ h. cc) (λ h. cc) answered)
  before_one_tree written ended (no_job front rule behind compiles earlier (no_plan line fits (no_rules place at is e)
      ends)) answered = absurd (ended_apart _ _ e (λ h. cc) (λ h. cc) answered)
  before_one_tree written ended (no_job front rule behind compiles earlier
      (no_plan line fits (rules_refused rules why place has why_not is e) ends)) answered =
      absurd (ended_apart _ _ e (λ h. cc) (λ h. cc) answered)
  before_one_tree written ended (no_job front rule behind compiles earlier
      (no_plan line fits (not_certified rules d c has resolved first is e) ends)) answered =
      absurd (ended_apart _ _ e (λ h. cc) (λ h. cc) answered)
  before_one_tree written ended (reported report file name text reading rules d row held fits compiled is e) answered =
      let all = checked_compiles known.of_texts words files (inl (report, row)) held fits compiled in all_one_tree _ all.0 all.1
  before_one_tree written ended (soaked entry n rules d counts row fits compiled from is e) answered =
      let all = soaked_compiles known.of_texts words files row fits compiled in all_one_tree _ all.0 all.1
  before_one_tree written ended (of_two before after name reading row (long_before was held long is e)) answered =
      absurd (ended_apart _ _ e (λ h. cc) (λ h. cc) answered)
  before_one_tree written ended (of_two before after name reading row (long_after was now held few has long is e))
      answered = absurd (ended_apart _ _ e (λ h. cc) (λ h. cc) answered)
  before_one_tree written ended (of_two before after name reading row (compared was now line rules others d e held has few small a b compares is)) answered =
      let all = pair_compiles known.of_texts words files row held has few small a b in all_one_tree _ all.0 all.1
  before_one_tree written ended (of_certificate file name reading certificate row
      (no_description text held (long_text long is e) other)) answered =
      absurd (ended_apart _ _ e (λ h. cc) (λ h. cc) answered)
  before_one_tree written ended (of_certificate file name reading certificate row
      (no_description text held (no_plan line fits (no_rules place at is e) ends) other)) answered =
      absurd (ended_apart _ _ e (λ h. cc) (λ h. cc) answered)
  before_one_tree written ended (of_certificate file name reading certificate row
      (no_description text held (no_plan line fits (rules_refused rules why place has why_not is e) ends) other))
      answered = absurd (ended_apart _ _ e (λ h. cc) (λ h. cc) answered)
  before_one_tree written ended (of_certificate file name reading certificate row
      (no_description text held (no_plan line fits (not_certified rules d c has resolved first is e) ends) other))
      answered = absurd (other e)
  before_one_tree written ended (of_certificate file name reading certificate row
      (long_certificate text bytes rules d is held long none e)) answered =
      absurd (ended_apart _ _ e (λ h. cc) (λ h. cc) answered)
  before_one_tree written ended (of_certificate file name reading certificate row
      (verified text bytes line rules d is held few (verifies_good c spells good told e) all)) answered =
      verified_one_tree c row is good
  before_one_tree written ended (of_certificate file name reading certificate row
      (verified text bytes line rules d is held few (verifies_fault c rule node spells fault told e) all)) answered =
      absurd (ended_apart _ _ e (λ h. cc) (λ h. cc) answered)
  before_one_tree written ended (of_certificate file name reading certificate row
      (verified text bytes line rules d is held few (verifies_none none told e) all)) answered =
      absurd (ended_apart _ _ e (λ h. cc) (λ h. cc) answered)

  pub one_tree_of :
      {watchers : List Watched} {left left' taken taken' : Option (List ℕ)} {waits : List ℕ} (end : Result Ended Fault)
      → JobEnds words (Some files) watchers left left' taken taken' waits end → IsAnswered (end_with end) → RulesHaveOneTree words files
  one_tree_of end (unread same_left same_taken none cause) answered =
      elim cause [
        | inl e ↦ absurd (fault_answered Read (subst (λ (r : Result Ended Fault). IsAnswered (end_with r)) e answered))
        | inr e ↦ absurd (fault_answered Memory (subst (λ (r : Result Ended Fault). IsAnswered (end_with r)) e answered))
      ]
  one_tree_of {waits = waits} end (before_lines gives same_left same_taken) answered = before_one_tree waits (end_with end) gives answered
  one_tree_of end (all_lines job some asked a e) answered = asked_one_tree job asked
  one_tree_of end (some_lines job fault asked s e) answered = asked_one_tree job asked
