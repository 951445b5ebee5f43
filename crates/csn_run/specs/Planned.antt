-- What is known of the rule that the words name, when its file was fetched and its text gone through.
use Rattle.std.specs.Prelude.{◌≡◌, ◌≢◌, ℕ, ◌+◌, ◌<◌, ◌⊎◌, List, [], ◌∷◌, ◌++◌, length, codes, Option, Result, Ok, Err}
use Rattle.csn_cert.specs.CertificateV.{NodeV}
use Rattle.csn_cert.specs.CertificateText.{CertificateText}
use Rattle.csn_desc.specs.declared.reading.Reading.{Reading}
use Rattle.csn_desc.specs.Nodes.{DescV}
use Rattle.csn_good.specs.declared.checking.Checked.{Checked}
use Rattle.csn_good.specs.declared.checking.Checked.TheVariants.{Proved, Unproved}
use Rattle.csn_good.specs.Good.{Good, FirstFault}
use Rattle.csn_grammar.specs.RulesV.{RulesV}
use Rattle.csn_grammar.specs.Place.{HasRules}
use Rattle.csn_resolve.specs.Resolved.{IsResolved}
use Rattle.csn_io.specs.ShelfFault.{BeginsFile}
use Rattle.csn_command.specs.declared.command.RuleWords.{RuleWords}
use Rattle.csn_command.specs.declared.command.PairWords.{PairWords}
use Rattle.csn_plan.specs.declared.compiling.NoPlan.{NoPlan}
use Rattle.csn_plan.specs.declared.compiling.TheConstants.{MOST_DESCRIPTION}
use Rattle.csn_plan.specs.declared.ended.Ended.{Ended}
use Rattle.csn_plan.specs.declared.ended.Ended.TheVariants.{Done, NotCertified}
use Rattle.csn_lines.specs.declared.fault.Fault.{Fault}
use Rattle.csn_lines.specs.declared.fault.Fault.TheVariants.{Write, Memory, TooLong}
use Rattle.csn_lines.specs.declared.lines.TheConstants.{LINE_FEED}
use Rattle.csn_run.specs.declared.planned.Unplanned.{Unplanned}
use Rattle.csn_run.specs.declared.planned.Unplanned.TheVariants.{File, Text}
use Rattle.csn_run.specs.Told.{Compares}
use Rattle.csn_plan.specs.Compiled.{IsCompiled, IsReason, Tells, line_of}
use Rattle.csn_run.specs.Job.{IsDescription}

-- the rule has this certified description
pub record IsPlanned (files : Option (List ℕ → Option (List ℕ))) (rule : RuleWords) (d : DescV) : Type 0 where
  pub text : List ℕ
  pub rules : RulesV
  pub fetched : IsDescription files rule.file.now text
  pub compiled : IsCompiled text rule.name.now rule.reading rules d

-- the rule has this description, which need not be certified
pub record HasDescription (files : Option (List ℕ → Option (List ℕ))) (rule : RuleWords) (d : DescV) : Type 0 where
  pub text : List ℕ
  pub rules : RulesV
  pub fetched : IsDescription files rule.file.now text
  pub has_rules : HasRules text rules
  pub resolved : IsResolved rules rule.name.now rule.reading d

-- it has no certified one for this reason
abbrev pub IsWhy : Option (List ℕ → Option (List ℕ)) → RuleWords → Unplanned → Type 0
IsWhy files rule (File fault) =
    (fault ≢ Write)
    × (fault ≡ TooLong → (front : List ℕ) × BeginsFile files rule.file.now (MOST_DESCRIPTION + 1) front × (MOST_DESCRIPTION < length front))
IsWhy files rule (Text reason) =
    (text : List ℕ) × IsDescription files rule.file.now text × IsReason text rule.name.now rule.reading reason

-- for this reason a job is over so, and this text waits
abbrev pub Refuses : Unplanned → List ℕ → Result Ended Fault → Type 0
Refuses (File fault) waits end = (end ≡ Err fault) × (waits ≡ [])
Refuses (Text reason) waits (Ok ended) = (line : List ℕ) × (waits ≡ line ++ LINE_FEED ∷ []) × Tells reason line ended
Refuses (Text reason) waits (Err fault) = (fault ≡ Memory) × (waits ≡ [])

-- of two descriptions the old one is longer than one may be, or it fits and the new one is longer
pub data IsLongPair (files : Option (List ℕ → Option (List ℕ))) (pair : PairWords) : Type 0 where
  is_long_before : (front : List ℕ) → BeginsFile files pair.before.now (MOST_DESCRIPTION + 1) front
      → MOST_DESCRIPTION < length front → IsLongPair files pair
  is_long_after : (text front : List ℕ) → IsDescription files pair.before.now text
      → BeginsFile files pair.after.now (MOST_DESCRIPTION + 1) front → MOST_DESCRIPTION < length front → IsLongPair files pair

-- a job is over so for a rule of two texts, and this text waits: the old text gives it no plan, the new one gives it none, or
-- they are compared; and there may be no memory
pub data ComparesTexts (was now name : List ℕ) (reading : Reading) (waits : List ℕ) (end : Result Ended Fault) : Type 0 where
  compares_none : waits ≡ [] → end ≡ Err Memory → ComparesTexts was now name reading waits end
  refuses_before : (reason : NoPlan) → IsReason was name reading reason → Refuses (Text reason) waits end
      → ComparesTexts was now name reading waits end
  refuses_after : (rules : RulesV) (d : DescV) (reason : NoPlan) → IsCompiled was name reading rules d
      → IsReason now name reading reason → Refuses (Text reason) waits end → ComparesTexts was now name reading waits end
  compares_both : (rules others : RulesV) (d e : DescV) (line : List ℕ) (ended : Ended) → IsCompiled was name reading rules d
      → IsCompiled now name reading others e → Compares d e line ended → waits ≡ line ++ LINE_FEED ∷ [] → end ≡ Ok ended
      → ComparesTexts was now name reading waits end

-- what the text of a certificate comes to: it is good for the description, or this is the first rule that it breaks, at
-- this node; a text of no certificate breaks the first rule, at the root
abbrev pub IsChecked : DescV → List ℕ → Checked → Type 0
IsChecked d text Proved = (c : List NodeV) × CertificateText c text × Good d c
IsChecked d text (Unproved rule node) =
    ((c : List NodeV) × CertificateText c text × FirstFault d c rule node)
    ⊎ (((c : List NodeV) → ¬ CertificateText c text) × (rule ≡ 1) × (node ≡ 0))

-- the line that tells it, and the end of a run
abbrev pub TellsChecked : DescV → Checked → List ℕ → Ended → Type 0
TellsChecked d Proved line ended = (line ≡ line_of (codes "verified") (length d.nodes ∷ [])) × (ended ≡ Done)
TellsChecked d (Unproved rule node) line ended = (line ≡ line_of (codes "unproved") (rule ∷ node ∷ [])) × (ended ≡ NotCertified)
