-- Laws over the definitions.
use Rattle.std.specs.Prelude.{◌≡◌, ◌⊎◌, ℕ, List, [], ◌∷◌, ◌++◌, Option, Some, IsSome}
use Rattle.csn_desc.specs.declared.reading.Reading.{Reading}
use Rattle.csn_desc.specs.Nodes.{DescV}
use Rattle.csn_grammar.specs.RulesV.{RulesV}
use Rattle.csn_grammar.specs.Place.{HasRules}
use Rattle.csn_replay.specs.Watched.{Watched}
use Rattle.csn_resolve.specs.Resolved.{IsResolved}
use Rattle.csn_look.specs.declared.word.TheConstants.{MOST_WORD}
use Rattle.csn_certify.specs.declared.conflict.Conflict.{Conflict}
use Rattle.csn_certify.specs.Conflicts.{Certified, IsFirstConflict}
use Rattle.csn_certmake.specs.Claimed.{IsCertificateText}
use Rattle.csn_compat.specs.Takes.{Takes}
use Rattle.csn_command.specs.declared.command.RuleReport.TheVariants.{Certificate}
use Rattle.csn_plan.specs.declared.ended.Ended.{Ended}
use Rattle.csn_lines.specs.LineState.{LineState}
use Rattle.csn_command.specs.Command.{IsCommand, IsCompat, IsReport, IsVerify}
use Rattle.csn_plan.specs.Compiled.{IsCompiled, RuleOf}
use Rattle.csn_run.specs.Told.{Verifies}
use Rattle.csn_lines.specs.Jobs.{LineJob, Steps}
use Rattle.csn_run.specs.Outside.{Passes}
use Rattle.csn_run.specs.Result.{AsksFor, ComesToFile, Compiles, Result}

-- each line has an answer, in each job over lines that words ask for and each state
abbrev pub LinesHaveAnswers : Type 0
LinesHaveAnswers =
    (words : List (List ℕ)) (files : List ℕ → Option (List ℕ)) (watchers : List Watched) (job : LineJob)
    → AsksFor words files watchers job
    → (before : LineState) (line : List ℕ) → (text : List ℕ) × (after : LineState) × Steps job before line text after

-- it has one, and takes the state further in one way
abbrev pub LinesHaveOneAnswer : Type 0
LinesHaveOneAnswer =
    (words : List (List ℕ)) (files : List ℕ → Option (List ℕ)) (watchers : List Watched) (job : LineJob)
    → AsksFor words files watchers job
    → (before : LineState) (line text other : List ℕ) (after end : LineState)
    → Steps job before line text after → Steps job before line other end → (text ≡ other) × (after ≡ end)

-- what the program finds out is decided
pub record IsDecided (words : List (List ℕ)) (files : List ℕ → Option (List ℕ)) : Type 0 where
  -- whether each rule that a run of the words compiles is certified, where it has a description
  pub certified : (front behind : List RuleOf) (rule : RuleOf) (rules : RulesV) (d : DescV)
      → Compiles words files (front ++ rule ∷ behind) → HasRules rule.text rules → IsResolved rules rule.name rule.reading d
      → Certified d MOST_WORD ⊎ ((conflict : Conflict) × IsFirstConflict d MOST_WORD conflict)
  -- whether of two certified descriptions the new one takes the blocks of the old one, where the words are `compat`
  pub compared : (before after name : List ℕ) (reading : Reading) (was now : DescV)
      → IsCompat words before after name reading → Certified was MOST_WORD → Certified now MOST_WORD
      → Takes was now 0 0 [] ⊎ (¬ Takes was now 0 0 [])
  -- whether a text is that of a certificate, and whether this is good for the description, where the words are `verify`
  pub verified : (file name certificate : List ℕ) (reading : Reading) (d : DescV) (text : List ℕ)
      → IsVerify words file name reading certificate → files certificate ≡ Some text
      → (line : List ℕ) × (ended : Ended) × Verifies d text line ended

-- where the words ask for the certificate of a rule, and the rule has a certified description, this has a certificate
abbrev pub HasCertificate : List (List ℕ) → (List ℕ → Option (List ℕ)) → Type 0
HasCertificate words files =
    (file name text : List ℕ) (reading : Reading) (rules : RulesV) (d : DescV) → IsReport Certificate words file name reading
    → files file ≡ Some text → IsCompiled text name reading rules d → (written : List ℕ) × IsCertificateText d written

-- the words of a command have a result, where the files are there that a run comes to, and that is decided
abbrev pub RunsHaveResults : Type 0
RunsHaveResults =
    (words : List (List ℕ)) (files : List ℕ → Option (List ℕ)) (watchers : List Watched) (input : List ℕ)
    → IsCommand words → ((file : List ℕ) → ComesToFile words files file → IsSome (files file)) → IsDecided words files
    → HasCertificate words files → (written : List ℕ) × (ended : Ended) × Result words files watchers input written ended

-- a run has one result
abbrev pub RunsHaveOneResult : Type 0
RunsHaveOneResult =
    (words : List (List ℕ)) (files : List ℕ → Option (List ℕ)) (watchers : List Watched) (input written other : List ℕ)
    (ended end : Ended) → Result words files watchers input written ended → Result words files watchers input other end
    → (written ≡ other) × (ended ≡ end)

-- the pieces in which an input comes, and what of it is then left, do not matter: two runs of the same words over the same
-- files, watchers and input that come to their ends have written the same, and ended the same
abbrev pub PiecesDoNotMatter : Type 0
PiecesDoNotMatter =
    (words : List (List ℕ)) (files : List ℕ → Option (List ℕ)) (watchers : List Watched) (input : List ℕ)
    (left left' taken taken' sank sank' : Option (List ℕ)) (ended end : Ended)
    → (one : Passes (Some input) left taken taken' (λ given rest written. Result words files watchers (given ++ rest) written ended))
    → (other : Passes (Some input) left' sank sank' (λ given rest written. Result words files watchers (given ++ rest) written end))
    → (one.written ≡ other.written) × (ended ≡ end)
