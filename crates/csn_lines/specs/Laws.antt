-- Laws over the definitions.
use Rattle.std.specs.Prelude.{◌≡◌, ◌↔◌, ℕ, List, ◌++◌, codes}
use Rattle.csn_desc.specs.declared.reading.Reading.{Reading}
use Rattle.csn_desc.specs.Nodes.{DescV}
use Rattle.csn_desc.specs.TreeV.{TreeV}
use Rattle.csn_grammar.specs.RulesV.{RulesV}
use Rattle.csn_treetext.specs.Place.{TreeText}
use Rattle.csn_json.specs.JsonText.{JsonText}
use Rattle.csn_json.specs.declared.form.TreeForm.{TreeForm}
use Rattle.csn_json.specs.declared.form.TreeForm.TheVariants.{Text, Json}
use Rattle.csn_plan.specs.Compiled.{IsCompiled}
use Rattle.csn_lines.specs.Jobs.{LineJob, DoesJob, HasPlans, Steps}
use Rattle.csn_lines.specs.Language.{Agree, of_plan, of_rule}
use Rattle.csn_lines.specs.LineState.{LineState}
use Rattle.csn_lines.specs.OutLine.{ShowsLine}
use Rattle.csn_lines.specs.Work.{LineWork, Gives}

-- each line has an answer, in each job whose rules have plans and each state
abbrev pub JobsHaveAnswers : Type 0
JobsHaveAnswers =
    (job : LineJob) → HasPlans job → (before : LineState) (line : List ℕ)
    → (text : List ℕ) × (after : LineState) × Steps job before line text after

-- it has one, and takes the state further in one way
abbrev pub JobsHaveOneAnswer : Type 0
JobsHaveOneAnswer =
    (job : LineJob) → HasPlans job → (before : LineState) (line text other : List ℕ) (after end : LineState)
    → Steps job before line text after → Steps job before line other end → (text ≡ other) × (after ≡ end)

-- a rule and its certified description are of one language
abbrev pub RulesAndPlansAgree : Type 0
RulesAndPlansAgree =
    (text name : List ℕ) (reading : Reading) (rules : RulesV) (d : DescV)
    → IsCompiled text name reading rules d → Agree (of_rule rules name reading) (of_plan d)

-- so a job gives by plans just what it gives by its rules
abbrev pub PlansDoJobs : Type 0
PlansDoJobs =
    (job : LineJob) (work : LineWork) → DoesJob job work → (before : LineState) (line text : List ℕ) (after : LineState)
    → Gives work before line text after ↔ Steps job before line text after

-- the line is answered by this text of a tree in a form
abbrev pub Tells : TreeForm → RulesV → List ℕ → Reading → List ℕ → List ℕ → Type 0
Tells form rules name reading line text = ShowsLine form (of_rule rules name reading) line (codes "ok " ++ text)

-- a line is answered by a tree in JSON exactly where it is answered by a tree as text
abbrev pub FormsAreShownTogether : Type 0
FormsAreShownTogether =
    (rules : RulesV) (name : List ℕ) (reading : Reading) (line : List ℕ)
    → ((text : List ℕ) × Tells Json rules name reading line text) ↔ ((text : List ℕ) × Tells Text rules name reading line text)

-- and both are of one tree, where the rule is certified
abbrev pub FormsShowOneTree : Type 0
FormsShowOneTree =
    (file : List ℕ) (rules : RulesV) (name : List ℕ) (reading : Reading) (d : DescV) (line text json : List ℕ)
    → IsCompiled file name reading rules d → Tells Text rules name reading line text → Tells Json rules name reading line json
    → (t : TreeV) × TreeText t text × JsonText t json
