-- What the calls of C answer. (This project's own choice.)
use Rattle.std.specs.Prelude.{◌≡◌, ℕ, ◌≤◌, List, length, Option, Some, Result, Err, IfOk, IfErr}
use Rattle.csn_desc.specs.declared.reading.Reading.{Reading}
use Rattle.csn_desc.specs.Nodes.{DescV}
use Rattle.csn_bits.specs.declared.fault.NoMemory.{NoMemory}
use Rattle.csn_certify.specs.Plans.{HasOneTree}
use Rattle.csn_grammar.specs.RulesV.{RulesV}
use Rattle.csn_json.specs.declared.form.TreeForm.{TreeForm}
use Rattle.csn_judge.specs.declared.verdict.Judged.{Judged}
use Rattle.csn_judge.specs.Blocks.{IsJudged}
use Rattle.csn_movetext.specs.declared.fault.BlockFault.{BlockFault}
use Rattle.csn_movetext.specs.Blocks.{IsFaultOf}
use Rattle.csn_plan.specs.Compiled.{IsCompiled}
use Rattle.csn_rule.specs.declared.fault.NoRule.{NoRule}
use Rattle.csn_rule.specs.declared.fault.NoBlock.{NoBlock}
use Rattle.csn_rule.specs.declared.fault.NoBlock.TheVariants.{Misfit}
use Rattle.csn_rule.specs.declared.shape.NodeShape.{NodeShape}
use Rattle.csn_rule.specs.Blocks.{Measures, Shows, Writes}
use Rattle.csn_rule.specs.Buffers.{copied}
use Rattle.csn_rule.specs.declared.event.FlatEvent.{FlatEvent}
use Rattle.csn_rule.specs.declared.rule.Told.{Told}
use Rattle.csn_rule.specs.FlatEvents.{TellsBlock}
use Rattle.csn_rule.specs.Labels.{HasLabel}
use Rattle.csn_rule.specs.Refusals.{IsNoRule, IsNoBlock}
use Rattle.csn_rule.specs.Shapes.{HasShape}
use Rattle.csn_c.specs.declared.status.Why.{Why}
use Rattle.csn_c.specs.declared.status.TheConstants.{OK, NO_LABEL, NO_NODE}
use Rattle.csn_c.specs.Statuses.{IsNoRuleStatus, IsJudgedStatus, IsShownStatus, IsToldStatus, IsWrittenStatus}

-- a certified description of the named rule of a text, by which any bits have at most one tree
pub record IsRule (text name : List ℕ) (reading : Reading) (d : DescV) : Type 0 where
  pub rules : RulesV
  pub compiled : IsCompiled text name reading rules d
  pub one_tree : HasOneTree d

-- the handle holds the rule
abbrev pub Holds : List ℕ → List ℕ → Reading → Option DescV → Type 0
Holds text name reading held = (d : DescV) × (held ≡ Some d) × IsRule text name reading d

-- the status and what it tells say why the named rule of a text is not compiled
pub record TellsWhy (text name : List ℕ) (reading : Reading) (status : ℕ) (old new : Why) : Type 0 where
  pub no_rule : NoRule
  pub is : IsNoRule text name reading no_rule
  pub told : IsNoRuleStatus no_rule status old new

-- a block is judged by a description: the status tells what it comes to, and where it is refused the number its place
pub record JudgesTo (d : DescV) (block : List ℕ) (status old new : ℕ) : Type 0 where
  pub judged : Judged
  pub is : IsJudged d block judged
  pub told : IsJudgedStatus judged status old new

-- the events of a block are told by a description: they stand in the array, and the status tells how the block ends; or
-- memory is wanting
pub record TellsTo (d : DescV) (block : List ℕ) (before after : List FlatEvent) (status count_before count old new : ℕ) : Type 0 where
  pub told : Result Told NoMemory
  pub tells : IfOk told (λ t. TellsBlock d block t.ended t.count before after)
  pub is : IsToldStatus told status count_before count old new

-- a block is shown by a description in a form: its text stands in the buffer, or the status tells why not
pub record ShowsTo (form : TreeForm) (d : DescV) (block before after : List ℕ) (status old new : ℕ) : Type 0 where
  pub shown : Result ℕ BlockFault
  pub shows : IfOk shown (λ count. Shows form d block count before after)
  pub why : IfErr shown (IsFaultOf d block)
  pub told : IsShownStatus shown status old new

-- the block of the tree that bytes are in a form stands in the buffer, or the status tells why not
pub record WritesTo (form : TreeForm) (d : DescV) (bytes before after : List ℕ) (status old new : ℕ) : Type 0 where
  pub written : Result ℕ NoBlock
  pub writes : IfOk written (λ count. Writes form d bytes count before after)
  pub why : IfErr written (IsNoBlock form d bytes)
  pub told : IsWrittenStatus written status old new

-- the path of a misfit stands in the array as far as there was room, and has so many steps; where there is none, nothing is
-- told
abbrev pub TellsPath : Result ℕ NoBlock → (before after : List ℕ) (count_before count : ℕ) → Type 0
TellsPath (Err (Misfit misfit)) before after count_before count =
    (after ≡ copied misfit.path before) × (count ≡ length misfit.path)
TellsPath _ before after count_before count = (after ≡ before) × (count ≡ count_before)

-- the block of the tree that bytes are in a form has so many bits; or the status tells why there is none, and where the tree
-- misses the description the array the path there
pub record MissesTo (form : TreeForm) (d : DescV) (bytes before after : List ℕ) (status count_before count old new : ℕ) : Type 0 where
  pub measured : Result ℕ NoBlock
  pub measures : IfOk measured (Measures form d bytes)
  pub why : IfErr measured (IsNoBlock form d bytes)
  pub path : TellsPath measured before after count_before count
  pub told : IsWrittenStatus measured status old new

-- a node is this; or there is no such node
pub data ShapesTo (d : DescV) (node status : ℕ) (shape : NodeShape) : Type 0 where
  shaped : HasShape d node shape → status ≡ OK → ShapesTo d node status shape
  no_node : length d.nodes ≤ node → status ≡ NO_NODE → ShapesTo d node status shape

-- the label of a node stands in the buffer as far as there was room, and has so many bytes; or the node has none
pub data LabelsTo (d : DescV) (node : ℕ) (before after : List ℕ) (status count : ℕ) : Type 0 where
  labelled : (label : List ℕ) → HasLabel d node label → status ≡ OK → count ≡ length label → after ≡ copied label before
      → LabelsTo d node before after status count
  no_label : ((label : List ℕ) → ¬ HasLabel d node label) → status ≡ NO_LABEL → LabelsTo d node before after status count
