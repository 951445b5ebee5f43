-- Why and where a named rule is refused, and else the description that it gives, in one reading. The
-- refusals and their order are this project's own choice.
use Rattle.std.specs.Prelude.{◌≡◌, ℕ, List, [], ◌∷◌, ◌++◌, map, slice_get, Some, None}
use Rattle.csn_desc.specs.declared.reading.Reading.{Reading}
use Rattle.csn_desc.specs.declared.node.Node.{Node}
use Rattle.csn_desc.specs.Nodes.{DescV}
use Rattle.csn_grammar.specs.declared.rules.Rule.{Rule}
use Rattle.csn_grammar.specs.RulesV.{RulesV}
use Rattle.csn_grammar.specs.Names.{built_in_names, rule_of}
use Rattle.csn_resolve.specs.declared.why.Why.{Why}
use Rattle.csn_resolve.specs.declared.why.Why.TheVariants.{Undefined, DefinedTwice, TooManyVals}
use Rattle.csn_resolve.specs.Why.{Refusal}
use Rattle.csn_resolve.specs.Gives.{Placed, RuleGives}
use Rattle.csn_resolve.specs.Steps.{Step, refused, refused_if, refusals_after}
use Rattle.csn_resolve.specs.Walk.{is_among, outermost, PartLeft, RuleWalk}
use Rattle.csn_desc.specs.Overfull.{IsOverfull, IsFirstOverfull}

-- each rule that has one of the names `taken`, or that of an earlier rule
abbrev pub twice_steps : List (List ℕ) → RulesV → List Step
twice_steps taken [] = []
twice_steps taken (rule ∷ rules) =
    refused_if (is_among rule.name taken) DefinedTwice rule.span.start ++ twice_steps (rule.name ∷ taken) rules

-- the steps up to the end of the walk: the rules that are defined twice, the asked name, and the walk
-- through its rule
pub data ResolveSteps (rules : RulesV) (n : List ℕ) (r : Reading) : List Step → Type 0 where
  asked_unknown :
      {steps : List Step}
      → rule_of rules n ≡ None → steps ≡ twice_steps built_in_names rules ++ refused Undefined 0 ∷ []
      → ResolveSteps rules n r steps
  asked_rule :
      {steps walk left : List Step} (rule : Rule)
      → rule_of rules n ≡ Some rule → RuleWalk rules r (outermost n) rule walk → PartLeft rules r rule.body left
      → steps ≡ twice_steps built_in_names rules ++ (walk ++ left) → ResolveSteps rules n r steps

-- the nodes that the named rule gives
pub record NameGives (rules : RulesV) (n : List ℕ) (r : Reading) (nodes : List Placed) : Type 0 where
  pub rule : Rule
  pub found : rule_of rules n ≡ Some rule
  pub gives : RuleGives rules r rule 0 [] nodes

abbrev pub nodes_of : List Placed → List Node
nodes_of nodes = map (λ p. p.node) nodes

-- the refusals of a named rule up to the end of the walk, in their order
pub record AreRefusals (rules : RulesV) (n : List ℕ) (r : Reading) (refusals : List Refusal) : Type 0 where
  pub steps : List Step
  pub walked : ResolveSteps rules n r steps
  pub are : refusals ≡ refusals_after 0 steps

-- the named rule is refused, for this reason at this place: that of the first refusal. Last, where nothing
-- else is refused, stands the first field that is counted on and has 64 such fields before it
pub data IsRefused (rules : RulesV) (n : List ℕ) (r : Reading) (why : Why) (place : ℕ) : Type 0 where
  refused_on_walk :
      (others : List Refusal)
      → AreRefusals rules n r (record { why = why; place = place } ∷ others) → IsRefused rules n r why place
  refused_at_last :
      (nodes : List Placed) (i : ℕ) (field : Placed)
      → AreRefusals rules n r [] → NameGives rules n r nodes → IsFirstOverfull (nodes_of nodes) i
      → slice_get nodes i ≡ Some field → why ≡ TooManyVals → place ≡ field.place
      → IsRefused rules n r why place

-- the description of a named rule that is not refused
pub record IsResolved (rules : RulesV) (n : List ℕ) (r : Reading) (d : DescV) : Type 0 where
  pub accepted : AreRefusals rules n r []
  pub nodes : List Placed
  pub given : NameGives rules n r nodes
  pub not_overfull : (i : ℕ) → ¬ IsOverfull (nodes_of nodes) i
  pub is : d ≡ record { reading = r; nodes = nodes_of nodes }
