-- The bit strings of a named rule, as 3GPP TS 24.007 Annex B has them, with their trees; and up to where the
-- bits of a block can be followed, which is this project's own choice.
use Rattle.std.specs.Prelude.{◌≡◌, ℕ, ◌≤◌, List, [], length, take, Some}
use Rattle.csn_desc.specs.declared.reading.Reading.{Reading}
use Rattle.csn_desc.specs.TreeV.{TreeV}
use Rattle.csn_grammar.specs.declared.rules.Rule.{Rule}
use Rattle.csn_grammar.specs.RulesV.{RulesV}
use Rattle.csn_grammar.specs.Names.{rule_of}
use Rattle.csn_grammar.specs.Meaning.{RuleMeans}
use Rattle.csn_grammar.specs.Follow.{RuleFollows}

-- the bits of a block have the tree t, by the rule with this name
abbrev pub Strings : RulesV → List ℕ → Reading → List ℕ → TreeV → Type 0
Strings rules n r b t = (rule : Rule) × (rule_of rules n ≡ Some rule) × RuleMeans rules r rule 0 [] b t

-- the bits can be followed from the beginning of a block, by the rule with this name
abbrev pub Followed : RulesV → List ℕ → Reading → List ℕ → Type 0
Followed rules n r b = (rule : Rule) × (rule_of rules n ≡ Some rule) × RuleFollows rules r rule 0 [] b

-- the place of a block: how many of its first bits can be followed, at most
pub record IsPlace (rules : RulesV) (n : List ℕ) (r : Reading) (b : List ℕ) (place : ℕ) : Type 0 where
  pub within : place ≤ length b
  pub followed : Followed rules n r (take place b)
  pub greatest : (many : ℕ) → many ≤ length b → Followed rules n r (take many b) → many ≤ place
