-- That a description says what a named rule says. (3GPP TS 24.007 Annex B has the bit strings of a rule; the
-- trees, and which bits can be followed, are this project's own choice.)
use Rattle.std.specs.Prelude.{◌≡◌, ◌↔◌, ℕ, List, [], Some}
use Rattle.csn_desc.specs.declared.reading.Reading.{Reading}
use Rattle.csn_desc.specs.TreeV.{TreeV}
use Rattle.csn_desc.specs.Nodes.{DescV}
use Rattle.csn_desc.specs.Means.{NMeans}
use Rattle.csn_desc.specs.Follows.{NFollow}
use Rattle.csn_grammar.specs.declared.rules.Rule.{Rule}
use Rattle.csn_grammar.specs.RulesV.{RulesV}
use Rattle.csn_grammar.specs.Names.{rule_of}
use Rattle.csn_grammar.specs.Meaning.{RuleMeans}
use Rattle.csn_grammar.specs.Follow.{RuleFollows}

-- from every place on, bits have the trees by the rule that they have by the root of the description, and the
-- rule follows those that the root follows
pub record SaysTheSame (rules : RulesV) (n : List ℕ) (r : Reading) (d : DescV) : Type 0 where
  pub means :
      (rule : Rule) → rule_of rules n ≡ Some rule → (o : ℕ) (b : List ℕ) (t : TreeV)
      → RuleMeans rules r rule o [] b t ↔ NMeans d 0 o [] b t
  pub follows :
      (rule : Rule) → rule_of rules n ≡ Some rule → (o : ℕ) (b : List ℕ)
      → RuleFollows rules r rule o [] b ↔ NFollow d 0 o [] b
