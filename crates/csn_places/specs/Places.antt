-- Where the nodes of a description stand in the text of its rules.
use Rattle.std.specs.Prelude.{◌≡◌, ℕ, Bool, List, [], map, Some}
use Rattle.csn_desc.specs.Nodes.{DescV}
use Rattle.csn_grammar.specs.declared.rules.Rule.{Rule}
use Rattle.csn_grammar.specs.ExprV.{ExprV}
use Rattle.csn_grammar.specs.RulesV.{RulesV}
use Rattle.csn_grammar.specs.Names.{rule_of}
use Rattle.csn_resolve.specs.Gives.{Placed}
use Rattle.csn_resolve.specs.Resolved.{NameGives, IsResolved, nodes_of}
use Rattle.csn_places.specs.declared.origin.Origin.{Origin}
use Rattle.csn_places.specs.Origins.{Tells, rule_origins, named_at}

-- the places of nodes
abbrev pub places_of : List Placed → List ℕ
places_of nodes = map (λ p. p.place) nodes

-- each node of the description stands where csn_resolve says that the part begins which gives it
pub record ArePlaces (rules : RulesV) (n : List ℕ) (d : DescV) (origins : List Origin) : Type 0 where
  pub nodes : List Placed
  pub given : NameGives rules n d.reading nodes
  pub are : d.nodes ≡ nodes_of nodes
  pub stand : map (λ o. o.place) origins ≡ places_of nodes

-- these are the origins of what the asked rule says, with at most 64 names put in inside one another
pub record AreOrigins (rules : RulesV) (n : List ℕ) (d : DescV) (origins : List Origin) : Type 0 where
  pub void : ExprV → Bool
  pub told : Tells rules d.reading void
  pub rule : Rule
  pub found : rule_of rules n ≡ Some rule
  pub are : origins ≡ rule_origins d.reading void [] (named_at rules d.reading void 64 []) rule

-- the origins of a description that a named rule gives are where its nodes stand
abbrev pub OriginsArePlaces : Type 0
OriginsArePlaces =
    (rules : RulesV) (n : List ℕ) (d : DescV) (origins : List Origin) → IsResolved rules n d.reading d
    → AreOrigins rules n d origins → ArePlaces rules n d origins
