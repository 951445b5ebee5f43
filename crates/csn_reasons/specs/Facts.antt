-- What is told of the nodes of a rule.
use Rattle.std.specs.Prelude.{◌≡◌, ℕ, ◌+◌, ◌⊎◌, List, [], ◌∷◌, ◌++◌, codes, length, take, slice_get, Option, Some, None}
use Rattle.std.specs.Fmt.{decimal}
use Rattle.csn_desc.specs.declared.reading.Reading.{Reading}
use Rattle.csn_desc.specs.declared.node.Node.{Node}
use Rattle.csn_desc.specs.Nodes.{DescV}
use Rattle.csn_grammar.specs.RulesV.{RulesV}
use Rattle.csn_grammar.specs.Place.{HasRules, IsSyntaxPlace}
use Rattle.csn_resolve.specs.declared.why.Why.{Why}
use Rattle.csn_resolve.specs.Resolved.{IsResolved, IsRefused}
use Rattle.csn_places.specs.declared.origin.Origin.{Origin}
use Rattle.csn_places.specs.Places.{ArePlaces}
use Rattle.csn_plan.specs.Compiled.{HasNoPlan}
use Rattle.csn_plan.specs.declared.ended.Ended.{Ended}
use Rattle.csn_plan.specs.declared.ended.Ended.TheVariants.{Done}
use Rattle.csn_reasons.specs.declared.facts.NodeFacts.{NodeFacts}
use Rattle.csn_reasons.specs.Kinds.{kind_of, kind_word}
use Rattle.csn_reasons.specs.Paths.{LeadsUp, path_of}
use Rattle.csn_reasons.specs.Spots.{IsSpot}

-- the rule of the text has this description, certified or not, and its nodes come from these places
pub record IsDescribed (text name : List ℕ) (reading : Reading) (d : DescV) (origins : List Origin) : Type 0 where
  pub rules : RulesV
  pub has_rules : HasRules text rules
  pub resolved : IsResolved rules name reading d
  pub places : ArePlaces rules name d origins
  pub all : length origins ≡ length d.nodes

-- the rule of the text has no nodes: the text has no rules, or they are refused
abbrev pub HasNoNodes : List ℕ → List ℕ → Reading → Type 0
HasNoNodes text name reading =
    ((place : ℕ) × IsSyntaxPlace text place)
    ⊎ ((rules : RulesV) × (why : Why) × (place : ℕ) × HasRules text rules × IsRefused rules name reading why place)

-- what is told of a node: the line and the column of its place, its kind, and the path of labels to it
pub record IsFacts (text : List ℕ) (nodes : List Node) (origins : List Origin) (i : ℕ) (told : NodeFacts) : Type 0 where
  pub node : Node
  pub here : slice_get nodes i ≡ Some node
  pub kind : told.kind ≡ kind_of node
  pub origin : Origin
  pub from : slice_get origins i ≡ Some origin
  pub spot : IsSpot (take origin.place text) told.spot.line told.spot.column
  pub up : List ℕ
  pub leads : LeadsUp nodes i up
  pub path : told.path.items ≡ path_of nodes None up

-- this is told of the first nodes, one behind the other
abbrev pub AreFacts : List ℕ → List Node → List Origin → List NodeFacts → Type 0
AreFacts text nodes origins facts =
    (i : ℕ) (told : NodeFacts) → slice_get facts i ≡ Some told → IsFacts text nodes origins i told

-- this is told of all nodes of the rule of the text, or nothing where it has none
pub data HasFacts (text name : List ℕ) (reading : Reading) (facts : List NodeFacts) : Type 0 where
  of_nodes : (d : DescV) (origins : List Origin) → IsDescribed text name reading d origins
      → length facts ≡ length d.nodes → AreFacts text d.nodes origins facts → HasFacts text name reading facts
  of_none : HasNoNodes text name reading → facts ≡ [] → HasFacts text name reading facts

-- how many bits a node has, if they are always as many
abbrev pub bits_text : Option ℕ → List ℕ
bits_text None = codes "-"
bits_text (Some bits) = decimal bits

-- the line of a node: number, `LINE:COLUMN`, kind, bits and path, with tabs between
abbrev pub node_line : ℕ → Option ℕ → NodeFacts → List ℕ
node_line i bits told =
    decimal i ++ 9 ∷ (decimal told.spot.line ++ 58 ∷ (decimal told.spot.column
    ++ 9 ∷ (kind_word told.kind ++ 9 ∷ (bits_text bits ++ 9 ∷ (told.path.items ++ 10 ∷ [])))))

-- the lines of nodes from this number on
abbrev pub node_lines : (ℕ → Option ℕ) → ℕ → List NodeFacts → List ℕ
node_lines bits i [] = []
node_lines bits i (told ∷ facts) = node_line i (bits i) told ++ node_lines bits (i + 1) facts

-- the lines of the nodes of the rule of the text, or the line that says why it has none. What `bits` are told of the
-- nodes is not said
pub data IsListing (text name : List ℕ) (reading : Reading) (lines : List ℕ) (ended : Ended) : Type 0 where
  lists_nodes : (bits : ℕ → Option ℕ) (d : DescV) (origins : List Origin) (facts : List NodeFacts)
      → IsDescribed text name reading d origins → length facts ≡ length d.nodes → AreFacts text d.nodes origins facts
      → lines ≡ node_lines bits 0 facts → ended ≡ Done → IsListing text name reading lines ended
  lists_reason : (line : List ℕ) → HasNoPlan text name reading line ended → lines ≡ line ++ 10 ∷ [] → IsListing text name reading lines ended
