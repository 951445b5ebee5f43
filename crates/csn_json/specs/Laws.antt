-- Laws over JSON texts of trees.
use Rattle.std.specs.Prelude.{◌≡◌, ◌↔◌, ℕ, false, List, ◌++◌, codes}
use Rattle.std.specs.Fmt.{decimal}
use Rattle.csn_bits.specs.Octets.{IsBits}
use Rattle.csn_bits.specs.Line.{written}
use Rattle.csn_desc.specs.Label.{IsLabel}
use Rattle.csn_desc.specs.TreeV.{TreeV, bits, row, alt, named, Trees}
use Rattle.serde_json.specs.Data.{Data}
use Rattle.csn_json.specs.declared.fault.JsonFault.{JsonFault}
use Rattle.csn_json.specs.declared.fault.JsonFault.TheVariants.{NoMemory}
use Rattle.csn_treetext.specs.Place.{TreeText}
use Rattle.csn_json.specs.JsonTree.{JsonTree}
use Rattle.csn_json.specs.JsonText.{JsonText, WrittenJson, IsFaultOf, Decided, json_text, row_text}

-- one value shows a tree
abbrev pub TreesHaveOneValue : Type 0
TreesHaveOneValue = (t : TreeV) (a b : Data) → JsonTree t a → JsonTree t b → a ≡ b

-- a value shows one tree
abbrev pub ValuesHaveOneTree : Type 0
ValuesHaveOneTree = (t u : TreeV) (value : Data) → JsonTree t value → JsonTree u value → t ≡ u

-- bytes show one tree
abbrev pub TextsHaveOneTree : Type 0
TextsHaveOneTree = (t u : TreeV) (text : List ℕ) → JsonText t text → JsonText u text → t ≡ u

-- bytes that show a tree are refused for want of memory alone
abbrev pub TextsAreNotRefused : Type 0
TextsAreNotRefused = (t : TreeV) (text : List ℕ) (fault : JsonFault) → JsonText t text → IsFaultOf text fault → fault ≡ NoMemory

-- all bytes show a tree, or are refused as no JSON or as no tree
abbrev pub TextsAreDecided : Type 0
TextsAreDecided = (text : List ℕ) → Decided text

-- what is written for a tree shows it
abbrev pub WrittenIsShown : Type 0
WrittenIsShown = (t : TreeV) (text : List ℕ) → WrittenJson t text → JsonText t text

-- a tree has a JSON value exactly where it has a text of the plain form
abbrev pub TreeTextsShareTrees : Type 0
TreeTextsShareTrees = (t : TreeV) → ((value : Data) × JsonTree t value) ↔ ((text : List ℕ) × TreeText t text)

-- what is written for a tree, by what is written for the trees in it: block lines and labels stand in their quotes as
-- they are
pub record TextsAreJoined : Type 0 where
  pub leaf : (b : List ℕ) → IsBits b → json_text (bits b) ≡ codes "\"" ++ (written b ++ codes "\"")
  pub rows : (ts : Trees) → json_text (row ts) ≡ codes "[" ++ (row_text false ts ++ codes "]")
  pub alternative :
      (j : ℕ) (t : TreeV)
      → json_text (alt j t) ≡ codes "{\"alt\":" ++ (decimal j ++ (codes ",\"tree\":" ++ (json_text t ++ codes "}")))
  pub labelled :
      (l : List ℕ) (t : TreeV) → IsLabel l
      → json_text (named l t) ≡ codes "{\"label\":\"" ++ (l ++ (codes "\",\"tree\":" ++ (json_text t ++ codes "}")))
