-- JSON texts of trees, and bytes that are none. Which bytes are JSON, and which value they are, is what
-- the JSON library says: UTF-8, at most 127 arrays and objects in one another, each number within the
-- range of a float, and of the members of an object that share a key the last.
use Rattle.std.specs.Prelude.{◌≡◌, ◌⊎◌, Bool, true, List, [], ◌++◌, ℕ, Some, IsUtf8}
use Rattle.csn_desc.specs.TreeV.{TreeV, Trees, none, more}
use Rattle.csn_desc.specs.TreeParts.{HasTreeParts}
use Rattle.csn_treetext.specs.Fits.{Fits}
use Rattle.serde_json.specs.Data.{Data}
use Rattle.serde_json.specs.Read.{read}
use Rattle.serde_json.specs.Written.{compact_text, comma_if}
use Rattle.csn_json.specs.declared.fault.JsonFault.{JsonFault}
use Rattle.csn_json.specs.declared.fault.JsonFault.TheVariants.{NotJson, NotTree, NoMemory}
use Rattle.csn_json.specs.JsonTree.{JsonTree, json_of}

-- the bytes are this value
pub record IsJson (text : List ℕ) (value : Data) : Type 0 where
  pub utf8 : IsUtf8 text
  pub reads : read text ≡ Some value

-- the bytes are a value that shows the tree
abbrev pub JsonText : TreeV → List ℕ → Type 0
JsonText t text = (value : Data) × IsJson text value × JsonTree t value

-- the value of the tree with no space, and the members of each object in the order of their keys
abbrev pub json_text : TreeV → List ℕ
json_text t = compact_text (json_of t)

-- what is written for the trees of a row, with a comma between, and before the first where `later`
abbrev pub row_text : Bool → Trees → List ℕ
row_text later none = []
row_text later (more t ts) = comma_if later ++ (json_text t ++ row_text true ts)

-- the bytes are the one text that is written for the tree
pub record WrittenJson (t : TreeV) (text : List ℕ) : Type 0 where
  pub fits : Fits t
  pub parts : HasTreeParts t
  pub spelled : text ≡ json_text t

-- what a fault says of the bytes: they are no JSON, or a value that shows no tree; want of memory says
-- nothing of them
abbrev pub IsFaultOf : List ℕ → JsonFault → Type 0
IsFaultOf text NotJson = (value : Data) → IsJson text value → ⊥
IsFaultOf text NotTree = (value : Data) × IsJson text value × ((t : TreeV) → JsonTree t value → ⊥)
IsFaultOf text NoMemory = Unit {0}

-- the bytes show a tree, or are no JSON, or a value that shows none
abbrev pub Decided : List ℕ → Type 0
Decided text = ((t : TreeV) × JsonText t text) ⊎ (IsFaultOf text NotJson ⊎ IsFaultOf text NotTree)
