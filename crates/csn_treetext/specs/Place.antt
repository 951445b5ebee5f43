-- Texts of trees, and the place where bytes are none.
use Rattle.std.specs.Prelude.{◌≡◌, ℕ, ◌≤◌, ◌⊎◌, List, ◌++◌, length, take}
use Rattle.csn_desc.specs.TreeV.{TreeV}
use Rattle.csn_treetext.specs.declared.version.Version.{Version}
use Rattle.csn_treetext.specs.declared.version.Version.TheVariants.{First, Second}
use Rattle.csn_treetext.specs.declared.fault.TextFault.{TextFault}
use Rattle.csn_treetext.specs.declared.fault.TextFault.TheVariants.{Place, NoMemory}
use Rattle.csn_treetext.specs.Text.{text_of}
use Rattle.csn_desc.specs.TreeParts.{HasTreeParts}
use Rattle.csn_treetext.specs.Fits.{Fits}

-- these bytes are the text of the tree in a version
pub record IsTextOf (version : Version) (t : TreeV) (text : List ℕ) : Type 0 where
  pub fits : Fits t
  pub parts : HasTreeParts t
  pub spelled : text ≡ text_of version t

-- the bytes are the text of the tree, as it is written today
abbrev pub TreeText : TreeV → List ℕ → Type 0
TreeText = IsTextOf Second

-- the bytes are the text of the tree, as the first version wrote it
abbrev pub OldText : TreeV → List ℕ → Type 0
OldText = IsTextOf First

-- the bytes are the front of the text of some tree
abbrev pub BeginsText : Version → List ℕ → Type 0
BeginsText version front = (t : TreeV) × (more : List ℕ) × IsTextOf version t (front ++ more)

-- the bytes are the text of no tree, and the greatest place such that the bytes before it begin the text
-- of some tree is this one
pub record IsFaultPlace (version : Version) (text : List ℕ) (place : ℕ) : Type 0 where
  pub no_tree : (t : TreeV) → IsTextOf version t text → ⊥
  pub within : place ≤ length text
  pub begins : BeginsText version (take place text)
  pub greatest : (p : ℕ) → p ≤ length text → BeginsText version (take p text) → p ≤ place

-- the bytes are the text of a tree, or have a place where they are wrong
abbrev pub Decided : Version → List ℕ → Type 0
Decided version text = ((t : TreeV) × IsTextOf version t text) ⊎ ((place : ℕ) × IsFaultPlace version text place)

-- what a fault says of the bytes; want of memory says nothing of them
abbrev pub IsFaultOf : Version → List ℕ → TextFault → Type 0
IsFaultOf version text (Place place) = IsFaultPlace version text place
IsFaultOf version text NoMemory = Unit {0}
