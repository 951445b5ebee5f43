-- What the private parts of the reader say. No public contract rests on it.
use Rattle.std.specs.Prelude.{◌≡◌, ℕ, ◌<◌, ◌≤◌, List, length, codes}
use Rattle.csn_bits.specs.Octets.{IsBits, most_bits}
use Rattle.csn_bits.specs.Line.{written}
use Rattle.csn_desc.specs.Label.{IsLabel}
use Rattle.csn_desc.specs.TreeV.{TreeV, Trees, alt, named}
use Rattle.csn_desc.specs.TreeParts.{HasTreeParts, AllHaveTreeParts}
use Rattle.csn_desc.specs.declared.desc.TheConstants.{MOST_NODES}
use Rattle.csn_treetext.specs.Fits.{FitsInside, AllFitInside}
use Rattle.serde_json.specs.Data.{Data, number, string, unsigned, Items}
use Rattle.csn_json.specs.declared.fault.JsonFault.{JsonFault}
use Rattle.csn_json.specs.declared.fault.JsonFault.TheVariants.{NotJson, NotTree, NoMemory}
use Rattle.csn_json.specs.declared.tag.Tag.{Tag}
use Rattle.csn_json.specs.declared.tag.Tag.TheVariants.{Numbered, Labelled}
use Rattle.csn_json.specs.JsonTree.{json_of, items_of}

-- the line is the one that is written for the bits of a block
pub record IsWritten (line bits : List ℕ) : Type 0 where
  pub zeros_and_ones : IsBits bits
  pub few : length bits ≤ most_bits
  pub spelled : line ≡ written bits

-- the value shows the tree, with so many levels round it
pub record IsShown (round : ℕ) (value : Data) (t : TreeV) : Type 0 where
  pub fits : FitsInside round t
  pub parts : HasTreeParts t
  pub shown : value ≡ json_of t

-- the values show the trees of a row, with so many levels round each
pub record AreShown (round : ℕ) (values : Items) (ts : Trees) : Type 0 where
  pub fits : AllFitInside round ts
  pub parts : AllHaveTreeParts ts
  pub shown : values ≡ items_of ts

-- the value under the key is a number that an alternative can have, or a label
abbrev pub IsTag : List ℕ → Data → Tag → Type 0
IsTag key of (Numbered j) = (key ≡ codes "alt") × (j < MOST_NODES) × (of ≡ number (unsigned j))
IsTag key of (Labelled l) = (key ≡ codes "label") × IsLabel l × (of ≡ string l)

-- the tree with this tag, whose other part is the tree
abbrev pub with_tag : Tag → TreeV → TreeV
with_tag (Numbered j) t = alt j t
with_tag (Labelled l) t = named l t

-- a refusal says that there is nothing of the kind that was looked for; want of memory says nothing, and
-- a value is JSON
abbrev pub Refuses : JsonFault → Type 0 → Type 0
Refuses NotJson nothing = ⊥
Refuses NotTree nothing = nothing
Refuses NoMemory nothing = Unit {0}
