-- The JSON value (RFC 8259) that shows a tree. 3GPP TS 24.007 Annex B says what bits mean and not how
-- values are shown: the form is this project's own, for programs that know nothing of it but JSON.
use Rattle.std.specs.Prelude.{◌≡◌, List, ℕ, codes}
use Rattle.csn_bits.specs.Line.{written}
use Rattle.csn_desc.specs.TreeV.{TreeV, empty, bits, row, alt, named, Trees, none, more}
use Rattle.csn_desc.specs.TreeParts.{HasTreeParts}
use Rattle.csn_treetext.specs.Fits.{Fits}
use Rattle.serde_json.specs.Data.{Data, null, number, string, array, object, unsigned, Items, no_items, item, no_members, member}

-- an object of two members: what stands under a key, and the value of a tree under `tree`
abbrev pub tagged : List ℕ → Data → Data → Data
tagged key of tree = object (member key of (member (codes "tree") tree no_members))

-- nothing is `null`, and bits are the string of their block line; a row is the array of its trees; an
-- alternative is an object with its number under `alt`, and a labelled part one with its label under
-- `label`
abbrev mutual
  pub json_of : TreeV → Data
  json_of empty = null
  json_of (bits b) = string (written b)
  json_of (row ts) = array (items_of ts)
  json_of (alt j t) = tagged (codes "alt") (number (unsigned j)) (json_of t)
  json_of (named l t) = tagged (codes "label") (string l) (json_of t)

  pub items_of : Trees → Items
  items_of none = no_items
  items_of (more t ts) = item (json_of t) (items_of ts)

-- the value shows the tree; the trees that are shown so are those that have a text
pub record JsonTree (t : TreeV) (value : Data) : Type 0 where
  pub fits : Fits t
  pub parts : HasTreeParts t
  pub shown : value ≡ json_of t
