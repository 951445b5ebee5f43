-- Nodes whose strings have as many bits each, of which the first ones are the same in all and the others any: all bits of
-- such a node can be read at once. (This project's own choice.)
use Rattle.std.specs.Prelude.{◌≡◌, ℕ, ◌-◌, ◌^◌, ◌<◌, ◌≤◌, false, List, ◌++◌, length, slice_get, Option, Some}
use Rattle.csn_bits.specs.Octets.{IsBits}
use Rattle.csn_bits.specs.Numbers.{low_bits}
use Rattle.csn_desc.specs.TreeV.{TreeV}
use Rattle.csn_desc.specs.Nodes.{DescV}
use Rattle.csn_desc.specs.Values.{Values}
use Rattle.csn_desc.specs.Formed.{is_counted}
use Rattle.csn_desc.specs.Means.{NMeans}
use Rattle.csn_desc.specs.Follows.{NFollow}
use Rattle.csn_certify.specs.declared.layouts.Layout.{Layout}

-- bits that begin with some, with so many others behind these
pub record HasFront (front : List ℕ) (others : ℕ) (b : List ℕ) : Type 0 where
  pub rest : List ℕ
  pub cut : b ≡ front ++ rest
  pub count : length rest ≡ others

-- some bits more make a string of the node
pub record BeginsString (d : DescV) (i o : ℕ) (v : Values) (b : List ℕ) : Type 0 where
  pub rest : List ℕ
  pub tree : TreeV
  pub means : NMeans d i o v (b ++ rest) tree

-- the strings of node i are these bits with so many others behind them, whatever they are, wherever it stands; each has
-- one tree; what can be followed begins one; and no counts stand on the node
pub record IsLaid (d : DescV) (i : ℕ) (front : List ℕ) (others : ℕ) : Type 0 where
  pub string : (o : ℕ) (v : Values) (b : List ℕ) (t : TreeV) → NMeans d i o v b t → HasFront front others b
  pub means : (o : ℕ) (v : Values) (rest : List ℕ) → length rest ≡ others → IsBits rest → (t : TreeV) × NMeans d i o v (front ++ rest) t
  pub one_tree : (o : ℕ) (v : Values) (b : List ℕ) (s t : TreeV) → NMeans d i o v b s → NMeans d i o v b t → s ≡ t
  pub begins : (o : ℕ) (v : Values) (b : List ℕ) → NFollow d i o v b → BeginsString d i o v b
  pub plain : is_counted d.nodes i ≡ false

-- a node is laid out so, with at most 56 bits
pub record HasLayout (d : DescV) (i : ℕ) (layout : Layout) : Type 0 where
  pub few : layout.width ≤ 56
  pub within : layout.fixed ≤ layout.width
  pub small : layout.number < 2 ^ layout.fixed
  pub laid : IsLaid d i (low_bits layout.fixed layout.number) (layout.width - layout.fixed)

-- the layouts of the nodes of a description, where they have one
pub record AreLayouts (d : DescV) (layouts : List (Option Layout)) : Type 0 where
  pub many : length layouts ≡ length d.nodes
  pub each : (i : ℕ) (layout : Layout) → slice_get layouts i ≡ Some (Some layout) → HasLayout d i layout
