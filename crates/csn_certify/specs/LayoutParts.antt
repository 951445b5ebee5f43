-- How the strings of a node are laid out, told by what it consists of.
use Rattle.std.specs.Prelude.{◌≡◌, ℕ, ◌-◌, ◌^◌, ◌<◌, ◌≤◌, List, ◌∷◌, ◌++◌, length}
use Rattle.csn_bits.specs.Octets.{IsBits}
use Rattle.csn_bits.specs.Numbers.{low_bits}
use Rattle.csn_desc.specs.declared.node.Node.{Node}
use Rattle.csn_desc.specs.TreeV.{TreeV, Trees}
use Rattle.csn_desc.specs.Nodes.{DescV}
use Rattle.csn_desc.specs.Values.{Values}
use Rattle.csn_desc.specs.Means.{NodeMeans, PartsMean}
use Rattle.csn_desc.specs.Follows.{NodeFollows, PartsFollow}
use Rattle.csn_certify.specs.declared.layouts.Layout.{Layout}
use Rattle.csn_certify.specs.Layouts.{HasFront, HasLayout}

-- at most 56 bits, of which the first ones write the number
pub record IsShort (layout : Layout) : Type 0 where
  pub few : layout.width ≤ 56
  pub within : layout.fixed ≤ layout.width
  pub small : layout.number < 2 ^ layout.fixed

-- some bits more make a string of a node of this kind
pub record NodeBegins (d : DescV) (n : Node) (o : ℕ) (v : Values) (b : List ℕ) : Type 0 where
  pub rest : List ℕ
  pub tree : TreeV
  pub means : NodeMeans d n o v (b ++ rest) tree

-- the strings of a node of this kind are these bits with so many others behind them
pub record IsNodeLaid (d : DescV) (n : Node) (front : List ℕ) (others : ℕ) : Type 0 where
  pub string : (o : ℕ) (v : Values) (b : List ℕ) (t : TreeV) → NodeMeans d n o v b t → HasFront front others b
  pub means : (o : ℕ) (v : Values) (rest : List ℕ) → length rest ≡ others → IsBits rest → (t : TreeV) × NodeMeans d n o v (front ++ rest) t
  pub one_tree : (o : ℕ) (v : Values) (b : List ℕ) (s t : TreeV) → NodeMeans d n o v b s → NodeMeans d n o v b t → s ≡ t
  pub begins : (o : ℕ) (v : Values) (b : List ℕ) → NodeFollows d n o v b → NodeBegins d n o v b

-- and it has this layout
pub record HasNodeLayout (d : DescV) (n : Node) (layout : Layout) : Type 0 where
  pub short : IsShort layout
  pub laid : IsNodeLaid d n (low_bits layout.fixed layout.number) (layout.width - layout.fixed)

-- some bits more make strings of parts one after another
pub record PartsBegin (d : DescV) (parts : List ℕ) (o : ℕ) (v : Values) (b : List ℕ) : Type 0 where
  pub rest : List ℕ
  pub trees : Trees
  pub means : PartsMean d parts o v (b ++ rest) trees

-- the strings of parts one after another are these bits with so many others behind them
pub record ArePartsLaid (d : DescV) (parts : List ℕ) (front : List ℕ) (others : ℕ) : Type 0 where
  pub string : (o : ℕ) (v : Values) (b : List ℕ) (ts : Trees) → PartsMean d parts o v b ts → HasFront front others b
  pub means : (o : ℕ) (v : Values) (rest : List ℕ) → length rest ≡ others → IsBits rest → (ts : Trees) × PartsMean d parts o v (front ++ rest) ts
  pub one_row : (o : ℕ) (v : Values) (b : List ℕ) (ss ts : Trees) → PartsMean d parts o v b ss → PartsMean d parts o v b ts → ss ≡ ts
  pub begins : (o : ℕ) (v : Values) (b : List ℕ) → PartsFollow d parts o v b → PartsBegin d parts o v b

-- and they have this layout
pub record HavePartsLayout (d : DescV) (parts : List ℕ) (layout : Layout) : Type 0 where
  pub short : IsShort layout
  pub laid : ArePartsLaid d parts (low_bits layout.fixed layout.number) (layout.width - layout.fixed)

-- a layout is that of any node with the first one before any parts with the second one
abbrev pub IsJoined : Layout → Layout → Layout → Type 0
IsJoined first behind whole =
    (d : DescV) (i : ℕ) (parts : List ℕ) → HasLayout d i first → HavePartsLayout d parts behind
    → HavePartsLayout d (i ∷ parts) whole
