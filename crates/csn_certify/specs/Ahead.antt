-- What lies ahead of a node in a block: bits of the node, and then bits of which the first may stand behind it.
-- (This project's own choice.)
use Rattle.std.specs.Prelude.{◌≡◌, ℕ, ◌+◌, ◌%◌, List, ◌++◌, length}
use Rattle.csn_desc.specs.declared.node.Node.TheVariants.{Trunc}
use Rattle.csn_desc.specs.TreeV.{TreeV, row, Trees, more}
use Rattle.csn_desc.specs.Nodes.{DescV}
use Rattle.csn_desc.specs.Values.{Values, with_value}
use Rattle.csn_desc.specs.Means.{NMeans, NodeMeans}
use Rattle.csn_look.specs.Reached.{MayStandBehind}

module _ (d : DescV) where
  -- ahead of node i, which begins at the place o and sees the values v, lie bits that have the tree t there,
  -- and then others: none, or ones of which the first may stand behind the node
  pub record LiesAhead (i o : ℕ) (v : Values) (ahead : List ℕ) (t : TreeV) : Type 0 where
    pub own : List ℕ
    pub others : List ℕ
    pub split : ahead ≡ own ++ others
    pub means : NMeans d i o v own t
    pub behind : MayStandBehind d i ((o + length own) % 8) others

  -- the bits of a truncation's components from i on are bits of i, and then those of a truncation of the components
  -- behind it; and so are the trees
  pub record TakesComponent (i : ℕ) (after : List ℕ) (o : ℕ) (v : Values) (b : List ℕ) (ts : Trees) : Type 0 where
    pub first : List ℕ
    pub rest : List ℕ
    pub tree : TreeV
    pub trees : Trees
    pub split : b ≡ first ++ rest
    pub are : ts ≡ more tree trees
    pub taken : NMeans d i o v first tree
    pub left : NodeMeans d (Trunc after) (o + length first) (with_value d.nodes i first v) rest (row trees)
