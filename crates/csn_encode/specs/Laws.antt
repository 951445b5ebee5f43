-- Laws over the definitions.
use Rattle.std.specs.Prelude.{◌≡◌, ℕ, ◌⊎◌, ◌↔◌, List, []}
use Rattle.csn_desc.specs.Nodes.{DescV}
use Rattle.csn_desc.specs.TreeV.{TreeV}
use Rattle.csn_desc.specs.TreeParts.{HasTreeParts}
use Rattle.csn_desc.specs.Values.{Values}
use Rattle.csn_desc.specs.Means.{NMeans}
use Rattle.csn_desc.specs.Formed.{IsDescription}
use Rattle.csn_certify.specs.Conflicts.{Certified}
use Rattle.csn_encode.specs.declared.misfit.MisfitWhy.{MisfitWhy}
use Rattle.csn_encode.specs.Misfits.{Misses, IsWithin, IsMisfit}
use Rattle.csn_encode.specs.Encoding.{IsBlockOf, HasNoMisfit}

abbrev pub OneBlock : Type 0
OneBlock =
    (d : DescV) (i o : ℕ) (v : Values) (b c : List ℕ) (t : TreeV)
    → NMeans d i o v b t → NMeans d i o v c t
    → b ≡ c

abbrev pub MisfitsHaveNoBits : Type 0
MisfitsHaveNoBits =
    (d : DescV) (i o : ℕ) (v : Values) (t : TreeV) (path : List ℕ) (why : MisfitWhy) (b : List ℕ)
    → Misses d i o v t path why → NMeans d i o v b t
    → ¬ IsWithin o b

abbrev pub FirstMisfitIsOne : Type 0
FirstMisfitIsOne =
    (d : DescV) (i o : ℕ) (v : Values) (t : TreeV) (path other : List ℕ) (why because : MisfitWhy)
    → Misses d i o v t path why → Misses d i o v t other because
    → (path ≡ other) × (why ≡ because)

-- a tree whose leaves are bits has a block, or a misfit
abbrev pub TreesFitOrMiss : Type 0
TreesFitOrMiss =
    (d : DescV) (t : TreeV) → IsDescription d → Certified d 12 → HasTreeParts t
    → ((b : List ℕ) × IsBlockOf d t b) ⊎ ((path : List ℕ) × (why : MisfitWhy) × IsMisfit d t path why)

-- a block has such a tree exactly where the tree has no misfit and no other block has it
abbrev pub BlocksHaveFittingTrees : Type 0
BlocksHaveFittingTrees =
    (d : DescV) (t : TreeV) (b : List ℕ) → IsDescription d → Certified d 12 → HasTreeParts t
    → IsBlockOf d t b ↔ (HasNoMisfit d t × ((c : List ℕ) → IsBlockOf d t c → c ≡ b))

-- the tree that is read from the block of a tree is this tree
abbrev pub TreesComeBack : Type 0
TreesComeBack =
    (d : DescV) (t u : TreeV) (b : List ℕ) → IsDescription d → Certified d 12 → IsBlockOf d t b
    → NMeans d 0 0 [] b u
    → u ≡ t

-- the block of the tree that is read from a block is this block, with its spare bits
abbrev pub BlocksComeBack : Type 0
BlocksComeBack =
    (d : DescV) (t : TreeV) (b c : List ℕ) → NMeans d 0 0 [] b t → IsBlockOf d t c
    → c ≡ b
