-- What the private functions test for the rule of keys. No public contract cites these words.
use Rattle.std.specs.Prelude.{◌≡◌, ℕ, ◌≤◌, ⊤, List, slice_get, Some, IsTrue, Contains}
use Rattle.csn_desc.specs.declared.reading.Reading.{Reading}
use Rattle.csn_desc.specs.declared.node.Count.TheVariants.{Fixed}
use Rattle.csn_desc.specs.declared.node.Node.{Node}
use Rattle.csn_desc.specs.declared.node.Node.TheVariants.{Seq, Choice, Times, Named}
use Rattle.csn_cert.specs.PatternV.{PatternV}
use Rattle.csn_cert.specs.CertificateV.{NodeV}
use Rattle.csn_good.specs.ClaimedSets.{patterns_at, claims_of}
use Rattle.csn_good.specs.Patterns.{leaf_pattern, IsCovered}
use Rattle.csn_good.specs.Made.{MadeAt}

-- such a node: it has no parts, or is not looked into
abbrev pub IsLeaf : Node → Type 0
IsLeaf (Seq parts) = ⊥
IsLeaf (Choice parts) = ⊥
IsLeaf (Times (Fixed n) part) = ⊥
IsLeaf (Named label part) = ⊥
IsLeaf _ = ⊤

-- claimed patterns of node i at the octet position cover each of these
abbrev pub AreCovered : List NodeV → ℕ → ℕ → List PatternV → Type 0
AreCovered c i octet patterns = (p : PatternV) → Contains patterns p → IsCovered c i octet p

-- and at each octet position that it has those of a part, or of each part, those that are made, or that of a leaf
abbrev pub PartIsCovered : List NodeV → ℕ → ℕ → Type 0
PartIsCovered c i part = (o : ℕ) → o ≤ 7 → IsTrue ((claims_of c).reached i o) → AreCovered c i o (patterns_at c part o)

abbrev pub EachIsCovered : List NodeV → ℕ → List ℕ → Type 0
EachIsCovered c i parts = (place part : ℕ) → slice_get parts place ≡ Some part → PartIsCovered c i part

abbrev pub MadeIsCoveredAt : List NodeV → ℕ → List (List PatternV) → ℕ → Type 0
MadeIsCoveredAt c i made o =
    (p : PatternV) → IsTrue ((claims_of c).reached i o) → MadeAt made o p → IsCovered c i o p

abbrev pub MadeIsCovered : List NodeV → ℕ → List (List PatternV) → Type 0
MadeIsCovered c i made = (o : ℕ) → o ≤ 7 → MadeIsCoveredAt c i made o

abbrev pub LeafIsCovered : Reading → List NodeV → ℕ → Node → Type 0
LeafIsCovered reading c i n =
    (o : ℕ) → o ≤ 7 → IsTrue ((claims_of c).reached i o) → IsCovered c i o (leaf_pattern reading n o)
