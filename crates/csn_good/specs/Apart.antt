-- Facts on patterns that the private functions test for the rule of conflicts. No public contract cites these words.
use Rattle.std.specs.Prelude.{◌≡◌, ℕ, ◌<◌, ◌≤◌, ◌⊎◌, false, List, [], slice_get, Some, IsTrue}
use Rattle.csn_cert.specs.declared.pattern.Mark.{Mark}
use Rattle.csn_cert.specs.declared.pattern.Mark.TheVariants.{Any}
use Rattle.csn_cert.specs.PatternV.{PatternV}
use Rattle.csn_cert.specs.CertificateV.{NodeV}
use Rattle.csn_desc.specs.Nodes.{DescV}
use Rattle.csn_claims.specs.Ends.{ManyEnd}
use Rattle.csn_claims.specs.Conflicts.{IsNull}
use Rattle.csn_good.specs.ClaimedSets.{patterns_at, claims_of}

-- some bit is one of both marks
abbrev pub MarksMeet : Mark → Mark → Type 0
MarksMeet left right = ((left ≡ Any) ⊎ (right ≡ Any)) ⊎ (left ≡ right)

-- at each place that both patterns have
pub record PatternsMeet (left right : PatternV) : Type 0 where
  pub marks : (k : ℕ) (a b : Mark) → slice_get left.marks k ≡ Some a → slice_get right.marks k ≡ Some b → MarksMeet a b

-- some claimed pattern of the part meets this one; or one of another part
pub record SomeMeets (c : List NodeV) (part octet : ℕ) (p : PatternV) : Type 0 where
  pub place : ℕ
  pub pattern : PatternV
  pub at : slice_get (patterns_at c part octet) place ≡ Some pattern
  pub meets : PatternsMeet p pattern

pub record PartsMeet (c : List NodeV) (left right octet : ℕ) : Type 0 where
  pub place : ℕ
  pub pattern : PatternV
  pub at : slice_get (patterns_at c left octet) place ≡ Some pattern
  pub meets : SomeMeets c right octet pattern

-- some claimed pattern is empty
pub record HasEmpty (c : List NodeV) (i octet : ℕ) : Type 0 where
  pub place : ℕ
  pub pattern : PatternV
  pub at : slice_get (patterns_at c i octet) place ≡ Some pattern
  pub empty : pattern.marks ≡ []

-- the node is claimed to have bits, and no claimed pattern of it is empty
pub record IsFirmNode (c : List NodeV) (i : ℕ) : Type 0 where
  pub some_bits : (claims_of c).nullable i ≡ false
  pub no_empty : (octet : ℕ) → octet ≤ 7 → HasEmpty c i octet → ⊥

-- patterns of two parts meet at an octet position of node i
pub record Overlaps (c : List NodeV) (i left right : ℕ) : Type 0 where
  pub octet : ℕ
  pub low : octet ≤ 7
  pub begins : IsTrue ((claims_of c).reached i octet)
  pub meet : PartsMeet c left right octet

-- the part may begin with a bit that may follow node i
pub record ClashesAt (c : List NodeV) (i part octet : ℕ) : Type 0 where
  pub bit : ℕ
  pub one : bit ≤ 1
  pub starts : IsTrue ((claims_of c).starts part octet bit)
  pub follows : IsTrue ((claims_of c).follow i octet (Some bit))

pub record Clashes (c : List NodeV) (i part : ℕ) : Type 0 where
  pub octet : ℕ
  pub low : octet ≤ 7
  pub begins : IsTrue ((claims_of c).reached i octet)
  pub clash : ClashesAt c i part octet

-- where a turn of free repetition i may begin
pub record TurnsClash (c : List NodeV) (i part : ℕ) : Type 0 where
  pub octet : ℕ
  pub low : octet ≤ 7
  pub from : ℕ
  pub begin : from ≤ 7
  pub begins : IsTrue ((claims_of c).reached i from)
  pub turns : ManyEnd (claims_of c) part from octet
  pub clash : ClashesAt c i part octet

-- a bit may follow node i where it ends
pub record BitBehind (c : List NodeV) (i : ℕ) : Type 0 where
  pub from : ℕ
  pub begin : from ≤ 7
  pub octet : ℕ
  pub low : octet ≤ 7
  pub bit : ℕ
  pub one : bit ≤ 1
  pub ends : IsTrue ((claims_of c).ends i from octet)
  pub follows : IsTrue ((claims_of c).follow i octet (Some bit))

-- alternatives of choice i, the one before the other, leave it open in no place which is meant
pub record AreApart (d : DescV) (c : List NodeV) (i left right : ℕ) : Type 0 where
  pub one_null : IsNull d left → IsNull d right → ⊥
  pub right_of_null : IsNull d left → Clashes c i right → ⊥
  pub left_of_null : IsNull d right → Clashes c i left → ⊥
  pub both_firm : ¬ IsNull d left → ¬ IsNull d right → Overlaps c i left right → ⊥

-- the alternative takes no bits or is firm, and is apart from each later one
pub record IsApart (d : DescV) (c : List NodeV) (i : ℕ) (parts : List ℕ) (place part : ℕ) : Type 0 where
  pub firm : ¬ IsNull d part → IsFirmNode c part
  pub later : (k other : ℕ) → place < k → slice_get parts k ≡ Some other → AreApart d c i part other

abbrev pub EachApart : DescV → List NodeV → ℕ → List ℕ → Type 0
EachApart d c i parts = (place part : ℕ) → slice_get parts place ≡ Some part → IsApart d c i parts place part
