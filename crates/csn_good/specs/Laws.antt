-- Laws over the definitions.
use Rattle.std.specs.Prelude.{◌≡◌, ℕ, List, []}
use Rattle.csn_desc.specs.TreeV.{TreeV}
use Rattle.csn_desc.specs.Nodes.{DescV}
use Rattle.csn_desc.specs.Means.{NMeans}
use Rattle.csn_desc.specs.Formed.{IsDescription}
use Rattle.csn_cert.specs.declared.pattern.TheConstants.{MOST_MARKS}
use Rattle.csn_cert.specs.CertificateV.{NodeV}
use Rattle.csn_claims.specs.Holding.{Holds}
use Rattle.csn_good.specs.ClaimedSets.{claims_of}
use Rattle.csn_good.specs.Good.{Good, FirstFault}

-- what a good certificate claims holds of the description
abbrev pub GoodClaimsHold : Type 0
GoodClaimsHold = (d : DescV) (c : List NodeV) → IsDescription d → Good d c → Holds d MOST_MARKS (claims_of c)

-- where there is a good certificate, any bits have at most one tree
abbrev pub GoodLeavesOneTree : Type 0
GoodLeavesOneTree =
    (d : DescV) (c : List NodeV) (b : List ℕ) (t u : TreeV) → IsDescription d → Good d c
    → NMeans d 0 0 [] b t → NMeans d 0 0 [] b u
    → t ≡ u

-- a certificate has at most one first fault, and none where it is good
abbrev pub FirstFaultIsOne : Type 0
FirstFaultIsOne =
    (d : DescV) (c : List NodeV) (rule other_rule i other : ℕ) → FirstFault d c rule i → FirstFault d c other_rule other
    → (rule ≡ other_rule) × (i ≡ other)

abbrev pub GoodHasNoFault : Type 0
GoodHasNoFault = (d : DescV) (c : List NodeV) (rule i : ℕ) → Good d c → ¬ FirstFault d c rule i
