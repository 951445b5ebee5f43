-- Laws over the definitions.
use Rattle.std.specs.Prelude.{◌≡◌, ℕ, List, []}
use Rattle.csn_desc.specs.TreeV.{TreeV}
use Rattle.csn_desc.specs.Nodes.{DescV}
use Rattle.csn_desc.specs.Means.{NMeans}
use Rattle.csn_desc.specs.Formed.{IsDescription}
use Rattle.csn_claims.specs.Claims.{Claims}
use Rattle.csn_claims.specs.Holding.{Holds}

-- where some claims hold, any bits have at most one tree
abbrev pub HeldClaimsLeaveOneTree : Type 0
HeldClaimsLeaveOneTree =
    (d : DescV) (most : ℕ) (claims : Claims) (b : List ℕ) (t u : TreeV) → IsDescription d → Holds d most claims
    → NMeans d 0 0 [] b t → NMeans d 0 0 [] b u
    → t ≡ u
