-- Laws over the definitions.
use Rattle.std.specs.Prelude.{◌≡◌, ℕ, List, []}
use Rattle.csn_desc.specs.Nodes.{DescV}
use Rattle.csn_desc.specs.TreeV.{TreeV}
use Rattle.csn_desc.specs.Means.{NMeans}
use Rattle.csn_desc.specs.Formed.{IsDescription}
use Rattle.csn_compat.specs.Takes.{Takes}

-- each string of the old description, of any length, is one of the new description
abbrev pub TakesStrings : DescV → DescV → Type 0
TakesStrings was now = (b : List ℕ) (t : TreeV) → NMeans was 0 0 [] b t → (u : TreeV) × NMeans now 0 0 [] b u

-- it is so where the new root takes the old one
abbrev pub BlocksAreTaken : Type 0
BlocksAreTaken =
    (was now : DescV) → IsDescription was → IsDescription now → was.reading ≡ now.reading
    → Takes was now 0 0 []
    → TakesStrings was now
