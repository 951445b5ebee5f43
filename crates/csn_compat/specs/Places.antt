-- How far the parts of two nodes are compared, and which pairs are kept by then.
use Rattle.std.specs.Prelude.{◌≡◌, ℕ, zero, suc, ◌<◌, ◌≤◌, ◌⊎◌, List, length, get_or, slice_get, Some, count_by}
use Rattle.csn_desc.specs.declared.node.Node.{Node}
use Rattle.csn_desc.specs.declared.node.Node.TheVariants.{Seq, Trunc}
use Rattle.csn_desc.specs.Nodes.{DescV}
use Rattle.csn_desc.specs.Formed.{Formed, is_counted}
use Rattle.csn_compat.specs.declared.pairs.Pair.{Pair}
use Rattle.csn_compat.specs.Pairs.{with_kept}
use Rattle.csn_compat.specs.Takes.{IsAnyBits, Takes}

-- the pairs that are kept behind the first k parts
abbrev pub pairs_behind : DescV → DescV → List ℕ → List ℕ → List Pair → ℕ → List Pair
pairs_behind was now parts others pairs zero = pairs
pairs_behind was now parts others pairs (suc k) =
    with_kept was now (get_or parts k 0) (get_or others k 0) (pairs_behind was now parts others pairs k)

-- the first k parts are taken by those at their places
abbrev pub FirstTaken : DescV → DescV → List ℕ → List ℕ → List Pair → ℕ → Type 0
FirstTaken was now parts others pairs k =
    (m p q : ℕ) → m < k → slice_get parts m ≡ Some p → slice_get others m ≡ Some q
    → Takes was now p q (pairs_behind was now parts others pairs m)

-- the part p and those behind it are taken by the last new part q, where that is any bits, or p is the last one too
abbrev pub LastTaken : DescV → DescV → List ℕ → List ℕ → List Pair → Type 0
LastTaken was now parts others pairs =
    (k p q : ℕ) → suc k ≡ length others → slice_get parts k ≡ Some p → slice_get others k ≡ Some q
    → IsAnyBits now q ⊎ ((length parts ≡ length others) × Takes was now p q pairs)

-- these are the parts of node i, and the later ones see the earlier ones
abbrev pub AreShown : List Node → ℕ → List ℕ → Type 0
AreShown nodes i parts = (slice_get nodes i ≡ Some (Seq parts)) ⊎ (slice_get nodes i ≡ Some (Trunc parts))

-- there are at most as many pairs as node i sees fields that counts stand on
pub record HasRoom (nodes : List Node) (pairs : List Pair) (i : ℕ) : Type 0 where
  pub seen : List ℕ
  pub round : ℕ
  pub formed : Formed nodes seen round i
  pub few : length pairs ≤ count_by (is_counted nodes) seen
