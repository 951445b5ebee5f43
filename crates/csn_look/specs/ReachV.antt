-- Where all nodes of a description are reached and what may follow them, as contracts see it: sets of octet
-- positions for each node.
use Rattle.std.specs.Prelude.{◌≡◌, ℕ, ◌<◌, List, length, slice_get, Some, refl}
use Rattle.std.specs.Ordering.{nat_cmp}
use Rattle.std.specs.Coded.{Coded, code_by, coded×, coded_list}
use Rattle.std.specs.FinSet as set
use Rattle.csn_desc.specs.Nodes.{DescV}
use Rattle.csn_look.specs.declared.following.Following.{Following}
use Rattle.csn_look.specs.Told.{OctetsAre}
use Rattle.csn_look.specs.LookV.{set_code}
use Rattle.csn_look.specs.Reached.{Reached}

pub record ReachV : Type 0 where
  pub reached : List (set.FinSet nat_cmp)
  pub follow : List Following

-- what may follow a node, and the tables, are stored as their parts
abbrev pub following_code : Coded Following
following_code =
    code_by (set.FinSet nat_cmp × (set.FinSet nat_cmp × set.FinSet nat_cmp)) (coded× set_code (coded× set_code set_code))
    (λ f. (f.zero, (f.one, f.end))) (λ p. record { zero = p.0; one = p.1.0; end = p.1.1 }) (λ f. refl)

abbrev pub reach_code : Coded ReachV
reach_code =
    code_by (List (set.FinSet nat_cmp) × List Following) (coded× (coded_list set_code) (coded_list following_code))
    (λ r. (r.reached, r.follow)) (λ p. record { reached = p.0; follow = p.1 }) (λ r. refl)

-- the list has for node i the octet positions with the fact
abbrev pub HasAt : List (set.FinSet nat_cmp) → ℕ → (ℕ → Type 0) → Type 0
HasAt sets i P = (s : set.FinSet nat_cmp) × (slice_get sets i ≡ Some s) × OctetsAre s P

-- it has for each node where it is reached
pub record IsReachOf (d : DescV) (sets : List (set.FinSet nat_cmp)) : Type 0 where
  pub same : length sets ≡ length d.nodes
  pub reached : (i : ℕ) → i < length d.nodes → HasAt sets i (Reached d i)
