-- How the sets of the program tell the sets that are defined here.
use Rattle.std.specs.Prelude.{◌≡◌, ℕ, ◌≤◌, ◌↔◌, List, slice_get, Option, IsTrue, IsSomeAnd}
use Rattle.std.specs.Ordering.{nat_cmp}
use Rattle.std.specs.FinSet as set
use Rattle.csn_look.specs.declared.symbol_set.Sign.{Sign}
use Rattle.csn_look.specs.SignsV.{SignsV}
use Rattle.csn_look.specs.Signs.{has_sign, bit_of_sign}

-- the octet positions in the set are those with the fact
abbrev pub OctetsAre : set.FinSet nat_cmp → (ℕ → Type 0) → Type 0
OctetsAre octets P = (o : ℕ) → o ≤ 7 → IsTrue (set.contains octets o) ↔ P o

-- the signs in the set are those that stand for what has the fact
abbrev pub SignsAre : SignsV → (Option ℕ → Type 0) → Type 0
SignsAre signs P = (sign : Sign) → IsTrue (has_sign signs sign) ↔ P (bit_of_sign sign)

-- by the eight sets this may follow a part that ends at the octet position
abbrev pub FollowHas : List SignsV → ℕ → Option ℕ → Type 0
FollowHas sets o next = (sign : Sign) × (next ≡ bit_of_sign sign) × IsSomeAnd (slice_get sets o) (λ signs. IsTrue (has_sign signs sign))
