-- What is to stand behind the parts of a node, as the private functions tell it. No public contract cites these words.
use Rattle.std.specs.Prelude.{◌≡◌, ℕ, zero, suc, ◌≤◌, ◌⊎◌, Bool, true, false, List, ◌∷◌, ◌++◌, Option, IsTrue}
use Rattle.csn_desc.specs.declared.node.Node.{Node}
use Rattle.csn_desc.specs.declared.node.Node.TheVariants.{Seq, Trunc}
use Rattle.csn_desc.specs.Nodes.{parts_of}
use Rattle.csn_claims.specs.Claims.{Claims}
use Rattle.csn_claims.specs.Reached.{PartFollow}
use Rattle.csn_good.specs.declared.tail.Tail.{Tail}
use Rattle.csn_good.specs.declared.following.Around.{Around}
use Rattle.csn_good.specs.declared.following.Around.TheVariants.{Later, Again, Alone, Closed}
use Rattle.csn_good.specs.Signs.{sign_of}
use Rattle.csn_good.specs.Tails.{tail_has}

-- the later parts, or the part itself, may begin with the sign
abbrev pub TailStarts : Tail → ℕ → ℕ → Type 0
TailStarts tail octet zero = IsTrue (tail_has tail octet 0)
TailStarts tail octet (suc zero) = IsTrue (tail_has tail octet 1)
TailStarts tail octet (suc (suc sign)) = ⊥

abbrev pub PartStarts : Claims → ℕ → ℕ → ℕ → Type 0
PartStarts claims part octet zero = IsTrue (claims.starts part octet 0)
PartStarts claims part octet (suc zero) = IsTrue (claims.starts part octet 1)
PartStarts claims part octet (suc (suc sign)) = ⊥

-- the sign may stand behind a part of node k
abbrev pub Wants : Claims → ℕ → ℕ → Around → ℕ → ℕ → Type 0
Wants claims k part (Later tail ends_early) octet sign =
    TailStarts tail octet sign
    ⊎ ((IsTrue tail.nullable ⊎ IsTrue ends_early) × IsTrue (claims.follow k octet (sign_of sign)))
Wants claims k part Again octet sign = PartStarts claims part octet sign ⊎ IsTrue (claims.follow k octet (sign_of sign))
Wants claims k part Alone octet sign = IsTrue (claims.follow k octet (sign_of sign))
Wants claims k part Closed octet sign = sign ≡ 2

-- node i may end there
abbrev pub MayEnd : Claims → ℕ → ℕ → Type 0
MayEnd claims i end = (from : ℕ) × (from ≤ 7) × IsTrue (claims.ends i from end)

-- the part has, where it may end, each sign that may stand behind it
abbrev pub HasWanted : Claims → ℕ → ℕ → Around → Type 0
HasWanted claims k part around =
    (o sign : ℕ) → o ≤ 7 → sign ≤ 2 → MayEnd claims part o → Wants claims k part around o sign
    → IsTrue (claims.follow part o (sign_of sign))

-- and so do all parts of the node
abbrev pub PartsHave : Claims → ℕ → Node → Type 0
PartsHave claims k n =
    (i from o : ℕ) (sign : Option ℕ) (before after : List ℕ) → parts_of n ≡ before ++ i ∷ after
    → IsTrue (claims.reached i from) → IsTrue (claims.ends i from o) → PartFollow claims n k after i o sign
    → IsTrue (claims.follow i o sign)

-- a sequence, or a truncation where the parts may end early
abbrev pub ordered : Bool → List ℕ → Node
ordered false parts = Seq parts
ordered true parts = Trunc parts
