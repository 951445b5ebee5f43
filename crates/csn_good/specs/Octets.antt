-- Sets of octet positions, as the private functions keep them: for each octet position whether it is in the set. No
-- public contract cites these words.
use Rattle.std.specs.Prelude.{◌≡◌, ℕ, ⊤, ◌<◌, ◌≤◌, ◌↔◌, Bool, false, List, slice_get, Option, Some, None, IsTrue}
use Rattle.csn_desc.specs.declared.node.Count.{Count}
use Rattle.csn_desc.specs.declared.node.Count.TheVariants.{Fixed, Counted}
use Rattle.csn_desc.specs.declared.node.Node.{Node}
use Rattle.csn_desc.specs.declared.node.Node.TheVariants.{Lits, Spare, Pad, Null, Field, Rest, Seq, Choice, Times, Many, Trunc, Window, Named}
use Rattle.csn_claims.specs.Claims.{Claims}
use Rattle.csn_claims.specs.Ends.{TimesEnd, ManyEnd}

abbrev pub is_set : Option Bool → Bool
is_set None = false
is_set (Some set) = set

abbrev pub has_octet : List Bool → ℕ → Bool
has_octet has octet = is_set (slice_get has octet)

-- the set has the octet positions with the fact
abbrev pub OctetsAre : List Bool → (ℕ → Type 0) → Type 0
OctetsAre has P = (o : ℕ) → o ≤ 7 → IsTrue (has_octet has o) ↔ P o

-- the fact holds of some octet position of the set
pub record OfSome (has : List Bool) (P : ℕ → Type 0) : Type 0 where
  pub octet : ℕ
  pub small : octet ≤ 7
  pub there : IsTrue (has_octet has octet)
  pub fact : P octet

-- fewer than n times the part i may end there
pub record EndsFewer (claims : Claims) (n i o p : ℕ) : Type 0 where
  pub times : ℕ
  pub less : times < n
  pub ends : TimesEnd claims times i o p

-- each part is one of so many nodes
abbrev pub PartsWithin : List ℕ → ℕ → Type 0
PartsWithin parts count = (place part : ℕ) → slice_get parts place ≡ Some part → part < count

-- each part of the node is one of so many nodes
abbrev pub NodeWithin : Node → ℕ → Type 0
NodeWithin (Lits run) count = ⊤
NodeWithin (Spare symbol) count = ⊤
NodeWithin Pad count = ⊤
NodeWithin Null count = ⊤
NodeWithin (Seq parts) count = PartsWithin parts count
NodeWithin (Choice parts) count = PartsWithin parts count
NodeWithin (Times turns part) count = part < count
NodeWithin (Many part) count = part < count
NodeWithin (Trunc parts) count = PartsWithin parts count
NodeWithin (Window unit turns part) count = part < count
NodeWithin (Named label part) count = part < count
NodeWithin (Field unit turns) count = ⊤
NodeWithin Rest count = ⊤

-- some of the parts may end there
pub record SomeEnds (claims : Claims) (parts : List ℕ) (o p : ℕ) : Type 0 where
  pub place : ℕ
  pub part : ℕ
  pub at : slice_get parts place ≡ Some part
  pub ends : IsTrue (claims.ends part o p)

-- as many times the part i as a count has may end there: a constant number of times, and any where it is counted
abbrev pub TurnsEnd : Claims → Count → ℕ → ℕ → ℕ → Type 0
TurnsEnd claims (Fixed n) i o p = TimesEnd claims n i o p
TurnsEnd claims (Counted m field c) i o p = ManyEnd claims i o p

-- a turn of a repetition by number may begin there
abbrev pub TurnBegins : Claims → Count → ℕ → ℕ → ℕ → Type 0
TurnBegins claims (Fixed n) i o p = EndsFewer claims n i o p
TurnBegins claims (Counted m field c) i o p = ManyEnd claims i o p
