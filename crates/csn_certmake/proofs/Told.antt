-- What is claimed of what look-ahead knows is so.
use Rattle.std.proofs.Common.{◌≡◌, ℕ, zero, suc, ◌+◌, ◌*◌, ◌<◌, ◌≤◌, List, length, refl, sym, subst, arith, Option, Some, None, slice_get}
use Rattle.std.specs.Prelude.{IsTrue, is_some, nat_le}
use Rattle.std.proofs.lemmas.Bool.Decides.{nat_tests}
use Rattle.std.proofs.lemmas.Option.{slice_get_within}
use Rattle.csn_desc.specs.declared.node.Node.{Node}
use Rattle.csn_desc.specs.Nodes.{DescV}
use Rattle.csn_cert.specs.CertificateV.{NodeV, PositionV}
use Rattle.csn_cert.specs.Growing.{claimed_of, claimed}
use Rattle.csn_look.specs.declared.symbol_set.Sign.{Sign}
use Rattle.csn_look.specs.declared.symbol_set.Sign.TheVariants.{Zero, One, End}
use Rattle.csn_look.specs.Signs.{bit_of_sign}
use Rattle.csn_look.specs.Nullable.{Nullable}
use Rattle.csn_look.specs.Ends.{InEnds}
use Rattle.csn_look.specs.Starts.{InStart}
use Rattle.csn_look.specs.Reached.{Reached, InFollow}
use Rattle.csn_good.specs.ClaimedSets.{has_digit, is_nullable, ends_at, starts_with, follow_digit, followed_by, claims_of}
use Rattle.csn_good.proofs.Digits.{digit_within}
use Rattle.csn_good.proofs.Denoting.{both_true}
use Rattle.csn_good.proofs.SetArms.{reached_small}
use Rattle.csn_certmake.specs.Claimed.{ClaimsLookAhead}
use Rattle.csn_certmake.proofs.Members.{item_at}

-- ---- what claims are of

claimed_node : (n : Option NodeV) (o : ℕ) → IsTrue (is_some (claimed_of n o)) → (m : NodeV) × (n ≡ Some m)
claimed_node None o holds = absurd (cc)
claimed_node (Some m) o holds = (m, refl)

nullable_node : (n : Option NodeV) → IsTrue (is_nullable n) → (m : NodeV) × (n ≡ Some m)
nullable_node None holds = absurd (cc)
nullable_node (Some m) holds = (m, refl)

followed_node : (n : Option NodeV) (o : ℕ) (s : Option ℕ) → IsTrue (followed_by n o s) → (m : NodeV) × (n ≡ Some m) × IsTrue (follow_digit m.follow o s)
followed_node None o s holds = absurd (cc)
followed_node (Some m) o s holds = (m, refl, holds)

ends_claimed : (claim : Option PositionV) (p : ℕ) → IsTrue (ends_at claim p) → IsTrue (is_some claim) × (p ≤ 7)
ends_claimed None p holds = absurd (cc)
ends_claimed (Some at) p holds = let less = digit_within 8 at.ends p holds in (refl, omega arith)

starts_claimed : (claim : Option PositionV) (bit : ℕ) → IsTrue (starts_with claim bit) → IsTrue (is_some claim) × (bit ≤ 1)
starts_claimed None bit holds = absurd (cc)
starts_claimed (Some at) bit holds = let less = digit_within 2 at.start bit holds in (refl, omega arith)

-- ---- signs

-- a bit, or nothing
pub record IsSign (s : Option ℕ) : Type 0 where
  pub sign : Sign
  pub is : s ≡ bit_of_sign sign

pub bit_sign : (bit : ℕ) → bit ≤ 1 → IsSign (Some bit)
bit_sign zero small = record { sign = Zero; is = refl }
bit_sign (suc zero) small = record { sign = One; is = refl }
bit_sign (suc (suc n)) small = absurd (omega arith)

pub no_sign : IsSign None
no_sign = record { sign = End; is = refl }

follow_small : (follow o : ℕ) (s : Option ℕ) → IsTrue (follow_digit follow o s) → (o ≤ 7) × IsSign s
follow_small follow o None holds = let less = digit_within 24 follow (3 * o + 2) holds in (omega arith, no_sign)
follow_small follow o (Some bit) holds =
    let both = both_true (nat_le bit 1) (has_digit 24 follow (3 * o + bit)) holds in
    let test = both.0 in
    let less = digit_within 24 follow (3 * o + bit) both.1 in
    (omega arith, bit_sign bit (grind (arith, nat_tests)))

-- ---- from claims

-- a node that is claimed to begin at an octet position, where it is reached
pub record KnownAt (d : DescV) (i o : ℕ) : Type 0 where
  pub node : Node
  pub there : slice_get d.nodes i ≡ Some node
  pub low : o ≤ 7
  pub reached : Reached d i o

module _ (d : DescV) (c : List NodeV) (claims : ClaimsLookAhead d c) where
  inside : (i : ℕ) (m : NodeV) → slice_get c i ≡ Some m → i < length d.nodes
  inside i m at = let within = slice_get_within c i m at in omega (arith, claims.number)

  pub known_at : (i o : ℕ) → IsTrue ((claims_of c).reached i o) → KnownAt d i o
  known_at i o holds =
      let own = claimed_node (slice_get c i) o holds in
      let less = inside i own.0 own.1 in
      let low = reached_small c claims.certificate i o holds in
      let n = item_at d.nodes i less in
      record { node = n.0; there = n.1; low = low; reached = (claims.reached i o less low).0 holds }

  pub nullable_known : (i : ℕ) → IsTrue ((claims_of c).nullable i) → Nullable d i
  nullable_known i holds = let own = nullable_node (slice_get c i) holds in (claims.nullable i (inside i own.0 own.1)).0 holds

  pub ends_low : (i o p : ℕ) → IsTrue ((claims_of c).ends i o p) → p ≤ 7
  ends_low i o p holds = (ends_claimed (claimed c i o) p holds).1

  pub ends_known : (i o p : ℕ) → IsTrue ((claims_of c).ends i o p) → InEnds d i o p
  ends_known i o p holds =
      let own = ends_claimed (claimed c i o) p holds in
      let at = known_at i o own.0 in
      (claims.ends i o p (slice_get_within d.nodes i at.node at.there) at.low own.1 at.reached).0 holds

  pub starts_reached : (i o bit : ℕ) → IsTrue ((claims_of c).starts i o bit) → IsTrue ((claims_of c).reached i o)
  starts_reached i o bit holds = (starts_claimed (claimed c i o) bit holds).0

  pub starts_sign : (i o bit : ℕ) → IsTrue ((claims_of c).starts i o bit) → IsSign (Some bit)
  starts_sign i o bit holds = bit_sign bit (starts_claimed (claimed c i o) bit holds).1

  pub starts_known : (i o bit : ℕ) → IsTrue ((claims_of c).starts i o bit) → InStart d i o bit
  starts_known i o bit holds =
      let own = starts_claimed (claimed c i o) bit holds in
      let at = known_at i o own.0 in
      (claims.start i o bit (slice_get_within d.nodes i at.node at.there) at.low own.1 at.reached).0 holds

  pub follow_sign : (i o : ℕ) (s : Option ℕ) → IsTrue ((claims_of c).follow i o s) → IsSign s
  follow_sign i o s holds = let own = followed_node (slice_get c i) o s holds in (follow_small own.0.follow o s own.2).1

  pub follow_known : (i o : ℕ) (s : Option ℕ) → IsTrue ((claims_of c).follow i o s) → InFollow d i o s
  follow_known i o s holds =
      let own = followed_node (slice_get c i) o s holds in
      let small = follow_small own.0.follow o s own.2 in
      let P : Option ℕ → Type 0 = λ t. IsTrue ((claims_of c).follow i o t) in
      let Q : Option ℕ → Type 0 = λ t. InFollow d i o t in
      subst Q (sym small.1.is) ((claims.follow i o small.1.sign (inside i own.0 own.1) small.0).0 (subst P small.1.is holds))

  -- ---- and back

  pub follow_told : (i o : ℕ) (s : Option ℕ) → i < length d.nodes → o ≤ 7 → IsSign s → InFollow d i o s → IsTrue ((claims_of c).follow i o s)
  follow_told i o s less low sign h =
      let P : Option ℕ → Type 0 = λ t. IsTrue ((claims_of c).follow i o t) in
      let Q : Option ℕ → Type 0 = λ t. InFollow d i o t in
      subst P (sym sign.is) ((claims.follow i o sign.sign less low).1 (subst Q sign.is h))
