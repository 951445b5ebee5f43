-- What a good certificate claims holds of the description; and the first fault is one.
use Rattle.std.proofs.Common.{◌≡◌, ℕ, Bool, List, inl, inr, refl, arith, Some, slice_get}
use Rattle.std.specs.Prelude.{IsTrue}
use Rattle.csn_desc.specs.declared.node.Node.{Node}
use Rattle.csn_desc.specs.Nodes.{DescV}
use Rattle.csn_desc.specs.Formed.{IsDescription, Formed, formed}
use Rattle.csn_cert.specs.CertificateV.{NodeV}
use Rattle.csn_claims.specs.Keys.{NodeKeys}
use Rattle.csn_claims.specs.Holding.{Holds}
use Rattle.csn_good.specs.ClaimedSets.{denotes, patterns_at, claims_of}
use Rattle.csn_good.specs.Good.{KeepsKeys, Good, Breaks, breaks_number, breaks_nullable, breaks_ends, breaks_start}
use Rattle.csn_good.specs.Good.{breaks_keys, breaks_reached, breaks_follow, breaks_apart, FirstFault}
use Rattle.csn_good.proofs.Denoting.{said, covered, any_true}
use Rattle.csn_good.proofs.Denoted.{node_denoted}

module _ (d : DescV) (c : List NodeV) where
  keys_held : (i o : ℕ) (x : List ℕ) (mark : Bool) (n : Node) → KeepsKeys d c i n → IsTrue ((claims_of c).reached i o)
      → NodeKeys d 12 (claims_of c) n o x mark → IsTrue ((claims_of c).keys i o x mark)
  keys_held i o x mark n keeps reached key =
      let m = node_denoted d c key in
      let wide = keeps o m.pattern reached m.is_made in
      any_true (λ p. denotes p x mark) (patterns_at c i o) wide.wide wide.is_claimed
      (covered wide.wide m.pattern x mark wide.covers (said m.pattern x mark m.says))

  root_is : {seen : List ℕ} {round i : ℕ} → Formed d.nodes seen round i → (n : Node) × (slice_get d.nodes i ≡ Some n)
  root_is (formed n at few head have room others) = (n, at)

  pub good_holds : IsDescription d → Good d c → Holds d 12 (claims_of c)
  good_holds is good =
      let root = root_is is.well_formed in
      let rules = good.rules in
      record {
        nullable = λ i n at. (rules i n at).nullable;
        ends = λ i o p n at. (rules i n at).ends o p;
        starts = λ i o bit n at. (rules i n at).start o bit;
        keys = λ i o x mark n at. keys_held i o x mark n (rules i n at).keys;
        root_reached = (rules 0 root.0 root.1).reached.0 refl;
        reached = λ k from i o n before after part. (rules k n part.at).reached.1 i from o before after part.split;
        root_follow = (rules 0 root.0 root.1).follow.0 refl;
        follow = λ k i from o s n before after part. (rules k n part.at).follow.1 i from o s before after part.split;
        no_conflict = λ i n at. (rules i n at).apart;
      }

  pub unbroken : Good d c → (rule i : ℕ) → Breaks d c rule i → ⊥
  unbroken good rule i (breaks_number r z wrong) = wrong good.number
  unbroken good rule i (breaks_nullable n r at wrong) = wrong (good.rules i n at).nullable
  unbroken good rule i (breaks_ends n r at wrong) = wrong (good.rules i n at).ends
  unbroken good rule i (breaks_start n r at wrong) = wrong (good.rules i n at).start
  unbroken good rule i (breaks_keys n r at wrong) = wrong (good.rules i n at).keys
  unbroken good rule i (breaks_reached n r at wrong) = wrong (good.rules i n at).reached
  unbroken good rule i (breaks_follow n r at wrong) = wrong (good.rules i n at).follow
  unbroken good rule i (breaks_apart n r at wrong) = wrong (good.rules i n at).apart

  pub one_fault : (rule other_rule i other : ℕ) → FirstFault d c rule i → FirstFault d c other_rule other → (rule ≡ other_rule) × (i ≡ other)
  one_fault rule other_rule i other left right =
      let a = left.first other_rule other right.breaks in
      let b = right.first rule i left.breaks in
      elim a [
        | inl less ↦ elim b [ inl more ↦ absurd (omega arith) | inr same ↦ absurd (omega (arith, same.0)) ]
        | inr same ↦ elim b [ inl more ↦ absurd (omega (arith, same.0)) | inr also ↦ (omega (arith, same.1, also.1), same.0) ]
      ]
