-- A certificate that claims what look-ahead knows of a certified description keeps the rules.
use Rattle.std.proofs.Common.{◌≡◌, ℕ, ◌<◌, List, [], ◌∷◌, ◌++◌, length, inr, refl, sym, subst, arith, Option, Some, None, slice_get}
use Rattle.std.specs.Prelude.{IsTrue}
use Rattle.std.proofs.lemmas.Option.{slice_get_within}
use Rattle.csn_desc.specs.declared.node.Node.{Node}
use Rattle.csn_desc.specs.Nodes.{DescV, parts_of}
use Rattle.csn_desc.specs.Formed.{IsDescription}
use Rattle.csn_desc.proofs.Numbering.{parts_later}
use Rattle.csn_cert.specs.declared.pattern.Mark.{Mark}
use Rattle.csn_cert.specs.CertificateV.{NodeV}
use Rattle.csn_claims.specs.Reached.{PartReached, PartFollow}
use Rattle.csn_look.specs.Ends as end
use Rattle.csn_look.specs.Reached as reach
use Rattle.csn_look.specs.Laws.{EndsAreOctets, ReachedAreOctets}
use Rattle.csn_look.proofs.Meaning.LeastSets.{nullable_at, ends_at, starts_at, follow_root, follow_part}
use Rattle.csn_look.proofs.Basics.Puts.{middle_get}
use Rattle.csn_certify.specs.Conflicts.{Certified}
use Rattle.csn_good.specs.ClaimedSets.{claims_of}
use Rattle.csn_good.specs.Patterns.{CoverMarks}
use Rattle.csn_good.specs.Good.{KeepsNullable, KeepsEnds, KeepsStart, KeepsKeys, KeepsReached, KeepsFollow, Good}
use Rattle.csn_good.proofs.SetArms.{starts_small, node_starts_one}
use Rattle.csn_certmake.specs.Claimed.{ClaimsLookAhead}
use Rattle.csn_certmake.proofs.Told.{known_at, ends_low, no_sign, follow_told}
use Rattle.csn_certmake.proofs.Carried.{node_nullable, node_ends, node_starts, part_reached, part_follow, part_follow_sign}
use Rattle.csn_certmake.proofs.Apart.{no_conflict}

covers_itself : (marks : List Mark) → CoverMarks marks marks
covers_itself [] = tt
covers_itself (mark ∷ marks) = (inr refl, covers_itself marks)

module _ (d : DescV) (c : List NodeV) (is : IsDescription d) (claims : ClaimsLookAhead d c) where
  keeps_nullable : (i : ℕ) (n : Node) → slice_get d.nodes i ≡ Some n → KeepsNullable d c i n
  keeps_nullable i n at h = (claims.nullable i (slice_get_within d.nodes i n at)).1 (nullable_at n at (node_nullable d c claims h))

  keeps_ends : EndsAreOctets → (i : ℕ) (n : Node) → slice_get d.nodes i ≡ Some n → KeepsEnds d c i n
  keeps_ends octets i n at o p reached h =
      let known = known_at d c claims i o reached in
      let ends : end.InEnds d i o p = ends_at n at (node_ends d c claims h) in
      let low = octets d i o p ends (omega (arith, known.low)) in
      (claims.ends i o p (slice_get_within d.nodes i n at) known.low (omega arith) known.reached).1 ends

  keeps_start : (i : ℕ) (n : Node) → slice_get d.nodes i ≡ Some n → KeepsStart d c i n
  keeps_start i n at o bit reached h =
      let known = known_at d c claims i o reached in
      let one = node_starts_one d (claims_of c) (starts_small c) h in
      (claims.start i o bit (slice_get_within d.nodes i n at) known.low one known.reached).1 (starts_at n at (node_starts d c claims h))

  keeps_keys : (i : ℕ) (n : Node) → slice_get d.nodes i ≡ Some n → KeepsKeys d c i n
  keeps_keys i n at o p reached made =
      let known = known_at d c claims i o reached in
      record {
        wide = p;
        is_claimed = (claims.patterns i o n p at known.low known.reached).1 made;
        covers = record { whole = refl; marks = covers_itself p.marks };
      }

  root_reached : ReachedAreOctets → (i : ℕ) (n : Node) → slice_get d.nodes i ≡ Some n → i ≡ 0 → IsTrue ((claims_of c).reached 0 0)
  root_reached octets i n at root =
      let inside = slice_get_within d.nodes i n at in
      (claims.reached 0 0 (omega arith) (omega arith)).1 (reach.reached_root refl refl)

  keeps_reached : ReachedAreOctets → (i : ℕ) (n : Node) → slice_get d.nodes i ≡ Some n → KeepsReached d c i n
  keeps_reached octets k n at = (root_reached octets k n at, part)
    where
      part : (i from o : ℕ) (before after : List ℕ) → parts_of n ≡ before ++ i ∷ after
          → IsTrue ((claims_of c).reached k from) → PartReached (claims_of c) n before i from o
          → IsTrue ((claims_of c).reached i o)
      part i from o before after split reached h =
          let known = known_at d c claims k from reached in
          let here : reach.Reached d i o = reach.reached_part k from n before after at split known.reached (part_reached d c claims h) in
          let P : List ℕ → Type 0 = λ parts. slice_get parts (length before) ≡ Some i in
          let there = subst P (sym split) (middle_get before after i) in
          let inside = parts_later d k n (λ j. j < length d.nodes) is at (λ j later high. high) (length before) i there in
          let low = octets d i o here in
          (claims.reached i o inside (omega arith)).1 here

  root_follow : (i : ℕ) (n : Node) → slice_get d.nodes i ≡ Some n → i ≡ 0 → (from o : ℕ)
      → IsTrue ((claims_of c).reached 0 from) → IsTrue ((claims_of c).ends 0 from o)
      → IsTrue ((claims_of c).follow 0 o None)
  root_follow i n at root from o reached ends =
      let inside = slice_get_within d.nodes i n at in
      follow_told d c claims 0 o None (omega arith) (ends_low d c claims 0 from o ends) no_sign (follow_root refl refl)

  keeps_follow : (i : ℕ) (n : Node) → slice_get d.nodes i ≡ Some n → KeepsFollow d c i n
  keeps_follow k n at = (root_follow k n at, part)
    where
      part : (i from o : ℕ) (s : Option ℕ) (before after : List ℕ) → parts_of n ≡ before ++ i ∷ after
          → IsTrue ((claims_of c).reached i from) → IsTrue ((claims_of c).ends i from o)
          → PartFollow (claims_of c) n k after i o s → IsTrue ((claims_of c).follow i o s)
      part i from o s before after split reached ends h =
          let known = known_at d c claims i from reached in
          follow_told d c claims i o s (slice_get_within d.nodes i known.node known.there) (ends_low d c claims i from o ends)
          (part_follow_sign d c claims h)
          (follow_part k n before after at split (part_follow d c claims h))

  pub good : EndsAreOctets → ReachedAreOctets → Certified d 12 → Good d c
  good ends reached certified =
      record {
        number = claims.number;
        rules = λ i n at.
            record {
              nullable = keeps_nullable i n at;
              ends = keeps_ends ends i n at;
              start = keeps_start i n at;
              keys = keeps_keys i n at;
              reached = keeps_reached reached i n at;
              follow = keeps_follow i n at;
              apart = no_conflict d c is claims i n certified at;
            };
      }
