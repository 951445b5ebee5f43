-- One certificate claims what look-ahead knows of a description.
use Rattle.std.proofs.Common.{◌≡◌, ℕ, zero, suc, ◌+◌, ◌<◌, ◌≤◌, inl, inr, Bool, true, false, List, [], ◌∷◌, length}
use Rattle.std.proofs.Common.{refl, sym, ap, ◌∙◌, subst, arith, Option, Some, None, IfSome, slice_get}
use Rattle.std.specs.Prelude.{is_some, Contains}
use Rattle.std.specs.List.{AllByRecursion}
use Rattle.std.proofs.lemmas.Bool.{cases_lt}
use Rattle.csn_desc.specs.declared.reading.Reading.{Reading}
use Rattle.csn_desc.specs.declared.node.Node.{Node}
use Rattle.csn_desc.specs.Nodes.{DescV, parts_of}
use Rattle.csn_desc.specs.Formed.{IsDescription}
use Rattle.csn_desc.proofs.Numbering.{parts_later}
use Rattle.csn_cert.specs.PatternV.{PatternV}
use Rattle.csn_cert.specs.PatternText.{ComesBefore}
use Rattle.csn_cert.specs.CertificateV.{Rises, NodeV, PositionV, IsNode, IsCertificate}
use Rattle.csn_cert.specs.Growing.{claimed}
use Rattle.csn_cert.specs.CertificateText.{certificate_text}
use Rattle.csn_look.specs.Signs.{bit_of_sign}
use Rattle.csn_look.specs.Nullable.{Nullable}
use Rattle.csn_look.specs.Ends.{InEnds}
use Rattle.csn_look.specs.Starts.{InStart}
use Rattle.csn_look.specs.Reached.{Reached, InFollow}
use Rattle.csn_good.specs.ClaimedSets.{is_nullable, ends_at, starts_with, followed_by, patterns_of, patterns_at, claims_of}
use Rattle.csn_good.specs.Patterns.{PartsPatterns, TimesPatterns, NodePatterns, parts_none, parts_cut, parts_whole}
use Rattle.csn_good.specs.Patterns.{times_none, times_cut, times_whole, patterns_lits, patterns_field, patterns_spare}
use Rattle.csn_good.specs.Patterns.{patterns_pad, patterns_null, patterns_rest, patterns_many, patterns_trunc}
use Rattle.csn_good.specs.Patterns.{patterns_window, patterns_counted_field, patterns_counted_times, patterns_seq}
use Rattle.csn_good.specs.Patterns.{patterns_times, patterns_choice, patterns_named}
use Rattle.csn_good.proofs.SetArms.{reached_small}
use Rattle.csn_certmake.specs.Claimed.{ClaimsLookAhead, IsCertificateText}
use Rattle.csn_certmake.proofs.Members.{item_at}
use Rattle.csn_certmake.proofs.Rising.{patterns_same, places_same}
use Rattle.csn_certmake.proofs.OneClaim.{same_answer, IsClaimAt, claim_is, claim_same, nodes_same}

-- ---- what is made of the same patterns

-- the parts have the same patterns in both certificates
abbrev Alike : List NodeV → List NodeV → List ℕ → Type 0
Alike c e parts = (place i o : ℕ) → slice_get parts place ≡ Some i → o ≤ 7 → patterns_at c i o ≡ patterns_at e i o

module _ (c e : List NodeV) where
  has_too : (i o : ℕ) (p : PatternV) → patterns_at c i o ≡ patterns_at e i o → Contains (patterns_at c i o) p → Contains (patterns_at e i o) p
  has_too i o p same has = subst (λ (l : List PatternV). Contains l p) same has

  parts_alike : {parts : List ℕ} {o : ℕ} {p : PatternV} → Alike c e parts → o ≤ 7 → PartsPatterns c parts o p → PartsPatterns e parts o p
  parts_alike same low (parts_none is) = parts_none is
  parts_alike {o = o} {p = p} same low (parts_cut {i = i} has cut) = parts_cut (has_too i o p (same 0 i o refl low) has) cut
  parts_alike {o = o} same low (parts_whole {i = i} first others has whole rest is) =
      parts_whole first others (has_too i o first (same 0 i o refl low) has) whole
      (parts_alike (λ place j at there small. same (suc place) j at there small) (omega arith) rest) is

  times_alike : {n i o : ℕ} {p : PatternV} → ((at : ℕ) → at ≤ 7 → patterns_at c i at ≡ patterns_at e i at)
      → o ≤ 7 → TimesPatterns c n i o p → TimesPatterns e n i o p
  times_alike same low (times_none none is) = times_none none is
  times_alike {i = i} {o = o} {p = p} same low (times_cut m more has cut) = times_cut m more (has_too i o p (same o low) has) cut
  times_alike {i = i} {o = o} same low (times_whole m more first others has whole rest is) =
      times_whole m more first others (has_too i o first (same o low) has) whole (times_alike same (omega arith) rest) is

  node_alike : {reading : Reading} {n : Node} {o : ℕ} {p : PatternV} → Alike c e (parts_of n)
      → o ≤ 7 → NodePatterns reading c n o p → NodePatterns reading e n o p
  node_alike same low (patterns_lits is) = patterns_lits is
  node_alike same low (patterns_field is) = patterns_field is
  node_alike same low (patterns_spare is) = patterns_spare is
  node_alike same low (patterns_pad is) = patterns_pad is
  node_alike same low (patterns_null is) = patterns_null is
  node_alike same low (patterns_rest is) = patterns_rest is
  node_alike same low (patterns_many is) = patterns_many is
  node_alike same low (patterns_trunc is) = patterns_trunc is
  node_alike same low (patterns_window is) = patterns_window is
  node_alike same low (patterns_counted_field is) = patterns_counted_field is
  node_alike same low (patterns_counted_times is) = patterns_counted_times is
  node_alike same low (patterns_seq h) = patterns_seq (parts_alike same low h)
  node_alike same low (patterns_times {i = i} h) = patterns_times (times_alike (λ at small. same 0 i at refl small) low h)
  node_alike {o = o} {p = p} same low (patterns_choice {i = i} j at has) = patterns_choice j at (has_too i o p (same j i o at low) has)
  node_alike {o = o} {p = p} same low (patterns_named {i = i} has) = patterns_named (has_too i o p (same 0 i o refl low) has)

-- ---- what a certificate has

some_at : {A : Type 0} (xs : List A) (i : ℕ) → i < length xs → is_some (slice_get xs i) ≡ true
some_at xs i less = (let found = item_at xs i less in ap is_some found.1)

nodes_are : (c : List NodeV) (i : ℕ) → AllByRecursion IsNode c → IfSome (slice_get c i) IsNode
nodes_are [] i all = tt
nodes_are (n ∷ c) zero all = all.0
nodes_are (n ∷ c) (suc i) all = nodes_are c i all.1

patterns_rise_of : (o : ℕ) (k : Option PositionV) → IfSome k (IsClaimAt o) → Rises ComesBefore (patterns_of k)
patterns_rise_of o None is = tt
patterns_rise_of o (Some p) is = is.position.rising

patterns_rise : (c : List NodeV) (i o : ℕ) → IsCertificate c → Rises ComesBefore (patterns_at c i o)
patterns_rise c i o is = patterns_rise_of o (claimed c i o) (claim_is (slice_get c i) o (nodes_are c i is.nodes))

none_of : (k : Option PositionV) → is_some k ≡ false → patterns_of k ≡ []
none_of None none = refl
none_of (Some p) none = absurd (cc)

nothing_both : (k l : Option PositionV) → is_some k ≡ false → is_some l ≡ false → k ≡ l
nothing_both None None none none' = refl
nothing_both None (Some q) none none' = absurd (cc)
nothing_both (Some p) l none none' = absurd (cc)

-- ---- both claim what look-ahead knows

module _ (d : DescV) (c e : List NodeV) (is : IsDescription d) (claims : ClaimsLookAhead d c) (others : ClaimsLookAhead d e) where
  reached_same : (i o : ℕ) → i < length d.nodes → o ≤ 7 → (claims_of c).reached i o ≡ (claims_of e).reached i o
  reached_same i o inside low =
      same_answer ((claims_of c).reached i o) ((claims_of e).reached i o) (Reached d i o) (claims.reached i o inside low) (others.reached i o inside low)

  -- at a node whose parts have the same patterns
  own_patterns : (i o : ℕ) (n : Node) → slice_get d.nodes i ≡ Some n → i < length d.nodes → o ≤ 7
      → Alike c e (parts_of n) → Alike e c (parts_of n) → patterns_at c i o ≡ patterns_at e i o
  own_patterns i o n there inside low same back = by_claim ((claims_of c).reached i o) refl
    where
      by_claim : (b : Bool) → (claims_of c).reached i o ≡ b → patterns_at c i o ≡ patterns_at e i o
      by_claim true at =
          let reached : Reached d i o = (claims.reached i o inside low).0 at in
          patterns_same (patterns_at c i o) (patterns_at e i o) (patterns_rise c i o claims.certificate) (patterns_rise e i o others.certificate) (λ p. (
            λ has. (others.patterns i o n p there low reached).1 (node_alike c e same low ((claims.patterns i o n p there low reached).0 has)),
            λ has. (claims.patterns i o n p there low reached).1 (node_alike e c back low ((others.patterns i o n p there low reached).0 has)),
          ))
      by_claim false at = none_of (claimed c i o) at ∙ sym (none_of (claimed e i o) (sym (reached_same i o inside low) ∙ at))

  -- the parts of a node stand behind it
  all_patterns : (left i : ℕ) → length d.nodes ≤ i + left → i < length d.nodes → (o : ℕ) → o ≤ 7 → patterns_at c i o ≡ patterns_at e i o
  all_patterns zero i room inside o low = absurd (omega (arith, room, inside))
  all_patterns (suc left) i room inside o low =
      let n = item_at d.nodes i inside in
      let parts : (place p : ℕ) → slice_get (parts_of n.0) place ≡ Some p → (o : ℕ) → o ≤ 7 → patterns_at c p o ≡ patterns_at e p o =
      parts_later d i n.0 (λ (p : ℕ). (o : ℕ) → o ≤ 7 → patterns_at c p o ≡ patterns_at e p o) is n.1
      (λ p above within. all_patterns left p (omega (arith, room, above)) within) in
      own_patterns i o n.0 n.1 inside low (λ place p at found small. parts place p found at small)
      (λ place p at found small. sym (parts place p found at small))

  low_claims : (i o : ℕ) → i < length d.nodes → o ≤ 7 → claimed c i o ≡ claimed e i o
  low_claims i o inside low =
      claim_same o (claimed c i o) (claimed e i o)
      (claim_is (slice_get c i) o (nodes_are c i claims.certificate.nodes)) (claim_is (slice_get e i) o (nodes_are e i others.certificate.nodes))
      (reached_same i o inside low)
      (λ there place less.
      let reached : Reached d i o = (claims.reached i o inside low).0 there in
      let small : place ≤ 7 = omega (arith, less) in
      same_answer (ends_at (claimed c i o) place) (ends_at (claimed e i o) place) (InEnds d i o place)
      (claims.ends i o place inside low small reached) (others.ends i o place inside low small reached))
      (λ there place less.
      let reached : Reached d i o = (claims.reached i o inside low).0 there in
      let small : place ≤ 1 = omega (arith, less) in
      same_answer (starts_with (claimed c i o) place) (starts_with (claimed e i o) place) (InStart d i o place)
      (claims.start i o place inside low small reached) (others.start i o place inside low small reached))
      (all_patterns (length d.nodes) i (omega arith) inside o low)

  -- beyond the octet positions nothing is claimed
  none_beyond : (x : List NodeV) (i o : ℕ) → IsCertificate x → 7 < o → is_some (claimed x i o) ≡ false
  none_beyond x i o are high = by_claim (is_some (claimed x i o)) refl
    where
      by_claim : (b : Bool) → is_some (claimed x i o) ≡ b → is_some (claimed x i o) ≡ false
      by_claim true at = (let low = reached_small x are i o at in absurd (omega (arith, low, high)))
      by_claim false at = at

  all_claims : (i o : ℕ) → i < length d.nodes → claimed c i o ≡ claimed e i o
  all_claims i o inside = elim (cases_lt 7 o) [
    | inl high ↦ nothing_both (claimed c i o) (claimed e i o) (none_beyond c i o claims.certificate high) (none_beyond e i o others.certificate high)
    | inr low ↦ low_claims i o inside low
  ]

  one_node : (i : ℕ) → i < length c → slice_get c i ≡ slice_get e i
  one_node i less =
      let inside : i < length d.nodes = omega (arith, less, claims.number) in
      let less' : i < length e = omega (arith, inside, others.number) in
      nodes_same (slice_get c i) (slice_get e i) (nodes_are c i claims.certificate.nodes) (nodes_are e i others.certificate.nodes)
      (some_at c i less) (some_at e i less')
      (same_answer (is_nullable (slice_get c i)) (is_nullable (slice_get e i)) (Nullable d i) (claims.nullable i inside) (others.nullable i inside))
      (λ o sign low. same_answer (followed_by (slice_get c i) o (bit_of_sign sign))
      (followed_by (slice_get e i) o (bit_of_sign sign)) (InFollow d i o (bit_of_sign sign))
      (claims.follow i o sign inside low) (others.follow i o sign inside low))
      (λ o. all_claims i o inside)

  pub one_certificate : c ≡ e
  one_certificate = places_same c e (claims.number ∙ sym others.number) one_node

pub one_text : (d : DescV) (text other : List ℕ) → IsDescription d → IsCertificateText d text → IsCertificateText d other → text ≡ other
one_text d text other is has has' =
    has.spelled.spelled ∙ ap certificate_text (one_certificate d has.certificate has'.certificate is has.claims has'.claims) ∙ sym has'.spelled.spelled
