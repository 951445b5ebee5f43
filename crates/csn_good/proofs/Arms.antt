-- A node whose kind is known: its parts, and what its equation makes.
use Rattle.std.proofs.Common.{◌≡◌, ℕ, ◌+◌, ◌*◌, ◌/◌, ◌%◌, ◌^◌, ◌<◌, ◌≤◌, Bool, List, length, refl, sym, ◌∙◌, ap, subst, arith, Some}
use Rattle.std.specs.Prelude.{IsTrue}
use Rattle.csn_desc.specs.declared.symbol.Symbol.{Symbol}
use Rattle.csn_desc.specs.declared.node.Count.{Count}
use Rattle.csn_desc.specs.declared.node.Count.TheVariants.{Fixed, Counted}
use Rattle.csn_desc.specs.declared.node.Node.{Node}
use Rattle.csn_desc.specs.declared.node.Node.TheVariants.{Lits, Spare, Pad, Null, Field, Rest, Seq, Choice, Times, Many, Trunc, Window, Named}
use Rattle.csn_desc.specs.Nodes.{DescV, parts_of}
use Rattle.csn_desc.specs.Formed.{value_width}
use Rattle.csn_look.specs.Ends.{MayCount, may_fixed, may_counted}
use Rattle.csn_claims.specs.Claims.{Claims}
use Rattle.csn_claims.specs.Ends.{NodeEnds, PartsEnd, ManyEnd, LeadEnd, ends_lits, ends_spare, ends_null, ends_pad}
use Rattle.csn_claims.specs.Ends.{ends_rest, ends_field, ends_window, ends_seq, ends_choice, ends_times, ends_counted}
use Rattle.csn_claims.specs.Ends.{ends_many, ends_trunc, ends_named}
use Rattle.csn_good.specs.Octets.{has_octet, OctetsAre, OfSome, SomeEnds, TurnsEnd, NodeWithin, PartsWithin}

pub along : {n m : Node} (P : Node → Type 0) → n ≡ m → P m → P n
along P is h = subst P (sym is) h

pub node_within : (n : Node) {count : ℕ} → PartsWithin (parts_of n) count → NodeWithin n count
node_within (Lits run) within = tt
node_within (Spare symbol) within = tt
node_within Pad within = tt
node_within Null within = tt
node_within (Seq parts) within = within
node_within (Choice parts) within = within
node_within (Times turns part) within = within 0 part refl
node_within (Many part) within = within 0 part refl
node_within (Trunc parts) within = within
node_within (Window unit turns part) within = within 0 part refl
node_within (Named label part) within = within 0 part refl
node_within (Field unit turns) within = tt
node_within Rest within = tt

-- ---- sets of octet positions

pub told : (s : List Bool) {P Q : ℕ → Type 0} → OctetsAre s P → ((p : ℕ) → P p → Q p) → ((p : ℕ) → p ≤ 7 → Q p → P p) → OctetsAre s Q
told s are to back p low = ((λ there. to p ((are p low).0 there)), (λ h. (are p low).1 (back p low h)))

pub at_only : (s here : List Bool) (octet : ℕ) (P : ℕ → ℕ → Type 0) → octet ≤ 7 → OctetsAre here (λ o. o ≡ octet)
    → OctetsAre s (λ p. OfSome here (λ o. P o p)) → OctetsAre s (P octet)
at_only s here octet P low only are =
    told s are
    (λ p h. subst (λ o. P o p) ((only h.octet h.small).0 h.there) h.fact)
    (λ p small h. record { octet = octet; small = low; there = (only octet low).1 refl; fact = h })

-- ---- where nodes end

module _ (d : DescV) (claims : Claims) where
  end_lits : {run : List Symbol} {o p : ℕ} → NodeEnds d claims (Lits run) o p → p ≡ (o + length run) % 8
  end_lits (ends_lits is) = is

  end_spare : {s : Symbol} {o p : ℕ} → NodeEnds d claims (Spare s) o p → p ≡ (o + 1) % 8
  end_spare (ends_spare is) = is

  end_null : {o p : ℕ} → NodeEnds d claims Null o p → p ≡ o
  end_null (ends_null is) = is

  end_field : {unit o p : ℕ} {count : Count} → NodeEnds d claims (Field unit count) o p → (n : ℕ) × MayCount d count n × (p ≡ (o + unit * n) % 8)
  end_field (ends_field n may is) = (n, may, is)

  end_window : {unit i o p : ℕ} {count : Count} → NodeEnds d claims (Window unit count i) o p → (n : ℕ) × MayCount d count n × (p ≡ (o + unit * n) % 8)
  end_window (ends_window n may is) = (n, may, is)

  end_seq : {parts : List ℕ} {o p : ℕ} → NodeEnds d claims (Seq parts) o p → PartsEnd claims parts o p
  end_seq (ends_seq h) = h

  end_trunc : {parts : List ℕ} {o p : ℕ} → NodeEnds d claims (Trunc parts) o p → LeadEnd claims parts o p
  end_trunc (ends_trunc h) = h

  end_choice : {parts : List ℕ} {o p : ℕ} → NodeEnds d claims (Choice parts) o p → SomeEnds claims parts o p
  end_choice (ends_choice {i = i} j at h) = record { place = j; part = i; at = at; ends = h }

  end_times : {i o p : ℕ} (count : Count) → NodeEnds d claims (Times count i) o p → TurnsEnd claims count i o p
  end_times (Fixed n) (ends_times h) = h
  end_times (Counted m field c) (ends_counted h) = h

  times_end_of : {i o p : ℕ} (count : Count) → TurnsEnd claims count i o p → NodeEnds d claims (Times count i) o p
  times_end_of (Fixed n) h = ends_times h
  times_end_of (Counted m field c) h = ends_counted h

  end_many : {i o p : ℕ} → NodeEnds d claims (Many i) o p → ManyEnd claims i o p
  end_many (ends_many h) = h

  end_named : {label : List ℕ} {i o p : ℕ} → NodeEnds d claims (Named label i) o p → IsTrue (claims.ends i o p)
  end_named (ends_named h) = h

  module _ (octet : ℕ) (low : octet ≤ 7) (s : List Bool) where
    pub lits_end : (run : List Symbol) (end : ℕ) → end ≡ (octet + 1 * length run) % 8 → OctetsAre s (λ o. o ≡ end)
        → OctetsAre s (NodeEnds d claims (Lits run) octet)
    lits_end run end is are =
        let same : end ≡ (octet + length run) % 8 = omega arith in
        told s are (λ p h. ends_lits (h ∙ same)) (λ p small h. end_lits h ∙ sym same)

    pub spare_end : (symbol : Symbol) (end : ℕ) → end ≡ (octet + 1 * 1) % 8 → OctetsAre s (λ o. o ≡ end) → OctetsAre s (NodeEnds d claims (Spare symbol) octet)
    spare_end symbol end is are =
        let same : end ≡ (octet + 1) % 8 = omega arith in
        told s are (λ p h. ends_spare (h ∙ same)) (λ p small h. end_spare h ∙ sym same)

    pub null_end : OctetsAre s (λ o. o ≡ octet) → OctetsAre s (NodeEnds d claims Null octet)
    null_end are = told s are (λ p h. ends_null h) (λ p small h. end_null h)

    pub pad_end : ((o : ℕ) → o ≤ 7 → IsTrue (has_octet s o)) → OctetsAre s (NodeEnds d claims Pad octet)
    pad_end all p small = ((λ there. ends_pad (omega arith)), (λ h. all p small))

    pub rest_end : ((o : ℕ) → o ≤ 7 → IsTrue (has_octet s o)) → OctetsAre s (NodeEnds d claims Rest octet)
    rest_end all p small = ((λ there. ends_rest (omega arith)), (λ h. all p small))

    abbrev pub UnitsEnd : ℕ → Count → Type 0
    UnitsEnd unit count = OctetsAre s (λ p. (n : ℕ) × MayCount d count n × (p ≡ (octet + unit * n) % 8))

    pub field_end : (unit : ℕ) (count : Count) → UnitsEnd unit count → OctetsAre s (NodeEnds d claims (Field unit count) octet)
    field_end unit count are = told s are (λ p h. ends_field h.0 h.1 h.2) (λ p small h. end_field h)

    pub window_end : (unit : ℕ) (count : Count) (i : ℕ) → UnitsEnd unit count → OctetsAre s (NodeEnds d claims (Window unit count i) octet)
    window_end unit count i are = told s are (λ p h. ends_window h.0 h.1 h.2) (λ p small h. end_window h)

    module _ (here : List Bool) (only : OctetsAre here (λ o. o ≡ octet)) where
      pub seq_end : (parts : List ℕ) → OctetsAre s (λ p. OfSome here (λ o. PartsEnd claims parts o p)) → OctetsAre s (NodeEnds d claims (Seq parts) octet)
      seq_end parts are = told s (at_only s here octet (λ o p. PartsEnd claims parts o p) low only are) (λ p h. ends_seq h) (λ p small h. end_seq h)

      pub trunc_end : (parts : List ℕ) → OctetsAre s (λ p. OfSome here (λ o. LeadEnd claims parts o p)) → OctetsAre s (NodeEnds d claims (Trunc parts) octet)
      trunc_end parts are = told s (at_only s here octet (λ o p. LeadEnd claims parts o p) low only are) (λ p h. ends_trunc h) (λ p small h. end_trunc h)

      pub choice_end : (parts : List ℕ) → OctetsAre s (λ p. OfSome here (λ o. SomeEnds claims parts o p))
          → OctetsAre s (NodeEnds d claims (Choice parts) octet)
      choice_end parts are = told s (at_only s here octet (λ o p. SomeEnds claims parts o p) low only are)
          (λ p h. ends_choice h.place h.at h.ends) (λ p small h. end_choice h)

      pub times_end : (count : Count) (i : ℕ) → OctetsAre s (λ p. OfSome here (λ o. TurnsEnd claims count i o p))
          → OctetsAre s (NodeEnds d claims (Times count i) octet)
      times_end count i are = told s (at_only s here octet (λ o p. TurnsEnd claims count i o p) low only are)
          (λ p h. times_end_of count h) (λ p small h. end_times count h)

      pub many_end : (i : ℕ) → OctetsAre s (λ p. OfSome here (λ o. ManyEnd claims i o p)) → OctetsAre s (NodeEnds d claims (Many i) octet)
      many_end i are = told s (at_only s here octet (λ o p. ManyEnd claims i o p) low only are) (λ p h. ends_many h) (λ p small h. end_many h)

      pub named_end : (label : List ℕ) (i : ℕ) → OctetsAre s (λ p. OfSome here (λ o. IsTrue (claims.ends i o p)))
          → OctetsAre s (NodeEnds d claims (Named label i) octet)
      named_end label i are = told s (at_only s here octet (λ o p. IsTrue (claims.ends i o p)) low only are) (λ p h. ends_named h) (λ p small h. end_named h)

module _ (d : DescV) where
  -- ---- counts

  pub fixed_units : (s : List Bool) (octet unit n end : ℕ) → end ≡ (octet + unit * n) % 8 → OctetsAre s (λ o. o ≡ end)
      → OctetsAre s (λ p. (k : ℕ) × MayCount d (Fixed n) k × (p ≡ (octet + unit * k) % 8))
  fixed_units s octet unit n end is are =
      told s are (λ p h. (n, may_fixed refl, h ∙ is)) (λ p small h. of_fixed h.1 h.2)
    where
      of_fixed : {k p : ℕ} → MayCount d (Fixed n) k → p ≡ (octet + unit * k) % 8 → p ≡ end
      of_fixed (may_fixed same) e = e ∙ ap (λ k. (octet + unit * k) % 8) same ∙ sym is

  residue : (octet unit m c q r : ℕ) → (octet + unit * (m * (8 * q + r) + c)) % 8 ≡ (octet + unit * (m * r + c)) % 8
  residue octet unit m c q r = omega arith

  turned : (octet unit m value c : ℕ) → (octet + unit * (m * (value % 8) + c)) % 8 ≡ (octet + unit * (m * value + c)) % 8
  turned octet unit m value c =
      let parts : value ≡ 8 * (value / 8) + value % 8 = omega arith in
      sym (ap (λ v. (octet + unit * (m * v + c)) % 8) parts ∙ residue octet unit m c (value / 8) (value % 8))

  pub counted_units : (s : List Bool) (octet unit m field c width values : ℕ) → value_width d.nodes field ≡ Some width
      → values ≤ 2 ^ width → ((value : ℕ) → value < 2 ^ width → value % 8 < values)
      → OctetsAre s (λ p. (value : ℕ) × (value < values) × (p ≡ (octet + unit * (m * value + c)) % 8))
      → OctetsAre s (λ p. (k : ℕ) × MayCount d (Counted m field c) k × (p ≡ (octet + unit * k) % 8))
  counted_units s octet unit m field c width values wide few all are =
      told s are
      (λ p h. let less = h.1 in (m * h.0 + c, may_counted width h.0 wide (omega (arith, less, few)) refl, h.2))
      (λ p small h. of_counted h.1 h.2)
    where
      of_counted : {k p : ℕ} → MayCount d (Counted m field c) k → p ≡ (octet + unit * k) % 8 → (value : ℕ)
          × (value < values) × (p ≡ (octet + unit * (m * value + c)) % 8)
      of_counted (may_counted w value is less sum) e =
          let same : w ≡ width = cc in
          let fits = subst (λ w. value < 2 ^ w) same less in
          (value % 8, all value fits, e ∙ ap (λ k. (octet + unit * k) % 8) sum ∙ sym (turned octet unit m value c))
