-- What the sets tell that are made for fields and windows, which are counted in units of bits.
use Rattle.std.proofs.Common.{◌≡◌, ℕ, ◌+◌, ◌*◌, ◌/◌, ◌%◌, ◌^◌, ◌<◌, ◌≤◌, Bool, true, false, ◌↔◌, List, [], length}
use Rattle.std.proofs.Common.{refl, sym, ap, ◌∙◌, subst, arith, Option, Some, None}
use Rattle.std.specs.Prelude.{IsTrue}
use Rattle.std.specs.Ordering.{nat_cmp}
use Rattle.std.specs.FinSet as set
use Rattle.csn_desc.specs.declared.node.Count.{Count}
use Rattle.csn_desc.specs.declared.node.Count.TheVariants.{Fixed, Counted}
use Rattle.csn_desc.specs.declared.node.Node.TheVariants.{Field, Window}
use Rattle.csn_desc.specs.Nodes.{DescV}
use Rattle.csn_desc.specs.Formed.{value_width}
use Rattle.csn_look.specs.declared.node_sets.NodeSets.{NodeSets}
use Rattle.csn_look.specs.declared.word.TheConstants.{MOST_WORD}
use Rattle.csn_look.specs.Told.{OctetsAre}
use Rattle.csn_equations.specs.Counts.{MayBeNone}
use Rattle.csn_look.specs.Counts.{IsFixedAt, IsCounted}
use Rattle.csn_look.specs.Sums.{Has}
use Rattle.csn_look.specs.NodeSets.{LengthsAre, SetsAre, NodeSetsAre}
use Rattle.csn_look.specs.Nullable.{Nullable, NodeNullable, nullable_field, nullable_window}
use Rattle.csn_look.specs.Ends.{MayCount, may_fixed, may_counted, NodeEnds, ends_field, ends_window}
use Rattle.csn_look.specs.Starts.{InStart, NodeStarts, starts_field, starts_window}
use Rattle.csn_look.specs.Keys.{NodeKeys, keys_field, keys_window, keys_counted_field}
use Rattle.csn_look.proofs.Meaning.EmptyKeys.{cut_empty, empty_cut}
use Rattle.csn_look.proofs.Sets.Telling.{all_octets, both, falsity, no_octets, one_octet, some_word, true_is_not, truth}

module _ (d : DescV) where
  -- ---- what is counted in units of bits

  -- the numbers of bits, modulo 8, that a count of units may be
  abbrev pub UnitsAre : ℕ → Count → set.FinSet nat_cmp → Type 0
  UnitsAre unit count s = OctetsAre s (λ r. (n : ℕ) × MayCount d count n × (r ≡ unit * n % 8))

  unit_sum : (o k : ℕ) → (o + k % 8) % 8 ≡ (o + k) % 8
  unit_sum o k = omega arith

  unit_lengths : (unit : ℕ) (count : Count) (s : set.FinSet nat_cmp)
      → UnitsAre unit count s → LengthsAre s (λ o p. (n : ℕ) × MayCount d count n × (p ≡ (o + unit * n) % 8))
  unit_lengths unit count s are o p small = (
    (λ h. let q = (are h.length h.small).0 h.has_length in (q.0, q.1, h.is ∙ ap (λ r. (o + r) % 8) q.2 ∙ unit_sum o (unit * q.0))),
    (λ (n, may, e).
        let low : unit * n % 8 ≤ 7 = omega arith in
        record { length = unit * n % 8; small = low; has_length = (are (unit * n % 8) low).1 (n, may, refl); is = e ∙ sym (unit_sum o (unit * n)) }),
  )

  field_end : {unit : ℕ} {count : Count} {o p : ℕ} → NodeEnds d (Field unit count) o p → (n : ℕ) × MayCount d count n × (p ≡ (o + unit * n) % 8)
  field_end (ends_field n may e) = (n, may, e)

  window_end : {unit i : ℕ} {count : Count} {o p : ℕ} → NodeEnds d (Window unit count i) o p → (n : ℕ) × MayCount d count n × (p ≡ (o + unit * n) % 8)
  window_end (ends_window n may e) = (n, may, e)

  field_key : {unit k o : ℕ} {x : List ℕ} {mark : Bool} → NodeKeys d MOST_WORD (Field unit (Fixed k)) o x mark → x ≡ [] → (unit * k ≡ 0) × (mark ≡ true)
  field_key (keys_field w wide bits h) none = let was = cut_empty some_word h none in (sym wide ∙ ap length was.word, was.same)

  counted_key : {unit m f c o : ℕ} {x : List ℕ} {mark : Bool} → NodeKeys d MOST_WORD (Field unit (Counted m f c)) o x mark → mark ≡ false
  counted_key (keys_counted_field e k) = k

  field_null : {unit m f c : ℕ} → NodeNullable d (Field unit (Counted m f c)) → c ≡ 0
  field_null (nullable_field e) = e

  pub field_sets : (unit : ℕ) (count : Count) (s : NodeSets) → (IsTrue s.nullable ↔ MayBeNone count)
      → (IsTrue s.whole_empty ↔ IsFixedAt (λ n. unit * n ≡ 0) count) → (IsTrue s.cut_empty ↔ IsCounted count)
      → UnitsAre unit count s.lengths → ((o : ℕ) → o ≤ 7 → Has s.zero o) → ((o : ℕ) → o ≤ 7 → Has s.one o)
      → NodeSetsAre d (Field unit count) s
  field_sets unit (Fixed k) s n w c l z e =
      record {
        nullable = both n ((λ h. absurd h), (λ h. elim h [ ]));
        whole_empty = both w ((λ h. keys_field [] (sym h) tt (empty_cut [] refl refl)), (λ h. (field_key h refl).0));
        cut_empty = both c ((λ h. absurd h), (λ h. true_is_not ((field_key h refl).1)));
        lengths = λ o p small. both (unit_lengths unit (Fixed k) s.lengths l o p small) ((λ h. ends_field h.0 h.1 h.2), (λ h. field_end h));
        zero = all_octets s.zero (λ o. NodeStarts d (Field unit (Fixed k)) o 0) z (λ o. starts_field (omega arith));
        one = all_octets s.one (λ o. NodeStarts d (Field unit (Fixed k)) o 1) e (λ o. starts_field (omega arith));
      }
  field_sets unit (Counted m f k) s n w c l z e =
      record {
        nullable = both n ((λ h. nullable_field h), (λ h. field_null h));
        whole_empty = both w ((λ h. absurd h), (λ h. true_is_not (sym (counted_key h))));
        cut_empty = both c ((λ h. keys_counted_field refl refl), (λ h. tt));
        lengths = λ o p small. both (unit_lengths unit (Counted m f k) s.lengths l o p small) ((λ h. ends_field h.0 h.1 h.2), (λ h. field_end h));
        zero = all_octets s.zero (λ o. NodeStarts d (Field unit (Counted m f k)) o 0) z (λ o. starts_field (omega arith));
        one = all_octets s.one (λ o. NodeStarts d (Field unit (Counted m f k)) o 1) e (λ o. starts_field (omega arith));
      }

  window_null : {unit m f c i : ℕ} → NodeNullable d (Window unit (Counted m f c) i) → (Nullable d i × (c ≡ 0))
  window_null (nullable_window e h) = (h, e)

  window_nullable : (unit : ℕ) (count : Count) (i : ℕ) → (Nullable d i × MayBeNone count) ↔ NodeNullable d (Window unit count i)
  window_nullable unit (Fixed k) i = ((λ h. absurd h.1), (λ h. elim h [ ]))
  window_nullable unit (Counted m f c) i = ((λ h. nullable_window h.1 h.0), (λ h. window_null h))

  window_start : {unit i : ℕ} {count : Count} {o bit : ℕ} → NodeStarts d (Window unit count i) o bit → InStart d i o bit
  window_start (starts_window h) = h

  window_key : {unit i o : ℕ} {count : Count} {x : List ℕ} {mark : Bool} → NodeKeys d MOST_WORD (Window unit count i) o x mark → mark ≡ false
  window_key (keys_window e m) = m

  pub window_sets : (unit : ℕ) (count : Count) (i : ℕ) (inside s : NodeSets)
      → SetsAre d i inside → (IsTrue s.nullable ↔ (IsTrue inside.nullable × MayBeNone count))
      → s.whole_empty ≡ false → s.cut_empty ≡ true → UnitsAre unit count s.lengths → s.zero ≡ inside.zero
      → s.one ≡ inside.one → NodeSetsAre d (Window unit count i) s
  window_sets unit count i inside s t n w c l z e =
      record {
        nullable = both n (both ((λ h. (t.nullable.0 h.0, h.1)), (λ h. (t.nullable.1 h.0, h.1))) (window_nullable unit count i));
        whole_empty = falsity w (λ h. true_is_not (sym (window_key h)));
        cut_empty = truth c (keys_window refl refl);
        lengths = λ o p small. both (unit_lengths unit count s.lengths l o p small) ((λ h. ends_window h.0 h.1 h.2), (λ h. window_end h));
        zero = subst (λ q. OctetsAre q (λ o. NodeStarts d (Window unit count i) o 0)) (sym z)
            (λ o small. both (t.zero o small) ((λ h. starts_window h), (λ h. window_start h)));
        one = subst (λ q. OctetsAre q (λ o. NodeStarts d (Window unit count i) o 1)) (sym e)
            (λ o small. both (t.one o small) ((λ h. starts_window h), (λ h. window_start h)));
      }

  fixed_count : {k n : ℕ} → MayCount d (Fixed k) n → n ≡ k
  fixed_count (may_fixed e) = e

  pub fixed_units : (unit k : ℕ) (count : Count) (s : set.FinSet nat_cmp) → count ≡ Fixed k → s ≡ set.insert set.empty (unit * k % 8) → UnitsAre unit count s
  fixed_units unit k count s is e =
      subst (λ q. UnitsAre unit q s) (sym is)
      (λ o small. both (one_octet s (unit * k % 8) e o small)
      ((λ h. (k, may_fixed refl, h)), (λ (n, may, h). h ∙ ap (λ q. unit * q % 8) (fixed_count may))))

  no_value : {m f c n : ℕ} → value_width d.nodes f ≡ None → MayCount d (Counted m f c) n → ⊥
  no_value none (may_counted width value is small e) = let clash : ◌≡◌ {A = Option ℕ} None (Some width) = sym none ∙ is in cc

  pub no_units : (unit m f c : ℕ) (count : Count) (s : set.FinSet nat_cmp)
      → count ≡ Counted m f c → value_width d.nodes f ≡ None → s ≡ set.empty → UnitsAre unit count s
  no_units unit m f c count s is none e =
      subst (λ q. UnitsAre unit q s) (sym is)
      (no_octets s (λ r. (n : ℕ) × MayCount d (Counted m f c) n × (r ≡ unit * n % 8)) e (λ o (n, may, h). no_value none may))

  residue_of : (unit m c q r : ℕ) → unit * (m * (8 * q + r) + c) % 8 ≡ unit * (m * r + c) % 8
  residue_of unit m c q r = omega arith

  low_value : (unit m c value : ℕ) → unit * (m * value + c) % 8 ≡ unit * (m * (value % 8) + c) % 8
  low_value unit m c value =
      let parts : value ≡ 8 * (value / 8) + value % 8 = omega arith in
      ap (λ v. unit * (m * v + c) % 8) parts ∙ residue_of unit m c (value / 8) (value % 8)

  counted_value : {m f c n width : ℕ} → value_width d.nodes f ≡ Some width → MayCount d (Counted m f c) n
      → (value : ℕ) × (value < 2 ^ width) × (n ≡ m * value + c)
  counted_value {width = width} at (may_counted w value is small e) =
      let same : w ≡ width = cc in (value, subst (λ q. value < 2 ^ q) same small, e)

  pub valued_units : (unit m f c width values : ℕ) (count : Count) (s : set.FinSet nat_cmp)
      → count ≡ Counted m f c → value_width d.nodes f ≡ Some width → values ≤ 2 ^ width
      → ((value : ℕ) → value < 2 ^ width → value % 8 < values)
      → OctetsAre s (λ r. (value : ℕ) × (value < values) × (r ≡ unit * (m * value + c) % 8)) → UnitsAre unit count s
  valued_units unit m f c width values count s is at few all are =
      subst (λ q. UnitsAre unit q s) (sym is)
      (λ o small. both (are o small) (
        (λ (value, below, e). (m * value + c, may_counted width value at (omega arith) refl, e)),
        (λ (n, may, e).
            let v = counted_value at may in
            (v.0 % 8, all v.0 v.1, e ∙ ap (λ q. unit * q % 8) v.2 ∙ low_value unit m c v.0)),
      ))
