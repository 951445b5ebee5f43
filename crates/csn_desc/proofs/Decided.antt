-- Whether bits have a tree at a node, and whether it follows them, is decided: parts stand behind their node,
-- and bits are cut in two in so many ways.
use Rattle.std.proofs.Common.{◌≡◌, ℕ, zero, suc, ◌+◌, ◌-◌, ◌*◌, ◌<◌, ◌≤◌, ◌⊎◌, inl, inr, List, [], ◌∷◌, ◌++◌, length}
use Rattle.std.proofs.Common.{refl, sym, ap, ◌∙◌, subst, arith, append-nil, length-append, Option, Some, None}
use Rattle.std.specs.Prelude.{slice_get, replicate}
use Rattle.std.proofs.lemmas.Bool.{cases_lt}
use Rattle.std.proofs.lemmas.List.{length-replicate, nil_from_length}
use Rattle.csn_bits.specs.Octets.{IsBits}
use Rattle.csn_bits.proofs.Packing.{IsBits-append, IsBits-zeros}
use Rattle.csn_desc.specs.declared.reading.Reading.{Reading}
use Rattle.csn_desc.specs.declared.reading.Reading.TheVariants.{Received, Sent}
use Rattle.csn_desc.specs.declared.symbol.Symbol.{Symbol}
use Rattle.csn_desc.specs.declared.symbol.Symbol.TheVariants.{Low}
use Rattle.csn_desc.specs.declared.node.Count.{Count}
use Rattle.csn_desc.specs.declared.node.Node.{Node}
use Rattle.csn_desc.specs.declared.node.Node.TheVariants.{Lits, Spare, Pad, Null, Field, Rest, Seq, Choice, Times, Many, Trunc, Window, Named}
use Rattle.csn_desc.specs.TreeV.{TreeV, empty, bits, row, alt, named, Trees, none, more}
use Rattle.csn_desc.specs.Nodes.{DescV, parts_of}
use Rattle.csn_desc.specs.Spelled.{spelled, symbol_bit, IsSpare}
use Rattle.csn_desc.specs.Values.{Values, count_of, with_value}
use Rattle.csn_desc.specs.Means.{NMeans, NodeMeans, PartsMean, TimesMean, ManyMean, LeadMean, means_at, means_lits}
use Rattle.csn_desc.specs.Means.{means_spare, means_pad, means_null, means_field, means_rest, means_seq, means_choice}
use Rattle.csn_desc.specs.Means.{means_times, means_many, means_cut, means_trunc, means_window, means_named}
use Rattle.csn_desc.specs.Means.{parts_end, parts_next, times_end, times_next, many_end, many_next, lead_last}
use Rattle.csn_desc.specs.Means.{lead_next}
use Rattle.csn_desc.specs.Follows.{NFollow, NodeFollows, PartsFollow, TimesFollow, ManyFollow, follows_at}
use Rattle.csn_desc.specs.Follows.{follows_whole, follows_lits, follows_spare, follows_pad, follows_field}
use Rattle.csn_desc.specs.Follows.{follows_seq, follows_choice, follows_times, follows_many, follows_trunc}
use Rattle.csn_desc.specs.Follows.{follows_window, follows_named, parts_here, parts_later, times_here, times_later}
use Rattle.csn_desc.specs.Follows.{many_here, many_later}
use Rattle.csn_desc.specs.Formed.{Spans, PartsSpan, spans, span_end, span_next}
use Rattle.csn_desc.proofs.BitFacts.{IsBits-front, IsBits-along, spelled_is_spare}
use Rattle.csn_desc.proofs.Nodewise.{meaning_at, follow_at}

abbrev pub Decided : Type 0 → Type 0
Decided P = P ⊎ (¬ P)

decided_by : {P Q : Type 0} → Decided P → (P → Q) → (Q → P) → Decided Q
decided_by (inl p) into back = inl (into p)
decided_by (inr never) into back = inr (λ q. never (back q))

both_decided : {P Q : Type 0} → Decided P → Decided Q → Decided (P × Q)
both_decided (inl p) (inl q) = inl (p, q)
both_decided (inl p) (inr never) = inr (λ both. never both.1)
both_decided (inr never) q = inr (λ both. never both.0)

-- ---- of numbers and lists

same_number : (m n : ℕ) → Decided (m ≡ n)
same_number zero zero = inl refl
same_number zero (suc n) = inr (λ e. cc)
same_number (suc m) zero = inr (λ e. cc)
same_number (suc m) (suc n) = decided_by (same_number m n) (λ e. ap suc e) (λ e. cc)

is_less : (m n : ℕ) → Decided (m < n)
is_less m n = elim (cases_lt m n) [ inl less ↦ inl less | inr over ↦ inr (λ less. absurd (omega (arith, less, over))) ]

is_most : (m n : ℕ) → Decided (m ≤ n)
is_most m n = elim (cases_lt n m) [ inl less ↦ inr (λ most. absurd (omega (arith, less, most))) | inr most ↦ inl most ]

is_empty : (b : List ℕ) → Decided (b ≡ [])
is_empty [] = inl refl
is_empty (x ∷ b) = inr (λ e. cc)

are_bits : (b : List ℕ) → Decided (IsBits b)
are_bits [] = inl tt
are_bits (x ∷ b) = both_decided (is_most x 1) (are_bits b)

-- a list is the front of another
is_front : (b whole : List ℕ) → Decided ((rest : List ℕ) × (whole ≡ b ++ rest))
is_front [] whole = inl (whole, refl)
is_front (x ∷ b) [] = inr (λ w. let e = w.1 in cc)
is_front (x ∷ b) (y ∷ whole) =
    decided_by (both_decided (same_number y x) (is_front b whole))
    (λ w. (w.1.0, both_heads w.1.0 w.0 w.1.1)) (λ w. let e = w.1 in (heads w.0 e, (w.0, tails w.0 e)))
  where
    both_heads : (rest : List ℕ) → y ≡ x → whole ≡ b ++ rest → y ∷ whole ≡ x ∷ (b ++ rest)
    both_heads rest p q = cc

    heads : (rest : List ℕ) → y ∷ whole ≡ x ∷ (b ++ rest) → y ≡ x
    heads rest e = cc

    tails : (rest : List ℕ) → y ∷ whole ≡ x ∷ (b ++ rest) → whole ≡ b ++ rest
    tails rest e = cc

same_list : (a b : List ℕ) → Decided (a ≡ b)
same_list [] [] = inl refl
same_list [] (y ∷ b) = inr (λ e. cc)
same_list (x ∷ a) [] = inr (λ e. cc)
same_list (x ∷ a) (y ∷ b) = decided_by (both_decided (same_number x y) (same_list a b)) (λ p. both_same p.0 p.1) (λ e. (heads e, tails e))
  where
    both_same : x ≡ y → a ≡ b → x ∷ a ≡ y ∷ b
    both_same p q = cc

    heads : x ∷ a ≡ y ∷ b → x ≡ y
    heads e = cc

    tails : x ∷ a ≡ y ∷ b → a ≡ b
    tails e = cc

-- a list cut in two, of which something holds
record Cut (Q : List ℕ → List ℕ → Type 0) (b : List ℕ) : Type 0 where
  front : List ℕ
  back : List ℕ
  is : b ≡ front ++ back
  holds : Q front back

cut_decided : (Q : List ℕ → List ℕ → Type 0) (b : List ℕ) → ((x y : List ℕ) → b ≡ x ++ y → Decided (Q x y)) → Decided (Cut Q b)
cut_decided Q [] test =
    decided_by (test [] [] refl) (λ q. record { front = []; back = []; is = refl; holds = q }) (λ w. at_end w.front w.back w.is w.holds)
  where
    at_end : (x y : List ℕ) → [] ≡ x ++ y → Q x y → Q [] []
    at_end [] y e q = subst (λ l. Q [] l) (sym e) q
    at_end (a ∷ x) y e q = cc
cut_decided Q (a ∷ b) test =
    elim (test [] (a ∷ b) refl) [
      | inl here ↦ inl (record { front = []; back = a ∷ b; is = refl; holds = here })
      | inr never ↦
          decided_by (cut_decided (λ x y. Q (a ∷ x) y) b (λ x y e. test (a ∷ x) y (ap (λ l. a ∷ l) e)))
          (λ w. record { front = a ∷ w.front; back = w.back; is = ap (λ l. a ∷ l) w.is; holds = w.holds })
          (λ w. later never w.front w.back w.is w.holds)
    ]
  where
    later : ¬ Q [] (a ∷ b) → (x y : List ℕ) → a ∷ b ≡ x ++ y → Q x y → Cut (λ x y. Q (a ∷ x) y) b
    later never [] y e q = absurd (never (subst (λ l. Q [] l) (sym e) q))
    later never (c ∷ x) y e q =
        let same : c ≡ a = cc in
        let rest : b ≡ x ++ y = cc in
        record { front = x; back = y; is = rest; holds = subst (λ k. Q (k ∷ x) y) same q }

-- ---- of parts

-- whether P holds of each of some parts, at a place, with values and bits, is decided
data Tested (P : ℕ → ℕ → Values → List ℕ → Type 0) : List ℕ → Type 0 where
  tested_end : Tested P []
  tested_next : {i : ℕ} {parts : List ℕ} → ((o : ℕ) (v : Values) (b : List ℕ) → Decided (P i o v b)) → Tested P parts → Tested P (i ∷ parts)

-- one of the parts
record One (P : ℕ → Type 0) (parts : List ℕ) : Type 0 where
  number : ℕ
  part : ℕ
  at : slice_get parts number ≡ Some part
  holds : P part

one_decided : {P : ℕ → ℕ → Values → List ℕ → Type 0} {parts : List ℕ}
    → Tested P parts → (o : ℕ) (v : Values) (b : List ℕ) → Decided (One (λ i. P i o v b) parts)
one_decided tested_end o v b = inr (λ w. let at = w.at in cc)
one_decided {P} (tested_next {i = i} {parts = parts} test rest) o v b =
    elim (test o v b) [
      | inl here ↦ inl (record { number = 0; part = i; at = refl; holds = here })
      | inr never ↦
          decided_by (one_decided rest o v b)
          (λ w. record { number = suc w.number; part = w.part; at = w.at; holds = w.holds }) (λ w. later never w.number w.part w.at w.holds)
    ]
  where
    later : ¬ P i o v b → (j p : ℕ) → slice_get (i ∷ parts) j ≡ Some p → P p o v b → One (λ k. P k o v b) parts
    later never zero p at h = let same : p ≡ i = cc in absurd (never (subst (λ k. P k o v b) same h))
    later never (suc j) p at h = record { number = j; part = p; at = at; holds = h }

module _ (d : DescV) where
  abbrev HasTree : ℕ → ℕ → Values → List ℕ → Type 0
  HasTree i o v b = (t : TreeV) × NMeans d i o v b t

  abbrev NodeHasTree : Node → ℕ → Values → List ℕ → Type 0
  NodeHasTree n o v b = (t : TreeV) × NodeMeans d n o v b t

  -- ---- trees

  -- trees for a part and for what stands behind it
  record Next (i o : ℕ) (v : Values) (Behind : List ℕ → List ℕ → Trees → Type 0) (x y : List ℕ) : Type 0 where
    tree : TreeV
    trees : Trees
    first : NMeans d i o v x tree
    behind : Behind x y trees

  next_decided :
      {i o : ℕ} {v : Values} (Behind : List ℕ → List ℕ → Trees → Type 0) (x y : List ℕ)
      → Decided (HasTree i o v x) → Decided ((ts : Trees) × Behind x y ts) → Decided (Next i o v Behind x y)
  next_decided Behind x y first later =
      decided_by (both_decided first later)
      (λ w. record { tree = w.0.0; trees = w.1.0; first = w.0.1; behind = w.1.1 }) (λ w. ((w.tree, w.first), (w.trees, w.behind)))

  -- trees for these parts
  abbrev HaveTrees : List ℕ → ℕ → Values → List ℕ → Type 0
  HaveTrees parts o v b = (ts : Trees) × PartsMean d parts o v b ts

  abbrev PartsBehind : List ℕ → ℕ → ℕ → Values → List ℕ → List ℕ → Trees → Type 0
  PartsBehind parts i o v x y ts = PartsMean d parts (o + length x) (with_value d.nodes i x v) y ts

  parts_decided : {parts : List ℕ} → Tested HasTree parts → (o : ℕ) (v : Values) (b : List ℕ) → Decided (HaveTrees parts o v b)
  parts_decided tested_end o v b = decided_by (is_empty b) (λ e. (none, parts_end e)) (λ w. ended w.1)
    where
      ended : {ts : Trees} → PartsMean d [] o v b ts → b ≡ []
      ended (parts_end e) = e
  parts_decided (tested_next {i = i} {parts = parts} test rest) o v b =
      decided_by (cut_decided (Next i o v (PartsBehind parts i o v)) b
      (λ x y e. next_decided (PartsBehind parts i o v) x y (test o v x) (parts_decided rest (o + length x) (with_value d.nodes i x v) y)))
      (λ w. (more w.holds.tree w.holds.trees, parts_next w.front w.back w.is w.holds.first w.holds.behind)) (λ w. cut w.1)
    where
      cut : {ts : Trees} → PartsMean d (i ∷ parts) o v b ts → Cut (Next i o v (PartsBehind parts i o v)) b
      cut (parts_next {t = t} {ts = ts} b1 b2 e h others) =
          record { front = b1; back = b2; is = e; holds = record { tree = t; trees = ts; first = h; behind = others } }

  -- trees for the first few
  abbrev HaveFirst : List ℕ → ℕ → Values → List ℕ → Type 0
  HaveFirst parts o v b = (ts : Trees) × LeadMean d parts o v b ts

  abbrev FirstBehind : List ℕ → ℕ → ℕ → Values → List ℕ → List ℕ → Trees → Type 0
  FirstBehind parts i o v x y ts = LeadMean d parts (o + length x) (with_value d.nodes i x v) y ts

  first_decided : {parts : List ℕ} → Tested HasTree parts → (o : ℕ) (v : Values) (b : List ℕ) → Decided (HaveFirst parts o v b)
  first_decided tested_end o v b = inr (λ w. nothing w.1)
    where
      nothing : {ts : Trees} → LeadMean d [] o v b ts → ⊥
      nothing h = elim h [ ]
  first_decided (tested_next {i = i} {parts = parts} test rest) o v b =
      elim (both_decided (is_less 0 (length b)) (test o v b)) [
        | inl last ↦ inl (more last.1.0 none, lead_last last.0 last.1.1)
        | inr never ↦
            decided_by (cut_decided (Next i o v (FirstBehind parts i o v)) b
            (λ x y e. next_decided (FirstBehind parts i o v) x y (test o v x) (first_decided rest (o + length x) (with_value d.nodes i x v) y)))
            (λ w. (more w.holds.tree w.holds.trees, lead_next w.front w.back w.is w.holds.first w.holds.behind)) (λ w. cut never w.1)
      ]
    where
      cut : {ts : Trees} → ¬ ((0 < length b) × HasTree i o v b) → LeadMean d (i ∷ parts) o v b ts → Cut (Next i o v (FirstBehind parts i o v)) b
      cut never (lead_last {t = t} some h) = absurd (never (some, (t, h)))
      cut never (lead_next {t = t} {ts = ts} b1 b2 e h others) =
          record { front = b1; back = b2; is = e; holds = record { tree = t; trees = ts; first = h; behind = others } }

  -- trees for so many turns
  abbrev TimesBehind : ℕ → ℕ → ℕ → Values → List ℕ → List ℕ → Trees → Type 0
  TimesBehind m i o v x y ts = TimesMean d m i (o + length x) v y ts

  module _ (i : ℕ) (v : Values) (test : (o : ℕ) (b : List ℕ) → Decided (HasTree i o v b)) where
    times_decided : (n o : ℕ) (b : List ℕ) → Decided ((ts : Trees) × TimesMean d n i o v b ts)
    times_decided zero o b = decided_by (is_empty b) (λ e. (none, times_end refl e)) (λ w. ended w.1)
      where
        ended : {ts : Trees} → TimesMean d 0 i o v b ts → b ≡ []
        ended (times_end is e) = e
        ended (times_next m is b1 b2 e h others) = cc
    times_decided (suc m) o b =
        decided_by (cut_decided (Next i o v (TimesBehind m i o v)) b (λ x y e. next_decided (TimesBehind m i o v) x y
        (test o x) (times_decided m (o + length x) y)))
        (λ w. (more w.holds.tree w.holds.trees, times_next m refl w.front w.back w.is w.holds.first w.holds.behind)) (λ w. cut w.1)
      where
        cut : {ts : Trees} → TimesMean d (suc m) i o v b ts → Cut (Next i o v (TimesBehind m i o v)) b
        cut (times_end is e) = cc
        cut (times_next {t = t} {ts = ts} k is b1 b2 e h others) =
            let same : k ≡ m = cc in
            let P : ℕ → Type 0 = λ z. TimesMean d z i (o + length b1) v b2 ts in
            record { front = b1; back = b2; is = e; holds = record { tree = t; trees = ts; first = h; behind = subst P same others } }

    -- trees for turns that have a bit at least
    abbrev ManyBehind : ℕ → List ℕ → List ℕ → Trees → Type 0
    ManyBehind o x y ts = (0 < length x) × ManyMean d i (o + length x) v y ts

    many_behind :
        (most o : ℕ) (b x y : List ℕ) → length b ≤ suc most → b ≡ x ++ y
        → ((p : ℕ) (z : List ℕ) → length z ≤ most → Decided ((ts : Trees) × ManyMean d i p v z ts)) → Decided ((ts : Trees) × ManyBehind o x y ts)
    many_behind most o b x y few e later =
        elim (is_less 0 (length x)) [
          | inl some ↦
              decided_by (later (o + length x) y (omega (arith, few, some, ap length e, length-append x y))) (λ w. (w.0, (some, w.1))) (λ w. (w.0, w.1.1))
          | inr never ↦ inr (λ w. never w.1.0)
        ]

    many_cut : {o : ℕ} {b : List ℕ} {ts : Trees} → ¬ (b ≡ []) → ManyMean d i o v b ts → Cut (Next i o v (ManyBehind o)) b
    many_cut full (many_end e) = absurd (full e)
    many_cut full (many_next {t = t} {ts = ts} b1 b2 e some h others) =
        record { front = b1; back = b2; is = e; holds = record { tree = t; trees = ts; first = h; behind = (some, others) } }

    many_decided : (most o : ℕ) (b : List ℕ) → length b ≤ most → Decided ((ts : Trees) × ManyMean d i o v b ts)
    many_decided most o [] few = inl (none, many_end refl)
    many_decided zero o (a ∷ b) few = absurd (omega arith)
    many_decided (suc most) o (a ∷ b) few =
        decided_by
        (cut_decided (Next i o v (ManyBehind o)) (a ∷ b)
        (λ x y e. next_decided (ManyBehind o) x y (test o x) (many_behind most o (a ∷ b) x y few e (λ p z short. many_decided most p z short))))
        (λ w. (more w.holds.tree w.holds.trees, many_next w.front w.back w.is w.holds.behind.0 w.holds.first w.holds.behind.1))
        (λ w. many_cut (λ e. cc) w.1)

  -- ---- a node

  is_spare : (r : Reading) (s : Symbol) (o : ℕ) (b : List ℕ) → Decided (IsSpare r s o b)
  is_spare Received s o b = are_bits b
  is_spare Sent s o b = same_list b (spelled (replicate (length b) s) o)

  -- a count of units, where there is one
  counted_decided : (P : ℕ → Type 0) (c : Option ℕ) → ((n : ℕ) → Decided (P n)) → Decided ((n : ℕ) × (c ≡ Some n) × P n)
  counted_decided P None test = inr (λ w. let e = w.1 in cc)
  counted_decided P (Some k) test = decided_by (test k) (λ h. (k, refl, h)) (λ w. same w.0 w.1 w.2)
    where
      same : (n : ℕ) → Some k ≡ Some n → P n → P k
      same n e h = let one : n ≡ k = cc in subst P one h

  node_decided : (n : Node) → Tested HasTree (parts_of n) → (o : ℕ) (v : Values) (b : List ℕ) → Decided (NodeHasTree n o v b)
  node_decided (Lits run) parts o v b = decided_by (same_list b (spelled run o)) (λ e. (empty, means_lits e)) (λ w. back w.1)
    where
      back : {t : TreeV} → NodeMeans d (Lits run) o v b t → b ≡ spelled run o
      back (means_lits e) = e
  node_decided (Spare s) parts o v b =
      decided_by (both_decided (same_number (length b) 1) (is_spare d.reading s o b)) (λ h. (bits b, means_spare h.0 h.1)) (λ w. back w.1)
    where
      back : {t : TreeV} → NodeMeans d (Spare s) o v b t → (length b ≡ 1) × IsSpare d.reading s o b
      back (means_spare one h) = (one, h)
  node_decided Pad parts o v b =
      decided_by (both_decided (is_less 0 (length b)) (is_spare d.reading Low o b)) (λ h. (bits b, means_pad h.0 h.1)) (λ w. back w.1)
    where
      back : {t : TreeV} → NodeMeans d Pad o v b t → (0 < length b) × IsSpare d.reading Low o b
      back (means_pad some h) = (some, h)
  node_decided Null parts o v b = decided_by (is_empty b) (λ e. (empty, means_null e)) (λ w. back w.1)
    where
      back : {t : TreeV} → NodeMeans d Null o v b t → b ≡ []
      back (means_null e) = e
  node_decided (Field unit count) parts o v b =
      decided_by (counted_decided (λ n. (length b ≡ unit * n) × IsBits b) (count_of v count)
      (λ n. both_decided (same_number (length b) (unit * n)) (are_bits b)))
      (λ w. (bits b, means_field w.0 w.1 w.2.0 w.2.1)) (λ w. back w.1)
    where
      back : {t : TreeV} → NodeMeans d (Field unit count) o v b t → (n : ℕ) × (count_of v count ≡ Some n) × ((length b ≡ unit * n) × IsBits b)
      back (means_field n is wide are) = (n, is, (wide, are))
  node_decided Rest parts o v b = decided_by (are_bits b) (λ h. (bits b, means_rest h)) (λ w. back w.1)
    where
      back : {t : TreeV} → NodeMeans d Rest o v b t → IsBits b
      back (means_rest h) = h
  node_decided (Seq parts) tested o v b = decided_by (parts_decided tested o v b) (λ w. (row w.0, means_seq w.1)) (λ w. back w.1)
    where
      back : {t : TreeV} → NodeMeans d (Seq parts) o v b t → HaveTrees parts o v b
      back (means_seq {ts = ts} h) = (ts, h)
  node_decided (Choice parts) tested o v b =
      decided_by (one_decided tested o v b) (λ w. (alt w.number w.holds.0, means_choice w.at w.holds.1)) (λ w. back w.1)
    where
      back : {t : TreeV} → NodeMeans d (Choice parts) o v b t → One (λ i. HasTree i o v b) parts
      back (means_choice {j = j} {i = i} {t = t} at h) = record { number = j; part = i; at = at; holds = (t, h) }
  node_decided (Times count i) (tested_next test rest) o v b =
      decided_by (counted_decided (λ n. (ts : Trees) × TimesMean d n i o v b ts) (count_of v count) (λ n. times_decided i v (λ p x. test p v x) n o b))
      (λ w. (row w.2.0, means_times w.0 w.1 w.2.1)) (λ w. back w.1)
    where
      back : {t : TreeV} → NodeMeans d (Times count i) o v b t → (n : ℕ) × (count_of v count ≡ Some n) × ((ts : Trees) × TimesMean d n i o v b ts)
      back (means_times {ts = ts} n is h) = (n, is, (ts, h))
  node_decided (Many i) (tested_next test rest) o v b =
      decided_by (many_decided i v (λ p x. test p v x) (length b) o b (omega arith)) (λ w. (row w.0, means_many w.1)) (λ w. back w.1)
    where
      back : {t : TreeV} → NodeMeans d (Many i) o v b t → (ts : Trees) × ManyMean d i o v b ts
      back (means_many {ts = ts} h) = (ts, h)
  node_decided (Trunc parts) tested o v b =
      elim (is_empty b) [
        | inl e ↦ inl (row none, means_cut e)
        | inr some ↦ decided_by (first_decided tested o v b) (λ w. (row w.0, means_trunc w.1)) (λ w. back some w.1)
      ]
    where
      back : {t : TreeV} → ¬ (b ≡ []) → NodeMeans d (Trunc parts) o v b t → HaveFirst parts o v b
      back some (means_cut e) = absurd (some e)
      back some (means_trunc {ts = ts} h) = (ts, h)
  node_decided (Window unit count i) (tested_next test rest) o v b =
      decided_by (counted_decided (λ n. (length b ≡ unit * n) × HasTree i o v b) (count_of v count)
      (λ n. both_decided (same_number (length b) (unit * n)) (test o v b)))
      (λ w. (w.2.1.0, means_window w.0 w.1 w.2.0 w.2.1.1)) (λ w. back w.1)
    where
      back : {t : TreeV} → NodeMeans d (Window unit count i) o v b t → (n : ℕ) × (count_of v count ≡ Some n) × ((length b ≡ unit * n) × HasTree i o v b)
      back (means_window {t = t} n is wide h) = (n, is, (wide, (t, h)))
  node_decided (Named label i) (tested_next test rest) o v b =
      decided_by (test o v b) (λ w. (named label w.0, means_named w.1)) (λ w. back w.1)
    where
      back : {t : TreeV} → NodeMeans d (Named label i) o v b t → HasTree i o v b
      back (means_named {t = t} h) = (t, h)

  mutual
    pub tree_decided : {i end : ℕ} → Spans d.nodes i end → (o : ℕ) (v : Values) (b : List ℕ) → Decided (HasTree i o v b)
    tree_decided (spans n at h) o v b =
        decided_by (node_decided n (trees_tested h) o v b) (λ w. (w.0, means_at n at w.1)) (λ w. (w.0, meaning_at d at w.1))

    trees_tested : {parts : List ℕ} {at end : ℕ} → PartsSpan d.nodes parts at end → Tested HasTree parts
    trees_tested (span_end e) = tested_end
    trees_tested (span_next middle e h rest) = tested_next (λ o v b. tree_decided h o v b) (trees_tested rest)

  -- ---- bits that are followed

  -- the part behind others is followed
  abbrev FollowBehind : List ℕ → ℕ → ℕ → Values → List ℕ → List ℕ → Type 0
  FollowBehind parts i o v x y = HasTree i o v x × PartsFollow d parts (o + length x) (with_value d.nodes i x v) y

  parts_follow : {parts : List ℕ} → Tested HasTree parts → Tested (NFollow d) parts → (o : ℕ) (v : Values) (b : List ℕ) → Decided (PartsFollow d parts o v b)
  parts_follow tested_end tested_end o v b = inr (λ h. elim h [ ])
  parts_follow (tested_next {i = i} {parts = parts} test rest) (tested_next follow later) o v b =
      elim (follow o v b) [
        | inl here ↦ inl (parts_here here)
        | inr never ↦
            decided_by (cut_decided (FollowBehind parts i o v) b
            (λ x y e. both_decided (test o v x) (parts_follow rest later (o + length x) (with_value d.nodes i x v) y)))
            (λ w. parts_later w.front w.back w.is w.holds.0.1 w.holds.1) (λ h. cut never h)
      ]
    where
      cut : ¬ NFollow d i o v b → PartsFollow d (i ∷ parts) o v b → Cut (FollowBehind parts i o v) b
      cut never (parts_here h) = absurd (never h)
      cut never (parts_later {t = t} b1 b2 e h others) = record { front = b1; back = b2; is = e; holds = ((t, h), others) }

  module _ (i : ℕ) (v : Values) (test : (o : ℕ) (b : List ℕ) → Decided (HasTree i o v b)) (follow : (o : ℕ) (b : List ℕ) → Decided (NFollow d i o v b)) where
    abbrev TurnsBehind : ℕ → ℕ → List ℕ → List ℕ → Type 0
    TurnsBehind m o x y = HasTree i o v x × TimesFollow d m i (o + length x) v y

    times_follow : (n o : ℕ) (b : List ℕ) → Decided (TimesFollow d n i o v b)
    times_follow zero o b = inr (λ h. nothing h)
      where
        nothing : TimesFollow d 0 i o v b → ⊥
        nothing (times_here some h) = absurd (omega (arith, some))
        nothing (times_later m is b1 b2 e h others) = cc
    times_follow (suc m) o b =
        elim (follow o b) [
          | inl here ↦ inl (times_here (omega arith) here)
          | inr never ↦
              decided_by (cut_decided (TurnsBehind m o) b (λ x y e. both_decided (test o x) (times_follow m (o + length x) y)))
              (λ w. times_later m refl w.front w.back w.is w.holds.0.1 w.holds.1) (λ h. cut never h)
        ]
      where
        cut : ¬ NFollow d i o v b → TimesFollow d (suc m) i o v b → Cut (TurnsBehind m o) b
        cut never (times_here some h) = absurd (never h)
        cut never (times_later {t = t} k is b1 b2 e h others) =
            let same : k ≡ m = cc in
            let P : ℕ → Type 0 = λ z. TimesFollow d z i (o + length b1) v b2 in
            record { front = b1; back = b2; is = e; holds = ((t, h), subst P same others) }

    abbrev FreeBehind : ℕ → List ℕ → List ℕ → Type 0
    FreeBehind o x y = (0 < length x) × (HasTree i o v x × ManyFollow d i (o + length x) v y)

    free_cut : {o : ℕ} {b : List ℕ} → ¬ NFollow d i o v b → ManyFollow d i o v b → Cut (FreeBehind o) b
    free_cut never (many_here h) = absurd (never h)
    free_cut never (many_later {t = t} b1 b2 e some h others) = record { front = b1; back = b2; is = e; holds = (some, ((t, h), others)) }

    free_behind :
        (most o : ℕ) (b x y : List ℕ) → length b ≤ suc most → b ≡ x ++ y
        → ((p : ℕ) (z : List ℕ) → length z ≤ most → Decided (ManyFollow d i p v z)) → Decided (FreeBehind o x y)
    free_behind most o b x y few e later =
        elim (is_less 0 (length x)) [
          | inl some ↦
              both_decided (inl some) (both_decided (test o x) (later (o + length x) y (omega (arith, few, some, ap length e, length-append x y))))
          | inr never ↦ inr (λ w. never w.0)
        ]

    many_follow : (most o : ℕ) (b : List ℕ) → length b ≤ most → Decided (ManyFollow d i o v b)
    many_follow zero o b few =
        elim (follow o b) [
          | inl here ↦ inl (many_here here)
          | inr never ↦ inr (λ h. let w = free_cut never h in let some = w.holds.0 in
              absurd (omega (arith, few, some, ap length w.is, length-append w.front w.back)))
        ]
    many_follow (suc most) o b few =
        elim (follow o b) [
          | inl here ↦ inl (many_here here)
          | inr never ↦
              decided_by
              (cut_decided (FreeBehind o) b (λ x y e. free_behind most o b x y few e (λ p z short. many_follow most p z short)))
              (λ w. many_later w.front w.back w.is w.holds.0 w.holds.1.0.1 w.holds.1.1)
              (λ h. free_cut never h)
        ]

  -- ---- the first few of the bits of a leaf

  -- some bit that a spare part has
  one_spare : (r : Reading) (s : Symbol) (o : ℕ) → (x : ℕ) × IsSpare r s o (x ∷ [])
  one_spare r s o = (symbol_bit s o, spelled_is_spare r s o)

  spelled_front : (s : Symbol) (b rest : List ℕ) (o : ℕ) → b ++ rest ≡ spelled (replicate (length (b ++ rest)) s) o → b ≡ spelled (replicate (length b) s) o
  spelled_front s [] rest o e = refl
  spelled_front s (x ∷ b) rest o e =
      let head : x ≡ symbol_bit s o = cc in
      let tail : b ++ rest ≡ spelled (replicate (length (b ++ rest)) s) (suc o) = cc in
      let later : b ≡ spelled (replicate (length b) s) (suc o) = spelled_front s b rest (suc o) tail in
      cc

  spare_front : (r : Reading) (s : Symbol) (o : ℕ) (b rest : List ℕ) → IsSpare r s o (b ++ rest) → IsSpare r s o b
  spare_front Received s o b rest h = IsBits-front b rest h
  spare_front Sent s o b rest h = spelled_front s b rest o h

  -- bits that fill a part with one bit are all of its bits
  no_rest : (whole b rest : List ℕ) → whole ≡ b ++ rest → length whole ≡ 1 → ¬ (b ≡ []) → whole ≡ b
  no_rest whole [] rest e one some = absurd (some refl)
  no_rest whole (x ∷ b) [] e one some = e ∙ append-nil (x ∷ b)
  no_rest whole (x ∷ b) (y ∷ rest) e one some = absurd (omega (arith, ap length e, one, length-append b (y ∷ rest)))

  -- a field whose first bits these are
  field_begun : (unit : ℕ) (count : Count) (o : ℕ) (v : Values) (b : List ℕ) (n : ℕ)
      → count_of v count ≡ Some n → length b ≤ unit * n → IsBits b → NodeFollows d (Field unit count) o v b
  field_begun unit count o v b n is few are =
      let zeros : List ℕ = replicate (unit * n - length b) 0 in
      let long : length (b ++ zeros) ≡ unit * n = length-append b zeros
      ∙ (let l : length zeros ≡ unit * n - length b = length-replicate (unit * n - length b) 0 in
      omega (arith, l, few)) in
      follows_field (b ++ zeros) zeros refl (means_field n is long (IsBits-append b zeros are (IsBits-zeros (unit * n - length b))))

  lits_follow : (run : List Symbol) (o : ℕ) (v : Values) (b : List ℕ) → ¬ NodeHasTree (Lits run) o v b → Decided (NodeFollows d (Lits run) o v b)
  lits_follow run o v b never =
      decided_by (is_front b (spelled run o)) (λ w. follows_lits (spelled run o) w.0 w.1 (means_lits refl)) (λ h. back h)
    where
      front : {t : TreeV} (whole rest : List ℕ) → whole ≡ b ++ rest → NodeMeans d (Lits run) o v whole t → (r : List ℕ) × (spelled run o ≡ b ++ r)
      front whole rest e (means_lits is) = (rest, sym is ∙ e)

      back : NodeFollows d (Lits run) o v b → (rest : List ℕ) × (spelled run o ≡ b ++ rest)
      back (follows_whole t h) = absurd (never (t, h))
      back (follows_lits whole rest e h) = front whole rest e h

  spare_follows : (s : Symbol) (o : ℕ) (v : Values) (b : List ℕ) → ¬ NodeHasTree (Spare s) o v b → Decided (NodeFollows d (Spare s) o v b)
  spare_follows s o v b never =
      elim (is_empty b) [
        | inl bare ↦ (
            let P : List ℕ → Type 0 = λ l. NodeFollows d (Spare s) o v l in
            let one = one_spare d.reading s o in
            inl (subst P (sym bare) (follows_spare (one.0 ∷ []) (one.0 ∷ []) refl (means_spare refl one.1))))
        | inr some ↦ inr (λ h. refuse some h)
      ]
    where
      whole_spare : {t : TreeV} (whole rest : List ℕ) → ¬ (b ≡ []) → whole ≡ b ++ rest → NodeMeans d (Spare s) o v whole t → ⊥
      whole_spare whole rest some e (means_spare one is) =
          let P : List ℕ → Type 0 = λ l. NodeHasTree (Spare s) o v l in
          never (subst P (no_rest whole b rest e one some) (bits whole, means_spare one is))

      refuse : ¬ (b ≡ []) → NodeFollows d (Spare s) o v b → ⊥
      refuse some (follows_whole t h) = never (t, h)
      refuse some (follows_spare whole rest e h) = whole_spare whole rest some e h

  pad_follows : (o : ℕ) (v : Values) (b : List ℕ) → ¬ NodeHasTree Pad o v b → Decided (NodeFollows d Pad o v b)
  pad_follows o v b never =
      elim (is_less 0 (length b)) [
        | inl some ↦ inr (λ h. refuse some h)
        | inr bare ↦ (
            let P : List ℕ → Type 0 = λ l. NodeFollows d Pad o v l in
            let one = one_spare d.reading Low o in
            inl (subst P (sym (nothing bare)) (follows_pad (one.0 ∷ []) (one.0 ∷ []) refl (means_pad (omega arith) one.1))))
      ]
    where
      nothing : ¬ (0 < length b) → b ≡ []
      nothing bare = nil_from_length b (elim (cases_lt 0 (length b)) [ inl some ↦ absurd (bare some) | inr few ↦ omega (arith, few) ])

      whole_pad : {t : TreeV} (whole rest : List ℕ) → 0 < length b → whole ≡ b ++ rest → NodeMeans d Pad o v whole t → ⊥
      whole_pad whole rest some e (means_pad long is) =
          let P : List ℕ → Type 0 = λ l. IsSpare d.reading Low o l in
          never (bits b, means_pad some (spare_front d.reading Low o b rest (subst P e is)))

      refuse : 0 < length b → NodeFollows d Pad o v b → ⊥
      refuse some (follows_whole t h) = never (t, h)
      refuse some (follows_pad whole rest e h) = whole_pad whole rest some e h

  field_follows : (unit : ℕ) (count : Count) (o : ℕ) (v : Values) (b : List ℕ)
      → ¬ NodeHasTree (Field unit count) o v b → Decided (NodeFollows d (Field unit count) o v b)
  field_follows unit count o v b never =
      decided_by (counted_decided (λ n. (length b ≤ unit * n) × IsBits b) (count_of v count) (λ n. both_decided (is_most (length b) (unit * n)) (are_bits b)))
      (λ w. field_begun unit count o v b w.0 w.1 w.2.0 w.2.1) (λ h. back h)
    where
      front : {t : TreeV} (whole rest : List ℕ) → whole ≡ b ++ rest → NodeMeans d (Field unit count) o v whole t
          → (n : ℕ) × (count_of v count ≡ Some n) × ((length b ≤ unit * n) × IsBits b)
      front whole rest e (means_field n is wide are) =
          (n, is, (omega (arith, wide, ap length e, length-append b rest), IsBits-front b rest (IsBits-along (sym e) are)))

      back : NodeFollows d (Field unit count) o v b → (n : ℕ) × (count_of v count ≡ Some n) × ((length b ≤ unit * n) × IsBits b)
      back (follows_whole t h) = absurd (never (t, h))
      back (follows_field whole rest e h) = front whole rest e h

  -- ---- a node

  -- what a node follows that has no tree for the bits
  begun_decided : (n : Node) → Tested HasTree (parts_of n) → Tested (NFollow d) (parts_of n)
      → (o : ℕ) (v : Values) (b : List ℕ) → ¬ NodeHasTree n o v b → Decided (NodeFollows d n o v b)
  begun_decided (Lits run) trees follows o v b never = lits_follow run o v b never
  begun_decided (Spare s) trees follows o v b never = spare_follows s o v b never
  begun_decided Pad trees follows o v b never = pad_follows o v b never
  begun_decided Null trees follows o v b never = inr (λ h. back h)
    where
      back : NodeFollows d Null o v b → ⊥
      back (follows_whole t h) = never (t, h)
  begun_decided (Field unit count) trees follows o v b never = field_follows unit count o v b never
  begun_decided Rest trees follows o v b never = inr (λ h. back h)
    where
      back : NodeFollows d Rest o v b → ⊥
      back (follows_whole t h) = never (t, h)
  begun_decided (Seq parts) trees follows o v b never = decided_by (parts_follow trees follows o v b) (λ h. follows_seq h) (λ h. back h)
    where
      back : NodeFollows d (Seq parts) o v b → PartsFollow d parts o v b
      back (follows_whole t h) = absurd (never (t, h))
      back (follows_seq h) = h
  begun_decided (Choice parts) trees follows o v b never =
      decided_by (one_decided follows o v b) (λ w. follows_choice w.number w.at w.holds) (λ h. back h)
    where
      back : NodeFollows d (Choice parts) o v b → One (λ i. NFollow d i o v b) parts
      back (follows_whole t h) = absurd (never (t, h))
      back (follows_choice {i = i} j at h) = record { number = j; part = i; at = at; holds = h }
  begun_decided (Times count i) (tested_next test rest) (tested_next follow later) o v b never =
      decided_by (counted_decided (λ n. TimesFollow d n i o v b) (count_of v count) (λ n. times_follow i v (λ p x. test p v x) (λ p x. follow p v x) n o b))
      (λ w. follows_times w.0 w.1 w.2) (λ h. back h)
    where
      back : NodeFollows d (Times count i) o v b → (n : ℕ) × (count_of v count ≡ Some n) × TimesFollow d n i o v b
      back (follows_whole t h) = absurd (never (t, h))
      back (follows_times n is h) = (n, is, h)
  begun_decided (Many i) (tested_next test rest) (tested_next follow later) o v b never =
      decided_by (many_follow i v (λ p x. test p v x) (λ p x. follow p v x) (length b) o b (omega arith)) (λ h. follows_many h) (λ h. back h)
    where
      back : NodeFollows d (Many i) o v b → ManyFollow d i o v b
      back (follows_whole t h) = absurd (never (t, h))
      back (follows_many h) = h
  begun_decided (Trunc parts) trees follows o v b never = decided_by (parts_follow trees follows o v b) (λ h. follows_trunc h) (λ h. back h)
    where
      back : NodeFollows d (Trunc parts) o v b → PartsFollow d parts o v b
      back (follows_whole t h) = absurd (never (t, h))
      back (follows_trunc h) = h
  begun_decided (Window unit count i) trees (tested_next follow later) o v b never =
      decided_by (counted_decided (λ n. (length b ≤ unit * n) × NFollow d i o v b) (count_of v count)
      (λ n. both_decided (is_most (length b) (unit * n)) (follow o v b)))
      (λ w. follows_window w.0 w.1 w.2.0 w.2.1) (λ h. back h)
    where
      back : NodeFollows d (Window unit count i) o v b → (n : ℕ) × (count_of v count ≡ Some n) × ((length b ≤ unit * n) × NFollow d i o v b)
      back (follows_whole t h) = absurd (never (t, h))
      back (follows_window n is few h) = (n, is, (few, h))
  begun_decided (Named label i) trees (tested_next follow later) o v b never = decided_by (follow o v b) (λ h. follows_named h) (λ h. back h)
    where
      back : NodeFollows d (Named label i) o v b → NFollow d i o v b
      back (follows_whole t h) = absurd (never (t, h))
      back (follows_named h) = h

  node_follows : (n : Node) → Tested HasTree (parts_of n) → Tested (NFollow d) (parts_of n)
      → (o : ℕ) (v : Values) (b : List ℕ) → Decided (NodeFollows d n o v b)
  node_follows n trees follows o v b =
      elim (node_decided n trees o v b) [ inl whole ↦ inl (follows_whole whole.0 whole.1) | inr never ↦ begun_decided n trees follows o v b never ]

  mutual
    pub follow_decided : {i end : ℕ} → Spans d.nodes i end → (o : ℕ) (v : Values) (b : List ℕ) → Decided (NFollow d i o v b)
    follow_decided (spans n at h) o v b =
        decided_by (node_follows n (trees_tested h) (follows_tested h) o v b) (λ f. follows_at n at f) (λ f. follow_at d at f)

    follows_tested : {parts : List ℕ} {at end : ℕ} → PartsSpan d.nodes parts at end → Tested (NFollow d) parts
    follows_tested (span_end e) = tested_end
    follows_tested (span_next middle e h rest) = tested_next (λ o v b. follow_decided h o v b) (follows_tested rest)
