-- Where nodes are reached, from where the nodes above them are.
use Rattle.std.proofs.Common.{◌≡◌, ◌≢◌, ℕ, zero, suc, ◌+◌, ◌-◌, ◌<◌, ◌≤◌, ◌⊎◌, ◌↔◌, List, [], ◌∷◌, ◌++◌, length, take}
use Rattle.std.proofs.Common.{drop, refl, sym, ap, ◌∙◌, subst, arith, inl, inr, Some, append-nil}
use Rattle.std.proofs.lemmas.List.{take_all}
use Rattle.std.specs.Prelude.{slice_get}
use Rattle.std.specs.Ordering.{nat_cmp}
use Rattle.std.specs.FinSet as set
use Rattle.std.proofs.Math.ListN.{set as put, drop_of_length-le}
use Rattle.std.proofs.lemmas.Bool.{cases_order}
use Rattle.std.proofs.lemmas.Option.{slice_get_within}
use Rattle.csn_desc.specs.declared.node.Count.{Count}
use Rattle.csn_desc.specs.declared.node.Count.TheVariants.{Fixed, Counted}
use Rattle.csn_desc.specs.declared.node.Node.{Node}
use Rattle.csn_desc.specs.declared.node.Node.TheVariants.{Seq, Choice, Times, Many, Trunc, Window, Named}
use Rattle.csn_desc.specs.Nodes.{DescV, parts_of}
use Rattle.csn_desc.specs.Formed.{IsDescription}
use Rattle.csn_desc.proofs.Numbering.{part_from, span_inside, span_parts, part_before}
use Rattle.csn_desc.proofs.Parents.{one_parent}
use Rattle.csn_look.specs.Told.{OctetsAre}
use Rattle.csn_look.specs.Sums.{Has, IsSum, SumOf, sum_none, sum_next}
use Rattle.csn_look.specs.NodeSets.{LengthsAre}
use Rattle.csn_look.specs.Ends.{InEnds, PartsEnd, TimesEnd, ManyEnd}
use Rattle.csn_look.specs.Ends.{parts_end}
use Rattle.csn_look.specs.Ends.{parts_next}
use Rattle.csn_look.specs.Reached.{Reached, PartReached, reached_root, reached_part, reached_seq, reached_trunc}
use Rattle.csn_look.specs.Reached.{reached_choice, reached_window, reached_named, reached_times, reached_counted}
use Rattle.csn_look.specs.Reached.{reached_many}
use Rattle.csn_look.specs.ReachV.{HasAt}
use Rattle.csn_look.specs.Steps.{IsStep, HasSteps, KeepsOthers, HasPartsOnce, HasPartsBelow, HandsTo}
use Rattle.csn_equations.proofs.Small.{LeadsOn, parts_small, times_small, many_small, node_small}
use Rattle.csn_look.proofs.Meaning.LeastSets.{EndsWith, each_ends}
use Rattle.csn_look.proofs.Meaning.ReachFacts.{parts_end_more}
use Rattle.csn_look.proofs.Basics.Puts.{get_put_same, get_put_other, middle_get, middle_take, split_at, take_more}
use Rattle.csn_look.proofs.Basics.Octets.{has_insert, has_none, sum_small}
use Rattle.csn_look.proofs.Sets.RepetitionsTell.{times_of, sum_of_times}

-- ---- ends are octet positions

module _ (d : DescV) where
  pub end_small : {i o p : ℕ} → InEnds d i o p → o ≤ 7 → p ≤ 7
  end_small h low =
      each_ends (λ i o p. LeadsOn o p) (λ i o p made. node_small (EndsWith d (λ i o p. LeadsOn o p)) (λ j r s over. over.1) d made.has) h low

  small_ends : (i o p : ℕ) → InEnds d i o p → LeadsOn o p
  small_ends i o p h low = end_small h low

  step_small : {n : Node} {before : List ℕ} {i from o : ℕ} → PartReached d n before i from o → from ≤ 7 → o ≤ 7
  step_small (reached_seq h) low = parts_small (InEnds d) small_ends h low
  step_small (reached_trunc h) low = parts_small (InEnds d) small_ends h low
  step_small (reached_choice e) low = omega arith
  step_small (reached_window e) low = omega arith
  step_small (reached_named e) low = omega arith
  step_small (reached_times m less h) low = times_small (InEnds d) small_ends h low
  step_small (reached_counted h) low = many_small (InEnds d) small_ends h low
  step_small (reached_many h) low = many_small (InEnds d) small_ends h low

  pub reached_small : {i o : ℕ} → Reached d i o → o ≤ 7
  reached_small (reached_root e f) = omega arith
  reached_small (reached_part k from n before after at split above h) = step_small h (reached_small above)

  -- ---- one part more

  pub record LastEnd (parts : List ℕ) (i o p : ℕ) : Type 0 where
    pub middle : ℕ
    pub front : PartsEnd d parts o middle
    pub last : InEnds d i middle p

  pub last_end : (parts : List ℕ) (i : ℕ) {o p : ℕ} → PartsEnd d (parts ++ i ∷ []) o p → LastEnd parts i o p
  last_end [] i {o} {p} (parts_next m h (parts_end e)) = record { middle = o; front = parts_end refl; last = subst (λ q. InEnds d i o q) (sym e) h }
  last_end (x ∷ parts) i (parts_next m h others) =
      let l = last_end parts i others in
      record { middle = l.middle; front = parts_next m h l.front; last = l.last }

  -- the octet positions at which the part at a place begins, where the first one begins at one of the set
  abbrev pub BeginsAt : List ℕ → set.FinSet nat_cmp → ℕ → ℕ → Type 0
  BeginsAt parts from j o = (begin : ℕ) × (begin ≤ 7) × Has from begin × PartsEnd d (take j parts) begin o

  no_end : {o p : ℕ} → PartsEnd d [] o p → p ≡ o
  no_end (parts_end e) = e

  pub begins_first : (parts : List ℕ) (from : set.FinSet nat_cmp) → OctetsAre from (BeginsAt parts from 0)
  begins_first parts from o low = (
    (λ h. (o, low, h, parts_end refl)),
    (λ (begin, small, h, e). subst (λ q. Has from q) (sym (no_end e)) h),
  )

  pub begins_next : (parts : List ℕ) (from here next lengths : set.FinSet nat_cmp) (j p : ℕ)
      → slice_get parts j ≡ Some p → OctetsAre here (BeginsAt parts from j) → LengthsAre lengths (InEnds d p)
      → OctetsAre next (IsSum here lengths) → OctetsAre next (BeginsAt parts from (j + 1))
  begins_next parts from here next lengths j p at are ends sums o low =
      let behind : j + 1 ≡ suc j = omega arith in
      let longer : take (j + 1) parts ≡ take j parts ++ p ∷ [] = ap (λ n. take n parts) behind ∙ take_more parts j p at in (
        (λ h.
            let s = (sums o low).0 h in
            let b = (are s.a s.a_small).0 s.has_a in
            let last = (ends s.a o s.a_small).0 (record { length = s.b; small = s.b_small; has_length = s.has_b; is = s.is }) in
            (b.0, b.1, b.2, subst (λ ps. PartsEnd d ps b.0 o) (sym longer) (parts_end_more d b.3 last))),
        (λ (begin, small, h, e).
            let l = last_end (take j parts) p (subst (λ ps. PartsEnd d ps begin o) longer e) in
            let middle_low = parts_small (InEnds d) small_ends l.front small in
            let r = (ends l.middle o middle_low).1 l.last in
            (sums o low).1 (record {
              a = l.middle;
              b = r.length;
              a_small = middle_low;
              b_small = r.small;
              has_a = (are l.middle middle_low).1 (begin, small, h, l.front);
              has_b = r.has_length;
              is = r.is;
            })),
      )

  -- ---- steps to the parts of each kind

  seq_step : {parts before : List ℕ} {p from o : ℕ} → PartReached d (Seq parts) before p from o → PartsEnd d before from o
  seq_step (reached_seq h) = h

  trunc_step : {parts before : List ℕ} {p from o : ℕ} → PartReached d (Trunc parts) before p from o → PartsEnd d before from o
  trunc_step (reached_trunc h) = h

  pub at_seq : (parts : List ℕ) (from s : set.FinSet nat_cmp) (j p : ℕ) → OctetsAre s (BeginsAt parts from j) → OctetsAre s (IsStep d (Seq parts) from j p)
  at_seq parts from s j p are o low = (
    (λ h. let b = (are o low).0 h in record { begin = b.0; low = b.1; has_begin = b.2; step = reached_seq b.3 }),
    (λ t. (are o low).1 (t.begin, t.low, t.has_begin, seq_step t.step)),
  )

  pub trunc_steps : (parts : List ℕ) (from : set.FinSet nat_cmp) (sets : List (set.FinSet nat_cmp))
      → HasSteps d (Seq parts) from sets → HasSteps d (Trunc parts) from sets
  trunc_steps parts from sets steps j p at =
      let h = steps j p at in (
        h.0,
        h.1,
        (λ o low. (
          (λ t. let s = (h.2 o low).0 t in record { begin = s.begin; low = s.low; has_begin = s.has_begin; step = reached_trunc (seq_step s.step) }),
          (λ s. (h.2 o low).1 (record { begin = s.begin; low = s.low; has_begin = s.has_begin; step = reached_seq (trunc_step s.step) })),
        )),
      )

  choice_step : {parts before : List ℕ} {p from o : ℕ} → PartReached d (Choice parts) before p from o → o ≡ from
  choice_step (reached_choice e) = e

  window_step : {unit i : ℕ} {count : Count} {before : List ℕ} {p from o : ℕ} → PartReached d (Window unit count i) before p from o → o ≡ from
  window_step (reached_window e) = e

  named_step : {label : List ℕ} {i : ℕ} {before : List ℕ} {p from o : ℕ} → PartReached d (Named label i) before p from o → o ≡ from
  named_step (reached_named e) = e

  pub at_choice : (parts : List ℕ) (from : set.FinSet nat_cmp) (j p : ℕ) → OctetsAre from (IsStep d (Choice parts) from j p)
  at_choice parts from j p o low = (
    (λ h. record { begin = o; low = low; has_begin = h; step = reached_choice refl }),
    (λ t. subst (λ q. Has from q) (sym (choice_step t.step)) t.has_begin),
  )

  pub at_window : (unit i : ℕ) (count : Count) (from : set.FinSet nat_cmp) (j p : ℕ) → OctetsAre from (IsStep d (Window unit count i) from j p)
  at_window unit i count from j p o low = (
    (λ h. record { begin = o; low = low; has_begin = h; step = reached_window refl }),
    (λ t. subst (λ q. Has from q) (sym (window_step t.step)) t.has_begin),
  )

  pub at_named : (label : List ℕ) (i : ℕ) (from : set.FinSet nat_cmp) (j p : ℕ) → OctetsAre from (IsStep d (Named label i) from j p)
  at_named label i from j p o low = (
    (λ h. record { begin = o; low = low; has_begin = h; step = reached_named refl }),
    (λ t. subst (λ q. Has from q) (sym (named_step t.step)) t.has_begin),
  )

  -- a step by lengths, from each octet position of the set
  pub by_lengths : (from lengths s : set.FinSet nat_cmp) (E : ℕ → ℕ → Type 0)
      → LengthsAre lengths E → OctetsAre s (IsSum from lengths)
      → OctetsAre s (λ o. (begin : ℕ) × (begin ≤ 7) × Has from begin × E begin o)
  by_lengths from lengths s E are sums o low = (
    (λ h.
        let t = (sums o low).0 h in
        (t.a, t.a_small, t.has_a, (are t.a o t.a_small).0 (record { length = t.b; small = t.b_small; has_length = t.has_b; is = t.is }))),
    (λ (begin, small, h, e).
        let r = (are begin o small).1 e in
        (sums o low).1 (record { a = begin; b = r.length; a_small = small; b_small = r.small; has_a = h; has_b = r.has_length; is = r.is })),
  )

  pub at_times : (count : Count) (i : ℕ) (from lengths s : set.FinSet nat_cmp)
      → LengthsAre lengths (PartReached d (Times count i) [] i) → OctetsAre s (IsSum from lengths)
      → OctetsAre s (IsStep d (Times count i) from 0 i)
  at_times count i from lengths s are sums o low =
      let b = by_lengths from lengths s (PartReached d (Times count i) [] i) are sums o low in (
        (λ h. let t = b.0 h in record { begin = t.0; low = t.1; has_begin = t.2; step = t.3 }),
        (λ t. b.1 (t.begin, t.low, t.has_begin, t.step)),
      )

  many_step : {i : ℕ} {before : List ℕ} {p from o : ℕ} → PartReached d (Many i) before p from o → ManyEnd d p from o
  many_step (reached_many h) = h

  pub at_many : (i : ℕ) (from lengths s : set.FinSet nat_cmp) → LengthsAre lengths (ManyEnd d i)
      → OctetsAre s (IsSum from lengths) → OctetsAre s (IsStep d (Many i) from 0 i)
  at_many i from lengths s are sums o low =
      let b = by_lengths from lengths s (ManyEnd d i) are sums o low in (
        (λ h. let t = b.0 h in record { begin = t.0; low = t.1; has_begin = t.2; step = reached_many t.3 }),
        (λ t. b.1 (t.begin, t.low, t.has_begin, many_step t.step)),
      )

  -- ---- a part is reached by steps from where its node is

  pub right_part : (k j p : ℕ) (n : Node) (from : set.FinSet nat_cmp) → IsDescription d → slice_get d.nodes k ≡ Some n
      → slice_get (parts_of n) j ≡ Some p → OctetsAre from (Reached d k) → (o : ℕ)
      → IsStep d n from j p o ↔ Reached d p o
  right_part k j p n from is at get are o = (
    (λ t. let s = split_at (parts_of n) j p get in reached_part k t.begin n (take j (parts_of n)) s.after at s.is ((are t.begin t.low).0 t.has_begin) t.step),
    (λ r. back r),
  )
    where
      back : {o : ℕ} → Reached d p o → IsStep d n from j p o
      back (reached_root e f) =
          let inside = slice_get_within d.nodes k n at in
          let s = span_inside d.nodes k is.numbered (omega arith) inside in
          let low = part_from d.nodes j p (span_parts d.nodes at s.span) get in
          absurd (omega arith)
      back {o} (reached_part m begin q before after there split above step) =
          let got : slice_get (parts_of q) (length before) ≡ Some p =
          subst (λ l. slice_get l (length before) ≡ Some p) (sym split) (middle_get before after p) in
          let one = one_parent d m k (length before) j p q n is there at got get in
          let same : q ≡ n = cc (there, at, one.0) in
          let front : before ≡ take j (parts_of n) =
          sym (middle_take before after p) ∙ ap (λ l. take (length before) l) (sym split)
          ∙ ap (λ i. take i (parts_of q)) one.1 ∙ ap (λ r. take j (parts_of r)) same in
          let low = reached_small above in
          record {
            begin = begin;
            low = low;
            has_begin = (are begin low).1 (subst (λ i. Reached d i begin) one.0 above);
            step = subst (λ b. PartReached d n b p begin o) front (subst (λ r. PartReached d r before p begin o) same step);
          }

-- ---- before the last of a constant number of repetitions

zeros : (s : set.FinSet nat_cmp) (k : ℕ) → Has s 0 → SumOf s k 0
zeros s zero has = sum_none refl refl
zeros s (suc k) has = sum_next k 0 0 refl (omega arith) has (zeros s k has) refl

record Fewer (s : set.FinSet nat_cmp) (k r : ℕ) : Type 0 where
  pub count : ℕ
  pub few : count ≤ k
  pub sum : SumOf s count r

fewer : {s t : set.FinSet nat_cmp} {k r : ℕ} → t ≡ set.insert s 0 → SumOf t k r → Fewer s k r
fewer e (sum_none f g) = record { count = 0; few = omega arith; sum = sum_none refl g }
fewer {s} {t} {k} {r} e (sum_next m a b f small has others is) =
    let less = fewer e others in
    let few = less.few in
    let b_small = sum_small others in
    elim ((has_insert s 0 a).0 (ap (λ u. set.contains u a) (sym e) ∙ has)) [
      | inl none ↦ let same : b ≡ r = omega (arith, none) in record {
        count = less.count;
        few = omega arith;
        sum =
            subst (λ q. SumOf s less.count q) same less.sum;
      }
      | inr had ↦ record { count = suc less.count; few = omega arith; sum = sum_next less.count a b refl small had less.sum is }
    ]

more_of : {s t : set.FinSet nat_cmp} {m r : ℕ} (k : ℕ) → t ≡ set.insert s 0 → m ≤ k → SumOf s m r → SumOf t k r
more_of {s} {t} {m} {r} k e less (sum_none f g) =
    subst (λ q. SumOf t k q) (sym g) (zeros t k (ap (λ u. set.contains u 0) e ∙ (has_insert s 0 0).1 (inl refl)))
more_of zero e less (sum_next n a b f small has others is) = absurd (omega arith)
more_of {s} {t} (suc k) e less (sum_next n a b f small has others is) =
    sum_next k a b refl small (ap (λ u. set.contains u a) e ∙ (has_insert s 0 a).1 (inr has)) (more_of k e (omega arith) others) is

module _ (d : DescV) where
  no_turn : {i o p : ℕ} {before : List ℕ} {n part : ℕ} → PartReached d (Times (Fixed n) part) before i o p → n ≡ 0 → ⊥
  no_turn (reached_times m less h) none = omega arith

  pub before_none : (count : Count) (n i : ℕ) (s : set.FinSet nat_cmp) → count ≡ Fixed n → n ≡ 0 → s ≡ set.empty
      → LengthsAre s (PartReached d (Times count i) [] i)
  before_none count n i s is none e =
      subst (λ c. LengthsAre s (PartReached d (Times c i) [] i)) (sym is)
      (λ o p low. ((λ h. absurd (has_none s h.length e h.has_length)), (λ h. absurd (no_turn h none))))

  record Turns (i n o p : ℕ) : Type 0 where
    pub count : ℕ
    pub less : count < n
    pub times : TimesEnd d count i o p

  turns : {i o p : ℕ} {before : List ℕ} {n part : ℕ} → PartReached d (Times (Fixed n) part) before i o p → Turns i n o p
  turns (reached_times m less h) = record { count = m; less = less; times = h }

  pub before_fixed : (count : Count) (n i : ℕ) (once t s : set.FinSet nat_cmp)
      → count ≡ Fixed n → n ≢ 0 → LengthsAre once (InEnds d i) → t ≡ set.insert once 0 → OctetsAre s (SumOf t (n - 1))
      → LengthsAre s (PartReached d (Times count i) [] i)
  before_fixed count n i once t s is some ends e sums =
      subst (λ c. LengthsAre s (PartReached d (Times c i) [] i)) (sym is)
      (λ o p low. (
        (λ h.
            let f = fewer e ((sums h.length h.small).0 h.has_length) in
            let few = f.few in
            reached_times f.count (omega arith) (subst (λ q. TimesEnd d f.count i o q) (sym h.is) (times_of d o ends low f.sum))),
        (λ h.
            let t = turns h in
            let less = t.less in
            let k = sum_of_times d ends low t.times in
            let small = sum_small k.is_sum in
            record { length = k.sum; small = small; has_length = (sums k.sum small).1 (more_of (n - 1) e (omega arith) k.is_sum); is = k.is }),
      ))

  any_turn : {i o p : ℕ} {before : List ℕ} {m f c part : ℕ} → PartReached d (Times (Counted m f c) part) before i o p → ManyEnd d i o p
  any_turn (reached_counted h) = h

  pub before_counted : (count : Count) (m f c i : ℕ) (s : set.FinSet nat_cmp)
      → count ≡ Counted m f c → LengthsAre s (ManyEnd d i) → LengthsAre s (PartReached d (Times count i) [] i)
  before_counted count m f c i s is are =
      subst (λ q. LengthsAre s (PartReached d (Times q i) [] i)) (sym is)
      (λ o p low. ((λ h. reached_counted ((are o p low).0 h)), (λ h. (are o p low).1 (any_turn h))))

-- ---- what is written for parts

-- nothing but what is of the parts is changed
abbrev pub KeptBeside : {A : Type 0} → List ℕ → List A → List A → Type 0
KeptBeside parts old new = (i : ℕ) → ((j : ℕ) → slice_get parts j ≡ Some i → ⊥) → slice_get new i ≡ slice_get old i

pub kept_more : {A : Type 0} (parts : List ℕ) (old new : List A) (at p : ℕ) (s : A)
    → slice_get parts at ≡ Some p → KeptBeside parts old new → KeptBeside parts old (put new p s)
kept_more parts old new at p s get kept i beside =
    let differ : i ≢ p = λ same. beside at (get ∙ ap (λ x. Some x) (sym same)) in
    get_put_other new p i s differ ∙ kept i beside

-- the parts so far have their facts
abbrev pub PutSoFar : List ℕ → ℕ → List (set.FinSet nat_cmp) → (ℕ → ℕ → Type 0) → Type 0
PutSoFar parts k sets P = (j p : ℕ) → j < k → slice_get parts j ≡ Some p → HasAt sets p (P j)

pub put_more : (parts : List ℕ) (k p : ℕ) (sets : List (set.FinSet nat_cmp)) (s : set.FinSet nat_cmp)
    (P : ℕ → ℕ → Type 0) → HasPartsOnce (Seq parts) → slice_get parts k ≡ Some p → p < length sets → OctetsAre s (P k)
    → PutSoFar parts k sets P → PutSoFar parts (k + 1) (put sets p s) P
put_more parts k p sets s P once get inside are so_far j q less at =
    elim (cases_order j k) [
      | inl same ↦
          let there : slice_get parts k ≡ Some q = ap (λ n. slice_get parts n) (sym same) ∙ at in
          let one : p ≡ q = cc (get, there) in
          subst (λ n. HasAt (put sets p s) n (P j)) one
          (s, get_put_same sets p s inside, subst (λ n. OctetsAre s (P n)) (sym same) are)
      | inr order ↦ elim order [
        | inl before ↦
            let h = so_far j q before at in
            let differ : q ≢ p = λ same. apart before (once j k p (at ∙ ap (λ x. Some x) same) get) in
            (h.0, get_put_other sets p q s differ ∙ h.1, h.2)
        | inr after ↦ absurd (omega (arith, less, after))
      ]
    ]
  where
    apart : j < k → j ≡ k → ⊥
    apart before same = omega arith

pub put_none : (parts : List ℕ) (sets : List (set.FinSet nat_cmp)) (P : ℕ → ℕ → Type 0) → PutSoFar parts 0 sets P
put_none parts sets P j p less at = absurd (omega (arith, less))

pub put_all : (parts : List ℕ) (k : ℕ) (sets : List (set.FinSet nat_cmp)) (P : ℕ → ℕ → Type 0)
    → length parts ≤ k → PutSoFar parts k sets P → (j p : ℕ) → slice_get parts j ≡ Some p → HasAt sets p (P j)
put_all parts k sets P all so_far j p at = let inside = slice_get_within parts j p at in so_far j p (omega arith) at

-- parts that all have one set, which may stand twice among them
pub same_more : {A : Type 0} (parts : List ℕ) (k p : ℕ) (sets : List A) (s : A)
    → slice_get parts k ≡ Some p → p < length sets
    → ((j q : ℕ) → j < k → slice_get parts j ≡ Some q → slice_get sets q ≡ Some s) → (j q : ℕ)
    → j < k + 1 → slice_get parts j ≡ Some q → slice_get (put sets p s) q ≡ Some s
same_more parts k p sets s get inside so_far j q less at =
    elim (cases_order q p) [
      | inl same ↦ subst (λ n. slice_get (put sets p s) n ≡ Some s) (sym same) (get_put_same sets p s inside)
      | inr order ↦ get_put_other sets p q s (differs order) ∙ so_far j q (earlier order) at
    ]
  where
    differs : (q < p) ⊎ (p < q) → q ≢ p
    differs order same = elim order [ inl a ↦ let b = a in omega (arith, a, same) | inr a ↦ omega (arith, a, same) ]

    earlier : (q < p) ⊎ (p < q) → j < k
    earlier order = elim (cases_order j k) [
      | inl here ↦
          let there : slice_get parts k ≡ Some q = ap (λ n. slice_get parts n) (sym here) ∙ at in
          let one : p ≡ q = cc (get, there) in
          absurd (differs order (sym one))
      | inr place ↦ elim place [ inl before ↦ before | inr after ↦ absurd (omega (arith, less, after)) ]
    ]

pub single : (part j p : ℕ) → slice_get (part ∷ []) j ≡ Some p → (j ≡ 0) × (p ≡ part)
single part zero p at = let same : part ≡ p = cc in (refl, sym same)
single part (suc j) p at = cc

module _ (d : DescV) where
  pub single_steps : (n m : Node) (from s : set.FinSet nat_cmp) (part : ℕ) (sets : List (set.FinSet nat_cmp))
      → n ≡ m → parts_of m ≡ part ∷ [] → part < length sets → OctetsAre s (IsStep d m from 0 part)
      → HasSteps d n from (put sets part s)
  single_steps n m from s part sets is parts inside are =
      subst (λ q. HasSteps d q from (put sets part s)) (sym is)
      (λ j p at.
      let one = single part j p (subst (λ l. slice_get l j ≡ Some p) parts at) in
      subst (λ k. HasAt (put sets part s) p (IsStep d m from k p)) (sym one.0)
      (subst (λ q. HasAt (put sets part s) q (IsStep d m from 0 q)) (sym one.1) (s, get_put_same sets part s inside, are)))

  pub steps_of : (n m : Node) (from : set.FinSet nat_cmp) (sets : List (set.FinSet nat_cmp)) → n ≡ m → HasSteps d m from sets → HasSteps d n from sets
  steps_of n m from sets is h = subst (λ q. HasSteps d q from sets) (sym is) h

  pub no_steps : (n m : Node) (from : set.FinSet nat_cmp) (sets : List (set.FinSet nat_cmp)) → n ≡ m → parts_of m ≡ [] → HasSteps d n from sets
  no_steps n m from sets is none =
      steps_of n m from sets is (λ j p at. let e : slice_get [] j ≡ Some p = subst (λ l. slice_get l j ≡ Some p) none at in cc)

pub single_others : {A : Type 0} (n m : Node) (part : ℕ) (s : A) (sets : List A) → n ≡ m → parts_of m ≡ part ∷ [] → KeepsOthers n sets (put sets part s)
single_others n m part s sets is parts i beside =
    let here : slice_get (parts_of n) 0 ≡ Some part = ap (λ q. slice_get (parts_of q) 0) is ∙ ap (λ l. slice_get l 0) parts in
    get_put_other sets part i s (λ same. beside 0 (here ∙ ap (λ x. Some x) (sym same)))

pub others_of : {A : Type 0} (n m : Node) (old new : List A) → n ≡ m → KeepsOthers m old new → KeepsOthers n old new
others_of n m old new is h = subst (λ q. KeepsOthers q old new) (sym is) h

-- ---- the root, and the parts of a node that is reached

only_root : (d : DescV) (o : ℕ) → o ≡ 0 → Reached d 0 o
only_root d o e = reached_root refl e

root_only : (d : DescV) → IsDescription d → {i o : ℕ} → Reached d i o → i ≡ 0 → o ≡ 0
root_only d is (reached_root e f) none = f
root_only d is {i} (reached_part m begin q before after there split above step) none =
    let got : slice_get (parts_of q) (length before) ≡ Some i = subst (λ l. slice_get l (length before) ≡ Some i) (sym split) (middle_get before after i) in
    let inside = slice_get_within d.nodes m q there in
    let s = span_inside d.nodes m is.numbered (omega arith) inside in
    let low = part_from d.nodes (length before) i (span_parts d.nodes there s.span) got in
    absurd (omega arith)

pub root_right : (d : DescV) (s : set.FinSet nat_cmp) → IsDescription d → s ≡ set.insert set.empty 0 → OctetsAre s (Reached d 0)
root_right d s is e o low = (
  (λ h. elim ((has_insert set.empty 0 o).0 (ap (λ u. set.contains u o) (sym e) ∙ h)) [
    | inl zero_is ↦ only_root d o zero_is
    | inr before ↦ absurd (has_none set.empty o refl before)
  ]),
  (λ r. ap (λ u. set.contains u o) e ∙ (has_insert set.empty 0 o).1 (inl (root_only d is r refl))),
)

pub parts_right : (d : DescV) (k : ℕ) (n : Node) (from : set.FinSet nat_cmp) (sets : List (set.FinSet nat_cmp))
    → IsDescription d → slice_get d.nodes k ≡ Some n → OctetsAre from (Reached d k)
    → HasSteps d n from sets → (j p : ℕ) → slice_get (parts_of n) j ≡ Some p → HasAt sets p (Reached d p)
parts_right d k n from sets is at right steps j p get =
    let h = steps j p get in (
      h.0,
      h.1,
      λ o low. (
        (λ t. (right_part d k j p n from is at get right o).0 ((h.2 o low).0 t)),
        (λ t. (h.2 o low).1 ((right_part d k j p n from is at get right o).1 t)),
      ),
    )

pub has_at : (sets : List (set.FinSet nat_cmp)) (i : ℕ) (s : set.FinSet nat_cmp) (P : ℕ → Type 0) → slice_get sets i ≡ Some s → HasAt sets i P → OctetsAre s P
has_at sets i s P at h = let same : h.0 ≡ s = cc (at, h.1) in subst (λ t. OctetsAre t P) same h.2

pub parts_once : (d : DescV) (k : ℕ) (n : Node) → IsDescription d → slice_get d.nodes k ≡ Some n → HasPartsOnce n
parts_once d k n is at i j p left right =
    (one_parent d k k i j p n n is at at left right).1

pub parts_below : (d : DescV) (k : ℕ) (n : Node) (count : ℕ) → IsDescription d → slice_get d.nodes k ≡ Some n → length d.nodes ≤ count → HasPartsBelow n count
parts_below d k n count is at all j p get =
    let inside = slice_get_within d.nodes k n at in
    let s = span_inside d.nodes k is.numbered (omega arith) inside in
    let low = part_before d.nodes j p (span_parts d.nodes at s.span) get in
    let end = s.within in
    omega arith

pub below_kind : (n m : Node) (count : ℕ) → n ≡ m → HasPartsBelow n count → HasPartsBelow m count
below_kind n m count is h = subst (λ q. HasPartsBelow q count) is h

pub part_below : (n m : Node) (count part : ℕ) → n ≡ m → parts_of m ≡ part ∷ [] → HasPartsBelow n count → part < count
part_below n m count part is parts h = below_kind n m count is h 0 part (ap (λ l. slice_get l 0) parts)

-- parts one after another are handed to as those of a sequence
pub in_sequence : (n : Node) (parts : List ℕ) {nodes sets : ℕ} → parts_of n ≡ parts → HandsTo n nodes sets → HandsTo (Seq parts) nodes sets
in_sequence n parts {nodes = nodes} {sets = sets} is h =
    subst (λ l. HandsTo (Seq l) nodes sets) is (record { once = h.once; below = h.below; known = h.known })

-- a vector after its slice was written
pub written_back : {A : Type 0} (new items : List A) (len : ℕ) → length new ≡ length items → len ≡ length items
    → take len (new ++ drop (length new) items) ≡ new
written_back new items len same size =
    ap (λ l. take len (new ++ l)) (drop_of_length-le items (omega arith))
    ∙ ap (λ l. take len l) (append-nil new)
    ∙ take_all len new (omega arith)
