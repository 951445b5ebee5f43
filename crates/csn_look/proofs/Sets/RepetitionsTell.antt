-- What the sets tell that are made for repetitions, from what those of their part tell.
use Rattle.std.proofs.Common.{◌≡◌, ℕ, zero, suc, ◌+◌, ◌%◌, ◌<◌, ◌≤◌, Bool, true, false, ◌⊎◌, ◌↔◌, List, [], length, refl, sym, ap, ◌∙◌, subst, arith, inl, inr}
use Rattle.std.specs.Prelude.{IsTrue}
use Rattle.std.specs.Ordering.{nat_cmp}
use Rattle.std.specs.FinSet as set
use Rattle.csn_desc.specs.declared.node.Count.{Count}
use Rattle.csn_desc.specs.declared.node.Count.TheVariants.{Fixed, Counted}
use Rattle.csn_desc.specs.declared.node.Node.TheVariants.{Times, Many}
use Rattle.csn_desc.specs.Nodes.{DescV}
use Rattle.csn_look.specs.declared.node_sets.NodeSets.{NodeSets}
use Rattle.csn_look.specs.declared.word.TheConstants.{MOST_WORD}
use Rattle.csn_look.specs.Told.{OctetsAre}
use Rattle.csn_look.specs.Sums.{SumOf, sum_none, sum_next}
use Rattle.csn_look.specs.NodeSets.{LengthsAre, SetsAre, NodeSetsAre}
use Rattle.csn_look.specs.Nullable.{Nullable, NodeNullable, nullable_many, nullable_times, nullable_no_times}
use Rattle.csn_look.specs.Ends.{InEnds, NodeEnds, TimesEnd, ManyEnd, ends_times, ends_counted, ends_many, times_end, times_next, many_end, many_next}
use Rattle.csn_look.specs.Starts.{InStart, NodeStarts, starts_times, starts_many}
use Rattle.csn_look.specs.Keys.{InKeys, NodeKeys, TimesKeys, keys_many, keys_counted_times, keys_times, times_none, times_cut, times_whole}
use Rattle.csn_look.proofs.Basics.Octets.{sum_small}
use Rattle.csn_look.proofs.Meaning.EmptyKeys.{cut_empty, empty_cut, no_words}
use Rattle.csn_look.proofs.Sets.Telling.{both, falsity, here_length, is_so, some_word, truth, two_lengths}

module _ (d : DescV) where
  -- ---- repetitions

  pub times_of : {s : set.FinSet nat_cmp} {i n r : ℕ} (o : ℕ) → LengthsAre s (InEnds d i) → o ≤ 7 → SumOf s n r → TimesEnd d n i o ((o + r) % 8)
  times_of {s} {i} {n} {r} o are small (sum_none e f) = times_end e (omega arith)
  times_of {s} {i} {n} {r} o are small (sum_next m a b e a_small has others is) =
      let low : (o + a) % 8 ≤ 7 = omega arith in
      let first = (are o ((o + a) % 8) small).0 (record { length = a; small = a_small; has_length = has; is = refl }) in
      let total : ((o + a) % 8 + b) % 8 ≡ (o + r) % 8 = two_lengths o a b ∙ ap (λ q. (o + q) % 8) (sym is) in
      times_next m ((o + a) % 8) e first (subst (λ q. TimesEnd d m i ((o + a) % 8) q) total (times_of ((o + a) % 8) are low others))

  pub record HasSum (s : set.FinSet nat_cmp) (n o p : ℕ) : Type 0 where
    pub sum : ℕ
    pub is_sum : SumOf s n sum
    pub is : p ≡ (o + sum) % 8

  pub sum_of_times : {s : set.FinSet nat_cmp} {i n o p : ℕ} → LengthsAre s (InEnds d i) → o ≤ 7 → TimesEnd d n i o p → HasSum s n o p
  sum_of_times {o = o} are small (times_end e f) = record { sum = 0; is_sum = sum_none e refl; is = f ∙ here_length o small }
  sum_of_times {o = o} are small (times_next m middle e h others) =
      let r = (are o middle small).1 h in
      let r_is = r.is in
      let low : middle ≤ 7 = omega arith in
      let k = sum_of_times are low others in
      record {
        sum = (r.length + k.sum) % 8;
        is_sum = sum_next m r.length k.sum e r.small r.has_length k.is_sum refl;
        is = k.is ∙ ap (λ q. (q + k.sum) % 8) r_is ∙ two_lengths o r.length k.sum;
      }

  pub times_lengths : (s t : set.FinSet nat_cmp) (i n : ℕ) → LengthsAre s (InEnds d i) → OctetsAre t (SumOf s n) → LengthsAre t (TimesEnd d n i)
  times_lengths s t i n are sums o p small = (
    (λ h. subst (λ q. TimesEnd d n i o q) (sym h.is) (times_of o are small ((sums h.length h.small).0 h.has_length))),
    (λ h.
        let k = sum_of_times are small h in
        let low = sum_small k.is_sum in
        record { length = k.sum; small = low; has_length = (sums k.sum low).1 k.is_sum; is = k.is }),
  )

  many_of : {n i o p : ℕ} → TimesEnd d n i o p → ManyEnd d i o p
  many_of (times_end e f) = many_end f
  many_of (times_next m middle e h others) = many_next middle h (many_of others)

  times_of_many : {i o p : ℕ} → ManyEnd d i o p → (n : ℕ) × TimesEnd d n i o p
  times_of_many (many_end e) = (0, times_end refl e)
  times_of_many (many_next middle h others) = let t = times_of_many others in (suc t.0, times_next t.0 middle refl h t.1)

  pub many_lengths : (s t : set.FinSet nat_cmp) (i : ℕ) → LengthsAre s (InEnds d i) → OctetsAre t (λ r. (n : ℕ) × SumOf s n r) → LengthsAre t (ManyEnd d i)
  many_lengths s t i are sums o p small = (
    (λ h.
        let k = (sums h.length h.small).0 h.has_length in
        many_of (subst (λ q. TimesEnd d k.0 i o q) (sym h.is) (times_of o are small k.1))),
    (λ h.
        let n = times_of_many h in
        let k = sum_of_times are small n.1 in
        let low = sum_small k.is_sum in
        record { length = k.sum; small = low; has_length = (sums k.sum low).1 (n.0, k.is_sum); is = k.is }),
  )

  many_ends : {i o p : ℕ} → NodeEnds d (Many i) o p → ManyEnd d i o p
  many_ends (ends_many h) = h

  many_start : {i o bit : ℕ} → NodeStarts d (Many i) o bit → InStart d i o bit
  many_start (starts_many h) = h

  no_many_whole : {i o : ℕ} {x : List ℕ} {mark : Bool} → NodeKeys d MOST_WORD (Many i) o x mark → mark ≡ true → ⊥
  no_many_whole (keys_many e m) h = cc

  pub many_sets : (i : ℕ) (once s : NodeSets) → SetsAre d i once → s.nullable ≡ true → s.whole_empty ≡ false
      → s.cut_empty ≡ true → OctetsAre s.lengths (λ r. (n : ℕ) × SumOf once.lengths n r)
      → s.zero ≡ once.zero → s.one ≡ once.one → NodeSetsAre d (Many i) s
  many_sets i once s t n w c l z e =
      record {
        nullable = truth n nullable_many;
        whole_empty = falsity w (λ h. no_many_whole h refl);
        cut_empty = truth c (keys_many refl refl);
        lengths = λ o p small. both (many_lengths once.lengths s.lengths i t.lengths l o p small) ((λ h. ends_many h), (λ h. many_ends h));
        zero = subst (λ q. OctetsAre q (λ o. NodeStarts d (Many i) o 0)) (sym z)
            (λ o small. both (t.zero o small) ((λ h. starts_many h), (λ h. many_start h)));
        one = subst (λ q. OctetsAre q (λ o. NodeStarts d (Many i) o 1)) (sym e) (λ o small. both (t.one o small) ((λ h. starts_many h), (λ h. many_start h)));
      }

  times_null : {k i : ℕ} → NodeNullable d (Times (Fixed k) i) → Nullable d i
  times_null (nullable_times h) = h

  times_ends : {k i o p : ℕ} → NodeEnds d (Times (Fixed k) i) o p → TimesEnd d k i o p
  times_ends (ends_times h) = h

  times_start : {count : Count} {i o bit : ℕ} → NodeStarts d (Times count i) o bit → InStart d i o bit
  times_start (starts_times h) = h

  times_key : {k i o : ℕ} {x : List ℕ} {mark : Bool} → NodeKeys d MOST_WORD (Times (Fixed k) i) o x mark → TimesKeys d MOST_WORD k i o x mark
  times_key (keys_times h) = h

  at_none : (i o : ℕ) (w : List ℕ) (mark : Bool) → o ≡ 0 → w ≡ [] → InKeys d MOST_WORD i o w mark → InKeys d MOST_WORD i 0 [] mark
  at_none i o w mark begins none h = subst (λ q. InKeys d MOST_WORD i q [] mark) begins (subst (λ v. InKeys d MOST_WORD i o v mark) none h)

  -- an empty key of a repetition is one of its part, unless there is none
  times_whole_empty : {n i o : ℕ} {x : List ℕ} {mark : Bool} → TimesKeys d MOST_WORD n i o x mark → o ≡ 0 → x ≡ []
      → mark ≡ true → (InKeys d MOST_WORD i 0 [] true ⊎ (n ≡ 0))
  times_whole_empty (times_none e f m) begins none is = inr e
  times_whole_empty (times_cut m e h f) begins none is = absurd (cc)
  times_whole_empty {i = i} {o = o} (times_whole m e w1 w2 rest h hs c) begins none is =
      let words = no_words w1 w2 (cut_empty some_word c none).word in
      inl (at_none i o w1 true begins words.0 h)

  times_cut_empty : {n i o : ℕ} {x : List ℕ} {mark : Bool} → TimesKeys d MOST_WORD n i o x mark → o ≡ 0 → x ≡ []
      → mark ≡ false → (InKeys d MOST_WORD i 0 [] false × (0 < n))
  times_cut_empty (times_none e f m) begins none is = absurd (cc)
  times_cut_empty {n = n} {i = i} {o = o} {x = x} (times_cut m e h f) begins none is = (at_none i o x false begins none h, omega arith)
  times_cut_empty {n = n} {i = i} {o = o} (times_whole m e w1 w2 rest h hs c) begins none is =
      let was = cut_empty some_word c none in
      let words = no_words w1 w2 was.word in
      let at_end : (o + length w1) % 8 ≡ 0 = rw (begins, words.0) refl in
      let later = times_cut_empty hs at_end words.1 (sym was.same ∙ is) in
      (later.0, omega arith)

  whole_times : (n i : ℕ) → InKeys d MOST_WORD i 0 [] true → TimesKeys d MOST_WORD n i 0 [] true
  whole_times zero i h = times_none refl refl refl
  whole_times (suc m) i h = times_whole m refl [] [] true h (whole_times m i h) (empty_cut [] refl refl)

  cut_times : (n i : ℕ) → 0 < n → InKeys d MOST_WORD i 0 [] false → TimesKeys d MOST_WORD n i 0 [] false
  cut_times zero i h k = absurd (omega arith)
  cut_times (suc m) i h k = times_cut m refl k refl

  pub times_sets : (k i : ℕ) (once s : NodeSets) → SetsAre d i once → s.nullable ≡ once.nullable
      → (IsTrue s.whole_empty ↔ (IsTrue once.whole_empty ⊎ (k ≡ 0)))
      → (IsTrue s.cut_empty ↔ (IsTrue once.cut_empty × (0 < k))) → OctetsAre s.lengths (SumOf once.lengths k)
      → s.zero ≡ once.zero → s.one ≡ once.one → NodeSetsAre d (Times (Fixed k) i) s
  times_sets k i once s t n w c l z e =
      record {
        nullable = both (is_so n t.nullable) ((λ h. nullable_times h), (λ h. times_null h));
        whole_empty = (
          (λ h. elim (w.0 h) [ inl part ↦ keys_times (whole_times k i (t.whole_empty.0 part)) | inr none ↦ keys_times (times_none none refl refl) ]),
          (λ h. w.1 (elim (times_whole_empty (times_key h) refl refl refl) [ inl part ↦ inl (t.whole_empty.1 part) | inr none ↦ inr none ])),
        );
        cut_empty = (
          (λ h. keys_times (cut_times k i (c.0 h).1 (t.cut_empty.0 (c.0 h).0))),
          (λ h. let p = times_cut_empty (times_key h) refl refl refl in c.1 (t.cut_empty.1 p.0, p.1)),
        );
        lengths = λ o p small. both (times_lengths once.lengths s.lengths i k t.lengths l o p small) ((λ h. ends_times h), (λ h. times_ends h));
        zero = subst (λ q. OctetsAre q (λ o. NodeStarts d (Times (Fixed k) i) o 0)) (sym z)
            (λ o small. both (t.zero o small) ((λ h. starts_times h), (λ h. times_start h)));
        one = subst (λ q. OctetsAre q (λ o. NodeStarts d (Times (Fixed k) i) o 1)) (sym e)
            (λ o small. both (t.one o small) ((λ h. starts_times h), (λ h. times_start h)));
      }

  counted_null : {m f c i : ℕ} → NodeNullable d (Times (Counted m f c) i) → (Nullable d i ⊎ (c ≡ 0))
  counted_null (nullable_times h) = inl h
  counted_null (nullable_no_times e) = inr e

  counted_ends : {m f c i o p : ℕ} → NodeEnds d (Times (Counted m f c) i) o p → ManyEnd d i o p
  counted_ends (ends_counted h) = h

  no_counted_whole : {m f c i o : ℕ} {x : List ℕ} {mark : Bool} → NodeKeys d MOST_WORD (Times (Counted m f c) i) o x mark → mark ≡ true → ⊥
  no_counted_whole (keys_counted_times e k) h = cc

  pub counted_sets : (m f c i : ℕ) (once s : NodeSets)
      → SetsAre d i once → (IsTrue s.nullable ↔ (IsTrue once.nullable ⊎ (c ≡ 0)))
      → s.whole_empty ≡ false → s.cut_empty ≡ true → OctetsAre s.lengths (λ r. (n : ℕ) × SumOf once.lengths n r)
      → s.zero ≡ once.zero → s.one ≡ once.one → NodeSetsAre d (Times (Counted m f c) i) s
  counted_sets m f c i once s t n w k l z e =
      record {
        nullable = (
          (λ h. elim (n.0 h) [ inl part ↦ nullable_times (t.nullable.0 part) | inr none ↦ nullable_no_times none ]),
          (λ h. n.1 (elim (counted_null h) [ inl part ↦ inl (t.nullable.1 part) | inr none ↦ inr none ])),
        );
        whole_empty = falsity w (λ h. no_counted_whole h refl);
        cut_empty = truth k (keys_counted_times refl refl);
        lengths = λ o p small. both (many_lengths once.lengths s.lengths i t.lengths l o p small) ((λ h. ends_counted h), (λ h. counted_ends h));
        zero = subst (λ q. OctetsAre q (λ o. NodeStarts d (Times (Counted m f c) i) o 0)) (sym z)
            (λ o small. both (t.zero o small) ((λ h. starts_times h), (λ h. times_start h)));
        one = subst (λ q. OctetsAre q (λ o. NodeStarts d (Times (Counted m f c) i) o 1)) (sym e)
            (λ o small. both (t.one o small) ((λ h. starts_times h), (λ h. times_start h)));
      }

  pub fixed_times : (count : Count) (k i : ℕ) (once s : NodeSets) → count ≡ Fixed k → SetsAre d i once
      → s.nullable ≡ once.nullable → (IsTrue s.whole_empty ↔ (IsTrue once.whole_empty ⊎ (k ≡ 0)))
      → (IsTrue s.cut_empty ↔ (IsTrue once.cut_empty × (0 < k))) → OctetsAre s.lengths (SumOf once.lengths k)
      → s.zero ≡ once.zero → s.one ≡ once.one → NodeSetsAre d (Times count i) s
  fixed_times count k i once s is t n w c l z e = subst (λ q. NodeSetsAre d (Times q i) s) (sym is) (times_sets k i once s t n w c l z e)

  pub counted_times : (count : Count) (m f c i : ℕ) (once s : NodeSets) → count ≡ Counted m f c → SetsAre d i once
      → (IsTrue s.nullable ↔ (IsTrue once.nullable ⊎ (c ≡ 0))) → s.whole_empty ≡ false → s.cut_empty ≡ true
      → OctetsAre s.lengths (λ r. (n : ℕ) × SumOf once.lengths n r) → s.zero ≡ once.zero → s.one ≡ once.one
      → NodeSetsAre d (Times count i) s
  counted_times count m f c i once s is t n w k l z e = subst (λ q. NodeSetsAre d (Times q i) s) (sym is) (counted_sets m f c i once s t n w k l z e)
