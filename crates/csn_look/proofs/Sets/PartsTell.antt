-- What the sets tell that are made for sequences, truncations and choices, from what those of their parts tell.
use Rattle.std.proofs.Common.{◌≡◌, ℕ, ◌+◌, ◌%◌, ◌<◌, ◌≤◌, Bool, true, false, ◌&&◌, ◌||◌, ◌⊎◌, ◌↔◌, List, [], ◌∷◌}
use Rattle.std.proofs.Common.{length, refl, sym, ap, ◌∙◌, subst, arith, inl, inr, Some}
use Rattle.std.specs.Prelude.{slice_get, IsTrue}
use Rattle.std.specs.Ordering.{nat_cmp}
use Rattle.std.specs.FinSet as set
use Rattle.std.proofs.lemmas.Bool.{cases_order}
use Rattle.csn_desc.specs.declared.node.Node.TheVariants.{Seq, Choice, Trunc}
use Rattle.csn_desc.specs.Nodes.{DescV}
use Rattle.csn_look.specs.declared.node_sets.NodeSets.{NodeSets}
use Rattle.csn_look.specs.declared.word.TheConstants.{MOST_WORD}
use Rattle.csn_look.specs.Told.{OctetsAre}
use Rattle.csn_look.specs.Sums.{Has, IsSum, Leads}
use Rattle.csn_look.specs.NodeSets.{LengthsAre, SetsAre, NodeSetsAre}
use Rattle.csn_look.specs.Nullable.{Nullable, NodeNullable, AllNullable, nullable_trunc, nullable_seq, nullable_choice, all_next}
use Rattle.csn_look.specs.Ends.{InEnds, NodeEnds, PartsEnd, LeadEnd, ends_seq, ends_choice, ends_trunc, parts_next, lead_end, lead_next}
use Rattle.csn_look.specs.Starts.{InStart, NodeStarts, PartsStart, starts_seq, starts_trunc, starts_choice, starts_here, starts_later}
use Rattle.csn_look.specs.Keys.{InKeys, NodeKeys, PartsKeys, keys_trunc, keys_seq, keys_choice, parts_cut, parts_whole}
use Rattle.csn_look.proofs.Basics.Octets.{has_insert, has_union}
use Rattle.csn_look.proofs.Meaning.EmptyKeys.{cut_empty, empty_cut, no_words}
use Rattle.csn_look.proofs.Sets.Telling.{AnyOf, ChoiceSetsAre, LeadSetsAre, PartsSetsAre, back, both, either, falsity}
use Rattle.csn_look.proofs.Sets.Telling.{here_length, is_so, retell, some_word, together, true_is_not, truth}
use Rattle.csn_look.proofs.Sets.Telling.{two_lengths, within}

module _ (d : DescV) where
  -- ---- parts one after another

  no_nullable : {i : ℕ} {parts : List ℕ} → AllNullable d (i ∷ parts) → Nullable d i × AllNullable d parts
  no_nullable (all_next h others) = (h, others)

  -- a first key that is empty
  data FirstKey (i : ℕ) (parts : List ℕ) (mark : Bool) : Type 0 where
    first_cut : InKeys d MOST_WORD i 0 [] false → mark ≡ false → FirstKey i parts mark
    first_whole : InKeys d MOST_WORD i 0 [] true → PartsKeys d MOST_WORD parts 0 [] mark → FirstKey i parts mark

  key_of_first : {i o : ℕ} {parts : List ℕ} {x : List ℕ} {mark : Bool} → PartsKeys d MOST_WORD (i ∷ parts) o x mark → o ≡ 0 → x ≡ [] → FirstKey i parts mark
  key_of_first {i} {o} {parts} {x} {mark} (parts_cut h m) begins none =
      first_cut (subst (λ q. InKeys d MOST_WORD i q [] false) begins (subst (λ w. InKeys d MOST_WORD i o w false) none h)) m
  key_of_first {i} {o} {parts} {x} {mark} (parts_whole w1 w2 rest h hs c) begins none =
      let was = cut_empty some_word c none in
      let words = no_words w1 w2 was.word in
      let at_end : (o + length w1) % 8 ≡ 0 = rw (begins, words.0) refl in
      first_whole
      (subst (λ q. InKeys d MOST_WORD i q [] true) begins (subst (λ w. InKeys d MOST_WORD i o w true) words.0 h))
      (subst (λ m. PartsKeys d MOST_WORD parts 0 [] m) (sym was.same)
      (subst (λ q. PartsKeys d MOST_WORD parts q [] rest) at_end
      (subst (λ w. PartsKeys d MOST_WORD parts ((o + length w1) % 8) w rest) words.1 hs)))

  first_key : {i : ℕ} {parts : List ℕ} {mark : Bool} → FirstKey i parts mark → PartsKeys d MOST_WORD (i ∷ parts) 0 [] mark
  first_key (first_cut h m) = parts_cut h m
  first_key {mark = mark} (first_whole h hs) = parts_whole [] [] mark h hs (empty_cut [] refl refl)

  -- an end behind a first part
  part_end : {i : ℕ} {parts : List ℕ} {o p : ℕ} → PartsEnd d (i ∷ parts) o p → (middle : ℕ) × InEnds d i o middle × PartsEnd d parts middle p
  part_end (parts_next middle h others) = (middle, h, others)

  -- lengths of a part and then of what stands behind it
  lengths_then : (s t u : set.FinSet nat_cmp) (E F : ℕ → ℕ → Type 0) → LengthsAre s E → LengthsAre t F
      → OctetsAre u (IsSum s t) → LengthsAre u (λ o p. (middle : ℕ) × E o middle × F middle p)
  lengths_then s t u E F left right sums o p small = (
    (λ h.
        let q = (sums h.length h.small).0 h.has_length in
        let middle : ℕ = (o + q.a) % 8 in
        let low : (o + q.a) % 8 ≤ 7 = omega arith in
        let first = (left o ((o + q.a) % 8) small).0 (record { length = q.a; small = q.a_small; has_length = q.has_a; is = refl }) in
        let is : p ≡ ((o + q.a) % 8 + q.b) % 8 = h.is ∙ ap (λ r. (o + r) % 8) q.is ∙ sym (two_lengths o q.a q.b) in
        ((o + q.a) % 8, first, (right ((o + q.a) % 8) p low).0 (record { length = q.b; small = q.b_small; has_length = q.has_b; is = is }))),
    (λ (middle, h, k).
        let a = (left o middle small).1 h in
        let a_is = a.is in
        let low : middle ≤ 7 = omega arith in
        let b = (right middle p low).1 k in
        let total : (a.length + b.length) % 8 ≤ 7 = omega arith in
        record {
          length = (a.length + b.length) % 8;
          small = total;
          has_length = (sums ((a.length + b.length) % 8) total).1
              (record {
                a = a.length;
                b = b.length;
                a_small = a.small;
                b_small = b.small;
                has_a =
                    a.has_length;
                has_b = b.has_length;
                is = refl;
              });
          is = b.is ∙ ap (λ m. (m + b.length) % 8) a_is ∙ two_lengths o a.length b.length;
        }),
  )

  -- starts of a part, and of what stands behind it where it may have no bits
  starts_then : (own lengths later u : set.FinSet nat_cmp) (nullable : Bool) (S : ℕ → Type 0) (N : Type 0)
      (E : ℕ → ℕ → Type 0) (T : ℕ → Type 0) → OctetsAre own S → (IsTrue nullable ↔ N)
      → LengthsAre lengths E → OctetsAre later T
      → OctetsAre u (λ o. Has own o ⊎ (IsTrue nullable × Leads lengths later o))
      → OctetsAre u (λ o. S o ⊎ (N × ((middle : ℕ) × E o middle × T middle)))
  starts_then own lengths later u nullable S N E T own_is null_is lengths_are later_is is o small =
      both (is o small) (
        (λ h. elim h [
          | inl now ↦ inl ((own_is o small).0 now)
          | inr behind ↦
              let l = behind.1 in
              let low : (o + l.length) % 8 ≤ 7 = omega arith in
              inr (
                null_is.0 behind.0,
                (
                  (o + l.length) % 8,
                  (lengths_are o ((o + l.length) % 8) small).0
                      (record { length = l.length; small = l.small; has_length = l.has_length; is = refl }),
                  (later_is ((o + l.length) % 8) low).0 l.reaches,
                ),
              )
        ]),
        (λ h. elim h [
          | inl now ↦ inl ((own_is o small).1 now)
          | inr behind ↦
              let m = behind.1 in
              let r = (lengths_are o m.0 small).1 m.1 in
              let r_is = r.is in
              let low : m.0 ≤ 7 = omega arith in
              inr (
                null_is.1 behind.0,
                record {
                  length = r.length;
                  small = r.small;
                  has_length =
                      r.has_length;
                  reaches = subst (λ q. Has later q) r_is ((later_is m.0 low).1 m.2);
                },
              )
        ]),
      )

  part_start : {i : ℕ} {parts : List ℕ} {o bit : ℕ}
      → PartsStart d (i ∷ parts) o bit ↔
      (InStart d i o bit ⊎ (Nullable d i × ((middle : ℕ) × InEnds d i o middle × PartsStart d parts middle bit)))
  part_start = ((λ h. taken h), (λ h. elim h [ inl now ↦ starts_here now | inr later ↦ starts_later later.1.0 later.0 later.1.1 later.1.2 ]))
    where
      taken : {i : ℕ} {parts : List ℕ} {o bit : ℕ} → PartsStart d (i ∷ parts) o bit
          → (InStart d i o bit
          ⊎ (Nullable d i × ((middle : ℕ) × InEnds d i o middle × PartsStart d parts middle bit)))
      taken (starts_here h) = inl h
      taken (starts_later middle null h others) = inr (null, (middle, h, others))

  -- sets of a part and of the parts behind it, put together
  pub record IsThen (first rest sets : NodeSets) : Type 0 where
    pub nullable : sets.nullable ≡ (first.nullable && rest.nullable)
    pub whole_empty : sets.whole_empty ≡ (first.whole_empty && rest.whole_empty)
    pub cut_empty : sets.cut_empty ≡ (first.cut_empty || (first.whole_empty && rest.cut_empty))
    pub lengths : OctetsAre sets.lengths (IsSum first.lengths rest.lengths)
    pub zero : OctetsAre sets.zero (λ o. Has first.zero o ⊎ (IsTrue first.nullable × Leads first.lengths rest.zero o))
    pub one : OctetsAre sets.one (λ o. Has first.one o ⊎ (IsTrue first.nullable × Leads first.lengths rest.one o))

  pub more_parts : (i : ℕ) (parts : List ℕ) (first rest sets : NodeSets)
      → SetsAre d i first → PartsSetsAre d parts rest → IsThen first rest sets → PartsSetsAre d (i ∷ parts) sets
  more_parts i parts first rest sets f r t =
      record {
        nullable = both (is_so t.nullable (together f.nullable r.nullable)) ((λ h. all_next h.0 h.1), (λ h. no_nullable h));
        whole_empty = both (is_so t.whole_empty (together f.whole_empty r.whole_empty))
            ((λ h. first_key (first_whole h.0 h.1)), (λ h. whole_of (key_of_first h refl refl)));
        cut_empty = both (is_so t.cut_empty (either f.cut_empty (together f.whole_empty r.cut_empty))) (
          (λ h. elim h [ inl cut_key ↦ first_key (first_cut cut_key refl) | inr whole_key ↦ first_key (first_whole whole_key.0 whole_key.1) ]),
          (λ h. cut_of (key_of_first h refl refl)),
        );
        lengths = λ o p small. both (lengths_then first.lengths rest.lengths sets.lengths (InEnds d i)
            (PartsEnd d parts) f.lengths r.lengths t.lengths o p small) (
              (λ h. parts_next h.0 h.1 h.2),
              (λ h. part_end h),
            );
        zero = λ o small. both (starts_then first.zero first.lengths rest.zero sets.zero first.nullable
            (λ q. InStart d i q 0) (Nullable d i) (InEnds d i) (λ q. PartsStart d parts q 0)
            f.zero f.nullable f.lengths r.zero t.zero o small) (back part_start);
        one = λ o small. both (starts_then first.one first.lengths rest.one sets.one first.nullable
            (λ q. InStart d i q 1) (Nullable d i) (InEnds d i) (λ q. PartsStart d parts q 1)
            f.one f.nullable f.lengths r.one t.one o small) (back part_start);
      }
    where
      whole_of : FirstKey i parts true → InKeys d MOST_WORD i 0 [] true × PartsKeys d MOST_WORD parts 0 [] true
      whole_of (first_cut h m) = absurd (true_is_not (sym m))
      whole_of (first_whole h hs) = (h, hs)

      cut_of : FirstKey i parts false → (InKeys d MOST_WORD i 0 [] false ⊎ (InKeys d MOST_WORD i 0 [] true × PartsKeys d MOST_WORD parts 0 [] false))
      cut_of (first_cut h m) = inl h
      cut_of (first_whole h hs) = inr (h, hs)

  seq_null : {parts : List ℕ} → NodeNullable d (Seq parts) → AllNullable d parts
  seq_null (nullable_seq h) = h

  seq_end : {parts : List ℕ} {o p : ℕ} → NodeEnds d (Seq parts) o p → PartsEnd d parts o p
  seq_end (ends_seq h) = h

  seq_start : {parts : List ℕ} {o bit : ℕ} → NodeStarts d (Seq parts) o bit → PartsStart d parts o bit
  seq_start (starts_seq h) = h

  seq_key : {parts : List ℕ} {o : ℕ} {x : List ℕ} {mark : Bool} → NodeKeys d MOST_WORD (Seq parts) o x mark → PartsKeys d MOST_WORD parts o x mark
  seq_key (keys_seq h) = h

  pub seq_sets : (parts : List ℕ) (s : NodeSets) → PartsSetsAre d parts s → NodeSetsAre d (Seq parts) s
  seq_sets parts s t =
      retell t
      ((λ h. nullable_seq h), (λ h. seq_null h))
      (λ o p small. ((λ h. ends_seq h), (λ h. seq_end h)))
      (λ o bit. ((λ h. starts_seq h), (λ h. seq_start h)))
      (λ mark. ((λ h. keys_seq h), (λ h. seq_key h)))

  -- ---- the first few parts

  lead_part : {i : ℕ} {parts : List ℕ} {o p : ℕ} → LeadEnd d (i ∷ parts) o p → (p ≡ o) ⊎ ((middle : ℕ) × InEnds d i o middle × LeadEnd d parts middle p)
  lead_part (lead_end e) = inl e
  lead_part (lead_next middle h others) = inr (middle, h, others)

  -- one length more, which is none
  or_none : (s t : set.FinSet nat_cmp) (E : ℕ → ℕ → Type 0) → t ≡ set.insert s 0 → LengthsAre s E → LengthsAre t (λ o p. (p ≡ o) ⊎ E o p)
  or_none s t E e are o p small = (
    (λ h. elim ((has_insert s 0 h.length).0 (ap (λ u. set.contains u h.length) (sym e) ∙ h.has_length)) [
      | inl same ↦ inl (h.is ∙ ap (λ r. (o + r) % 8) same ∙ sym (here_length o small))
      | inr before ↦ inr ((are o p small).0 (record { length = h.length; small = h.small; has_length = before; is = h.is }))
    ]),
    (λ h. elim h [
      | inl same ↦ record {
        length = 0;
        small = omega arith;
        has_length =
            ap (λ u. set.contains u 0) e ∙ (has_insert s 0 0).1 (inl refl);
        is = same ∙ here_length o small;
      }
      | inr before ↦
          let r = (are o p small).1 before in
          record {
            length = r.length;
            small = r.small;
            has_length = ap (λ u. set.contains u r.length)
                e ∙ (has_insert s 0 r.length).1 (inr r.has_length);
            is = r.is;
          }
    ]),
  )

  -- sets of a truncation's first part and of the parts behind it, put together
  pub more_lead : (i : ℕ) (parts : List ℕ) (first rest all : NodeSets) (lengths : set.FinSet nat_cmp)
      → SetsAre d i first → LeadSetsAre d parts rest → IsThen first rest all → lengths ≡ set.insert all.lengths 0
      → LeadSetsAre d (i ∷ parts) (record all {
        nullable = true;
        whole_empty = false;
        cut_empty = true;
        lengths =
            lengths;
      })
  more_lead i parts first rest all lengths f r t more =
      record {
        nullable = truth refl tt;
        whole_empty = falsity refl (λ h. true_is_not (sym h));
        cut_empty = truth refl refl;
        lengths = λ o p small.
            both (or_none all.lengths lengths (λ a b. (middle : ℕ) × InEnds d i a middle × LeadEnd d parts middle b)
            more (lengths_then first.lengths rest.lengths all.lengths (InEnds d i) (LeadEnd d parts)
            f.lengths r.lengths t.lengths) o p small)
            ((λ h. elim h [ inl same ↦ lead_end same | inr more ↦ lead_next more.0 more.1 more.2 ]), (λ h. lead_part h));
        zero = λ o small. both (starts_then first.zero first.lengths rest.zero all.zero first.nullable
            (λ q. InStart d i q 0) (Nullable d i) (InEnds d i) (λ q. PartsStart d parts q 0)
            f.zero f.nullable f.lengths r.zero t.zero o small) (back part_start);
        one = λ o small. both (starts_then first.one first.lengths rest.one all.one first.nullable
            (λ q. InStart d i q 1) (Nullable d i) (InEnds d i) (λ q. PartsStart d parts q 1)
            f.one f.nullable f.lengths r.one t.one o small) (back part_start);
      }

  trunc_end : {parts : List ℕ} {o p : ℕ} → NodeEnds d (Trunc parts) o p → LeadEnd d parts o p
  trunc_end (ends_trunc h) = h

  trunc_start : {parts : List ℕ} {o bit : ℕ} → NodeStarts d (Trunc parts) o bit → PartsStart d parts o bit
  trunc_start (starts_trunc h) = h

  trunc_key : {parts : List ℕ} {o : ℕ} {x : List ℕ} {mark : Bool} → NodeKeys d MOST_WORD (Trunc parts) o x mark → mark ≡ false
  trunc_key (keys_trunc e m) = m

  pub trunc_sets : (parts : List ℕ) (s : NodeSets) → LeadSetsAre d parts s → NodeSetsAre d (Trunc parts) s
  trunc_sets parts s t =
      retell t
      ((λ h. nullable_trunc), (λ h. tt))
      (λ o p small. ((λ h. ends_trunc h), (λ h. trunc_end h)))
      (λ o bit. ((λ h. starts_trunc h), (λ h. trunc_start h)))
      (λ mark. ((λ h. keys_trunc refl h), (λ h. trunc_key h)))

  -- ---- one of some parts

  -- sets of either, put together
  pub record IsOr (left right sets : NodeSets) : Type 0 where
    pub nullable : sets.nullable ≡ (left.nullable || right.nullable)
    pub whole_empty : sets.whole_empty ≡ (left.whole_empty || right.whole_empty)
    pub cut_empty : sets.cut_empty ≡ (left.cut_empty || right.cut_empty)
    pub lengths : sets.lengths ≡ set.union left.lengths right.lengths
    pub zero : sets.zero ≡ set.union left.zero right.zero
    pub one : sets.one ≡ set.union left.one right.one

  any_more : (parts : List ℕ) (k i : ℕ) (P : ℕ → Type 0) → slice_get parts k ≡ Some i → (AnyOf parts k P ⊎ P i) ↔ AnyOf parts (k + 1) P
  any_more parts k i P at = (
    (λ h. elim h [
      | inl before ↦ (before.0, before.1, let below = before.2 in omega arith, before.3, before.4)
      | inr now ↦ (k, i, omega arith, at, now)
    ]),
    (λ (j, m, below, there, h). last j m below there h),
  )
    where
      last : (j m : ℕ) → j < k + 1 → slice_get parts j ≡ Some m → P m → (AnyOf parts k P ⊎ P i)
      last j m below there h = elim (k_or_less j below) [
        | inl at_k ↦ let same : m ≡ i = cc (at, there, at_k) in inr (subst P same h)
        | inr less ↦ inl (j, m, less, there, h)
      ]
        where
          k_or_less : (j : ℕ) → j < k + 1 → (j ≡ k) ⊎ (j < k)
          k_or_less j below = elim (cases_order j k) [
            | inl same ↦ inl same
            | inr apart ↦ elim apart [ inl less ↦ inr less | inr more ↦ absurd (omega (arith, below, more)) ]
          ]

  or_octets : (s t u : set.FinSet nat_cmp) (P Q : ℕ → Type 0) → u ≡ set.union s t → OctetsAre s P → OctetsAre t Q → OctetsAre u (λ o. P o ⊎ Q o)
  or_octets s t u P Q e left right o small = (
    (λ h. elim ((has_union s t o).0 (ap (λ v. set.contains v o) (sym e) ∙ h)) [
      | inl a ↦ inl ((left o small).0 a)
      | inr b ↦ inr ((right o small).0 b)
    ]),
    (λ h. ap (λ v. set.contains v o) e ∙ (has_union s t o).1 (elim h [ inl a ↦ inl ((left o small).1 a) | inr b ↦ inr ((right o small).1 b) ])),
  )

  or_lengths : (s t u : set.FinSet nat_cmp) (E F : ℕ → ℕ → Type 0) → u ≡ set.union s t → LengthsAre s E → LengthsAre t F → LengthsAre u (λ o p. E o p ⊎ F o p)
  or_lengths s t u E F e left right o p small = (
    (λ h. elim ((has_union s t h.length).0 (ap (λ v. set.contains v h.length) (sym e) ∙ h.has_length)) [
      | inl a ↦ inl ((left o p small).0 (record { length = h.length; small = h.small; has_length = a; is = h.is }))
      | inr b ↦ inr ((right o p small).0 (record { length = h.length; small = h.small; has_length = b; is = h.is }))
    ]),
    (λ h. elim h [
      | inl a ↦
          let r = (left o p small).1 a in
          record {
            length = r.length;
            small = r.small;
            has_length = ap (λ v. set.contains v r.length)
                e ∙ (has_union s t r.length).1 (inl r.has_length);
            is = r.is;
          }
      | inr b ↦
          let r = (right o p small).1 b in
          record {
            length = r.length;
            small = r.small;
            has_length = ap (λ v. set.contains v r.length)
                e ∙ (has_union s t r.length).1 (inr r.has_length);
            is = r.is;
          }
    ]),
  )

  pub more_choice : (parts : List ℕ) (k i : ℕ) (before now sets : NodeSets)
      → slice_get parts k ≡ Some i → ChoiceSetsAre d parts k before → SetsAre d i now → IsOr before now sets
      → ChoiceSetsAre d parts (k + 1) sets
  more_choice parts k i before now sets at b n is =
      record {
        nullable = both (is_so is.nullable (either b.nullable n.nullable)) (any_more parts k i (λ j. Nullable d j) at);
        whole_empty = both (is_so is.whole_empty (either b.whole_empty n.whole_empty)) (any_more parts k i (λ j. InKeys d MOST_WORD j 0 [] true) at);
        cut_empty = both (is_so is.cut_empty (either b.cut_empty n.cut_empty)) (any_more parts k i (λ j. InKeys d MOST_WORD j 0 [] false) at);
        lengths = λ o p small.
            both (or_lengths before.lengths now.lengths sets.lengths (λ a c. AnyOf parts k (λ j. InEnds d j a c))
            (λ a c. InEnds d i a c) is.lengths b.lengths n.lengths o p small)
            (any_more parts k i (λ j. InEnds d j o p) at);
        zero = λ o small.
            both (or_octets before.zero now.zero sets.zero (λ q. AnyOf parts k (λ j. InStart d j q 0)) (λ q. InStart d i q 0) is.zero b.zero n.zero o small)
            (any_more parts k i (λ j. InStart d j o 0) at);
        one = λ o small.
            both (or_octets before.one now.one sets.one (λ q. AnyOf parts k (λ j. InStart d j q 1)) (λ q. InStart d i q 1) is.one b.one n.one o small)
            (any_more parts k i (λ j. InStart d j o 1) at);
      }

  choice_null : {parts : List ℕ} (k : ℕ) → length parts ≤ k → NodeNullable d (Choice parts) → AnyOf parts k (λ i. Nullable d i)
  choice_null {parts} k all (nullable_choice {i = i} j at h) = (j, i, within parts j i k at all, at, h)

  choice_end : {parts : List ℕ} {o p : ℕ} (k : ℕ) → length parts ≤ k → NodeEnds d (Choice parts) o p → AnyOf parts k (λ i. InEnds d i o p)
  choice_end {parts} k all (ends_choice {i = i} j at h) = (j, i, within parts j i k at all, at, h)

  choice_start : {parts : List ℕ} {o bit : ℕ} (k : ℕ) → length parts ≤ k → NodeStarts d (Choice parts) o bit → AnyOf parts k (λ i. InStart d i o bit)
  choice_start {parts} k all (starts_choice {i = i} j at h) = (j, i, within parts j i k at all, at, h)

  choice_key : {parts : List ℕ} {o : ℕ} {x : List ℕ} {mark : Bool} (k : ℕ)
      → length parts ≤ k → NodeKeys d MOST_WORD (Choice parts) o x mark
      → AnyOf parts k (λ i. InKeys d MOST_WORD i o x mark)
  choice_key {parts} k all (keys_choice {i = i} j at h) = (j, i, within parts j i k at all, at, h)

  pub choice_sets : (parts : List ℕ) (k : ℕ) (s : NodeSets) → length parts ≤ k → ChoiceSetsAre d parts k s → NodeSetsAre d (Choice parts) s
  choice_sets parts k s all t =
      retell t
      ((λ h. nullable_choice h.0 h.3 h.4), (λ h. choice_null k all h))
      (λ o p small. ((λ h. ends_choice h.0 h.3 h.4), (λ h. choice_end k all h)))
      (λ o bit. ((λ h. starts_choice h.0 h.3 h.4), (λ h. choice_start k all h)))
      (λ mark. ((λ h. keys_choice h.0 h.3 h.4), (λ h. choice_key k all h)))
