-- What may follow nodes, from what may follow the nodes above them.
use Rattle.std.proofs.Common.{◌≡◌, ◌≢◌, ℕ, suc, ◌+◌, ◌-◌, ◌<◌, ◌≤◌, ◌⊎◌, ◌↔◌, Bool, true, false, ◌||◌, List, [], ◌∷◌}
use Rattle.std.proofs.Common.{◌++◌, length, take, drop, refl, sym, ap, ◌∙◌, subst, arith, inl, inr, Option, Some, None}
use Rattle.std.specs.Prelude.{slice_get, IsTrue, if◌then◌else◌}
use Rattle.std.specs.Ordering.{nat_cmp}
use Rattle.std.specs.FinSet as set
use Rattle.std.proofs.Math.ListN.{set as put}
use Rattle.std.proofs.lemmas.Bool.{cases_order}
use Rattle.std.proofs.lemmas.Option.{slice_get_within}
use Rattle.csn_desc.specs.declared.node.Count.{Count}
use Rattle.csn_desc.specs.declared.node.Node.{Node}
use Rattle.csn_desc.specs.declared.node.Node.TheVariants.{Seq, Choice, Times, Many, Trunc, Window, Named}
use Rattle.csn_desc.specs.Nodes.{DescV, parts_of}
use Rattle.csn_desc.specs.Formed.{IsDescription}
use Rattle.csn_desc.proofs.Numbering.{part_from, span_inside, span_parts}
use Rattle.csn_desc.proofs.Parents.{one_parent}
use Rattle.csn_look.specs.declared.following.Following.{Following}
use Rattle.csn_look.specs.declared.node_sets.NodeSets.{NodeSets}
use Rattle.csn_look.specs.Told.{OctetsAre}
use Rattle.csn_look.specs.Sums.{Has}
use Rattle.csn_look.specs.NodeSets.{SetsAre}
use Rattle.csn_look.specs.Nullable.{AllNullable}
use Rattle.csn_look.specs.Starts.{InStart, PartsStart}
use Rattle.csn_look.specs.Reached.{OfPart, InFollow, PartFollow, follow_later, follow_seq}
use Rattle.csn_look.specs.Reached.{follow_kept, follow_trunc, follow_times_again, follow_times, follow_many_again}
use Rattle.csn_look.specs.Reached.{follow_many, follow_choice, follow_named, follow_window}
use Rattle.csn_look.specs.Steps.{HasPartsOnce}
use Rattle.csn_look.specs.FollowV.{SaysFollow, HasFollow, FollowsAre, HasFollows, IsFollowOf, IsBehind, signs_at, IsFollow, in_order}
use Rattle.csn_look.proofs.Basics.Octets.{has_none, has_union}
use Rattle.csn_look.specs.declared.symbol_set.Sign.TheVariants.{Zero, One, End}
use Rattle.csn_look.specs.SignsV.{SignsV}
use Rattle.csn_look.specs.declared.symbol_set.Sign.{Sign}
use Rattle.csn_look.specs.Signs.{no_signs, with_sign, has_sign, bit_of_sign}
use Rattle.csn_look.proofs.Meaning.LeastSets.{follow_root, follow_part, follow_of}
use Rattle.csn_look.proofs.Sets.LookFacts.{follow_has}
use Rattle.csn_look.proofs.Sets.Telling.{both, back, truth, PartsSetsAre}
use Rattle.csn_look.proofs.Handing.ReachedParts.{single}
use Rattle.csn_look.proofs.Basics.Puts.{get_put_same, get_put_other, middle_get, middle_drop, split_drop}

-- ---- facts that hold both ways

either_both : {A B C D : Type 0} → (A ↔ C) → (B ↔ D) → (A ⊎ B) ↔ (C ⊎ D)
either_both f g = ((λ h. elim h [ inl a ↦ inl (f.0 a) | inr b ↦ inr (g.0 b) ]), (λ h. elim h [ inl c ↦ inl (f.1 c) | inr e ↦ inr (g.1 e) ]))

and_both : {A B C D : Type 0} → (A ↔ C) → (B ↔ D) → (A × B) ↔ (C × D)
and_both f g = ((λ h. (f.0 h.0, g.0 h.1)), (λ h. (f.1 h.0, g.1 h.1)))

resay : {f : Following} {P Q : ℕ → Option ℕ → Type 0} → SaysFollow f P → ((o : ℕ) (s : Option ℕ) → P o s ↔ Q o s) → SaysFollow f Q
resay t same =
    record {
      zero = λ o low. both (t.zero o low) (same o (Some 0));
      one = λ o low. both (t.one o low) (same o (Some 1));
      end = λ o low. both (t.end o low) (same o None);
    }

-- ---- what stands behind

abbrev pub BehindOf : (ℕ → ℕ → Type 0) → Type 0 → (ℕ → Option ℕ → Type 0) → ℕ → Option ℕ → Type 0
BehindOf S N A o None = N × A o None
BehindOf S N A o (Some bit) = S o bit ⊎ (N × A o (Some bit))

beyond : (S : ℕ → ℕ → Type 0) {N : Type 0} (A : ℕ → Option ℕ → Type 0) (o : ℕ) (s : Option ℕ) → N → A o s → BehindOf S N A o s
beyond S A o None n a = (n, a)
beyond S A o (Some bit) n a = inr (n, a)

behind_says : (rest : NodeSets) (above f : Following) (S : ℕ → ℕ → Type 0) (N : Type 0) (A : ℕ → Option ℕ → Type 0)
    → OctetsAre rest.zero (λ o. S o 0) → OctetsAre rest.one (λ o. S o 1) → (IsTrue rest.nullable ↔ N)
    → SaysFollow above A → IsBehind rest above f → SaysFollow f (BehindOf S N A)
behind_says rest above f S N A with_zero with_one null says b =
    record {
      zero = λ o low. both (b.zero o low) (either_both (with_zero o low) (and_both null (says.zero o low)));
      one = λ o low. both (b.one o low) (either_both (with_one o low) (and_both null (says.one o low)));
      end = λ o low. both (b.end o low) (and_both null (says.end o low));
    }

-- sets that are put together so
pub with_above : (rest : NodeSets) (above f : Following)
    → rest.nullable ≡ true → f.zero ≡ set.union above.zero rest.zero → f.one ≡ set.union above.one rest.one
    → f.end ≡ above.end → IsBehind rest above f
with_above rest above f n z e d =
    record {
      zero = joined above.zero rest.zero f.zero z;
      one = joined above.one rest.one f.one e;
      end = λ o low. ((λ h. (n, ap (λ u. set.contains u o) (sym d) ∙ h)), (λ h. ap (λ u. set.contains u o) d ∙ h.1));
    }
  where
    joined : (a b u : set.FinSet nat_cmp) → u ≡ set.union a b → OctetsAre u (λ o. Has b o ⊎ (IsTrue rest.nullable × Has a o))
    joined a b u e o low = (
      (λ h. elim ((has_union a b o).0 (ap (λ v. set.contains v o) (sym e) ∙ h)) [ inl x ↦ inr (n, x) | inr y ↦ inl y ]),
      (λ h. ap (λ v. set.contains v o) e ∙ (has_union a b o).1 (elim h [ inl y ↦ inr y | inr x ↦ inl x.1 ])),
    )

pub without_above : (rest : NodeSets) (above f : Following) → (IsTrue rest.nullable → ⊥)
    → f.zero ≡ rest.zero → f.one ≡ rest.one → f.end ≡ set.empty → IsBehind rest above f
without_above rest above f n z e d =
    record {
      zero = alone rest.zero f.zero (λ o. Has above.zero o) z;
      one = alone rest.one f.one (λ o. Has above.one o) e;
      end = λ o low. ((λ h. absurd (has_none f.end o d h)), (λ h. absurd (n h.0)));
    }
  where
    alone : (b u : set.FinSet nat_cmp) (A : ℕ → Type 0) → u ≡ b → OctetsAre u (λ o. Has b o ⊎ (IsTrue rest.nullable × A o))
    alone b u A same o low = (
      (λ h. inl (ap (λ v. set.contains v o) (sym same) ∙ h)),
      (λ h. elim h [ inl y ↦ ap (λ v. set.contains v o) same ∙ y | inr x ↦ absurd (n x.0) ]),
    )

module _ (d : DescV) where
  -- ---- the parts of each kind of node

  seq_follow : {parts after : List ℕ} {k p o : ℕ} {s : Option ℕ} → PartFollow d (Seq parts) k after p o s
      → BehindOf (PartsStart d after) (AllNullable d after) (InFollow d k) o s
  seq_follow (follow_later h) = inl h
  seq_follow {after = after} {k = k} {o = o} {s = s} (follow_seq null h) = beyond (PartsStart d after) (InFollow d k) o s null h

  in_seq : (parts after : List ℕ) (k p o : ℕ) (s : Option ℕ)
      → BehindOf (PartsStart d after) (AllNullable d after) (InFollow d k) o s ↔ PartFollow d (Seq parts)
      k after p o s
  in_seq parts after k p o None = ((λ h. follow_seq h.0 h.1), (λ h. seq_follow h))
  in_seq parts after k p o (Some bit) = ((λ h. elim h [ inl now ↦ follow_later now | inr later ↦ follow_seq later.0 later.1 ]), (λ h. seq_follow h))

  trunc_follow : {parts after : List ℕ} {k p o : ℕ} {s : Option ℕ} → PartFollow d (Trunc parts) k after p o s
      → BehindOf (PartsStart d after) (Unit {0}) (InFollow d k) o s
  trunc_follow (follow_kept h) = inl h
  trunc_follow {after = after} {k = k} {o = o} {s = s} (follow_trunc h) = beyond (PartsStart d after) (InFollow d k) o s tt h

  in_trunc : (parts after : List ℕ) (k p o : ℕ) (s : Option ℕ)
      → BehindOf (PartsStart d after) (Unit {0}) (InFollow d k) o s ↔ PartFollow d (Trunc parts) k after p o s
  in_trunc parts after k p o None = ((λ h. follow_trunc h.1), (λ h. trunc_follow h))
  in_trunc parts after k p o (Some bit) = ((λ h. elim h [ inl now ↦ follow_kept now | inr later ↦ follow_trunc later.1 ]), (λ h. trunc_follow h))

  says_trunc : (parts after : List ℕ) (k p : ℕ) (rest cut : NodeSets) (above f : Following)
      → PartsSetsAre d after rest → cut.nullable ≡ true → cut.zero ≡ rest.zero → cut.one ≡ rest.one
      → FollowsAre d k above → IsBehind cut above f → SaysFollow f (PartFollow d (Trunc parts) k after p)
  says_trunc parts after k p rest cut above f t n z e says b =
      resay (behind_says cut above f (PartsStart d after) (Unit {0}) (InFollow d k)
      (subst (λ q. OctetsAre q (λ o. PartsStart d after o 0)) (sym z) t.zero)
      (subst (λ q. OctetsAre q (λ o. PartsStart d after o 1)) (sym e) t.one)
      (truth n tt) says b)
      (λ o s. in_trunc parts after k p o s)

  -- one or the other: behind the later parts stands what follows them where they may be none
  pub says_in_order : (ends_early : Bool) (parts after : List ℕ) (k p : ℕ) (rest behind : NodeSets)
      (above f : Following) → PartsSetsAre d after rest → behind.nullable ≡ (rest.nullable || ends_early)
      → behind.zero ≡ rest.zero → behind.one ≡ rest.one → FollowsAre d k above → IsBehind behind above f
      → SaysFollow f (PartFollow d (in_order ends_early parts) k after p)
  says_in_order true parts after k p rest behind above f t n z e says b =
      says_trunc parts after k p rest behind above f t (n ∙ or_true rest.nullable) z e says b
    where
      or_true : (b : Bool) → (b || true) ≡ true
      or_true true = refl
      or_true false = refl
  says_in_order false parts after k p rest behind above f t n z e says b =
      resay (behind_says behind above f (PartsStart d after) (AllNullable d after) (InFollow d k)
      (subst (λ q. OctetsAre q (λ o. PartsStart d after o 0)) (sym z) t.zero)
      (subst (λ q. OctetsAre q (λ o. PartsStart d after o 1)) (sym e) t.one)
      (subst (λ q. IsTrue q ↔ AllNullable d after) (sym (n ∙ or_false rest.nullable)) t.nullable) says b)
      (λ o s. in_seq parts after k p o s)
    where
      or_false : (b : Bool) → (b || false) ≡ b
      or_false true = refl
      or_false false = refl

  times_follow : {count : Count} {i k p o : ℕ} {after : List ℕ} {s : Option ℕ}
      → PartFollow d (Times count i) k after p o s → BehindOf (InStart d p) (Unit {0}) (InFollow d k) o s
  times_follow (follow_times_again h) = inl h
  times_follow {k = k} {p = p} {o = o} {s = s} (follow_times h) = beyond (InStart d p) (InFollow d k) o s tt h

  in_times : (count : Count) (i k p o : ℕ) (after : List ℕ) (s : Option ℕ)
      → BehindOf (InStart d p) (Unit {0}) (InFollow d k) o s ↔ PartFollow d (Times count i) k after p o s
  in_times count i k p o after None = ((λ h. follow_times h.1), (λ h. times_follow h))
  in_times count i k p o after (Some bit) = ((λ h. elim h [ inl now ↦ follow_times_again now | inr later ↦ follow_times later.1 ]), (λ h. times_follow h))

  many_follow : {i k p o : ℕ} {after : List ℕ} {s : Option ℕ} → PartFollow d (Many i) k after p o s → BehindOf (InStart d p) (Unit {0}) (InFollow d k) o s
  many_follow (follow_many_again h) = inl h
  many_follow {k = k} {p = p} {o = o} {s = s} (follow_many h) = beyond (InStart d p) (InFollow d k) o s tt h

  in_many : (i k p o : ℕ) (after : List ℕ) (s : Option ℕ) → BehindOf (InStart d p) (Unit {0}) (InFollow d k) o s ↔ PartFollow d (Many i) k after p o s
  in_many i k p o after None = ((λ h. follow_many h.1), (λ h. many_follow h))
  in_many i k p o after (Some bit) = ((λ h. elim h [ inl now ↦ follow_many_again now | inr later ↦ follow_many later.1 ]), (λ h. many_follow h))

  again : (k p : ℕ) (once more : NodeSets) (above f : Following) → SetsAre d p once → more.nullable ≡ true
      → more.zero ≡ once.zero → more.one ≡ once.one → FollowsAre d k above → IsBehind more above f
      → SaysFollow f (BehindOf (InStart d p) (Unit {0}) (InFollow d k))
  again k p once more above f t n z e says b =
      behind_says more above f (InStart d p) (Unit {0}) (InFollow d k)
      (subst (λ q. OctetsAre q (λ o. InStart d p o 0)) (sym z) t.zero)
      (subst (λ q. OctetsAre q (λ o. InStart d p o 1)) (sym e) t.one)
      (truth n tt) says b

  pub says_times : (count : Count) (k p : ℕ) (after : List ℕ) (once more : NodeSets) (above f : Following)
      → SetsAre d p once → more.nullable ≡ true → more.zero ≡ once.zero → more.one ≡ once.one → FollowsAre d k above
      → IsBehind more above f → SaysFollow f (PartFollow d (Times count p) k after p)
  says_times count k p after once more above f t n z e says b = resay (again k p once more above f t n z e says b) (λ o s. in_times count p k p o after s)

  pub says_many : (k p : ℕ) (after : List ℕ) (once more : NodeSets) (above f : Following)
      → SetsAre d p once → more.nullable ≡ true → more.zero ≡ once.zero → more.one ≡ once.one → FollowsAre d k above
      → IsBehind more above f → SaysFollow f (PartFollow d (Many p) k after p)
  says_many k p after once more above f t n z e says b = resay (again k p once more above f t n z e says b) (λ o s. in_many p k p o after s)

  choice_follow : {parts after : List ℕ} {k p o : ℕ} {s : Option ℕ} → PartFollow d (Choice parts) k after p o s → InFollow d k o s
  choice_follow (follow_choice h) = h

  pub says_choice : (parts after : List ℕ) (k p : ℕ) (above : Following) → FollowsAre d k above → SaysFollow above (PartFollow d (Choice parts) k after p)
  says_choice parts after k p above says = resay says (λ o s. ((λ h. follow_choice h), (λ h. choice_follow h)))

  named_follow : {label : List ℕ} {i k p o : ℕ} {after : List ℕ} {s : Option ℕ} → PartFollow d (Named label i) k after p o s → InFollow d k o s
  named_follow (follow_named h) = h

  pub says_named : (label : List ℕ) (i k p : ℕ) (after : List ℕ) (above : Following)
      → FollowsAre d k above → SaysFollow above (PartFollow d (Named label i) k after p)
  says_named label i k p after above says = resay says (λ o s. ((λ h. follow_named h), (λ h. named_follow h)))

  window_follow : {unit i k p o : ℕ} {count : Count} {after : List ℕ} {s : Option ℕ} → PartFollow d (Window unit count i) k after p o s → s ≡ None
  window_follow (follow_window e) = e

-- nothing but the end, at every octet position
pub record OnlyEnd (f : Following) : Type 0 where
  pub zero : f.zero ≡ set.empty
  pub one : f.one ≡ set.empty
  pub end : (o : ℕ) → o ≤ 7 → Has f.end o

only_end : (f : Following) → OnlyEnd f → SaysFollow f (λ o s. s ≡ None)
only_end f e =
    record {
      zero = λ o low. ((λ h. absurd (has_none f.zero o e.zero h)), (λ h. some_is_not 0 h));
      one = λ o low. ((λ h. absurd (has_none f.one o e.one h)), (λ h. some_is_not 1 h));
      end = λ o low. ((λ h. refl), (λ h. e.end o low));
    }
  where
    some_is_not : {X : Type 0} (bit : ℕ) → ◌≡◌ {A = Option ℕ} (Some bit) None → X
    some_is_not bit h = absurd (cc)

module _ (d : DescV) where
  pub says_window : (unit i k p : ℕ) (count : Count) (after : List ℕ) (f : Following) → OnlyEnd f → SaysFollow f (PartFollow d (Window unit count i) k after p)
  says_window unit i k p count after f e = resay (only_end f e) (λ o s. ((λ h. follow_window h), (λ h. window_follow d h)))

  -- ---- a part is followed by what its node says

  pub right_follow : (k j p : ℕ) (n : Node) → IsDescription d → slice_get d.nodes k ≡ Some n
      → slice_get (parts_of n) j ≡ Some p → (o : ℕ) (s : Option ℕ)
      → PartFollow d n k (drop (suc j) (parts_of n)) p o s ↔ InFollow d p o s
  right_follow k j p n is at get o s = (
    (λ h. follow_part k n (take j (parts_of n)) (drop (suc j) (parts_of n)) at (split_drop (parts_of n) j p get) h),
    (λ h. down (follow_of h)),
  )
    where
      at_root : {o : ℕ} {s : Option ℕ} → p ≡ 0 → PartFollow d n k (drop (suc j) (parts_of n)) p o s
      at_root e =
          let inside = slice_get_within d.nodes k n at in
          let sp = span_inside d.nodes k is.numbered (omega arith) inside in
          let low = part_from d.nodes j p (span_parts d.nodes at sp.span) get in
          absurd (omega arith)

      of_part : {o : ℕ} {s : Option ℕ} (m : ℕ) (q : Node) (before after : List ℕ) → slice_get d.nodes m ≡ Some q
          → parts_of q ≡ before ++ p ∷ after → PartFollow d q m after p o s → PartFollow d n k (drop (suc j) (parts_of n)) p o s
      of_part {o} {s} m q before after there split h =
          let got : slice_get (parts_of q) (length before) ≡ Some p =
          subst (λ l. slice_get l (length before) ≡ Some p) (sym split) (middle_get before after p) in
          let one = one_parent d m k (length before) j p q n is there at got get in
          let same : q ≡ n = cc (there, at, one.0) in
          let back : after ≡ drop (suc j) (parts_of n) =
          sym (middle_drop before after p) ∙ ap (λ l. drop (suc (length before)) l) (sym split)
          ∙ ap (λ i. drop (suc i) (parts_of q)) one.1 ∙ ap (λ r. drop (suc j) (parts_of r)) same in
          subst (λ l. PartFollow d n k l p o s) back (subst (λ r. PartFollow d r k after p o s) same (subst (λ i. PartFollow d q i after p o s) one.0 h))

      down : {o : ℕ} {s : Option ℕ} → ((p ≡ 0) × (s ≡ None)) ⊎ OfPart d p (λ m q after. PartFollow d q m after p o s)
          → PartFollow d n k (drop (suc j) (parts_of n)) p o s
      down (inl root) = at_root root.0
      down (inr part) = of_part part.above part.node part.before part.after part.at part.split part.so

  no_part_of : IsDescription d → {i : ℕ} (m : ℕ) (q : Node) (before after : List ℕ) → slice_get d.nodes m ≡ Some q
      → parts_of q ≡ before ++ i ∷ after → i ≡ 0 → ⊥
  no_part_of is {i} m q before after there split none =
      let got : slice_get (parts_of q) (length before) ≡ Some i = subst (λ l. slice_get l (length before) ≡ Some i) (sym split) (middle_get before after i) in
      let inside = slice_get_within d.nodes m q there in
      let sp = span_inside d.nodes m is.numbered (omega arith) inside in
      let low = part_from d.nodes (length before) i (span_parts d.nodes there sp.span) got in
      absurd (omega arith)

  root_none : IsDescription d → {i o : ℕ} {s : Option ℕ}
      → ((i ≡ 0) × (s ≡ None)) ⊎ OfPart d i (λ m q after. PartFollow d q m after i o s) → i ≡ 0 → s ≡ None
  root_none is (inl root) none = root.1
  root_none is (inr part) none = absurd (no_part_of is part.above part.node part.before part.after part.at part.split none)

  pub root_follow : (f : Following) → IsDescription d → OnlyEnd f → FollowsAre d 0 f
  root_follow f is e = resay (only_end f e) (λ o s. ((λ h. follow_root refl h), (λ h. root_none is (follow_of h) refl)))

-- ---- what is put for parts

abbrev pub PutFrom : List ℕ → ℕ → List Following → (ℕ → ℕ → ℕ → Option ℕ → Type 0) → Type 0
PutFrom parts k table Q = (j p : ℕ) → k ≤ j → slice_get parts j ≡ Some p → HasFollow table p (Q j p)

pub put_last : (parts : List ℕ) (k : ℕ) (table : List Following) (Q : ℕ → ℕ → ℕ → Option ℕ → Type 0) → k ≡ length parts → PutFrom parts k table Q
put_last parts k table Q end j p low at = let inside = slice_get_within parts j p at in absurd (omega arith)

pub put_before : (parts : List ℕ) (k p : ℕ) (table : List Following) (f : Following)
    (Q : ℕ → ℕ → ℕ → Option ℕ → Type 0) → HasPartsOnce (Seq parts) → 0 < k → slice_get parts (k - 1) ≡ Some p
    → p < length table → SaysFollow f (Q (k - 1) p) → PutFrom parts k table Q → PutFrom parts (k - 1) (put table p f)
    Q
put_before parts k p table f Q once some get inside says later j q low at =
    elim (cases_order j (k - 1)) [
      | inl same ↦
          let there : slice_get parts (k - 1) ≡ Some q = ap (λ n. slice_get parts n) (sym same) ∙ at in
          let one : p ≡ q = cc (get, there) in
          subst (λ i. HasFollow (put table p f) q (Q i q)) (sym same)
          (subst (λ n. HasFollow (put table p f) n (Q (k - 1) n)) one (f, get_put_same table p f inside, says))
      | inr order ↦ elim order [
        | inl before ↦ absurd (omega (arith, low, before))
        | inr after ↦
            let h = later j q (omega (arith, some, after)) at in
            let differ : q ≢ p = λ same. (let there = once j (k - 1) q at (get ∙ ap (λ x. Some x) (sym same)) in omega (arith, after, there)) in
            (h.0, get_put_other table p q f differ ∙ h.1, h.2)
      ]
    ]

-- ---- at a node of some kind

module _ (d : DescV) where
  pub follows_of : (n m : Node) (k : ℕ) (table : List Following) → n ≡ m → HasFollows d m k table → HasFollows d n k table
  follows_of n m k table is h = subst (λ q. HasFollows d q k table) (sym is) h

  pub no_follows : (n : Node) (k : ℕ) (table : List Following) → parts_of n ≡ [] → HasFollows d n k table
  no_follows n k table none j p at = let e : slice_get [] j ≡ Some p = subst (λ l. slice_get l j ≡ Some p) none at in cc

  pub single_follows : (n m : Node) (k : ℕ) (f : Following) (part : ℕ) (table : List Following)
      → n ≡ m → parts_of m ≡ part ∷ [] → part < length table
      → SaysFollow f (PartFollow d m k (drop 1 (parts_of m)) part) → HasFollows d n k (put table part f)
  single_follows n m k f part table is parts inside says =
      follows_of n m k (put table part f) is
      (λ j p at.
      let one = single part j p (subst (λ l. slice_get l j ≡ Some p) parts at) in
      let Q : ℕ → ℕ → Type 0 = λ i q. HasFollow (put table part f) q (PartFollow d m k (drop (suc i) (parts_of m)) q) in
      subst (λ i. Q i p) (sym one.0) (subst (λ q. Q 0 q) (sym one.1) (f, get_put_same table part f inside, says)))

  pub parts_follow : (k : ℕ) (n : Node) (table : List Following) → IsDescription d → slice_get d.nodes k ≡ Some n
      → HasFollows d n k table → (j p : ℕ) → slice_get (parts_of n) j ≡ Some p → HasFollow table p (InFollow d p)
  parts_follow k n table is at follows j p get =
      let h = follows j p get in
      (h.0, h.1, resay h.2 (λ o s. right_follow d k j p n is at get o s))

-- ---- the signs for each octet position

pub put_signs : (z o e : Bool) (none first second third : SignsV)
    → none ≡ no_signs → first ≡ (if z then with_sign none Zero else none)
    → second ≡ (if o then with_sign first One else first) → third ≡ (if e then with_sign second End else second)
    → third ≡ record { zero = z; one = o; end = e }
put_signs z o e none first second third a b c f =
    f ∙ ap (λ s. if e then with_sign s End else s) (c ∙ ap (λ s. if o then with_sign s One else s) (b ∙ ap (λ s. if z then with_sign s Zero else s) a))
    ∙ all z o e
  where
    all : (z o e : Bool)
        → (if e then with_sign (if o then with_sign (if z then with_sign no_signs Zero else no_signs) One else
        (if z then with_sign no_signs Zero else no_signs)) End else
        (if o then with_sign (if z then with_sign no_signs Zero else no_signs) One else
        (if z then with_sign no_signs Zero else no_signs))) ≡ record { zero = z; one = o; end = e }
    all true true true = refl
    all true true false = refl
    all true false true = refl
    all true false false = refl
    all false true true = refl
    all false true false = refl
    all false false true = refl
    all false false false = refl

pub signs_more : (f : Following) (at : List SignsV) (k : ℕ) (s : SignsV) → k < length at → s ≡ signs_at f k
    → ((o : ℕ) → o < k → slice_get at o ≡ Some (signs_at f o)) → (o : ℕ)
    → o < k + 1 → slice_get (put at k s) o ≡ Some (signs_at f o)
signs_more f at k s inside is before o less =
    elim (cases_order o k) [
      | inl same ↦
          ap (λ n. slice_get (put at k s) n) same ∙ get_put_same at k s inside ∙ ap (λ x. Some x) (is ∙ ap (λ n. signs_at f n) (sym same))
      | inr order ↦ elim order [
        | inl earlier ↦ get_put_other at k o s (apart earlier) ∙ before o earlier
        | inr after ↦ absurd (omega (arith, less, after))
      ]
    ]
  where
    apart : o < k → o ≢ k
    apart earlier same = omega arith

-- what they say sign by sign
pub says_sign : (f : Following) (P : ℕ → Option ℕ → Type 0) (o : ℕ) (sign : Sign)
    → o ≤ 7 → SaysFollow f P → IsTrue (has_sign (signs_at f o) sign) ↔ P o (bit_of_sign sign)
says_sign f P o Zero low says = says.zero o low
says_sign f P o One low says = says.one o low
says_sign f P o End low says = says.end o low

pub follow_says : (f : Following) (sets : List SignsV) (P : ℕ → Option ℕ → Type 0)
    → SaysFollow f P → ((o : ℕ) → o ≤ 7 → slice_get sets o ≡ Some (signs_at f o)) → IsFollow sets P
follow_says f sets P says are o sign low = both (back (follow_has sets o (signs_at f o) sign (are o low))) (says_sign f P o sign low says)

pub known_follow : (d : DescV) (table : List Following) (i : ℕ) (f : Following) → IsFollowOf d table → slice_get table i ≡ Some f → FollowsAre d i f
known_follow d table i f t at =
    let inside = slice_get_within table i f at in
    let same = t.same in
    let h = t.follows i (omega arith) in
    let one : h.0 ≡ f = cc (h.1, at) in
    subst (λ q. FollowsAre d i q) one h.2
