-- Parts that are taken place by place, and the last one.
use Rattle.std.proofs.Common.{◌≡◌, ◌↔◌, ℕ, zero, suc, ◌+◌, ◌-◌, ◌<◌, ◌≤◌, ◌⊎◌, Bool, false, IsTrue, List, [], ◌∷◌}
use Rattle.std.proofs.Common.{length, refl, sym, ◌∙◌, ap, subst, arith, inl, inr, Some}
use Rattle.std.proofs.lemmas.Bool.{cases_order}
use Rattle.std.specs.Prelude.{slice_get}
use Rattle.csn_desc.specs.Nodes.{DescV}
use Rattle.csn_compat.specs.declared.pairs.Pair.{Pair}
use Rattle.csn_compat.specs.Pairs.{with_pair, with_kept}
use Rattle.csn_compat.specs.Takes.{IsAnyBits, Takes, PartsTake, LeadTake, parts_taken, parts_take, parts_taken_by_rest, lead_taken, lead_takes}
use Rattle.csn_compat.specs.Places.{pairs_behind, FirstTaken, LastTaken}
use Rattle.csn_compat.proofs.PlaceFacts.{behind_cons}
use Rattle.csn_compat.proofs.KeptPairs.{SamePairs, same_pairs, other_way, same_kept, takes_along}

module _ (was now : DescV) where
  -- ---- the first part, and the others

  first_tail : (p q : ℕ) (parts others : List ℕ) (pairs : List Pair) (k : ℕ)
      → FirstTaken was now (p ∷ parts) (q ∷ others) pairs (suc k)
      → FirstTaken was now parts others (with_kept was now p q pairs) k
  first_tail p q parts others pairs k h = λ m x y less at_x at_y.
      subst (λ ps. Takes was now x y ps) (behind_cons was now p q parts others pairs m) (h (suc m) x y (omega arith) at_x at_y)

  first_cons : (p q : ℕ) (parts others : List ℕ) (pairs : List Pair) (k : ℕ)
      → Takes was now p q pairs → FirstTaken was now parts others (with_kept was now p q pairs) k
      → FirstTaken was now (p ∷ parts) (q ∷ others) pairs (suc k)
  first_cons p q parts others pairs k h rest zero x y less at_x at_y =
      let old : p ≡ x = cc in
      let new : q ≡ y = cc in
      subst (λ z. Takes was now x z pairs) new (subst (λ z. Takes was now z q pairs) old h)
  first_cons p q parts others pairs k h rest (suc m) x y less at_x at_y =
      subst (λ ps. Takes was now x y ps) (sym (behind_cons was now p q parts others pairs m)) (rest m x y (omega arith) at_x at_y)

  last_tail : (p q : ℕ) (parts others : List ℕ) (pairs : List Pair) (k : ℕ)
      → LastTaken was now (p ∷ parts) (q ∷ others) (pairs_behind was now (p ∷ parts) (q ∷ others) pairs (suc k))
      → LastTaken was now parts others (pairs_behind was now parts others (with_kept was now p q pairs) k)
  last_tail p q parts others pairs k h = λ j x y is at_x at_y.
      elim (h (suc j) x y (ap suc is) at_x at_y) [
        | inl any ↦ inl any
        | inr both ↦ inr (omega (arith, both.0), subst (λ ps. Takes was now x y ps) (behind_cons was now p q parts others pairs k) both.1)
      ]

  last_cons : (p q : ℕ) (parts others : List ℕ) (pairs : List Pair) (k : ℕ)
      → suc k ≡ length others → LastTaken was now parts others
      (pairs_behind was now parts others (with_kept was now p q pairs) k)
      → LastTaken was now (p ∷ parts) (q ∷ others) (pairs_behind was now (p ∷ parts) (q ∷ others) pairs (suc k))
  last_cons p q parts others pairs k long h zero x y is at_x at_y = absurd (omega arith)
  last_cons p q parts others pairs k long h (suc j) x y is at_x at_y =
      elim (h j x y (omega arith) at_x at_y) [
        | inl any ↦ inl any
        | inr both ↦ inr (omega (arith, both.0), subst (λ ps. Takes was now x y ps) (sym (behind_cons was now p q parts others pairs k)) both.1)
      ]

  -- ---- a sequence

  pub seq_made : (parts others : List ℕ) (kept full : List Pair) (k : ℕ)
      → SamePairs was kept full → suc k ≡ length others → length others ≤ length parts
      → FirstTaken was now parts others kept k → LastTaken was now parts others
      (pairs_behind was now parts others kept k) → PartsTake was now parts others full
  seq_made parts [] kept full k same long few first last = absurd (omega arith)
  seq_made [] (q ∷ others) kept full k same long few first last = absurd (omega arith)
  seq_made (p ∷ parts) (q ∷ []) kept full (suc k) same long few first last = absurd (omega arith)
  seq_made (p ∷ []) (q ∷ []) kept full zero same long few first last =
      elim (last zero p q refl refl refl) [
        | inl any ↦ parts_taken_by_rest any
        | inr both ↦ parts_take (takes_along was now both.1 full same) parts_taken
      ]
  seq_made (p ∷ r ∷ parts) (q ∷ []) kept full zero same long few first last =
      elim (last zero p q refl refl refl) [
        | inl any ↦ parts_taken_by_rest any
        | inr both ↦ absurd (omega (arith, both.0))
      ]
  seq_made (p ∷ parts) (q ∷ r ∷ others) kept full zero same long few first last = absurd (omega arith)
  seq_made (p ∷ parts) (q ∷ r ∷ others) kept full (suc k) same long few first last =
      parts_take (takes_along was now (first zero p q (omega arith) refl refl) full same)
      (seq_made parts (r ∷ others) (with_kept was now p q kept) (with_pair was now p q full) k
      (same_kept was now p q kept full same) (omega arith) (omega arith)
      (first_tail p q parts (r ∷ others) kept k first) (last_tail p q parts (r ∷ others) kept k last))

  pub record SeqTaken (parts others : List ℕ) (kept : List Pair) (k : ℕ) : Type 0 where
    pub few : length others ≤ length parts
    pub first : FirstTaken was now parts others kept k
    pub last : LastTaken was now parts others (pairs_behind was now parts others kept k)

  last_of_one : (p q : ℕ) (parts : List ℕ) (pairs : List Pair)
      → IsAnyBits now q ⊎ ((length (p ∷ parts) ≡ 1) × Takes was now p q pairs)
      → LastTaken was now (p ∷ parts) (q ∷ []) pairs
  last_of_one p q parts pairs h zero x y is at_x at_y =
      let old : p ≡ x = cc in
      let new : q ≡ y = cc in
      let P : ℕ → Type 0 = λ z. IsAnyBits now z ⊎ ((length (p ∷ parts) ≡ 1) × Takes was now x z pairs) in
      let Q : ℕ → Type 0 = λ z. IsAnyBits now q ⊎ ((length (p ∷ parts) ≡ 1) × Takes was now z q pairs) in
      subst P new (subst Q old h)
  last_of_one p q parts pairs h (suc k) x y is at_x at_y = absurd (omega arith)

  one_taken : (p q : ℕ) (parts : List ℕ) (kept : List Pair)
      → IsAnyBits now q ⊎ ((length (p ∷ parts) ≡ 1) × Takes was now p q kept)
      → SeqTaken (p ∷ parts) (q ∷ []) kept zero
  one_taken p q parts kept h = record { few = omega arith; first = λ m x y less at_x at_y. absurd (omega arith); last = last_of_one p q parts kept h }

  more_taken : (p q : ℕ) (parts others : List ℕ) (kept : List Pair) (k : ℕ)
      → suc k ≡ length others → Takes was now p q kept → SeqTaken parts others (with_kept was now p q kept) k
      → SeqTaken (p ∷ parts) (q ∷ others) kept (suc k)
  more_taken p q parts others kept k long h rest =
      let few = rest.few in
      record { few = omega arith; first = first_cons p q parts others kept k h rest.first; last = last_cons p q parts others kept k long rest.last }

  pub seq_taken : {parts others : List ℕ} {full : List Pair} → PartsTake was now parts others full
      → (kept : List Pair) (k : ℕ) → SamePairs was kept full → suc k ≡ length others → SeqTaken parts others kept k
  seq_taken parts_taken kept k same long = absurd (omega arith)
  seq_taken (parts_taken_by_rest {p = p} {q = q} {parts = parts} any) kept zero same long = one_taken p q parts kept (inl any)
  seq_taken (parts_taken_by_rest any) kept (suc k) same long = absurd (omega arith)
  seq_taken (parts_take {p = p} {q = q} {pairs = full} h parts_taken) kept zero same long =
      one_taken p q [] kept (inr (refl, takes_along was now h kept (other_way was kept full same)))
  seq_taken (parts_take h (parts_take more rest)) kept zero same long = absurd (omega arith)
  seq_taken (parts_take h (parts_taken_by_rest any)) kept zero same long = absurd (omega arith)
  seq_taken (parts_take {p = p} {q = q} {parts = parts} {others = others} {pairs = full} h rest) kept (suc k) same long =
      more_taken p q parts others kept k (omega arith) (takes_along was now h kept (other_way was kept full same))
      (seq_taken rest (with_kept was now p q kept) k (same_kept was now p q kept full same) (omega arith))

  -- ---- a truncation

  pub lead_made : (parts others : List ℕ) (kept full : List Pair)
      → SamePairs was kept full → length parts ≤ length others → FirstTaken was now parts others kept (length parts)
      → LeadTake was now parts others full
  lead_made [] others kept full same few first = lead_taken
  lead_made (p ∷ parts) [] kept full same few first = absurd (omega arith)
  lead_made (p ∷ parts) (q ∷ others) kept full same few first =
      lead_takes (takes_along was now (first zero p q (omega arith) refl refl) full same)
      (lead_made parts others (with_kept was now p q kept) (with_pair was now p q full)
      (same_kept was now p q kept full same) (omega arith) (first_tail p q parts others kept (length parts)
      first))

  pub record LeadTaken (parts others : List ℕ) (kept : List Pair) : Type 0 where
    pub few : length parts ≤ length others
    pub first : FirstTaken was now parts others kept (length parts)

  pub lead_is_taken : {parts others : List ℕ} {full : List Pair} → LeadTake was now parts others full
      → (kept : List Pair) → SamePairs was kept full → LeadTaken parts others kept
  lead_is_taken lead_taken kept same = record { few = omega arith; first = λ m x y less at_x at_y. absurd (omega arith) }
  lead_is_taken (lead_takes {p = p} {q = q} {parts = parts} {others = others} {pairs = full} h rest) kept same =
      let inner = lead_is_taken rest (with_kept was now p q kept) (same_kept was now p q kept full same) in
      let few = inner.few in
      record {
        few = omega arith;
        first = first_cons p q parts others kept (length parts)
            (takes_along was now h kept (other_way was kept full same)) inner.first;
      }

  -- ---- what the code asks

  -- the part at the next place
  pub first_next : (parts others : List ℕ) (pairs : List Pair) (k p q : ℕ)
      → slice_get parts k ≡ Some p → slice_get others k ≡ Some q
      → Takes was now p q (pairs_behind was now parts others pairs k) → FirstTaken was now parts others pairs k
      → FirstTaken was now parts others pairs (k + 1)
  first_next parts others pairs k p q at_p at_q h first m x y less at_x at_y = elim (cases_order m k) [
    | inl same ↦
        let there : slice_get parts k ≡ Some x = ap (slice_get parts) (sym same) ∙ at_x in
        let across : slice_get others k ≡ Some y = ap (slice_get others) (sym same) ∙ at_y in
        let old : p ≡ x = cc in
        let new : q ≡ y = cc in
        subst (λ z. Takes was now x y (pairs_behind was now parts others pairs z)) (sym same)
        (subst (λ z. Takes was now x z (pairs_behind was now parts others pairs k)) new
        (subst (λ z. Takes was now z q (pairs_behind was now parts others pairs k)) old h))
    | inr order ↦ elim order [
      | inl below ↦ first m x y below at_x at_y
      | inr above ↦ absurd (omega arith)
    ]
  ]

  pub seq_decided : (parts others : List ℕ) (pairs after : List Pair) (k : ℕ) (r s : Bool)
      → suc k ≡ length others → length others ≤ length parts → r ≡ s → IsTrue s ↔ LastTaken was now parts others after
      → after ≡ pairs_behind was now parts others pairs k → FirstTaken was now parts others pairs k
      → IsTrue r ↔ PartsTake was now parts others pairs
  seq_decided parts others pairs after k r s long few same says is first =
      let P : List Pair → Type 0 = λ ps. LastTaken was now parts others ps in (
        λ e. seq_made parts others pairs pairs k (same_pairs was pairs) long few first (subst P is (says.0 (sym same ∙ e))),
        λ h. (let taken = seq_taken h pairs k (same_pairs was pairs) long in same ∙ says.1 (subst P (sym is) taken.last)),
      )

  pub seq_refused : (parts others : List ℕ) (pairs : List Pair) (k : ℕ) (r s first : Bool)
      → suc k ≡ length others → r ≡ s → s ≡ false → first ≡ false
      → IsTrue first ↔ FirstTaken was now parts others pairs k → IsTrue r ↔ PartsTake was now parts others pairs
  seq_refused parts others pairs k r s first long same none refused says = (
    λ e. absurd (cc),
    λ h. (let taken = seq_taken h pairs k (same_pairs was pairs) long in let yes = says.1 taken.first in absurd (cc)),
  )

  pub seq_too_long : (parts others : List ℕ) (pairs : List Pair) → length parts < length others → PartsTake was now parts others pairs → ⊥
  seq_too_long parts others pairs less h =
      let taken = seq_taken h pairs (length others - 1) (same_pairs was pairs) (omega arith) in
      let few = taken.few in
      omega arith

  pub lead_decided : (parts others : List ℕ) (pairs : List Pair) (count : ℕ) (r : Bool)
      → count ≡ length parts → length parts ≤ length others → IsTrue r ↔ FirstTaken was now parts others pairs count
      → IsTrue r ↔ LeadTake was now parts others pairs
  lead_decided parts others pairs count r is few says =
      let P : ℕ → Type 0 = λ k. FirstTaken was now parts others pairs k in (
        λ e. lead_made parts others pairs pairs (same_pairs was pairs) few (subst P is (says.0 e)),
        λ h. (let taken = lead_is_taken h pairs (same_pairs was pairs) in says.1 (subst P (sym is) taken.first)),
      )

  pub lead_too_long : (parts others : List ℕ) (pairs : List Pair) → length others < length parts → LeadTake was now parts others pairs → ⊥
  lead_too_long parts others pairs less h =
      let taken = lead_is_taken h pairs (same_pairs was pairs) in
      let few = taken.few in
      omega arith
