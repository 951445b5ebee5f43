-- Fields that are pairs have one number, in the old values and in the new ones.
use Rattle.std.proofs.Common.{◌≡◌, ℕ, ◌+◌, ◌*◌, ◌<◌, ◌≤◌, ◌==◌, ◌&&◌, ◌||◌, ◌⊎◌, Bool, true, false, if◌then◌else◌}
use Rattle.std.proofs.Common.{IsTrue, List, [], ◌∷◌, ◌++◌, refl, sym, ◌∙◌, ap, arith, inl, inr, Option, Some, None}
use Rattle.std.proofs.Common.{eqb-true}
use Rattle.std.specs.Prelude.{slice_get}
use Rattle.std.specs.Option.{option_map, option_and_then}
use Rattle.std.proofs.lemmas.Bool.{eq-eqb}
use Rattle.csn_bits.specs.Numbers.{number_of}
use Rattle.csn_desc.specs.declared.node.Count.{Count}
use Rattle.csn_desc.specs.declared.node.Count.TheVariants.{Fixed, Counted}
use Rattle.csn_desc.specs.declared.node.Node.{Node}
use Rattle.csn_desc.specs.declared.node.Node.TheVariants.{Lits, Spare, Pad, Null, Field, Rest, Seq, Choice, Times, Many, Trunc, Window, Named}
use Rattle.csn_desc.specs.Nodes.{DescV}
use Rattle.csn_desc.specs.Values.{Values, value_of, count_of, is_named, is_labelled, with_value}
use Rattle.csn_desc.specs.Formed.{value_width, labelled_part, width_of}
use Rattle.csn_compat.specs.declared.pairs.Pair.{Pair}
use Rattle.csn_compat.specs.Pairs.{are_paired, same_width, with_pair, CountsAgree}

-- a pair of some pairs and one more is the one more, or one of those
pub paired_cases : (pairs : List Pair) (p q field taker : ℕ)
    → IsTrue (are_paired (pairs ++ record { before = p; after = q } ∷ []) field taker)
    → IsTrue (are_paired pairs field taker) ⊎ ((p ≡ field) × (q ≡ taker))
paired_cases [] p q field taker h = last (p == field) (q == taker) refl refl h
  where
    last : (a b : Bool) → (p == field) ≡ a → (q == taker) ≡ b → IsTrue (a && b || false) → IsTrue (are_paired [] field taker) ⊎ ((p ≡ field) × (q ≡ taker))
    last true true is_p is_q h = inr (eqb-true p field is_p, eqb-true q taker is_q)
    last true false is_p is_q h = absurd (cc)
    last false b is_p is_q h = absurd (cc)
paired_cases (x ∷ pairs) p q field taker h = first (x.before == field && x.after == taker) h (λ there. paired_cases pairs p q field taker there)
  where
    first : (a : Bool) → IsTrue (a || are_paired (pairs ++ record { before = p; after = q } ∷ []) field taker)
        → (IsTrue (are_paired (pairs ++ record { before = p; after = q } ∷ []) field taker)
        → IsTrue (are_paired pairs field taker) ⊎ ((p ≡ field) × (q ≡ taker)))
        → IsTrue (a || are_paired pairs field taker) ⊎ ((p ≡ field) × (q ≡ taker))
    first true h later = inl refl
    first false h later = later h

-- a part with a width is labelled
pub width_named : (nodes : List Node) (i width : ℕ) → value_width nodes i ≡ Some width → is_named nodes i ≡ true
width_named nodes i width is = at (slice_get nodes i) is
  where
    at : (n : Option Node) → option_and_then (λ part. width_of (slice_get nodes part)) (labelled_part n) ≡ Some width → is_labelled n ≡ true
    at (Some (Named label part)) is = refl
    at (Some (Lits run)) is = cc
    at (Some (Spare symbol)) is = cc
    at (Some Pad) is = cc
    at (Some Null) is = cc
    at (Some (Field unit count)) is = cc
    at (Some Rest) is = cc
    at (Some (Seq parts)) is = cc
    at (Some (Choice parts)) is = cc
    at (Some (Times count part)) is = cc
    at (Some (Many part)) is = cc
    at (Some (Trunc parts)) is = cc
    at (Some (Window unit count part)) is = cc
    at None is = cc

-- of two parts with one width both are labelled
both_named : (nodes others : List Node) (p q : ℕ) → same_width (value_width nodes p) (value_width others q) ≡ true
    → (is_named nodes p ≡ true) × (is_named others q ≡ true)
both_named nodes others p q same = at (value_width nodes p) (value_width others q) refl refl same
  where
    at : (w x : Option ℕ) → value_width nodes p ≡ w → value_width others q ≡ x → same_width w x ≡ true → (is_named nodes p ≡ true) × (is_named others q ≡ true)
    at (Some w) (Some x) is_w is_x same = (width_named nodes p w is_w, width_named others q x is_x)
    at (Some w) None is_w is_x same = absurd (cc)
    at None x is_w is_x same = absurd (cc)

-- a part leaves the values of earlier fields
value_left : (nodes : List Node) (i : ℕ) (b : List ℕ) (v : Values) (field : ℕ) → field < i → value_of (with_value nodes i b v) field ≡ value_of v field
value_left nodes i b v field less = at (is_named nodes i) (differ (i == field) refl)
  where
    differ : (same : Bool) → (i == field) ≡ same → (i == field) ≡ false
    differ true is = absurd (let e = eqb-true i field is in omega arith)
    differ false is = is

    at : (named : Bool) → (i == field) ≡ false → value_of (if named then (i, b) ∷ v else v) field ≡ value_of v field
    at true other = ap (λ same. if same then Some (number_of b) else value_of v field) other
    at false other = refl

-- a labelled part has its number behind it
value_made : (nodes : List Node) (i : ℕ) (b : List ℕ) (v : Values) → is_named nodes i ≡ true → value_of (with_value nodes i b v) i ≡ Some (number_of b)
value_made nodes i b v named =
    ap (λ label. value_of (if label then (i, b) ∷ v else v) i) named
    ∙ ap (λ same. if same then Some (number_of b) else value_of v i) (eq-eqb i i refl)

-- ---- all pairs

-- each pair is of earlier fields
pub record AreEarlier (pairs : List Pair) (i j : ℕ) : Type 0 where
  pub earlier : (field taker : ℕ) → IsTrue (are_paired pairs field taker) → (field < i) × (taker < j)

-- the fields of each pair have one number
pub record AgreeOn (pairs : List Pair) (v w : Values) : Type 0 where
  pub agree : (field taker : ℕ) → IsTrue (are_paired pairs field taker) → value_of v field ≡ value_of w taker

pub none_earlier : (i j : ℕ) → AreEarlier [] i j
none_earlier i j = record { earlier = λ field taker is. absurd (cc) }

pub none_agree : (v w : Values) → AgreeOn [] v w
none_agree v w = record { agree = λ field taker is. absurd (cc) }

pub later_still : (pairs : List Pair) (i j k m : ℕ) → i ≤ k → j ≤ m → AreEarlier pairs i j → AreEarlier pairs k m
later_still pairs i j k m more others h = record {
  earlier = λ field taker is. let e = h.earlier field taker is in (omega arith, omega arith);
}

module _ (was now : DescV) where
  -- behind two parts all pairs are earlier too
  pub next_earlier : (pairs : List Pair) (i j k m : ℕ) → i < k → j < m → AreEarlier pairs i j → AreEarlier (with_pair was now i j pairs) k m
  next_earlier pairs i j k m more others h = record {
    earlier = λ field taker. at (same_width (value_width was.nodes i) (value_width now.nodes j)) field taker;
  }
    where
      at : (same : Bool) (field taker : ℕ)
          → IsTrue (are_paired (if same then pairs ++ record { before = i; after = j } ∷ [] else pairs) field taker)
          → (field < k) × (taker < m)
      at true field taker is = elim (paired_cases pairs i j field taker is) [
        | inl there ↦ let e = h.earlier field taker there in (omega arith, omega arith)
        | inr last ↦ (omega arith, omega arith)
      ]
      at false field taker is = let e = h.earlier field taker is in (omega arith, omega arith)

  -- behind two parts that have the same bits, the fields of each pair have one number too
  pub next_agree : (pairs : List Pair) (i j : ℕ) (v w : Values) (b : List ℕ)
      → AreEarlier pairs i j → AgreeOn pairs v w → AgreeOn (with_pair was now i j pairs) (with_value was.nodes i b v)
      (with_value now.nodes j b w)
  next_agree pairs i j v w b h values = record {
    agree = λ field taker. at (same_width (value_width was.nodes i) (value_width now.nodes j)) refl field taker;
  }
    where
      kept : (field taker : ℕ) → IsTrue (are_paired pairs field taker)
          → value_of (with_value was.nodes i b v) field ≡ value_of (with_value now.nodes j b w) taker
      kept field taker is =
          let e = h.earlier field taker is in
          value_left was.nodes i b v field e.0 ∙ values.agree field taker is ∙ sym (value_left now.nodes j b w taker e.1)

      made : (field taker : ℕ) → same_width (value_width was.nodes i) (value_width now.nodes j) ≡ true → i ≡ field
          → j ≡ taker → value_of (with_value was.nodes i b v) field ≡ value_of (with_value now.nodes j b w) taker
      made field taker same is_field is_taker =
          let named = both_named was.nodes now.nodes i j same in
          ap (λ k. value_of (with_value was.nodes i b v) k) (sym is_field)
          ∙ value_made was.nodes i b v named.0
          ∙ sym (value_made now.nodes j b w named.1)
          ∙ ap (λ k. value_of (with_value now.nodes j b w) k) is_taker

      at : (same : Bool) → same_width (value_width was.nodes i) (value_width now.nodes j) ≡ same → (field taker : ℕ)
          → IsTrue (are_paired (if same then pairs ++ record { before = i; after = j } ∷ [] else pairs) field taker)
          → value_of (with_value was.nodes i b v) field ≡ value_of (with_value now.nodes j b w) taker
      at true same field taker is = elim (paired_cases pairs i j field taker is) [
        | inl there ↦ kept field taker there
        | inr last ↦ made field taker same last.0 last.1
      ]
      at false same field taker is = kept field taker is

-- ---- counts

-- a count that agrees with one that is a number is a number, and as many bits
pub record AsMany (unit n other : ℕ) (w : Values) (count : Count) : Type 0 where
  pub amount : ℕ
  pub counted : count_of w count ≡ Some amount
  pub equal : unit * n ≡ other * amount

pub as_many : (pairs : List Pair) (v w : Values) (unit other n : ℕ) (count taker : Count)
    → AgreeOn pairs v w → CountsAgree pairs unit count other taker → count_of v count ≡ Some n
    → AsMany unit n other w taker
as_many pairs v w unit other n (Fixed a) (Fixed b) values agree is = record {
  amount = b;
  counted = refl;
  equal = let same : a ≡ n = cc in ap (λ k. unit * k) (sym same) ∙ agree;
}
as_many pairs v w unit other n (Counted m field c) (Counted k taker e) values agree is = record {
  amount = n;
  counted =
      ap (λ value. option_map (λ x. k * x + e) value) (sym (values.agree field taker agree.3))
      ∙ ap (λ f. option_map (λ x. f * x + e) (value_of v field)) (sym agree.1)
      ∙ ap (λ s. option_map (λ x. m * x + s) (value_of v field)) (sym agree.2)
      ∙ is;
  equal = ap (λ u. u * n) agree.0;
}
as_many pairs v w unit other n (Fixed a) (Counted k taker e) values agree is = absurd agree
as_many pairs v w unit other n (Counted m field c) (Fixed b) values agree is = absurd agree
