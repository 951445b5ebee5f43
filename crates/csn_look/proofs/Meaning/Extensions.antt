-- Further keys, step by step.
use Rattle.std.proofs.Common.{◌≡◌, ℕ, ◌<◌, Bool, false, ◌||◌, nat_eq, eq-eqb, List, ◌⊎◌, inl, inr, refl, sym, ap, ◌∙◌, arith}
use Rattle.std.proofs.lemmas.Bool.{eqb-true, or_cases, or_left, or_right}
use Rattle.std.proofs.lemmas.Bool.Decides.{nat_tests}
use Rattle.csn_look.specs.KeyMarks.{IsWord, is_marked, place_of, key_mark, has_key}
use Rattle.csn_look.specs.KeySteps.{Gains}
use Rattle.csn_look.proofs.Tables.KeyMarkFacts.{key_mark-same, key_mark-low}

-- nothing
pub gains_none : (old : List ℕ) (P : List ℕ → Bool → Type 0) → ((word : List ℕ) (mark : Bool) → IsWord word → P word mark → ⊥) → Gains old old P
gains_none old P none = record {
  keys = λ word mark is. (λ h. inl h, λ h. elim h [ inl e ↦ e | inr p ↦ absurd (none word mark is p) ]);
  starts = λ at high. refl;
}

apart : (n m : ℕ) → m < n → nat_eq n m ≡ false
apart n m h = grind (arith, nat_tests)

-- one key
pub gains_key :
    (old new word : List ℕ) (whole : Bool) → IsWord word → ((n : ℕ) → is_marked new n ≡ (nat_eq n (key_mark (place_of word) whole) || is_marked old n))
    → Gains old new (λ key mark. (key ≡ word) × (mark ≡ whole))
gains_key old new word whole is set = record {
  keys = λ key mark word_k. (
    λ h. elim (or_cases (nat_eq (key_mark (place_of key) mark) (key_mark (place_of word) whole))
        (has_key old key mark) (sym (set (key_mark (place_of key) mark)) ∙ h)) [
          | inl e ↦ inr (key_mark-same key word mark whole word_k is (eqb-true (key_mark (place_of key) mark) (key_mark (place_of word) whole) e))
          | inr e ↦ inl e
        ],
    λ h. set (key_mark (place_of key) mark) ∙ elim h [
      | inl e ↦ or_right (nat_eq (key_mark (place_of key) mark) (key_mark (place_of word) whole)) (has_key old key mark) e
      | inr e ↦ or_left (nat_eq (key_mark (place_of key) mark) (key_mark (place_of word) whole)) (has_key old key mark)
          (eq-eqb (key_mark (place_of key) mark) (key_mark (place_of word) whole)
          (ap (λ k. key_mark (place_of k) mark) e.0 ∙ ap (λ m. key_mark (place_of word) m) e.1))
    ],
  );
  starts = λ at high. set at ∙ ap (λ b. b || is_marked old at) (apart at (key_mark (place_of word) whole) (omega (arith, key_mark-low word whole is)));
}

-- the first facts, and then the second
pub record Splits (P Q R : List ℕ → Bool → Type 0) : Type 0 where
  pub first : (word : List ℕ) (mark : Bool) → IsWord word → P word mark → R word mark
  pub second : (word : List ℕ) (mark : Bool) → IsWord word → Q word mark → R word mark
  pub split : (word : List ℕ) (mark : Bool) → IsWord word → R word mark → P word mark ⊎ Q word mark

pub gains_then : (old mid new : List ℕ) (P Q R : List ℕ → Bool → Type 0) → Gains old mid P → Gains mid new Q → Splits P Q R → Gains old new R
gains_then old mid new P Q R p q s = record {
  keys = λ word mark is. (
    λ h. elim ((q.keys word mark is).0 h) [
      | inl e ↦ elim ((p.keys word mark is).0 e) [ inl o ↦ inl o | inr f ↦ inr (s.first word mark is f) ]
      | inr f ↦ inr (s.second word mark is f)
    ],
    λ h. (q.keys word mark is).1 (elim h [
      | inl o ↦ inl ((p.keys word mark is).1 (inl o))
      | inr r ↦ elim (s.split word mark is r) [ inl f ↦ inl ((p.keys word mark is).1 (inr f)) | inr g ↦ inr g ]
    ]),
  );
  starts = λ at high. q.starts at high ∙ p.starts at high;
}

-- the same facts
pub gains_same :
    (old new : List ℕ) (P Q : List ℕ → Bool → Type 0) → Gains old new P
    → ((word : List ℕ) (mark : Bool) → IsWord word → P word mark → Q word mark)
    → ((word : List ℕ) (mark : Bool) → IsWord word → Q word mark → P word mark)
    → Gains old new Q
gains_same old new P Q p to from = record {
  keys = λ word mark is. (
    λ h. elim ((p.keys word mark is).0 h) [ inl o ↦ inl o | inr f ↦ inr (to word mark is f) ],
    λ h. (p.keys word mark is).1 (elim h [ inl o ↦ inl o | inr f ↦ inr (from word mark is f) ]),
  );
  starts = p.starts;
}
