-- Whether what stands behind a label is a field of constant width, of 1 to 16 bits, is decided.
use Rattle.std.proofs.Common.{◌≡◌, ℕ, suc, ◌*◌, ◌≤◌, Bool, true, nat_le, List, ◌⊎◌, inl, inr, refl, ◌∙◌, ap, Option, Some, None}
use Rattle.std.proofs.lemmas.Bool.{leb-true, le-leb, or_cases, or_left, and_parts, and_from}
use Rattle.csn_desc.specs.declared.reading.Reading.{Reading}
use Rattle.csn_desc.specs.declared.reading.Reading.TheVariants.{Received, Sent}
use Rattle.csn_grammar.specs.declared.exponent.Exponent.{Exponent}
use Rattle.csn_grammar.specs.declared.exponent.Exponent.TheVariants.{Any, Number, Linear}
use Rattle.csn_grammar.specs.declared.rules.Rule.{Rule}
use Rattle.csn_grammar.specs.ExprV.{ExprV, expr, FormV, name, group, sends}
use Rattle.csn_grammar.specs.RulesV.{RulesV}
use Rattle.csn_grammar.specs.Names.{rule_of}
use Rattle.csn_grammar.specs.Forms.{WidthV, width_of}
use Rattle.csn_resolve.specs.Counts.{Narrow, narrow_field, narrow_name, narrow_group, narrow_received, narrow_sent}
use Rattle.csn_resolve.specs.Tests.{few_bits, narrow_width, is_narrow, form_narrow}
use Rattle.csn_resolve.proofs.Basics.Bools.{or_wider}
use Rattle.csn_resolve.proofs.Emptiness.Levels.{level, decided, by_reading, side_taken, NamesAre, level_names, rule_test}

-- ---- with more names, no less is narrow

module _ (h g : List ℕ → Bool) (wide : (n : List ℕ) → h n ≡ true → g n ≡ true) where
  mutual
    narrow_wider : (r : Reading) (x : ExprV) → is_narrow r h x ≡ true → is_narrow r g x ≡ true
    narrow_wider r (expr s e f) p =
        or_wider (narrow_width (width_of (expr s e f))) (form_narrow r h f) (narrow_width (width_of (expr s e f))) (form_narrow r g f)
        (λ q. q) (λ q. form_wider r f q) p

    form_wider : (r : Reading) (f : FormV) → form_narrow r h f ≡ true → form_narrow r g f ≡ true
    form_wider r (name n) p = wide n p
    form_wider r (group x) p = narrow_wider r x p
    form_wider Received (sends x y) p = narrow_wider Received x p
    form_wider Sent (sends x y) p = narrow_wider Sent y p
    form_wider r f p = cc

-- ---- what the test finds is narrow, and what is narrow is found

number_width : (unit n : ℕ) → few_bits unit (Number n) ≡ true → (1 ≤ unit * n) × (unit * n ≤ 16)
number_width unit n p =
    let parts = and_parts (nat_le 1 (unit * n)) (nat_le (unit * n) 16) p in
    (leb-true 1 (unit * n) parts.0, leb-true (unit * n) 16 parts.1)

module _ (rules : RulesV) (r : Reading) where
  abbrev narrows : ℕ → List ℕ → Bool
  narrows k = level rules (is_narrow r) k

  abbrev pub Names : (List ℕ → Bool) → Type 0
  Names h = NamesAre rules (λ x. Narrow rules r x) h

  by_width : (x : ExprV) (o : Option WidthV) → width_of x ≡ o → narrow_width o ≡ true → Narrow rules r x
  by_width x None is p = cc
  by_width x (Some w) is p = by_count w.count refl p
    where
      by_count : (k : Exponent) → w.count ≡ k → few_bits w.unit k ≡ true → Narrow rules r x
      by_count Any at p = cc
      by_count (Linear m label c) at p = cc
      by_count (Number n) at p = let few = number_width w.unit n p in narrow_field w n is at few.0 few.1

  module _ (h : List ℕ → Bool) (names : Names h) where
    in_width :
        (x : ExprV) (f : FormV) → (narrow_width (width_of x) ≡ true) ⊎ (form_narrow r h f ≡ true)
        → (form_narrow r h f ≡ true → Narrow rules r x) → Narrow rules r x
    in_width x f (inl p) inner = by_width x (width_of x) refl p
    in_width x f (inr p) inner = inner p

    mutual
      pub narrow_found : (x : ExprV) → is_narrow r h x ≡ true → Narrow rules r x
      narrow_found (expr s e f) p =
          in_width (expr s e f) f (or_cases (narrow_width (width_of (expr s e f))) (form_narrow r h f) p)
          (λ q. form_found s e f q)

      form_found : (s e : ℕ) (f : FormV) → form_narrow r h f ≡ true → Narrow rules r (expr s e f)
      form_found s e (name n) p = let found = names n p in narrow_name found.0 found.1 found.2
      form_found s e (group x) p = narrow_group (narrow_found x p)
      form_found s e (sends x y) p =
          by_reading r (λ q. form_narrow q h (sends x y)) p (λ is q. narrow_received is (narrow_found x (ap (λ z. is_narrow z h x) is ∙ q)))
          (λ is q. narrow_sent is (narrow_found y (ap (λ z. is_narrow z h y) is ∙ q)))
      form_found s e f p = cc

  names_found : (k : ℕ) → Names (narrows k)
  names_found = level_names rules (is_narrow r) (λ x. Narrow rules r x) narrow_found

  found_name :
      (n : List ℕ) (rule : Rule) → rule_of rules n ≡ Some rule → (k : ℕ)
      → is_narrow r (narrows k) rule.body ≡ true → narrows (suc k) n ≡ true
  found_name n rule at k found = ap (λ o. rule_test rules (is_narrow r) o (narrows k)) at ∙ found

  pub found_width :
      (x : ExprV) (w : WidthV) (n : ℕ)
      → width_of x ≡ Some w → w.count ≡ Number n → 1 ≤ w.unit * n → w.unit * n ≤ 16
      → narrow_width (width_of x) ≡ true
  found_width x w n is at some few =
      ap narrow_width is ∙ (ap (few_bits w.unit) at
      ∙ and_from (nat_le 1 (w.unit * n)) (nat_le (w.unit * n) 16) (le-leb 1 (w.unit * n) some) (le-leb (w.unit * n) 16 few))

  narrow_is_found : {x : ExprV} → Narrow rules r x → (k : ℕ) × (is_narrow r (narrows k) x ≡ true)
  narrow_is_found (narrow_field {x = expr s e f} w n is at some few) =
      (0, or_left (narrow_width (width_of (expr s e f))) (form_narrow r (narrows 0) f) (found_width (expr s e f) w n is at some few))
  narrow_is_found (narrow_name {n = n} rule is v) =
      let at = narrow_is_found v in (suc at.0, found_name n rule is at.0 at.1)
  narrow_is_found (narrow_group v) = let at = narrow_is_found v in (at.0, at.1)
  narrow_is_found (narrow_received {x = x} {y = y} is v) =
      let at = narrow_is_found v in (at.0, side_taken (λ z. form_narrow z (narrows at.0) (sends x y)) (λ z. is_narrow z (narrows at.0) x) is refl at.1)
  narrow_is_found (narrow_sent {x = x} {y = y} is v) =
      let at = narrow_is_found v in (at.0, side_taken (λ z. form_narrow z (narrows at.0) (sends x y)) (λ z. is_narrow z (narrows at.0) y) is refl at.1)

  pub narrow_decided : (x : ExprV) → Narrow rules r x ⊎ (¬ Narrow rules r x)
  narrow_decided =
      decided rules (is_narrow r) (λ h g wide x p. narrow_wider h g wide r x p) (λ x. Narrow rules r x)
      (λ k x p. narrow_found (narrows k) (names_found k) x p) (λ x v. narrow_is_found v)
