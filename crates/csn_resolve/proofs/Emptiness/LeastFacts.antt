-- The marked rules are those that pass: what is found with them passes, and what passes is found with them.
use Rattle.std.proofs.Common.{◌≡◌, ℕ, zero, suc, ◌<◌, Bool, true, false, List, [], ◌∷◌, ◌++◌, length, set, slice_get}
use Rattle.std.proofs.Common.{Some, None, Option, refl, ◌∙◌, ap, subst, arith, codes, ◌⊎◌, inl, inr}
use Rattle.std.proofs.lemmas.Bool.{or_left, or_right, and_from}
use Rattle.csn_desc.specs.declared.reading.Reading.{Reading}
use Rattle.csn_grammar.specs.declared.rules.Rule.{Rule}
use Rattle.csn_grammar.specs.ExprV.{ExprV, expr, ExprsV, BranchesV, sends}
use Rattle.csn_grammar.specs.RulesV.{RulesV}
use Rattle.csn_grammar.specs.Names.{same_name, rule_of}
use Rattle.csn_grammar.specs.Void as grammar
use Rattle.csn_grammar.specs.Void.{SomeVoid, AllVoid, void_none, void_name, void_group, void_labelled, void_window}
use Rattle.csn_grammar.specs.Void.{void_seq, void_choice, void_received, void_sent, void_here, void_later, all_end}
use Rattle.csn_grammar.specs.Void.{all_next, all_error}
use Rattle.csn_resolve.specs.Counts as counts
use Rattle.csn_resolve.specs.Counts.{narrow_field, narrow_name, narrow_group, narrow_received, narrow_sent}
use Rattle.csn_resolve.specs.Tests.{is_void, some_void, all_void, is_narrow, form_narrow, narrow_width, form_void}
use Rattle.csn_grammar.specs.Forms.{width_of}
use Rattle.csn_resolve.specs.declared.marks.Test.{Test}
use Rattle.csn_resolve.specs.declared.marks.Test.TheVariants.{Void, Narrow}
use Rattle.csn_resolve.specs.Numbers.{number_in}
use Rattle.csn_resolve.specs.Marked.{Passes, passes, mark_at, is_set, marked, AreSound, AreClosed, unmarked}
use Rattle.csn_resolve.proofs.Naming.NumberFacts.{rule_found, rule_number}
use Rattle.csn_resolve.proofs.Emptiness.VoidDecided as v
use Rattle.csn_resolve.proofs.Emptiness.NarrowDecided as w
use Rattle.csn_resolve.proofs.Emptiness.Levels.{NamesAre, side_taken}
use Rattle.csn_resolve.proofs.Basics.Parts.{get_within}

module _ (rules : RulesV) (marks : List Bool) where
  -- the rule of a name that is marked
  marked_rule :
      (n : List ℕ) → marked rules marks n ≡ true
      → (k : ℕ) × (rule_of rules n ≡ slice_get rules k) × (k < length rules) × (slice_get marks k ≡ Some true)
  marked_rule n p = by (number_in rules n) refl p
    where
      at_number : (k : ℕ) (o : Option Bool) → slice_get marks k ≡ o → is_set o ≡ true → slice_get marks k ≡ Some true
      at_number k None q t = absurd (cc)
      at_number k (Some b) q t = q ∙ ap Some t

      by :
          (o : Option ℕ) → number_in rules n ≡ o → mark_at marks o ≡ true
          → (k : ℕ) × (rule_of rules n ≡ slice_get rules k) × (k < length rules) × (slice_get marks k ≡ Some true)
      by None q t = absurd (cc)
      by (Some k) q t = let found = rule_found rules n k q in (k, found.1, found.0, at_number k (slice_get marks k) refl t)

  -- a rule that a name means is marked, where its number is
  name_marked :
      (n : List ℕ) (rule : Rule) → rule_of rules n ≡ Some rule
      → ((k : ℕ) → slice_get rules k ≡ Some rule → slice_get marks k ≡ Some true) → marked rules marks n ≡ true
  name_marked n rule at all =
      let number = rule_number rules n rule at in
      ap (mark_at marks) number.1 ∙ ap is_set (all number.0 number.2)

  within_rule : (k : ℕ) → k < length rules → (rule : Rule) × (slice_get rules k ≡ Some rule)
  within_rule k few = get_within rules k few

  -- ---- sound

  names_sound : (test : Test) → AreSound rules test marks → NamesAre rules (λ x. Passes rules test x) (marked rules marks)
  names_sound test sound n p =
      let found = marked_rule n p in
      let rule = within_rule found.0 found.2 in
      (rule.0, found.1 ∙ rule.1, sound found.0 rule.0 rule.1 found.3)

  pub found_passes :
      (test : Test) (x : ExprV) → AreSound rules test marks → passes test (marked rules marks) x ≡ true → Passes rules test x
  found_passes (Void r) x sound p = v.void_found rules r (marked rules marks) (names_sound (Void r) sound) x p
  found_passes (Narrow r) x sound p = w.narrow_found rules r (marked rules marks) (names_sound (Narrow r) sound) x p

  -- ---- complete

  module _ (r : Reading) (closed : AreClosed rules (Void r) marks) where
    mutual
      void_closed : {x : ExprV} → grammar.Void rules r x → is_void r (marked rules marks) x ≡ true
      void_closed (void_none {n = n} p) = v.no_string_found rules r n p (marked rules marks n)
      void_closed (void_name {n = n} rule is h) =
          let body = void_closed h in
          or_right (same_name n (codes "no string")) (marked rules marks n)
          (name_marked n rule is (λ k at. closed k rule at body))
      void_closed (void_group h) = void_closed h
      void_closed (void_labelled h) = void_closed h
      void_closed (void_window {x = x} {y = y} win is h) = v.found_window rules r (marked rules marks) x y win is (void_closed h)
      void_closed (void_seq h) = some_closed h
      void_closed (void_choice h) = all_closed h
      void_closed (void_received {x = x} {y = y} is h) =
          side_taken (λ z. form_void z (marked rules marks) (sends x y)) (λ z. is_void z (marked rules marks) x)
          is refl (void_closed h)
      void_closed (void_sent {x = x} {y = y} is h) = side_taken (λ z. form_void z (marked rules marks) (sends x y))
          (λ z. is_void z (marked rules marks) y) is refl (void_closed h)

      some_closed : {xs : ExprsV} → SomeVoid rules r xs → some_void r (marked rules marks) xs ≡ true
      some_closed (void_here {x = x} {xs = xs} h) = or_left (is_void r (marked rules marks) x) (some_void r (marked rules marks) xs) (void_closed h)
      some_closed (void_later {x = x} {xs = xs} h) = or_right (is_void r (marked rules marks) x) (some_void r (marked rules marks) xs) (some_closed h)

      all_closed : {bs : BranchesV} → AllVoid rules r bs → all_void r (marked rules marks) bs ≡ true
      all_closed all_end = refl
      all_closed (all_next {x = x} {bs = bs} h others) =
          and_from (is_void r (marked rules marks) x) (all_void r (marked rules marks) bs) (void_closed h) (all_closed others)
      all_closed (all_error others) = all_closed others

  narrow_closed : (r : Reading) → AreClosed rules (Narrow r) marks → {x : ExprV} → counts.Narrow rules r x → is_narrow r (marked rules marks) x ≡ true
  narrow_closed r closed (narrow_field {x = expr s e f} u n is at some few) =
      or_left (narrow_width (width_of (expr s e f))) (form_narrow r (marked rules marks) f) (w.found_width rules r (expr s e f) u n is at some few)
  narrow_closed r closed (narrow_name {n = n} rule is h) =
      let body = narrow_closed r closed h in name_marked n rule is (λ k at. closed k rule at body)
  narrow_closed r closed (narrow_group h) = narrow_closed r closed h
  narrow_closed r closed (narrow_received {x = x} {y = y} is h) =
      side_taken (λ z. form_narrow z (marked rules marks) (sends x y)) (λ z. is_narrow z (marked rules marks) x)
      is refl (narrow_closed r closed h)
  narrow_closed r closed (narrow_sent {x = x} {y = y} is h) =
      side_taken (λ z. form_narrow z (marked rules marks) (sends x y)) (λ z. is_narrow z (marked rules marks) y)
      is refl (narrow_closed r closed h)

  pub passes_found :
      (test : Test) (x : ExprV) → AreClosed rules test marks → Passes rules test x → passes test (marked rules marks) x ≡ true
  passes_found (Void r) x closed h = void_closed r closed h
  passes_found (Narrow r) x closed h = narrow_closed r closed h

-- ---- one rule more is marked

same_or_not : (k at : ℕ) → (k ≡ at) ⊎ (k ≡ at → ⊥)
same_or_not zero zero = inl refl
same_or_not zero (suc at) = inr (λ p. absurd (omega (arith, p)))
same_or_not (suc k) zero = inr (λ p. absurd (omega (arith, p)))
same_or_not (suc k) (suc at) = up (same_or_not k at)
  where
    up : (k ≡ at) ⊎ (k ≡ at → ⊥) → (suc k ≡ suc at) ⊎ (suc k ≡ suc at → ⊥)
    up (inl p) = inl (ap suc p)
    up (inr p) = inr (λ q. p (omega (arith, q)))

set_get : (marks : List Bool) (at k : ℕ) → slice_get (set marks at true) k ≡ Some true → (k ≡ at → ⊥) → slice_get marks k ≡ Some true
set_get [] at k p other = p
set_get (b ∷ marks) zero zero p other = absurd (other refl)
set_get (b ∷ marks) zero (suc k) p other = p
set_get (b ∷ marks) (suc at) zero p other = p
set_get (b ∷ marks) (suc at) (suc k) p other = set_get marks at k p (λ q. other (ap suc q))

pub set_fewer : (marks : List Bool) (at : ℕ) → slice_get marks at ≡ Some false → unmarked (set marks at true) < unmarked marks
set_fewer [] at p = absurd (cc)
set_fewer (true ∷ marks) zero p = absurd (cc)
set_fewer (false ∷ marks) zero p = omega arith
set_fewer (true ∷ marks) (suc at) p = set_fewer marks at p
set_fewer (false ∷ marks) (suc at) p = let less = set_fewer marks at p in omega (arith, less)

pub sound_more :
    (rules : RulesV) (test : Test) (marks : List Bool) (at : ℕ) (rule : Rule) → slice_get rules at ≡ Some rule
    → Passes rules test rule.body → AreSound rules test marks → AreSound rules test (set marks at true)
sound_more rules test marks at rule here passed sound k other is p = by (same_or_not k at)
  where
    by : (k ≡ at) ⊎ (k ≡ at → ⊥) → Passes rules test other.body
    by (inl same) =
        let one : rule ≡ other = cc in
        let Q : Rule → Type 0 = λ z. Passes rules test z.body in subst Q one passed
    by (inr apart) = sound k other is (set_get marks at k p apart)

-- where none is marked, none is with one more that is not
pub none_more :
    (marks : List Bool) → ((k : ℕ) → slice_get marks k ≡ Some true → ⊥) → (k : ℕ) → slice_get (marks ++ false ∷ []) k ≡ Some true → ⊥
none_more [] none zero p = cc
none_more [] none (suc k) p = cc
none_more (b ∷ marks) none zero p = none zero p
none_more (b ∷ marks) none (suc k) p = none_more marks (λ j q. none (suc j) q) k p

pub none_sound : (rules : RulesV) (test : Test) (marks : List Bool) → ((k : ℕ) → slice_get marks k ≡ Some true → ⊥) → AreSound rules test marks
none_sound rules test marks none k rule at p = absurd (none k p)
