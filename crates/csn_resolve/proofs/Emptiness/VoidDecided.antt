-- Whether an expression is empty of strings is decided.
use Rattle.std.proofs.Common.{◌≡◌, ℕ, zero, suc, ◌+◌, ◌≤◌, Bool, true, false, ◌||◌, List, ◌⊎◌, inl, inr, refl, sym, ◌∙◌, ap, arith, codes, Option, Some, None}
use Rattle.std.specs.Cmp.Lexicographic.{same_text}
use Rattle.std.proofs.lemmas.Bool.{or_cases, or_left, or_right, and_parts, and_from}
use Rattle.csn_desc.specs.declared.reading.Reading.{Reading}
use Rattle.csn_desc.specs.declared.reading.Reading.TheVariants.{Received, Sent}
use Rattle.csn_grammar.specs.declared.rules.Rule.{Rule}
use Rattle.csn_grammar.specs.ExprV.{ExprV, expr, FormV, lits, null, bit, octet, name, labelled, group, seq, choice}
use Rattle.csn_grammar.specs.ExprV.{power, cut, both, sends, ExprsV, no_item, item, BranchesV, no_branch, branch}
use Rattle.csn_grammar.specs.RulesV.{RulesV}
use Rattle.csn_grammar.specs.Names.{same_name, rule_of}
use Rattle.csn_grammar.specs.Forms.{WidthV, WindowV, width_of, window_of}
use Rattle.csn_grammar.specs.Void.{Void, SomeVoid, AllVoid, void_none, void_name, void_group, void_labelled}
use Rattle.csn_grammar.specs.Void.{void_window, void_seq, void_choice, void_received, void_sent, void_here}
use Rattle.csn_grammar.specs.Void.{void_later, all_end, all_next, all_error}
use Rattle.csn_resolve.specs.Tests.{window_part, is_void, form_void, some_void, all_void}
use Rattle.csn_resolve.proofs.Basics.Bools.{or_wider, no_both}
use Rattle.csn_resolve.proofs.Emptiness.Levels.{level, decided, by_reading, side_taken, NamesAre, level_names, rule_test}

part_wider :
    (w v : Option WidthV) (a b c d : Bool) → (a ≡ true → c ≡ true) → (b ≡ true → d ≡ true)
    → window_part w v a b ≡ true → window_part w v c d ≡ true
part_wider (Some w) v a b c d left right p = right p
part_wider None (Some v) a b c d left right p = left p
part_wider None None a b c d left right p = p

-- ---- with more names, no less is empty

module _ (h g : List ℕ → Bool) (wide : (n : List ℕ) → h n ≡ true → g n ≡ true) where
  mutual
    void_wider : (r : Reading) (x : ExprV) → is_void r h x ≡ true → is_void r g x ≡ true
    void_wider r (expr s e f) p = form_wider r f p

    form_wider : (r : Reading) (f : FormV) → form_void r h f ≡ true → form_void r g f ≡ true
    form_wider r (lits run) p = p
    form_wider r null p = p
    form_wider r bit p = p
    form_wider r octet p = p
    form_wider r (name n) p =
        or_wider (same_name n (codes "no string")) (h n) (same_name n (codes "no string")) (g n) (λ q. q) (wide n) p
    form_wider r (labelled label x) p = void_wider r x p
    form_wider r (group x) p = void_wider r x p
    form_wider r (seq xs) p = some_wider r xs p
    form_wider r (choice bs) p = all_wider r bs p
    form_wider r (power x k) p = p
    form_wider r (cut xs) p = p
    form_wider r (both x y) p =
        part_wider (width_of x) (width_of y) (is_void r h x) (is_void r h y) (is_void r g x) (is_void r g y)
        (λ q. void_wider r x q) (λ q. void_wider r y q) p
    form_wider Received (sends x y) p = void_wider Received x p
    form_wider Sent (sends x y) p = void_wider Sent y p

    some_wider : (r : Reading) (xs : ExprsV) → some_void r h xs ≡ true → some_void r g xs ≡ true
    some_wider r no_item p = p
    some_wider r (item x xs) p =
        or_wider (is_void r h x) (some_void r h xs) (is_void r g x) (some_void r g xs)
        (λ q. void_wider r x q) (λ q. some_wider r xs q) p

    all_wider : (r : Reading) (bs : BranchesV) → all_void r h bs ≡ true → all_void r g bs ≡ true
    all_wider r no_branch p = refl
    all_wider r (branch false x bs) p =
        let parts = and_parts (is_void r h x) (all_void r h bs) p in
        and_from (is_void r g x) (all_void r g bs) (void_wider r x parts.0) (all_wider r bs parts.1)
    all_wider r (branch true x bs) p = all_wider r bs p

-- ---- what the test finds is empty, and what is empty is found

module _ (rules : RulesV) (r : Reading) where
  abbrev voids : ℕ → List ℕ → Bool
  voids k = level rules (is_void r) k

  abbrev pub Names : (List ℕ → Bool) → Type 0
  Names h = NamesAre rules (λ x. Void rules r x) h

  by_window :
      (h : List ℕ → Bool) (s e : ℕ) (x y : ExprV) (w v : Option WidthV) → width_of x ≡ w → width_of y ≡ v
      → window_part w v (is_void r h x) (is_void r h y) ≡ true
      → (is_void r h x ≡ true → Void rules r x) → (is_void r h y ≡ true → Void rules r y)
      → Void rules r (expr s e (both x y))
  by_window h s e x y (Some w) v p q is left right = void_window (record { width = w; part = y }) (cc) (right is)
  by_window h s e x y None (Some v) p q is left right = void_window (record { width = v; part = x }) (cc) (left is)
  by_window h s e x y None None p q is left right = cc

  in_item :
      (x : ExprV) (xs : ExprsV) {a b : Bool} → (a ≡ true) ⊎ (b ≡ true)
      → (a ≡ true → Void rules r x) → (b ≡ true → SomeVoid rules r xs) → SomeVoid rules r (item x xs)
  in_item x xs (inl p) first later = void_here (first p)
  in_item x xs (inr p) first later = void_later (later p)

  module _ (h : List ℕ → Bool) (names : Names h) where
    by_name :
        (s e : ℕ) (n : List ℕ)
        → (same_name n (codes "no string") ≡ true) ⊎ (h n ≡ true) → Void rules r (expr s e (name n))
    by_name s e n (inl p) = void_none (same_text n (codes "no string") (sym p))
    by_name s e n (inr p) = let found = names n p in void_name found.0 found.1 found.2

    mutual
      pub void_found : (x : ExprV) → is_void r h x ≡ true → Void rules r x
      void_found (expr s e f) p = form_found s e f p

      form_found : (s e : ℕ) (f : FormV) → form_void r h f ≡ true → Void rules r (expr s e f)
      form_found s e (lits run) p = absurd (no_both p refl)
      form_found s e null p = absurd (no_both p refl)
      form_found s e bit p = absurd (no_both p refl)
      form_found s e octet p = absurd (no_both p refl)
      form_found s e (name n) p = by_name s e n (or_cases (same_name n (codes "no string")) (h n) p)
      form_found s e (labelled label x) p = void_labelled (void_found x p)
      form_found s e (group x) p = void_group (void_found x p)
      form_found s e (seq xs) p = void_seq (some_found xs p)
      form_found s e (choice bs) p = void_choice (all_found bs p)
      form_found s e (power x k) p = absurd (no_both p refl)
      form_found s e (cut xs) p = absurd (no_both p refl)
      form_found s e (both x y) p =
          by_window h s e x y (width_of x) (width_of y) refl refl p (λ q. void_found x q) (λ q. void_found y q)
      form_found s e (sends x y) p =
          by_reading r (λ q. form_void q h (sends x y)) p (λ is q. void_received is (void_found x (ap (λ z. is_void z h x) is ∙ q)))
          (λ is q. void_sent is (void_found y (ap (λ z. is_void z h y) is ∙ q)))

      pub some_found : (xs : ExprsV) → some_void r h xs ≡ true → SomeVoid rules r xs
      some_found no_item p = absurd (no_both p refl)
      some_found (item x xs) p =
          in_item x xs (or_cases (is_void r h x) (some_void r h xs) p) (λ q. void_found x q) (λ q. some_found xs q)

      pub all_found : (bs : BranchesV) → all_void r h bs ≡ true → AllVoid rules r bs
      all_found no_branch p = all_end
      all_found (branch false x bs) p =
          let parts = and_parts (is_void r h x) (all_void r h bs) p in
          all_next (void_found x parts.0) (all_found bs parts.1)
      all_found (branch true x bs) p = all_error (all_found bs p)

  -- the names of a level have rules that are empty of strings
  names_found : (k : ℕ) → Names (voids k)
  names_found = level_names rules (is_void r) (λ x. Void rules r x) void_found

  -- from some level on, the test finds x
  abbrev Found : ExprV → Type 0
  Found x = (k : ℕ) × ((m : ℕ) → k ≤ m → is_void r (voids m) x ≡ true)

  found_name :
      (n : List ℕ) (rule : Rule) → rule_of rules n ≡ Some rule → (k : ℕ)
      → ((m : ℕ) → k ≤ m → is_void r (voids m) rule.body ≡ true) → (m : ℕ) → suc k ≤ m → voids m n ≡ true
  found_name n rule at k found zero few = absurd (omega (arith, few))
  found_name n rule at k found (suc m) few =
      ap (λ o. rule_test rules (is_void r) o (voids m)) at ∙ found m (omega (arith, few))

  pub found_window :
      (h : List ℕ → Bool) (x y : ExprV) (w : WindowV) → window_of x y ≡ Some w → is_void r h w.part ≡ true
      → window_part (width_of x) (width_of y) (is_void r h x) (is_void r h y) ≡ true
  found_window h x y w is p = by_width (width_of x) (width_of y) refl refl
    where
      by_width :
          (a b : Option WidthV) → width_of x ≡ a → width_of y ≡ b
          → window_part a b (is_void r h x) (is_void r h y) ≡ true
      by_width (Some a) b q t =
          let same : record { width = a; part = y } ≡ w = cc in ap (λ z. is_void r h z.part) same ∙ p
      by_width None (Some b) q t =
          let same : record { width = b; part = x } ≡ w = cc in ap (λ z. is_void r h z.part) same ∙ p
      by_width None None q t = cc

  pub no_string_found :
      (n : List ℕ)
      → n ≡ codes "no string" → (b : Bool) → (same_name n (codes "no string") || b) ≡ true
  no_string_found n is b = ap (λ z. same_name z (codes "no string") || b) is

  mutual
    void_is_found : {x : ExprV} → Void rules r x → Found x
    void_is_found (void_none {n = n} p) = (0, λ m few. no_string_found n p (voids m n))
    void_is_found (void_name {n = n} rule is v) =
        let at = void_is_found v in
        (suc at.0, λ m few. or_right (same_name n (codes "no string")) (voids m n) (found_name n rule is at.0 at.1 m few))
    void_is_found (void_group v) = let at = void_is_found v in (at.0, at.1)
    void_is_found (void_labelled v) = let at = void_is_found v in (at.0, at.1)
    void_is_found (void_window {x = x} {y = y} w is v) =
        let at = void_is_found v in (at.0, λ m few. found_window (voids m) x y w is (at.1 m few))
    void_is_found (void_seq v) = let at = some_is_found v in (at.0, at.1)
    void_is_found (void_choice v) = let at = all_is_found v in (at.0, at.1)
    void_is_found (void_received {x = x} {y = y} is v) =
        let at = void_is_found v in (at.0, λ m few. side_taken (λ z. form_void z (voids m) (sends x y)) (λ z. is_void z (voids m) x) is refl (at.1 m few))
    void_is_found (void_sent {x = x} {y = y} is v) =
        let at = void_is_found v in (at.0, λ m few. side_taken (λ z. form_void z (voids m) (sends x y)) (λ z. is_void z (voids m) y) is refl (at.1 m few))

    some_is_found :
        {xs : ExprsV}
        → SomeVoid rules r xs → (k : ℕ) × ((m : ℕ) → k ≤ m → some_void r (voids m) xs ≡ true)
    some_is_found (void_here {x = x} {xs = xs} v) =
        let at = void_is_found v in (at.0, λ m few. or_left (is_void r (voids m) x) (some_void r (voids m) xs) (at.1 m few))
    some_is_found (void_later {x = x} {xs = xs} v) =
        let at = some_is_found v in (at.0, λ m few. or_right (is_void r (voids m) x) (some_void r (voids m) xs) (at.1 m few))

    all_is_found :
        {bs : BranchesV}
        → AllVoid rules r bs → (k : ℕ) × ((m : ℕ) → k ≤ m → all_void r (voids m) bs ≡ true)
    all_is_found all_end = (0, λ m few. refl)
    all_is_found (all_next {x = x} {bs = bs} v others) =
        let at = void_is_found v in let later = all_is_found others in
        (at.0 + later.0, λ m few. and_from (is_void r (voids m) x) (all_void r (voids m) bs) (at.1 m (omega (arith, few))) (later.1 m (omega (arith, few))))
    all_is_found (all_error others) = let later = all_is_found others in (later.0, later.1)

  pub void_decided : (x : ExprV) → Void rules r x ⊎ (¬ Void rules r x)
  void_decided =
      decided rules (is_void r) (λ h g wide x p. void_wider h g wide r x p) (λ x. Void rules r x)
      (λ k x p. void_found (voids k) (names_found k) x p)
      (λ x v. let at = void_is_found v in (at.0, at.1 at.0 (omega arith)))

  pub some_void_decided : (xs : ExprsV) → SomeVoid rules r xs ⊎ (¬ SomeVoid rules r xs)
  some_void_decided no_item = inr (λ v. elim v [ ])
  some_void_decided (item x xs) = first (void_decided x) (some_void_decided xs)
    where
      first :
          Void rules r x ⊎ (¬ Void rules r x) → SomeVoid rules r xs ⊎ (¬ SomeVoid rules r xs)
          → SomeVoid rules r (item x xs) ⊎ (¬ SomeVoid rules r (item x xs))
      first (inl v) later = inl (void_here v)
      first (inr full) (inl v) = inl (void_later v)
      first (inr full) (inr none) = inr (λ v. neither v)
        where
          neither : SomeVoid rules r (item x xs) → ⊥
          neither (void_here v) = full v
          neither (void_later v) = none v
