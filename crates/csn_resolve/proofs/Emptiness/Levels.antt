-- A test of expressions that stands on a test of names, as 'is empty of strings' does, closes after as many
-- turns as there are rules: what it finds with names of any level it finds with those of one level.
use Rattle.std.proofs.Common.{◌≡◌, ℕ, zero, suc, ◌+◌, ◌≤◌, Bool, true, false, List, [], ◌∷◌, length, ◌⊎◌, inl, inr}
use Rattle.std.proofs.Common.{refl, sym, ◌∙◌, ap, arith, Option, Some, None}
use Rattle.std.specs.Prelude.{if◌then◌else◌}
use Rattle.std.specs.List.{find}
use Rattle.csn_grammar.specs.declared.rules.Rule.{Rule}
use Rattle.csn_grammar.specs.ExprV.{ExprV}
use Rattle.csn_grammar.specs.RulesV.{RulesV}
use Rattle.csn_grammar.specs.Names.{same_name, is_built_in, rule_of}
use Rattle.csn_resolve.proofs.Basics.Bools.{no_both}
use Rattle.csn_desc.specs.declared.reading.Reading.{Reading}
use Rattle.csn_desc.specs.declared.reading.Reading.TheVariants.{Received, Sent}

-- ---- how many rules pass a test

abbrev pub one_if : Bool → ℕ
one_if true = 1
one_if false = 0

abbrev pub passing : (Rule → Bool) → List Rule → ℕ
passing p [] = 0
passing p (rule ∷ rules) = one_if (p rule) + passing p rules

one_at_most : (b : Bool) → one_if b ≤ 1
one_at_most true = omega arith
one_at_most false = omega arith

few_pass : (p : Rule → Bool) (rules : List Rule) → passing p rules ≤ length rules
few_pass p [] = omega arith
few_pass p (rule ∷ rules) = omega (arith, one_at_most (p rule), few_pass p rules)

-- each of these rules that passes q passes p
abbrev pub Closed : (Rule → Bool) → (Rule → Bool) → List Rule → Type 0
Closed p q [] = Unit {0}
Closed p q (rule ∷ rules) = (q rule ≡ true → p rule ≡ true) × Closed p q rules

-- a rule that is found passes p where it passes q
closed_at :
    (p q : Rule → Bool) (test : Rule → Bool) (rules : List Rule) (rule : Rule)
    → Closed p q rules → find test rules ≡ Some rule → q rule ≡ true → p rule ≡ true
closed_at p q test [] rule closed at h = cc
closed_at p q test (first ∷ rules) rule closed at h =
    here (test first) at (λ is. closed_at p q test rules rule closed.1 is h)
  where
    here :
        (b : Bool) → (if b then Some first else find test rules) ≡ Some rule
        → (find test rules ≡ Some rule → p rule ≡ true) → p rule ≡ true
    here true is later =
        let same : first ≡ rule = cc in
        sym (ap p same) ∙ closed.0 (ap q same ∙ h)
    here false is later = later is

-- a rule that a name means passes p where it passes q
pub rule_closed :
    (p q : Rule → Bool) (rules : RulesV) (n : List ℕ) (rule : Rule)
    → Closed p q rules → rule_of rules n ≡ Some rule → q rule ≡ true → p rule ≡ true
rule_closed p q rules n rule closed at h = by_name (is_built_in n) at
  where
    by_name :
        (b : Bool)
        → (if b then None else find (λ rule. same_name rule.name n) rules) ≡ Some rule → p rule ≡ true
    by_name true is = cc
    by_name false is = closed_at p q (λ rule. same_name rule.name n) rules rule closed is h

-- one rule more
one_more :
    (b c : Bool) (m n : ℕ) (C : Type 0) → (b ≡ true → c ≡ true) → m ≤ n → C ⊎ (suc m ≤ n)
    → (one_if b + m ≤ one_if c + n) × (((c ≡ true → b ≡ true) × C) ⊎ (suc (one_if b + m) ≤ one_if c + n))
one_more true true m n C wide few (inl closed) = (omega arith, inl (λ h. refl, closed))
one_more true true m n C wide few (inr more) = (omega arith, inr (omega arith))
one_more true false m n C wide few d = absurd (no_both (wide refl) refl)
one_more false true m n C wide few d = (omega arith, inr (omega arith))
one_more false false m n C wide few (inl closed) = (omega arith, inl (λ h. h, closed))
one_more false false m n C wide few (inr more) = (omega arith, inr (omega arith))

-- where p is narrower than q, both are the same for these rules, or more of them pass q
pub closed_or_more :
    (p q : Rule → Bool) → ((rule : Rule) → p rule ≡ true → q rule ≡ true) → (rules : List Rule)
    → (passing p rules ≤ passing q rules) × (Closed p q rules ⊎ (suc (passing p rules) ≤ passing q rules))
closed_or_more p q wide [] = (omega arith, inl tt)
closed_or_more p q wide (rule ∷ rules) =
    let later = closed_or_more p q wide rules in
    one_more (p rule) (q rule) (passing p rules) (passing q rules) (Closed p q rules) (wide rule) later.0 later.1

-- ---- the side of `=` that is taken

pub by_reading :
    (r : Reading) (f : Reading → Bool) {P : Type 0} → f r ≡ true
    → (r ≡ Received → f Received ≡ true → P) → (r ≡ Sent → f Sent ≡ true → P) → P
by_reading Received f p left right = left refl p
by_reading Sent f p left right = right refl p

-- a test of both sides is one of the side that is taken
pub side_taken : {r q : Reading} (f g : Reading → Bool) → r ≡ q → f q ≡ g q → g r ≡ true → f r ≡ true
side_taken f g is same p = ap f is ∙ (same ∙ (sym (ap g is) ∙ p))

-- ---- levels of names

-- these names have rules of which P holds
abbrev pub NamesAre : RulesV → (ExprV → Type 0) → (List ℕ → Bool) → Type 0
NamesAre rules P h = (n : List ℕ) → h n ≡ true → (rule : Rule) × (rule_of rules n ≡ Some rule) × P rule.body

module _ (rules : RulesV) (test : (List ℕ → Bool) → ExprV → Bool) where
  -- a rule passes, where these names do
  abbrev pub rule_test : Option Rule → (List ℕ → Bool) → Bool
  rule_test None names = false
  rule_test (Some rule) names = test names rule.body

  -- the names that pass, where those of the level below do
  abbrev pub level : ℕ → List ℕ → Bool
  level zero n = false
  level (suc k) n = rule_test (rule_of rules n) (level k)

  -- the names of a level have rules of which P holds, where P holds of what passes with such names
  pub level_names :
      (P : ExprV → Type 0) → ((h : List ℕ → Bool) → NamesAre rules P h → (x : ExprV) → test h x ≡ true → P x)
      → (k : ℕ) → NamesAre rules P (level k)
  level_names P sound zero n p = cc
  level_names P sound (suc k) n p = in_rule (rule_of rules n) refl p (level_names P sound k)
    where
      in_rule :
          (o : Option Rule) → rule_of rules n ≡ o → rule_test o (level k) ≡ true → NamesAre rules P (level k)
          → (rule : Rule) × (rule_of rules n ≡ Some rule) × P rule.body
      in_rule None at p names = cc
      in_rule (Some rule) at p names = (rule, at, sound (level k) names rule.body p)

  module _ (wider : (h g : List ℕ → Bool) → ((n : List ℕ) → h n ≡ true → g n ≡ true) → (x : ExprV) → test h x ≡ true → test g x ≡ true) where
    rule_wider :
        (h g : List ℕ → Bool) → ((n : List ℕ) → h n ≡ true → g n ≡ true) → (o : Option Rule)
        → rule_test o h ≡ true → rule_test o g ≡ true
    rule_wider h g wide None p = p
    rule_wider h g wide (Some rule) p = wider h g wide rule.body p

    level_up : (k : ℕ) (n : List ℕ) → level k n ≡ true → level (suc k) n ≡ true
    level_up zero n p = cc
    level_up (suc k) n p = rule_wider (level k) (level (suc k)) (level_up k) (rule_of rules n) p

    -- the rules that pass at a level
    abbrev at_level : ℕ → Rule → Bool
    at_level k rule = test (level k) rule.body

    rules_up : (k : ℕ) (rule : Rule) → at_level k rule ≡ true → at_level (suc k) rule ≡ true
    rules_up k rule p = wider (level k) (level (suc k)) (level_up k) rule.body p

    -- a level that is closed: the rules that pass at the next one pass at it
    abbrev SomeClosed : Type 0
    SomeClosed = (j : ℕ) × Closed (at_level j) (at_level (suc j)) rules

    -- some level is closed, or ever more rules pass
    closing : (k : ℕ) → SomeClosed ⊎ (k ≤ passing (at_level k) rules)
    closing zero = inr (omega arith)
    closing (suc k) = next (closing k)
      where
        more :
            k ≤ passing (at_level k) rules
            → Closed (at_level k) (at_level (suc k)) rules ⊎ (suc (passing (at_level k) rules) ≤ passing (at_level (suc k)) rules)
            → SomeClosed ⊎ (suc k ≤ passing (at_level (suc k)) rules)
        more few (inl closed) = inl (k, closed)
        more few (inr grown) = inr (omega arith)

        next :
            SomeClosed ⊎ (k ≤ passing (at_level k) rules)
            → SomeClosed ⊎ (suc k ≤ passing (at_level (suc k)) rules)
        next (inl closed) = inl closed
        next (inr few) =
            more few (closed_or_more (at_level k) (at_level (suc k)) (rules_up k) rules).1

    closed_level : SomeClosed
    closed_level = found (closing (suc (length rules)))
      where
        found : SomeClosed ⊎ (suc (length rules) ≤ passing (at_level (suc (length rules))) rules) → SomeClosed
        found (inl closed) = closed
        found (inr grown) = absurd (omega (arith, few_pass (at_level (suc (length rules))) rules))

    -- what passes at any level passes at the one above a closed level
    stable_names :
        (j : ℕ) → Closed (at_level j) (at_level (suc j)) rules
        → (m : ℕ) (n : List ℕ) → level m n ≡ true → level (suc j) n ≡ true
    stable_names j closed zero n p = cc
    stable_names j closed (suc m) n p = in_rule (rule_of rules n) refl p (stable_names j closed m)
      where
        in_rule :
            (o : Option Rule) → rule_of rules n ≡ o → rule_test o (level m) ≡ true
            → ((n : List ℕ) → level m n ≡ true → level (suc j) n ≡ true) → rule_test o (level j) ≡ true
        in_rule None at p stable = p
        in_rule (Some rule) at p stable =
            let above : at_level (suc j) rule ≡ true = wider (level m) (level (suc j)) stable rule.body p in
            rule_closed (at_level j) (at_level (suc j)) rules n rule closed at above

    -- there is a level of names with which every expression passes that passes with some level
    pub last_level : (k : ℕ) × ((m : ℕ) (x : ExprV) → test (level m) x ≡ true → test (level k) x ≡ true)
    last_level =
        let at = closed_level in
        (suc at.0, λ m x p. wider (level m) (level (suc at.0)) (stable_names at.0 at.1 m) x p)

    -- so what passes with some level is decided
    pub decided :
        (P : ExprV → Type 0) → ((k : ℕ) (x : ExprV) → test (level k) x ≡ true → P x)
        → ((x : ExprV) → P x → (k : ℕ) × (test (level k) x ≡ true)) → (x : ExprV) → P x ⊎ (¬ P x)
    decided P sound complete x = by_test (test (level last_level.0) x) refl
      where
        by_test : (b : Bool) → test (level last_level.0) x ≡ b → P x ⊎ (¬ P x)
        by_test true passes = inl (sound last_level.0 x passes)
        by_test false fails =
            inr (λ h. let at = complete x h in no_both (last_level.1 at.0 x at.1) fails)
