-- How many rules have a name that is not being put in: one less, each time that a name is.
use Rattle.std.proofs.Common.{◌≡◌, ℕ, suc, ◌≤◌, Bool, true, false, not, ◌||◌, List, [], ◌∷◌, ◌⊎◌, inl, inr, refl, sym, ◌∙◌, ap, Some, None}
use Rattle.std.specs.Prelude.{if◌then◌else◌}
use Rattle.std.specs.List.{find}
use Rattle.std.specs.Cmp.Lexicographic.{same_text}
use Rattle.std.proofs.lemmas.Cmp.{nat_list_eq_equiv}
use Rattle.csn_grammar.specs.declared.rules.Rule.{Rule}
use Rattle.csn_grammar.specs.RulesV.{RulesV}
use Rattle.csn_grammar.specs.Names.{same_name, is_built_in, rule_of}
use Rattle.csn_resolve.specs.Walk.{is_among}
use Rattle.csn_resolve.proofs.Emptiness.Levels.{passing, Closed, closed_or_more, rule_closed}

abbrev pub is_fresh : List (List ℕ) → Rule → Bool
is_fresh names rule = not (is_among rule.name names)

abbrev pub fresh : RulesV → List (List ℕ) → ℕ
fresh rules names = passing (is_fresh names) rules

-- the rule of a name has it
name_found :
    (rules : RulesV) (n : List ℕ) (rule : Rule)
    → find (λ rule. same_name rule.name n) rules ≡ Some rule → same_name rule.name n ≡ true
name_found [] n rule at = cc
name_found (first ∷ rules) n rule at = here (same_name first.name n) refl at (λ is. name_found rules n rule is)
  where
    here :
        (b : Bool)
        → same_name first.name n ≡ b
        → (if b then Some first else find (λ rule. same_name rule.name n) rules) ≡ Some rule
        → (find (λ rule. same_name rule.name n) rules ≡ Some rule → same_name rule.name n ≡ true)
        → same_name rule.name n ≡ true
    here true p is later = let same : first ≡ rule = cc in sym (ap (λ x. same_name x.name n) same) ∙ p
    here false p is later = later is

pub rule_name : (rules : RulesV) (n : List ℕ) (rule : Rule) → rule_of rules n ≡ Some rule → rule.name ≡ n
rule_name rules n rule at = same_text rule.name n (sym (by_name (is_built_in n) at))
  where
    by_name :
        (b : Bool)
        → (if b then None else find (λ rule. same_name rule.name n) rules) ≡ Some rule
        → same_name rule.name n ≡ true
    by_name true is = cc
    by_name false is = name_found rules n rule is

narrower : (a b : Bool) → not (a || b) ≡ true → not b ≡ true
narrower true b p = cc
narrower false b p = p

pub fewer :
    (rules : RulesV) (names : List (List ℕ)) (n : List ℕ) (rule : Rule)
    → rule_of rules n ≡ Some rule → is_among n names ≡ false → suc (fresh rules (n ∷ names)) ≤ fresh rules names
fewer rules names n rule at new =
    decide (closed_or_more (is_fresh (n ∷ names)) (is_fresh names)
    (λ x p. narrower (same_name n x.name) (is_among x.name names) p) rules).1
  where
    same : rule.name ≡ n
    same = rule_name rules n rule at

    was_fresh : is_fresh names rule ≡ true
    was_fresh = ap (λ z. not (is_among z names)) same ∙ ap not new

    no_more : is_fresh (n ∷ names) rule ≡ true → ⊥
    no_more p = clash (ap (λ z. not (same_name n z || is_among z names)) (sym same) ∙ p)
      where
        clash : not (same_name n n || is_among n names) ≡ true → ⊥
        clash q = let self : same_name n n ≡ true = nat_list_eq_equiv.refl n in let known : is_among n names ≡ false = new in cc

    decide :
        Closed (is_fresh (n ∷ names)) (is_fresh names) rules ⊎ (suc (fresh rules (n ∷ names)) ≤ fresh rules names)
        → suc (fresh rules (n ∷ names)) ≤ fresh rules names
    decide (inl closed) = absurd (no_more (rule_closed (is_fresh (n ∷ names)) (is_fresh names) rules n rule closed at was_fresh))
    decide (inr less) = less
