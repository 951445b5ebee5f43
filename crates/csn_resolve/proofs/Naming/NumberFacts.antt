-- Rules looked up by their names.
use Rattle.std.proofs.Common.{◌≡◌, ℕ, suc, ◌+◌, ◌-◌, ◌≤◌, ◌<◌, Bool, true, false, ◌||◌, List, [], ◌∷◌, ◌++◌, map}
use Rattle.std.proofs.Common.{length, take, drop, slice_get, nat_eq, nat_lt, refl, sym, ◌∙◌, ap, arith, Option, Some}
use Rattle.std.proofs.Common.{None}
use Rattle.std.specs.Prelude.{if◌then◌else◌}
use Rattle.std.specs.Borrow.{Bor}
use Rattle.std.specs.List.{find, list_any, position_from, position_or_len}
use Rattle.std.specs.Cmp.Lexicographic.{pointwise, same_text}
use Rattle.std.proofs.lemmas.Cmp.{nat_list_eq_equiv}
use Rattle.std.proofs.lemmas.Iterator.Adapters.{position_from-zero}
use Rattle.csn_grammar.specs.declared.rules.Rule.{Rule}
use Rattle.csn_grammar.specs.RulesV.{RulesV}
use Rattle.csn_grammar.specs.Names.{same_name, is_built_in, built_in_names, rule_of}
use Rattle.csn_resolve.specs.Walk.{is_among}
use Rattle.csn_resolve.specs.declared.why.Why.TheVariants.{DefinedTwice}
use Rattle.csn_resolve.specs.Steps.{refused_if}
use Rattle.csn_resolve.specs.Resolved.{twice_steps}
use Rattle.csn_resolve.specs.Going.{way, stopped}
use Rattle.csn_resolve.specs.Numbers.{number_in, rule_names}
use Rattle.csn_resolve.proofs.Basics.Parts.{drop_at, take_next}

same_back : (a b : List ℕ) → same_name a b ≡ same_name b a
same_back a b = nat_list_eq_equiv.symm a b

-- the number of a key is that of the rule with this name
key_number :
    (n : List ℕ) (i : ℕ) (keys : List (Bor (List ℕ))) (rules : RulesV) → map (λ k. k.now) keys ≡ rule_names rules
    → position_from (λ k. pointwise nat_eq n k.now) i keys ≡ position_from (λ rule. same_name rule.name n) i rules
key_number n i [] [] p = refl
key_number n i [] (rule ∷ rules) p = absurd (cc)
key_number n i (k ∷ keys) [] p = absurd (cc)
key_number n i (k ∷ keys) (rule ∷ rules) p =
    let here : k.now ≡ rule.name = cc in
    let later : map (λ k. k.now) keys ≡ rule_names rules = cc in
    let test : pointwise nat_eq n k.now ≡ same_name rule.name n = same_back n k.now ∙ ap (λ m. same_name m n) here in
    ap (λ b. if b then Some i else position_from (λ k. pointwise nat_eq n k.now) (i + 1) keys) test
    ∙ ap (λ o. if same_name rule.name n then Some i else o) (key_number n (i + 1) keys rules later)

get_past : (rule : Rule) (rules : RulesV) (i k : ℕ) → i + 1 ≤ k → slice_get rules (k - (i + 1)) ≡ slice_get (rule ∷ rules) (k - i)
get_past rule rules i k few =
    let step : k - i ≡ suc (k - (i + 1)) = omega (arith, few) in ap (slice_get (rule ∷ rules)) (sym step)

get_first : (rule : Rule) (rules : RulesV) (i : ℕ) → slice_get (rule ∷ rules) (i - i) ≡ Some rule
get_first rule rules i = let none : i - i ≡ 0 = omega arith in ap (slice_get (rule ∷ rules)) none

found_from :
    (n : List ℕ) (i : ℕ) (rules : RulesV) (k : ℕ) → position_from (λ rule. same_name rule.name n) i rules ≡ Some k
    → (i ≤ k) × (k < i + length rules) × (find (λ rule. same_name rule.name n) rules ≡ slice_get rules (k - i))
found_from n i [] k p = absurd (cc)
found_from n i (rule ∷ rules) k p =
    by (same_name rule.name n) p (λ q. found_from n (i + 1) rules k q)
  where
    by :
        (b : Bool) → (if b then Some i else position_from (λ rule. same_name rule.name n) (i + 1) rules) ≡ Some k
        → (position_from (λ rule. same_name rule.name n) (i + 1) rules ≡ Some k
        → (i + 1 ≤ k) × (k < i + 1 + length rules) × (find (λ rule. same_name rule.name n) rules ≡ slice_get rules (k - (i + 1))))
        → (i ≤ k) × (k < i + suc (length rules))
        × ((if b then Some rule else find (λ rule. same_name rule.name n) rules) ≡ slice_get (rule ∷ rules) (k - i))
    by true q later =
        let same : i ≡ k = cc in
        (omega arith, omega arith, sym (get_first rule rules i) ∙ ap (λ z. slice_get (rule ∷ rules) (z - i)) same)
    by false q later =
        let far = later q in (omega (arith, far.0), omega (arith, far.1), far.2 ∙ get_past rule rules i k far.0)

none_from :
    (n : List ℕ) (i : ℕ) (rules : RulesV)
    → position_from (λ rule. same_name rule.name n) i rules ≡ None → find (λ rule. same_name rule.name n) rules ≡ None
none_from n i [] p = refl
none_from n i (rule ∷ rules) p = by (same_name rule.name n) p (λ q. none_from n (i + 1) rules q)
  where
    by :
        (b : Bool) → (if b then Some i else position_from (λ rule. same_name rule.name n) (i + 1) rules) ≡ None
        → (position_from (λ rule. same_name rule.name n) (i + 1) rules ≡ None → find (λ rule. same_name rule.name n) rules ≡ None)
        → (if b then Some rule else find (λ rule. same_name rule.name n) rules) ≡ None
    by true q later = absurd (cc)
    by false q later = later q

-- a rule that is found has no name that is built in
own_name :
    (n : List ℕ) (i : ℕ) (rules : RulesV) (k : ℕ) → position_from (λ rule. same_name rule.name n) i rules ≡ Some k
    → list_any is_built_in (rule_names rules) ≡ false → is_built_in n ≡ false
own_name n i [] k p own = absurd (cc)
own_name n i (rule ∷ rules) k p own =
    by (same_name rule.name n) refl p (is_built_in rule.name) refl own (λ q o. own_name n (i + 1) rules k q o)
  where
    by :
        (b : Bool) → same_name rule.name n ≡ b
        → (if b then Some i else position_from (λ rule. same_name rule.name n) (i + 1) rules) ≡ Some k
        → (c : Bool) → is_built_in rule.name ≡ c → (c || list_any is_built_in (rule_names rules)) ≡ false
        → (position_from (λ rule. same_name rule.name n) (i + 1) rules ≡ Some k
        → list_any is_built_in (rule_names rules) ≡ false → is_built_in n ≡ false)
        → is_built_in n ≡ false
    by b same q true built own later = absurd (cc)
    by true same q false built own later =
        let names : rule.name ≡ n = same_text rule.name n (sym same) in ap is_built_in (sym names) ∙ built
    by false same q false built own later = later q own

-- where no rule has a name that is built in, the first rule with a name is the one that it means
number_is :
    (rules : RulesV) (n : List ℕ) → list_any is_built_in (rule_names rules) ≡ false
    → position_from (λ rule. same_name rule.name n) 0 rules ≡ number_in rules n
number_is rules n own = by (position_from (λ rule. same_name rule.name n) 0 rules) refl (is_built_in n) refl
  where
    by :
        (o : Option ℕ) → position_from (λ rule. same_name rule.name n) 0 rules ≡ o → (b : Bool) → is_built_in n ≡ b
        → o ≡ (if b then None else o)
    by o p false q = refl
    by None p true q = refl
    by (Some k) p true q = let free = own_name n 0 rules k p own in absurd (cc)

-- the index of a name among the keys is the number of its rule
pub index_number :
    (n : List ℕ) (keys : List (Bor (List ℕ))) (rules : RulesV) → map (λ k. k.now) keys ≡ rule_names rules
    → list_any is_built_in (rule_names rules) ≡ false
    → (if nat_lt (position_or_len (λ k. pointwise nat_eq n k.now) keys) (length keys) then Some
    (position_or_len (λ k. pointwise nat_eq n k.now) keys) else None)
    ≡ number_in rules n
index_number n keys rules named own =
    position_from-zero (λ (k : Bor (List ℕ)). pointwise nat_eq n k.now) keys ∙ (key_number n 0 keys rules named ∙ number_is rules n own)

pub rule_found :
    (rules : RulesV) (n : List ℕ) (k : ℕ) → number_in rules n ≡ Some k
    → (k < length rules) × (rule_of rules n ≡ slice_get rules k)
rule_found rules n k p = by (is_built_in n) p
  where
    by :
        (b : Bool) → (if b then None else position_from (λ rule. same_name rule.name n) 0 rules) ≡ Some k
        → (k < length rules) × ((if b then None else find (λ rule. same_name rule.name n) rules) ≡ slice_get rules k)
    by true q = absurd (cc)
    by false q =
        let far = found_from n 0 rules k q in
        let same : k - 0 ≡ k = omega arith in
        (omega (arith, far.1), far.2 ∙ ap (slice_get rules) same)

pub rule_none : (rules : RulesV) (n : List ℕ) → number_in rules n ≡ None → rule_of rules n ≡ None
rule_none rules n p = by (is_built_in n) p
  where
    by :
        (b : Bool) → (if b then None else position_from (λ rule. same_name rule.name n) 0 rules) ≡ None
        → (if b then None else find (λ rule. same_name rule.name n) rules) ≡ None
    by true q = refl
    by false q = none_from n 0 rules q

-- the rule that a name means has a number
pub rule_number :
    (rules : RulesV) (n : List ℕ) (rule : Rule) → rule_of rules n ≡ Some rule
    → (k : ℕ) × (number_in rules n ≡ Some k) × (slice_get rules k ≡ Some rule)
rule_number rules n rule at = by (number_in rules n) refl
  where
    by : (o : Option ℕ) → number_in rules n ≡ o → (k : ℕ) × (number_in rules n ≡ Some k) × (slice_get rules k ≡ Some rule)
    by None p = let none = rule_none rules n p in absurd (cc)
    by (Some k) p = (k, p, sym (rule_found rules n k p).1 ∙ at)

-- ---- rules that are defined twice

-- names that are taken, and then those of these rules
abbrev pub taken_after : List (List ℕ) → RulesV → List (List ℕ)
taken_after taken [] = taken
taken_after taken (rule ∷ rules) = taken_after (rule.name ∷ taken) rules

pub taken-next : (taken : List (List ℕ)) (rules : RulesV) (rule : Rule) → taken_after taken (rules ++ rule ∷ []) ≡ rule.name ∷ taken_after taken rules
taken-next taken [] rule = refl
taken-next taken (other ∷ rules) rule = taken-next (other.name ∷ taken) rules rule

swap_or : (a b c : Bool) → (a || (b || c)) ≡ ((b || a) || c)
swap_or true true c = refl
swap_or true false c = refl
swap_or false true c = refl
swap_or false false c = refl

-- a name is taken where it was before, or where a rule has it
pub among-taken :
    (n : List ℕ) (taken : List (List ℕ)) (rules : RulesV)
    → is_among n (taken_after taken rules) ≡ (list_any (λ rule. same_name rule.name n) rules || is_among n taken)
among-taken n taken [] = refl
among-taken n taken (rule ∷ rules) =
    among-taken n (rule.name ∷ taken) rules ∙ swap_or (list_any (λ r. same_name r.name n) rules) (same_name rule.name n) (is_among n taken)

-- a key is there where a rule has the name
pub key_there :
    (n : List ℕ) (keys : List (Bor (List ℕ))) (rules : RulesV) → map (λ k. k.now) keys ≡ rule_names rules
    → list_any (λ k. pointwise nat_eq n k.now) keys ≡ list_any (λ rule. same_name rule.name n) rules
key_there n [] [] p = refl
key_there n [] (rule ∷ rules) p = absurd (cc)
key_there n (k ∷ keys) [] p = absurd (cc)
key_there n (k ∷ keys) (rule ∷ rules) p =
    let here : k.now ≡ rule.name = cc in
    let later : map (λ k. k.now) keys ≡ rule_names rules = cc in
    let test : pointwise nat_eq n k.now ≡ same_name rule.name n = same_back n k.now ∙ ap (λ m. same_name m n) here in
    ap (λ b. b || list_any (λ k. pointwise nat_eq n k.now) keys) test ∙ ap (λ b. same_name rule.name n || b) (key_there n keys rules later)

pub names-append : (xs ys : RulesV) → rule_names (xs ++ ys) ≡ rule_names xs ++ rule_names ys
names-append [] ys = refl
names-append (x ∷ xs) ys = ap (λ l. x.name ∷ l) (names-append xs ys)

pub keys-append : (xs : List (Bor (List ℕ))) (y : Bor (List ℕ)) → map (λ k. k.now) (xs ++ y ∷ []) ≡ map (λ k. k.now) xs ++ y.now ∷ []
keys-append [] y = refl
keys-append (x ∷ xs) y = ap (λ l. x.now ∷ l) (keys-append xs y)

pub own-append : (xs : List (List ℕ)) (n : List ℕ) → list_any is_built_in xs ≡ false → is_built_in n ≡ false → list_any is_built_in (xs ++ n ∷ []) ≡ false
own-append [] n p q = ap (λ b. b || false) q
own-append (x ∷ xs) n p q = by (is_built_in x) p (λ o. own-append xs n o q)
  where
    by :
        (b : Bool) → (b || list_any is_built_in xs) ≡ false → (list_any is_built_in xs ≡ false → list_any is_built_in (xs ++ n ∷ []) ≡ false)
        → (b || list_any is_built_in (xs ++ n ∷ [])) ≡ false
    by true o later = absurd (cc)
    by false o later = later o

-- the steps of the rules that are left, where the first of them has a name that is taken, or a new one
pub twice-taken :
    (taken : List (List ℕ)) (rules : RulesV) (at : ℕ) (rule : Rule) → slice_get rules at ≡ Some rule → is_among rule.name taken ≡ true
    → way 0 (twice_steps taken (drop at rules)) ≡ stopped DefinedTwice rule.span.start
twice-taken taken rules at rule h sure =
    ap (λ l. way 0 (twice_steps taken l)) (drop_at rules at rule h)
    ∙ ap (λ b. way 0 (refused_if b DefinedTwice rule.span.start ++ twice_steps (rule.name ∷ taken) (drop (at + 1) rules))) sure

pub twice-new :
    (rules : RulesV) (at : ℕ) (rule : Rule) → slice_get rules at ≡ Some rule → is_among rule.name (taken_after built_in_names (take at rules)) ≡ false
    → way 0 (twice_steps (taken_after built_in_names (take at rules)) (drop at rules))
    ≡ way 0 (twice_steps (taken_after built_in_names (take (at + 1) rules)) (drop (at + 1) rules))
twice-new rules at rule h unlike =
    let next : take (at + 1) rules ≡ take at rules ++ rule ∷ [] = take_next rules at rule h in
    ap (λ l. way 0 (twice_steps (taken_after built_in_names (take at rules)) l)) (drop_at rules at rule h)
    ∙ (ap (λ b. way 0 (refused_if b DefinedTwice rule.span.start ++ twice_steps
    (rule.name ∷ taken_after built_in_names (take at rules)) (drop (at + 1) rules))) unlike
    ∙ ap (λ l. way 0 (twice_steps l (drop (at + 1) rules))) (sym (taken-next built_in_names (take at rules) rule)
    ∙ ap (taken_after built_in_names) (sym next)))
