-- The number of the rule that has a name, from 0.
use Rattle.std.specs.Prelude.{◌≡◌, ◌≤◌, ℕ, false, if◌then◌else◌, List, length, map, Option, None}
use Rattle.std.specs.Borrow.{Bor}
use Rattle.std.specs.List.{position_from, list_any}
use Rattle.csn_grammar.specs.RulesV.{RulesV}
use Rattle.csn_grammar.specs.Names.{same_name, is_built_in}

-- the number of the first rule with the name n, and none for a name that is built in
abbrev pub number_in : RulesV → List ℕ → Option ℕ
number_in rules n = if is_built_in n then None else position_from (λ rule. same_name rule.name n) 0 rules

abbrev pub rule_names : RulesV → List (List ℕ)
rule_names rules = map (λ rule. rule.name) rules

-- the keys are the names of the rules, none of them built in
pub record AreNames (keys : List (Bor (List ℕ))) (rules : RulesV) : Type 0 where
  pub named : map (λ k. k.now) keys ≡ rule_names rules
  pub own : list_any is_built_in (rule_names rules) ≡ false
  pub few : length rules ≤ 4294967295
