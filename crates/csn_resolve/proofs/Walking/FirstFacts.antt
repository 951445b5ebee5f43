-- The first refusal of a named rule, from the way over the steps of its walk.
use Rattle.std.proofs.Common.{◌≡◌, ◌==◌, ◌≤◌, ℕ, suc, Bool, true, false, List, [], ◌∷◌, ◌++◌, Option, Some, None, refl, sym, ◌∙◌, ap, arith}
use Rattle.std.specs.Prelude.{if◌then◌else◌}
use Rattle.csn_desc.specs.declared.reading.Reading.{Reading}
use Rattle.csn_grammar.specs.declared.rules.Rule.{Rule}
use Rattle.csn_grammar.specs.RulesV.{RulesV}
use Rattle.csn_grammar.specs.Names.{built_in_names, rule_of}
use Rattle.csn_resolve.specs.declared.fault.ResolveFault.{ResolveFault}
use Rattle.csn_resolve.specs.declared.fault.ResolveFault.TheVariants.{Refused, NoMemory}
use Rattle.csn_resolve.specs.declared.why.Why.TheVariants.{Undefined, TooManyNodes}
use Rattle.csn_resolve.specs.Steps.{Step, begins, refused, refusals_after}
use Rattle.csn_resolve.specs.Walk.{outermost, PartLeft, RuleWalk}
use Rattle.csn_resolve.specs.Resolved.{twice_steps, asked_unknown, asked_rule, AreRefusals}
use Rattle.csn_resolve.specs.Going.{way, gone, stopped, Stops, IsFirst}
use Rattle.csn_resolve.proofs.Walking.GoingFacts.{none-refused, first-refused, stops-first}
use Rattle.csn_resolve.proofs.Walking.Total.{part_left, rule_has_walk}

module _ (rules : RulesV) (r : Reading) (n : List ℕ) (once : twice_steps built_in_names rules ≡ []) where
  pub unknown : rule_of rules n ≡ None → IsFirst rules n r (Refused Undefined 0)
  unknown none = (
    [],
    record {
      steps = twice_steps built_in_names rules ++ refused Undefined 0 ∷ [];
      walked = asked_unknown none refl;
      are = sym (ap (λ t. refusals_after 0 (t ++ refused Undefined 0 ∷ [])) once);
    },
  )

  pub on-walk :
      (rule : Rule) (fault : ResolveFault) → rule_of rules n ≡ Some rule
      → ((walk left : List Step) → RuleWalk rules r (outermost n) rule walk → PartLeft rules r rule.body left → Stops (way 0 (walk ++ left)) fault)
      → IsFirst rules n r fault
  on-walk rule NoMemory is h = tt
  on-walk rule (Refused why place) is h =
      let walk = rule_has_walk rules r (outermost n) rule in
      let left = part_left rules r rule.body in
      let first = first-refused 0 (walk.0 ++ left.0) why place (h walk.0 left.0 walk.1 left.1) in (
        first.0,
        record {
          steps = twice_steps built_in_names rules ++ (walk.0 ++ left.0);
          walked = asked_rule rule is walk.1 left.1 refl;
          are = sym (ap (λ t. refusals_after 0 (t ++ (walk.0 ++ left.0))) once ∙ first.1);
        },
      )

  pub accepted :
      (rule : Rule) (after : ℕ) → rule_of rules n ≡ Some rule
      → ((walk left : List Step) → RuleWalk rules r (outermost n) rule walk → PartLeft rules r rule.body left → way 0 (walk ++ left) ≡ gone after)
      → AreRefusals rules n r []
  accepted rule after is h =
      let walk = rule_has_walk rules r (outermost n) rule in
      let left = part_left rules r rule.body in
      record {
        steps = twice_steps built_in_names rules ++ (walk.0 ++ left.0);
        walked = asked_rule rule is walk.1 left.1 refl;
        are = sym (ap (λ t. refusals_after 0 (t ++ (walk.0 ++ left.0))) once ∙ none-refused 0 after (walk.0 ++ left.0) (h walk.0 left.0 walk.1 left.1));
      }

-- ---- rules that are defined twice

way-more : (begun after : ℕ) (steps : List Step) → way begun steps ≡ gone after → begun ≤ after
way-more begun after [] p = let same : begun ≡ after = cc in omega (arith, same)
way-more begun after (refused why place ∷ steps) p = absurd (cc)
way-more begun after (begins place ∷ steps) p = by (begun == 16384) p (λ q. way-more (suc begun) after steps q)
  where
    by :
        (full : Bool) → (if full then stopped TooManyNodes place else way (suc begun) steps) ≡ gone after
        → (way (suc begun) steps ≡ gone after → suc begun ≤ after) → begun ≤ after
    by true q later = absurd (cc)
    by false q later = omega (arith, later q)

-- a way on which no node is begun has no steps
pub no-steps : (steps : List Step) → way 0 steps ≡ gone 0 → steps ≡ []
no-steps [] p = refl
no-steps (refused why place ∷ steps) p = absurd (cc)
no-steps (begins place ∷ steps) p = absurd (omega (arith, way-more 1 0 steps p))

-- where a rule is defined twice, the first one that is stands before all else
pub defined-twice :
    (rules : RulesV) (r : Reading) (n : List ℕ) (fault : ResolveFault) → Stops (way 0 (twice_steps built_in_names rules)) fault
    → IsFirst rules n r fault
defined-twice rules r n NoMemory h = tt
defined-twice rules r n (Refused why place) h = by (rule_of rules n) refl
  where
    by : (o : Option Rule) → rule_of rules n ≡ o → IsFirst rules n r (Refused why place)
    by None is =
        let first = first-refused 0 (twice_steps built_in_names rules ++ refused Undefined 0 ∷ []) why place
        (stops-first 0 (twice_steps built_in_names rules) (refused Undefined 0 ∷ []) (Refused why place) h) in
        (first.0, record { steps = twice_steps built_in_names rules ++ refused Undefined 0 ∷ []; walked = asked_unknown is refl; are = sym first.1 })
    by (Some rule) is =
        let walk = rule_has_walk rules r (outermost n) rule in
        let left = part_left rules r rule.body in
        let first = first-refused 0 (twice_steps built_in_names rules ++ (walk.0 ++ left.0)) why place
        (stops-first 0 (twice_steps built_in_names rules) (walk.0 ++ left.0) (Refused why place) h) in
        (first.0, record { steps = twice_steps built_in_names rules ++ (walk.0 ++ left.0); walked = asked_rule rule is walk.1 left.1 refl; are = sym first.1 })
