-- What is told of a reason is what `csn_cli check` answers.
use Rattle.std.proofs.Common.{◌≡◌, ℕ, List, Result, Ok, Err, inr, sym, ap, subst}
use Rattle.std.specs.Prelude.{IfOk}
use Rattle.csn_desc.specs.declared.reading.Reading.{Reading}
use Rattle.csn_desc.specs.Nodes.{DescV}
use Rattle.csn_grammar.specs.RulesV.{RulesV}
use Rattle.csn_grammar.specs.declared.fault.GrammarFault.TheVariants.{Syntax, NoMemory as no_memory_for_rules}
use Rattle.csn_resolve.specs.declared.fault.ResolveFault.TheVariants.{Refused, NoMemory as no_memory_for_nodes}
use Rattle.csn_resolve.specs.declared.why.Why.{Why}
use Rattle.csn_resolve.specs.Resolved.{IsResolved}
use Rattle.csn_certify.specs.declared.certifying.CertifyFault.TheVariants.{Conflict as has_conflict, NoMemory as no_memory_for_plan}
use Rattle.csn_plan.specs.declared.compiling.NoPlan.{NoPlan}
use Rattle.csn_plan.specs.declared.compiling.NoPlan.TheVariants.{Rules, Description, Plan}
use Rattle.csn_plan.specs.declared.ended.Ended.{Ended}
use Rattle.csn_plan.specs.Compiled.{IsReason, Tells, HasNoPlan, no_rules, rules_refused, not_certified}
use Rattle.csn_reasons.specs.Facts.{HasNoNodes}

pub told :
    (text name : List ℕ) (reading : Reading) (reason : NoPlan) (line : List ℕ) (ended : Ended)
    → IsReason text name reading reason → Tells reason line ended → HasNoPlan text name reading line ended
told text name reading (Rules (Syntax place)) line ended is tells = no_rules place is tells.0 tells.1
told text name reading (Rules no_memory_for_rules) line ended is tells = absurd tells
told text name reading (Description (Refused why place)) line ended is tells =
    rules_refused is.0 why place is.1 is.2 tells.0 tells.1
told text name reading (Description no_memory_for_nodes) line ended is tells = absurd tells
told text name reading (Plan (has_conflict conflict)) line ended is tells =
    not_certified is.0 is.1 conflict is.2 is.3 is.4 tells.0 tells.1
told text name reading (Plan no_memory_for_plan) line ended is tells = absurd tells

-- a rule that is refused has no nodes
pub none_refused :
    (text name : List ℕ) (reading : Reading) (why : Why) (place : ℕ)
    → IsReason text name reading (Description (Refused why place)) → HasNoNodes text name reading
none_refused text name reading why place is = inr (is.0, why, place, is.1, is.2)

pub if_ok_more : {A E : Type 0} (answer : Result A E) (P Q : A → Type 0) → ((a : A) → P a → Q a) → IfOk answer P → IfOk answer Q
if_ok_more (Ok a) P Q more h = more a h
if_ok_more (Err e) P Q more h = h

-- a description is resolved in its own reading
pub resolved_own :
    (rules : RulesV) (n : List ℕ) (r : Reading) (d : DescV) → IsResolved rules n r d → IsResolved rules n d.reading d
resolved_own rules n r d h =
    let same : r ≡ d.reading = sym (ap (λ (z : DescV). z.reading) h.is) in
    let P : Reading → Type 0 = λ z. IsResolved rules n z d in subst P same h
