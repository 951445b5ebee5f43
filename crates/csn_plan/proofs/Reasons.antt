-- Why rules give no description.
use Rattle.std.proofs.Common.{◌≡◌, ℕ, List, Result, Err, refl}
use Rattle.csn_desc.specs.declared.reading.Reading.{Reading}
use Rattle.csn_grammar.specs.RulesV.{RulesV}
use Rattle.csn_grammar.specs.Place.{HasRules}
use Rattle.csn_resolve.specs.declared.fault.ResolveFault.{ResolveFault}
use Rattle.csn_resolve.specs.declared.fault.ResolveFault.TheVariants.{Refused, NoMemory as no_memory_for_nodes}
use Rattle.csn_resolve.specs.declared.why.Why.{Why}
use Rattle.csn_resolve.specs.Resolved.{IsRefused}
use Rattle.csn_plan.specs.declared.compiling.NoPlan.TheVariants.{Description}
use Rattle.csn_plan.specs.Compiled.{IsReason}

-- why rules that are refused give no plan
pub resolved_reason :
    {T : Type 0} (text name : List ℕ) (reading : Reading) (rules : RulesV) (fault : ResolveFault) → HasRules text rules
    → ((why : Why) (place : ℕ) → ◌≡◌ {A = Result T ResolveFault} (Err fault) (Err (Refused why place)) → IsRefused rules name reading why place)
    → IsReason text name reading (Description fault)
resolved_reason text name reading rules (Refused why place) has is = (rules, has, is why place refl)
resolved_reason text name reading rules no_memory_for_nodes has is = tt
