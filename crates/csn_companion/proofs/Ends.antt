-- How a run of the companion is over.
use Rattle.std.proofs.Common.{◌≡◌, ◌≢◌, ℕ, Bool, true, false, ◌≤◌, List, Result, Ok, Err, IfOk, inl, inr, arith, refl, sym, ◌∙◌, ap, subst}
use Rattle.csn_grammar.specs.declared.fault.GrammarFault.TheVariants.{Syntax, NoMemory as no_memory_for_rules}
use Rattle.csn_resolve.specs.declared.fault.ResolveFault.TheVariants.{Refused, NoMemory as no_memory_for_nodes}
use Rattle.csn_certify.specs.declared.certifying.CertifyFault.TheVariants.{Conflict as has_conflict, NoMemory as no_memory_for_plan}
use Rattle.csn_io.specs.Faults.{Rose}
use Rattle.csn_lines.specs.Ends.{end_by, end_of}
use Rattle.csn_lines.specs.declared.fault.Fault.{Fault}
use Rattle.csn_lines.specs.declared.fault.Fault.TheVariants.{Read, Write, Memory, TooLong as long_input}
use Rattle.csn_plan.specs.Compiled.{Tells}
use Rattle.csn_plan.specs.declared.compiling.NoPlan.{NoPlan}
use Rattle.csn_plan.specs.declared.compiling.NoPlan.TheVariants.{Rules, Description, Plan}
use Rattle.csn_plan.specs.declared.ended.Ended.{Ended}
use Rattle.csn_plan.specs.declared.ended.Ended.TheVariants.{Usage, ReadFault, WriteFault, NoMemory}
use Rattle.csn_companion.specs.Outside.{IsFinished, end_with}

-- a run that tells why there is no plan is finished
pub told_is_finished : (reason : NoPlan) (line : List ℕ) (ended : Ended) → Tells reason line ended → IsFinished ended
told_is_finished (Rules (Syntax place)) line ended told = subst (λ e. IsFinished e) (sym told.1) tt
told_is_finished (Rules no_memory_for_rules) line ended told = absurd told
told_is_finished (Description (Refused why place)) line ended told = subst (λ e. IsFinished e) (sym told.1) tt
told_is_finished (Description no_memory_for_nodes) line ended told = absurd told
told_is_finished (Plan (has_conflict conflict)) line ended told = subst (λ e. IsFinished e) (sym told.1) tt
told_is_finished (Plan no_memory_for_plan) line ended told = absurd told

-- a fault is no end of a run that is finished
fault_not_finished : (fault : Fault) → IsFinished (end_by fault) → ⊥
fault_not_finished Read h = h
fault_not_finished Write h = h
fault_not_finished Memory h = h
fault_not_finished long_input h = h

-- the end of a job that is over by a fault
pub read_end : (end : Result Ended Fault) → IfOk end IsFinished → end_with end ≡ ReadFault → end ≡ Err Read
read_end (Ok ended) finished e = absurd (subst (λ x. IsFinished x) e finished)
read_end (Err Read) finished e = refl
read_end (Err Write) finished e = cc
read_end (Err Memory) finished e = cc
read_end (Err long_input) finished e = cc

pub write_end : (end : Result Ended Fault) → IfOk end IsFinished → end_with end ≡ WriteFault → end ≡ Err Write
write_end (Ok ended) finished e = absurd (subst (λ x. IsFinished x) e finished)
write_end (Err Read) finished e = cc
write_end (Err Write) finished e = refl
write_end (Err Memory) finished e = cc
write_end (Err long_input) finished e = cc

pub no_usage : (end : Result Ended Fault) → IfOk end IsFinished → end_with end ≡ Usage → ⊥
no_usage (Ok ended) finished e = subst (λ x. IsFinished x) e finished
no_usage (Err Read) finished e = cc
no_usage (Err Write) finished e = cc
no_usage (Err Memory) finished e = cc
no_usage (Err long_input) finished e = cc

-- what a job that met a fault comes to is not finished
pub stopped : (result : Ended) (end : Result Ended Fault) (fault : Fault)
    → (result ≢ WriteFault → result ≢ NoMemory → result ≡ end_with end) → end ≡ Err fault → IsFinished result → ⊥
stopped result end fault is met finished =
    let no_write : result ≢ WriteFault = λ e. subst (λ x. IsFinished x) e finished in
    let no_memory : result ≢ NoMemory = λ e. subst (λ x. IsFinished x) e finished in
    let by : result ≡ end_by fault = is no_write no_memory ∙ ap (λ x. end_with x) met in
    fault_not_finished fault (subst (λ x. IsFinished x) by finished)

-- a run whose sink failed is not finished
pub not_written : (result : Ended) → result ≡ WriteFault → IsFinished result → ⊥
not_written result e finished = subst (λ x. IsFinished x) e finished

-- a count that rose, and then did not fall; and the other way round
pub rose_then : {before between after : ℕ} → Rose before between → between ≤ after → Rose before after
rose_then (inl h) more = inl (omega arith)
rose_then (inr h) more = inr (omega arith)

pub then_rose : {before between after : ℕ} → before ≤ between → Rose between after → Rose before after
then_rose less (inl h) = inl (omega arith)
then_rose less (inr h) = inr h

-- a job that answered all lines is finished
pub end_of_finished : (refused : Bool) (ended : Ended) → ended ≡ end_of refused → IsFinished ended
end_of_finished true ended is = subst (λ e. IsFinished e) (sym is) tt
end_of_finished false ended is = subst (λ e. IsFinished e) (sym is) tt
