-- Which faults of the source and the sink a job over lines tells.
use Rattle.std.proofs.Common.{◌≡◌, ℕ, Result, Ok, Err, true≢false, refl, ◌∙◌, ap}
use Rattle.std.specs.Result.{is_ok}
use Rattle.csn_io.specs.Faults.{Keeps, Rose}
use Rattle.csn_plan.specs.declared.ended.Ended.{Ended}
use Rattle.csn_lines.specs.declared.fault.Fault.{Fault}
use Rattle.csn_lines.specs.declared.fault.Fault.TheVariants.{Read, Write}
use Rattle.csn_lines.specs.Ends.{BlamesStreams}
use Rattle.csn_lines.proofs.OutsideLemmas.{keeps_along}

-- what was done met no fault
pub ok_not_err : {T E : Type 0} {x : T} {y : E} → ◌≡◌ {A = Result T E} (Ok x) (Err y) → ⊥
ok_not_err is = true≢false (ap is_ok is)

-- of lines that were all answered nothing is to blame
pub blames_none :
    {T : Type 0} {x : T} {ended : Ended} {steady steady' sink_steady sink_steady' : Type 0} {faults faults' sink_faults sink_faults' : ℕ}
    → Keeps steady steady' faults faults' (◌≡◌ {A = Result T Fault} (Ok x) (Err Read))
    → Keeps sink_steady sink_steady' sink_faults sink_faults' (◌≡◌ {A = Result T Fault} (Ok x) (Err Write))
    → BlamesStreams (Ok ended) steady steady' faults faults' sink_steady sink_steady' sink_faults sink_faults'
blames_none input out = record {
  read = λ e. absurd (ok_not_err e);
  write = λ e. absurd (ok_not_err e);
  input = keeps_along (λ e. absurd (ok_not_err e)) input;
  out = keeps_along (λ e. absurd (ok_not_err e)) out;
}

-- one fault in two results
one_fault : {T U : Type 0} {end : Result T Fault} {met fault : Fault} → end ≡ Err met → end ≡ Err fault → ◌≡◌ {A = Result U Fault} (Err met) (Err fault)
one_fault {met = met} {fault = fault} is e = let same : met ≡ fault = cc in ap Err same

-- a job that is over by the fault that its lines met
pub blames_same :
    {T : Type 0} {met : Fault} {end : Result Ended Fault} {steady steady' sink_steady sink_steady' : Type 0} {faults faults' sink_faults sink_faults' : ℕ}
    → end ≡ Err met → (◌≡◌ {A = Result T Fault} (Err met) (Err Read) → Rose faults faults')
    → (◌≡◌ {A = Result T Fault} (Err met) (Err Write) → Rose sink_faults sink_faults')
    → Keeps steady steady' faults faults' (◌≡◌ {A = Result T Fault} (Err met) (Err Read))
    → Keeps sink_steady sink_steady' sink_faults sink_faults' (◌≡◌ {A = Result T Fault} (Err met) (Err Write))
    → BlamesStreams end steady steady' faults faults' sink_steady sink_steady' sink_faults sink_faults'
blames_same is read write input out = record {
  read = λ e. read (one_fault is e);
  write = λ e. write (one_fault is e);
  input = keeps_along (λ e. is ∙ one_fault refl e) input;
  out = keeps_along (λ e. is ∙ one_fault refl e) out;
}
