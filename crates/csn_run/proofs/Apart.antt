-- Ends and faults that are not the same.
use Rattle.std.proofs.Common.{◌≡◌, ℕ, Result, Ok, Err, T, not, eqb, T_not, sym, ◌∙◌, ap, subst}
use Rattle.csn_plan.specs.declared.ended.Ended.{Ended}
use Rattle.csn_plan.specs.declared.ended.Ended.TheVariants.{Done, Usage, WriteFault, NoMemory}
use Rattle.csn_lines.specs.declared.fault.Fault.{Fault}
use Rattle.csn_lines.specs.declared.fault.Fault.TheVariants.{Memory}
use Rattle.csn_plan.specs.Ended.{status_of}
use Rattle.csn_lines.specs.Ends.{end_by}
use lib.Dec.{eqb_refl}

-- numbers that a test tells apart are not the same
apart : (a b : ℕ) → T (not (eqb a b)) → a ≡ b → ⊥
apart a b other same = T_not (eqb a b) other (subst (λ (k : ℕ). T (eqb a k)) same (eqb_refl a))

-- an end that has another exit status than this one
abbrev pub EndsOtherwise : Ended → Ended → Type 0
EndsOtherwise ended end = T (not (eqb (status_of ended) (status_of end)))

other_end : {ended end : Ended} → ended ≡ end → EndsOtherwise ended end → ⊥
other_end {ended} {end} is other = apart (status_of ended) (status_of end) other (ap status_of is)

pub ends_written : (ended end : Ended) → ended ≡ end → EndsOtherwise WriteFault end → ended ≡ WriteFault → ⊥
ends_written ended end is other write = other_end (sym write ∙ is) other

pub ends_provided : (ended end : Ended) → ended ≡ end → EndsOtherwise NoMemory end → ended ≡ NoMemory → ⊥
ends_provided ended end is other want = other_end (sym want ∙ is) other

pub usage_alone : {end : Ended} → Usage ≡ end → EndsOtherwise Usage end → ⊥
usage_alone is other = other_end is other

pub want_alone : {end : Ended} → NoMemory ≡ end → EndsOtherwise NoMemory end → ⊥
want_alone is other = other_end is other

-- the exit status of a run that is over with what was met
abbrev pub status_with : {A : Type 0} → Result A Fault → ℕ
status_with (Ok x) = status_of Done
status_with (Err fault) = status_of (end_by fault)

-- another exit status than by this fault
abbrev pub MetOtherwise : {A : Type 0} → Fault → Result A Fault → Type 0
MetOtherwise fault met = T (not (eqb (status_of (end_by fault)) (status_with met)))

pub other_met : {A : Type 0} {fault : Fault} {met : Result A Fault} → Err fault ≡ met → MetOtherwise fault met → ⊥
other_met {fault = fault} {met} is other = apart (status_of (end_by fault)) (status_with met) other (ap status_with is)

pub memory_alone : {A : Type 0} {end : Result A Fault} → Err Memory ≡ end → MetOtherwise Memory end → ⊥
memory_alone is other = other_met is other

-- one fault was met
abbrev fault_or : {T : Type 0} → Fault → Result T Fault → Fault
fault_or fault (Ok x) = fault
fault_or fault (Err met) = met

pub the_fault : {T : Type 0} {fault other : Fault} → ◌≡◌ {A = Result T Fault} (Err fault) (Err other) → fault ≡ other
the_fault {fault = fault} is = ap (fault_or fault) is
