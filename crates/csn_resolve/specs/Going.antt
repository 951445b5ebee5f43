-- How far a walk comes over steps, where so many nodes were begun before: up to the first refusal. `Names::list`
-- says by `way` and `Stops` which rule it refuses; the others are words of the private functions that walk.
use Rattle.std.specs.Prelude.{◌≡◌, ℕ, suc, Bool, ◌==◌, if◌then◌else◌, is_some, List, [], ◌∷◌, Result, Ok, MatchResult}
use Rattle.csn_desc.specs.declared.reading.Reading.{Reading}
use Rattle.csn_grammar.specs.declared.exponent.Exponent.{Exponent}
use Rattle.csn_grammar.specs.declared.exponent.Exponent.TheVariants.{Any}
use Rattle.csn_grammar.specs.ExprV.{ExprV}
use Rattle.csn_grammar.specs.RulesV.{RulesV}
use Rattle.csn_grammar.specs.Forms.{unit_of, is_bit}
use Rattle.csn_resolve.specs.Seen.{Seen}
use Rattle.csn_resolve.specs.Counts.{CountSteps}
use Rattle.csn_resolve.specs.Resolved.{AreRefusals}
use Rattle.csn_resolve.specs.declared.why.Why.{Why}
use Rattle.csn_resolve.specs.declared.why.Why.TheVariants.{TooManyNodes}
use Rattle.csn_resolve.specs.declared.fault.ResolveFault.{ResolveFault}
use Rattle.csn_resolve.specs.declared.fault.ResolveFault.TheVariants.{Refused, NoMemory}
use Rattle.csn_resolve.specs.declared.begun.Begun.{Begun}
use Rattle.csn_resolve.specs.Why.{Refusal}
use Rattle.csn_resolve.specs.Steps.{Step, begins, refused}

-- past all steps, with so many nodes begun, or up to a refusal
pub data Way : Type 0 where
  gone : ℕ → Way
  stopped : Why → ℕ → Way

abbrev pub way : ℕ → List Step → Way
way begun [] = gone begun
way begun (refused why place ∷ steps) = stopped why place
way begun (begins place ∷ steps) = if begun == 16384 then stopped TooManyNodes place else way (suc begun) steps

-- a way, and then these steps
abbrev pub on_way : Way → List Step → Way
on_way (gone begun) steps = way begun steps
on_way (stopped why place) steps = stopped why place

-- a way stops with this fault; want of memory says nothing
abbrev pub Stops : Way → ResolveFault → Type 0
Stops end (Refused why place) = end ≡ stopped why place
Stops end NoMemory = Unit {0}

-- a call went over the steps: its answer is the number of nodes begun, or the first refusal
abbrev pub Goes : ℕ → List Step → Result Begun ResolveFault → Type 0
Goes begun steps answer = MatchResult answer (λ after. way begun steps ≡ gone after.nodes) (λ fault. Stops (way begun steps) fault)

-- a call went over steps that begin no nodes
abbrev pub Checks : List Step → Result (Unit {0}) ResolveFault → Type 0
Checks steps answer =
    MatchResult answer (λ _. (begun : ℕ) → way begun steps ≡ gone begun) (λ fault. (begun : ℕ) → Stops (way begun steps) fault)

-- a fault is the first of the refusals of a named rule, or want of memory
abbrev pub IsFirst : RulesV → List ℕ → Reading → ResolveFault → Type 0
IsFirst rules n r (Refused why place) = (others : List Refusal) × AreRefusals rules n r (record { why = why; place = place } ∷ others)
IsFirst rules n r NoMemory = Unit {0}

-- a call went over the steps of a number exponent, and answers whether its part is a field
abbrev pub NumberGoes : RulesV → Reading → Seen ExprV → ℕ → ExprV → Exponent → Result Bool ResolveFault → Type 0
NumberGoes rules r seen place x k answer =
    (steps : List Step) → CountSteps rules r seen place k steps
    → MatchResult answer (λ leaf. (leaf ≡ is_some (unit_of x)) × ((begun : ℕ) → way begun steps ≡ gone begun))
    (λ fault. (begun : ℕ) → Stops (way begun steps) fault)

-- a call went over the steps of an exponent, and answers whether its part has nothing more to walk
abbrev pub LeafGoes : RulesV → Reading → Seen ExprV → ℕ → ExprV → Exponent → Result Bool ResolveFault → Type 0
LeafGoes rules r seen place x Any answer = answer ≡ Ok (is_bit x)
LeafGoes rules r seen place x k answer = NumberGoes rules r seen place x k answer
