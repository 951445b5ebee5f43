-- The steps of the walk through rules that looks for refusals: the nodes that it begins and the refusals
-- that it meets, in their order.
use Rattle.std.specs.Prelude.{ℕ, suc, ⊤, Bool, ◌==◌, if◌then◌else◌, List, [], ◌∷◌, ◌++◌}
use Rattle.csn_resolve.specs.declared.why.Why.{Why}
use Rattle.csn_resolve.specs.declared.why.Why.TheVariants.{TooManyNodes}
use Rattle.csn_resolve.specs.Why.{Refusal}

-- a node is begun, or a refusal is met, at a byte of the text
pub data Step : Type 0 where
  begins : ℕ → Step
  refused : Why → ℕ → Step

-- one refusal, where a fact holds that is refused
abbrev pub refused_if : Bool → Why → ℕ → List Step
refused_if is_so why place = if is_so then refused why place ∷ [] else []

-- the refusals among steps, where `begun` nodes were begun before: those that the walk meets, and each
-- time that a 16,385th node is begun
abbrev pub refusals_after : ℕ → List Step → List Refusal
refusals_after begun [] = []
refusals_after begun (refused why place ∷ steps) =
    record { why = why; place = place } ∷ refusals_after begun steps
refusals_after begun (begins place ∷ steps) =
    (if begun == 16384 then record { why = TooManyNodes; place = place } ∷ [] else []) ++ refusals_after (suc begun) steps

-- no step is a refusal
abbrev pub Quiet : List Step → Type 0
Quiet [] = ⊤
Quiet (begins place ∷ steps) = Quiet steps
Quiet (refused why place ∷ steps) = ⊥
