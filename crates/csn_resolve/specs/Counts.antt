-- The refusals of a number exponent: the label that it stands on, and its numbers. Which labelled items may
-- be counted on, and how large the numbers may be, is this project's own choice.
use Rattle.std.specs.Prelude.{◌≡◌, ℕ, ◌*◌, ◌≤◌, Bool, false, ◌==◌, nat_lt, ◌||◌, List, ◌∷◌, ◌++◌, Some, None}
use Rattle.csn_desc.specs.declared.reading.Reading.{Reading}
use Rattle.csn_desc.specs.declared.reading.Reading.TheVariants.{Received, Sent}
use Rattle.csn_grammar.specs.declared.exponent.Exponent.{Exponent}
use Rattle.csn_grammar.specs.declared.exponent.Exponent.TheVariants.{Any, Number, Linear}
use Rattle.csn_grammar.specs.declared.rules.Rule.{Rule}
use Rattle.csn_grammar.specs.ExprV.{ExprV, expr, name, group, sends}
use Rattle.csn_grammar.specs.RulesV.{RulesV}
use Rattle.csn_grammar.specs.Names.{rule_of}
use Rattle.csn_grammar.specs.Forms.{WidthV, width_of}
use Rattle.csn_resolve.specs.declared.why.Why.TheVariants.{ValUnknown, ValWidth, ZeroCount, CountTooLarge}
use Rattle.csn_resolve.specs.Seen.{Seen, seen_of}
use Rattle.csn_resolve.specs.Steps.{Step, refused, refused_if}

-- is the constant, or the multiplier, 0?
abbrev pub is_zero : Exponent → Bool
is_zero Any = false
is_zero (Number n) = n == 0
is_zero (Linear m label c) = m == 0

-- is the constant more than 65,536, the multiplier more than 255, or the summand more than 65,535?
abbrev pub is_too_large : Exponent → Bool
is_too_large Any = false
is_too_large (Number n) = nat_lt 65536 n
is_too_large (Linear m label c) = nat_lt 255 m || nat_lt 65535 c

-- what is refused of the numbers of an exponent, where its part begins at `place`
abbrev pub size_steps : Exponent → ℕ → List Step
size_steps k place =
    refused_if (is_zero k) ZeroCount place ++ refused_if (is_too_large k) CountTooLarge place

module _ (rules : RulesV) (r : Reading) where
  -- what stands behind a label is a field of constant width, of 1 to 16 bits; names, braces and the side of
  -- `=` that is not taken are put aside
  pub data Narrow : ExprV → Type 0 where
    narrow_field :
        {x : ExprV} (w : WidthV) (n : ℕ)
        → width_of x ≡ Some w → w.count ≡ Number n → 1 ≤ w.unit * n → w.unit * n ≤ 16 → Narrow x
    narrow_name :
        {s e : ℕ} {n : List ℕ} (rule : Rule)
        → rule_of rules n ≡ Some rule → Narrow rule.body → Narrow (expr s e (name n))
    narrow_group : {s e : ℕ} {x : ExprV} → Narrow x → Narrow (expr s e (group x))
    narrow_received : {s e : ℕ} {x y : ExprV} → r ≡ Received → Narrow x → Narrow (expr s e (sends x y))
    narrow_sent : {s e : ℕ} {x y : ExprV} → r ≡ Sent → Narrow y → Narrow (expr s e (sends x y))

  -- the refusals of a number exponent, where the part that has it begins at `place` and sees the labelled
  -- items `seen`, each with what stands behind its label
  pub data CountSteps : Seen ExprV → ℕ → Exponent → List Step → Type 0 where
    count_number :
        {seen : Seen ExprV} {place n : ℕ} {steps : List Step}
        → steps ≡ size_steps (Number n) place → CountSteps seen place (Number n) steps
    -- no item that is seen has the label
    count_unknown :
        {seen : Seen ExprV} {place m c : ℕ} {label : List ℕ} {steps : List Step}
        → seen_of seen label ≡ None
        → steps ≡ refused ValUnknown place ∷ size_steps (Linear m label c) place
        → CountSteps seen place (Linear m label c) steps
    count_wide :
        {seen : Seen ExprV} {place m c : ℕ} {label : List ℕ} {steps : List Step} (x : ExprV)
        → seen_of seen label ≡ Some x → ¬ Narrow x
        → steps ≡ refused ValWidth place ∷ size_steps (Linear m label c) place
        → CountSteps seen place (Linear m label c) steps
    count_narrow :
        {seen : Seen ExprV} {place m c : ℕ} {label : List ℕ} {steps : List Step} (x : ExprV)
        → seen_of seen label ≡ Some x → Narrow x → steps ≡ size_steps (Linear m label c) place
        → CountSteps seen place (Linear m label c) steps
