-- Rules that are marked as passing a test. `MarksV` and `Passes` are what the users of marks see; the others are
-- words of the private functions that mark.
use Rattle.std.specs.Prelude.{◌≡◌, ℕ, suc, Bool, true, false, List, [], ◌∷◌, length, slice_get, Option, Some, None}
use Rattle.csn_desc.specs.declared.reading.Reading.{Reading}
use Rattle.csn_desc.specs.declared.reading.Reading.TheVariants.{Sent}
use Rattle.csn_grammar.specs.declared.rules.Rule.{Rule}
use Rattle.csn_grammar.specs.ExprV.{ExprV}
use Rattle.csn_grammar.specs.RulesV.{RulesV}
use Rattle.csn_grammar.specs.Void as grammar
use Rattle.csn_resolve.specs.Counts as counts
use Rattle.csn_resolve.specs.declared.marks.Test.{Test}
use Rattle.csn_resolve.specs.declared.marks.Test.TheVariants.{Void, Narrow}
use Rattle.csn_resolve.specs.Tests.{is_void, is_narrow}
use Rattle.csn_resolve.specs.Numbers.{number_in}

-- the rules, and the test that is asked of them
pub record MarksV : Type 0 where
  pub rules : RulesV
  pub test : Test

-- an expression passes a test
abbrev pub Passes : RulesV → Test → ExprV → Type 0
Passes rules (Void r) x = grammar.Void rules r x
Passes rules (Narrow r) x = counts.Narrow rules r x

-- an expression passes a test, where these names do
abbrev pub passes : Test → (List ℕ → Bool) → ExprV → Bool
passes (Void r) h x = is_void r h x
passes (Narrow r) h x = is_narrow r h x

abbrev pub is_set : Option Bool → Bool
is_set None = false
is_set (Some b) = b

abbrev pub mark_at : List Bool → Option ℕ → Bool
mark_at marks None = false
mark_at marks (Some k) = is_set (slice_get marks k)

-- is the rule of a name marked?
abbrev pub marked : RulesV → List Bool → List ℕ → Bool
marked rules marks n = mark_at marks (number_in rules n)

-- the rules that are marked pass
abbrev pub AreSound : RulesV → Test → List Bool → Type 0
AreSound rules test marks =
    (k : ℕ) (rule : Rule) → slice_get rules k ≡ Some rule → slice_get marks k ≡ Some true → Passes rules test rule.body

-- the rule with the number k is marked if it passes where the marked ones do
abbrev pub IsClosedAt : RulesV → Test → List Bool → ℕ → Type 0
IsClosedAt rules test marks k =
    (rule : Rule) → slice_get rules k ≡ Some rule → passes test (marked rules marks) rule.body ≡ true → slice_get marks k ≡ Some true

-- each rule that passes where the marked ones do is marked
abbrev pub AreClosed : RulesV → Test → List Bool → Type 0
AreClosed rules test marks = (k : ℕ) → IsClosedAt rules test marks k

-- the marked rules are those that pass
pub record AreLeast (rules : RulesV) (test : Test) (marks : List Bool) : Type 0 where
  pub long : length marks ≡ length rules
  pub sound : AreSound rules test marks
  pub closed : AreClosed rules test marks

-- how many are not marked
abbrev pub unmarked : List Bool → ℕ
unmarked [] = 0
unmarked (true ∷ marks) = unmarked marks
unmarked (false ∷ marks) = suc (unmarked marks)

-- the marks that a walk in a reading asks
pub record AreTables (rules : RulesV) (r : Reading) (void void_sent narrow : MarksV) : Type 0 where
  pub void_is : void ≡ record { rules = rules; test = Void r }
  pub sent_is : void_sent ≡ record { rules = rules; test = Void Sent }
  pub narrow_is : narrow ≡ record { rules = rules; test = Narrow r }
