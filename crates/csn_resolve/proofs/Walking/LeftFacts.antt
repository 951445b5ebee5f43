-- The steps of an exponent whose label is that of a field, and those on leaving what a rule in tail form repeats.
use Rattle.std.proofs.Common.{◌≡◌, ℕ, List, [], ◌∷◌, Result, Some, None, sym, subst}
use Rattle.csn_desc.specs.declared.reading.Reading.{Reading}
use Rattle.csn_grammar.specs.declared.exponent.Exponent.{Exponent}
use Rattle.csn_grammar.specs.declared.exponent.Exponent.TheVariants.{Any, Number, Linear}
use Rattle.csn_grammar.specs.ExprV.{ExprV}
use Rattle.csn_grammar.specs.RulesV.{RulesV}
use Rattle.csn_resolve.specs.declared.fault.ResolveFault.{ResolveFault}
use Rattle.csn_resolve.specs.declared.why.Why.{Why}
use Rattle.csn_resolve.specs.Seen.{Seen, seen_of}
use Rattle.csn_resolve.specs.Steps.{Step, refused}
use Rattle.csn_resolve.specs.Counts.{Narrow, CountSteps, size_steps, count_unknown, count_wide, count_narrow}
use Rattle.csn_resolve.specs.Walk.{Refuses, is_refused, is_accepted}
use Rattle.csn_resolve.specs.Going.{Checks}

clash : (seen : Seen ExprV) {label other : List ℕ} {x : ExprV} → label ≡ other → seen_of seen other ≡ Some x → seen_of seen label ≡ None → ⊥
clash seen p q none = cc

same : (seen : Seen ExprV) {label other : List ℕ} {x y : ExprV} → label ≡ other → seen_of seen other ≡ Some x → seen_of seen label ≡ Some y → x ≡ y
same seen p q at = cc

module _ (rules : RulesV) (r : Reading) where
  pub narrow-steps :
      {seen : Seen ExprV} {place : ℕ} (k : Exponent) (m : ℕ) (label : List ℕ) (c : ℕ) (x : ExprV) {steps : List Step}
      → k ≡ Linear m label c → seen_of seen label ≡ Some x → Narrow rules r x → CountSteps rules r seen place k steps
      → steps ≡ size_steps k place
  narrow-steps Any m label c x is at narrow h = elim h [ ]
  narrow-steps (Number n) m label c x is at narrow h = absurd (cc)
  narrow-steps {seen} (Linear n other d) m label c x is at narrow (count_unknown none p) =
      let labels : other ≡ label = cc in absurd (clash seen labels at none)
  narrow-steps {seen} (Linear n other d) m label c x is at narrow (count_wide y found wide p) =
      let labels : other ≡ label = cc in
      let Q : ExprV → Type 0 = λ z. Narrow rules r z in absurd (wide (subst Q (same seen labels at found) narrow))
  narrow-steps (Linear n other d) m label c x is at narrow (count_narrow y found narrow' p) = p

-- ---- what is refused, and what is not

pub refuses-where : {P : Type 0} {why : Why} {place : ℕ} {steps : List Step} → P → Refuses P why place steps → steps ≡ refused why place ∷ []
refuses-where h (is_refused g p) = p
refuses-where h (is_accepted none p) = absurd (none h)

pub refuses-not : {P : Type 0} {why : Why} {place : ℕ} {steps : List Step} → ¬ P → Refuses P why place steps → steps ≡ []
refuses-not none (is_refused h p) = absurd (none h)
refuses-not none (is_accepted other p) = p

pub checks-same : (steps others : List Step) (answer : Result (Unit {0}) ResolveFault) → steps ≡ others → Checks others answer → Checks steps answer
checks-same steps others answer p h = let Q : List Step → Type 0 = λ z. Checks z answer in subst Q (sym p) h
