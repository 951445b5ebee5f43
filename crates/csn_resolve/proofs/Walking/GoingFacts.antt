-- Facts about how far a walk comes over steps.
use Rattle.std.proofs.Common.{◌≡◌, ℕ, suc, Bool, true, false, ◌==◌, List, [], ◌∷◌, ◌++◌, Result, Ok, Err, refl, sym, ◌∙◌, ap, subst}
use Rattle.std.proofs.lemmas.Result.{err_from_is_err_and}
use Rattle.std.specs.Prelude.{if◌then◌else◌, IsErrAnd}
use Rattle.csn_resolve.specs.declared.why.Why.{Why}
use Rattle.csn_resolve.specs.declared.why.Why.TheVariants.{TooManyNodes}
use Rattle.csn_resolve.specs.declared.fault.ResolveFault.{ResolveFault}
use Rattle.csn_resolve.specs.declared.fault.ResolveFault.TheVariants.{Refused, NoMemory}
use Rattle.csn_resolve.specs.declared.begun.Begun.{Begun}
use Rattle.csn_resolve.specs.Why.{Refusal}
use Rattle.csn_resolve.specs.Steps.{Step, begins, refused, refusals_after}
use Rattle.csn_resolve.specs.Going.{Way, gone, stopped, way, on_way, Stops, Goes}

pub way-append : (begun : ℕ) (xs ys : List Step) → way begun (xs ++ ys) ≡ on_way (way begun xs) ys
way-append begun [] ys = refl
way-append begun (refused why place ∷ xs) ys = refl
way-append begun (begins place ∷ xs) ys = by (begun == 16384) (way-append (suc begun) xs ys)
  where
    by :
        (full : Bool) → way (suc begun) (xs ++ ys) ≡ on_way (way (suc begun) xs) ys
        → (if full then stopped TooManyNodes place else way (suc begun) (xs ++ ys))
        ≡ on_way (if full then stopped TooManyNodes place else way (suc begun) xs) ys
    by true p = refl
    by false p = p

pub stops-first :
    (begun : ℕ) (xs ys : List Step) (fault : ResolveFault)
    → Stops (way begun xs) fault → Stops (way begun (xs ++ ys)) fault
stops-first begun xs ys (Refused why place) h = way-append begun xs ys ∙ ap (λ w. on_way w ys) h
stops-first begun xs ys NoMemory h = tt

pub stops-later :
    (begun after : ℕ) (xs ys : List Step) (fault : ResolveFault)
    → way begun xs ≡ gone after → Stops (way after ys) fault → Stops (way begun (xs ++ ys)) fault
stops-later begun after xs ys (Refused why place) p h = way-append begun xs ys ∙ (ap (λ w. on_way w ys) p ∙ h)
stops-later begun after xs ys NoMemory p h = tt

pub way-on : (begun after : ℕ) (xs ys : List Step) → way begun xs ≡ gone after → way begun (xs ++ ys) ≡ way after ys
way-on begun after xs ys p = way-append begun xs ys ∙ ap (λ w. on_way w ys) p

-- after the first steps, the answer over the others is the answer over all
pub goes-on :
    (begun after : ℕ) (xs ys : List Step) (answer : Result Begun ResolveFault)
    → way begun xs ≡ gone after → Goes after ys answer → Goes begun (xs ++ ys) answer
goes-on begun after xs ys (Ok b) p h = way-on begun after xs ys p ∙ h
goes-on begun after xs ys (Err fault) p h = stops-later begun after xs ys fault p h

-- ---- the same, where the steps are known to be the first ones and others

pub stops-same : {w v : Way} (fault : ResolveFault) → w ≡ v → Stops v fault → Stops w fault
stops-same fault p h = let Q : Way → Type 0 = λ z. Stops z fault in subst Q (sym p) h

-- what the exit of a `?` returns
pub exit-stops :
    (begun : ℕ) (steps : List Step) (fault : ResolveFault) (answer : Result Begun ResolveFault)
    → IsErrAnd answer (λ e. e ≡ fault) → Stops (way begun steps) fault → Goes begun steps answer
exit-stops begun steps fault answer same h = let p = err_from_is_err_and answer same in rw (p.1, p.2) h

pub stops-in :
    (begun : ℕ) (first rest steps : List Step) (fault : ResolveFault)
    → steps ≡ first ++ rest → Stops (way begun first) fault → Stops (way begun steps) fault
stops-in begun first rest steps fault is h = stops-same fault (ap (way begun) is) (stops-first begun first rest fault h)

pub goes-same : (begun : ℕ) (steps others : List Step) (answer : Result Begun ResolveFault)
    → steps ≡ others → Goes begun others answer → Goes begun steps answer
goes-same begun steps others answer p h = let Q : List Step → Type 0 = λ z. Goes begun z answer in subst Q (sym p) h

pub goes-after :
    (begun after : ℕ) (first rest steps : List Step) (answer : Result Begun ResolveFault)
    → steps ≡ first ++ rest → way begun first ≡ gone after → Goes after rest answer → Goes begun steps answer
goes-after begun after first rest steps answer is p h = goes-same begun steps (first ++ rest) answer is (goes-on begun after first rest answer p h)

pub stops-second :
    (begun after : ℕ) (first second rest steps : List Step) (fault : ResolveFault)
    → steps ≡ first ++ (second ++ rest) → way begun first ≡ gone after → Stops (way after second) fault → Stops (way begun steps) fault
stops-second begun after first second rest steps fault is p h =
    stops-same fault (ap (way begun) is) (stops-later begun after first (second ++ rest) fault p (stops-first after second rest fault h))

pub stops-third :
    (begun after next : ℕ) (first second third steps : List Step) (fault : ResolveFault)
    → steps ≡ first ++ (second ++ third) → way begun first ≡ gone after → way after second ≡ gone next
    → Stops (way next third) fault → Stops (way begun steps) fault
stops-third begun after next first second third steps fault is p q h =
    stops-same fault (ap (way begun) is) (stops-later begun after first (second ++ third) fault p (stops-later after next second third fault q h))

pub goes-third :
    (begun after next : ℕ) (first second third steps : List Step) (answer : Result Begun ResolveFault)
    → steps ≡ first ++ (second ++ third) → way begun first ≡ gone after → way after second ≡ gone next
    → Goes next third answer → Goes begun steps answer
goes-third begun after next first second third steps answer is p q h =
    goes-after begun after first (second ++ third) steps answer is p (goes-on after next second third answer q h)

pub way-third :
    (begun after next : ℕ) (first second third steps : List Step)
    → steps ≡ first ++ (second ++ third) → way begun first ≡ gone after → way after second ≡ gone next
    → way begun steps ≡ way next third
way-third begun after next first second third steps is p q =
    ap (way begun) is ∙ (way-on begun after first (second ++ third) p ∙ way-on after next second third q)

pub refused-after :
    (begun after : ℕ) (first rest steps : List Step) (why : Why) (place : ℕ)
    → steps ≡ first ++ refused why place ∷ rest → way begun first ≡ gone after → way begun steps ≡ stopped why place
refused-after begun after first rest steps why place is p = ap (way begun) is ∙ way-on begun after first (refused why place ∷ rest) p

-- ---- the way and the list of refusals

-- where a way is gone, nothing is refused
pub none-refused : (begun after : ℕ) (steps : List Step) → way begun steps ≡ gone after → refusals_after begun steps ≡ []
none-refused begun after [] p = refl
none-refused begun after (refused why place ∷ steps) p = cc
none-refused begun after (begins place ∷ steps) p = by (begun == 16384) p (λ q. none-refused (suc begun) after steps q)
  where
    by :
        (full : Bool) → (if full then stopped TooManyNodes place else way (suc begun) steps) ≡ gone after
        → (way (suc begun) steps ≡ gone after → refusals_after (suc begun) steps ≡ [])
        → (if full then record { why = TooManyNodes; place = place } ∷ [] else []) ++ refusals_after (suc begun) steps ≡ []
    by true q later = cc
    by false q later = later q

-- where a way is stopped, its refusal is the first
pub first-refused :
    (begun : ℕ) (steps : List Step) (why : Why) (place : ℕ) → way begun steps ≡ stopped why place
    → (others : List Refusal) × (refusals_after begun steps ≡ record { why = why; place = place } ∷ others)
first-refused begun [] why place p = cc
first-refused begun (refused other at ∷ steps) why place p =
    let same : other ≡ why = cc in let here : at ≡ place = cc in (refusals_after begun steps, cc)
first-refused begun (begins at ∷ steps) why place p = by (begun == 16384) p (λ q. first-refused (suc begun) steps why place q)
  where
    by :
        (full : Bool) → (if full then stopped TooManyNodes at else way (suc begun) steps) ≡ stopped why place
        → (way (suc begun) steps ≡ stopped why place → (others : List Refusal)
        × (refusals_after (suc begun) steps ≡ record { why = why; place = place } ∷ others))
        → (others : List Refusal)
        × ((if full then record { why = TooManyNodes; place = at } ∷ [] else []) ++ refusals_after (suc begun)
        steps ≡ record { why = why; place = place } ∷ others)
    by true q later =
        let same : TooManyNodes ≡ why = cc in let here : at ≡ place = cc in (refusals_after (suc begun) steps, cc)
    by false q later = later q
