-- What a sink takes of a text, piece by piece.
use Rattle.std.proofs.Common.{◌≡◌, ◌≢◌, ◌⊎◌, inl, inr, ℕ, ◌+◌, ◌-◌, ◌≤◌, List, ◌++◌, length, take, drop, Option, refl, sym, ◌∙◌, ap, subst, arith, length-drop}
use Rattle.std.proofs.lemmas.List.{length-take, take-append-drop, take_all, drop_all}
use Rattle.std.proofs.Math.Seq.{take-append-add}
use Rattle.csn_io.specs.Put.{Appended}
use Rattle.csn_io.proofs.Told.{appended_more}
use Rattle.csn_io.specs.Faults.{Keeps, Rose}
use Rattle.csn_replay.specs.declared.told.Told.{Told}
use Rattle.csn_io.specs.declared.sink.Put.TheVariants as put
use Rattle.csn_replay.specs.declared.told.Told.TheVariants.{Ok, WriteFault, NoMemory}
use Rattle.csn_replay.specs.Told.{Wrote}

-- a slice from p on is what is left behind p
pub slice_from : (p : ℕ) (xs : List ℕ) → take (length xs - p) (drop p xs) ≡ drop p xs
slice_from p xs = take_all (length xs - p) (drop p xs) (omega (arith, length-drop p xs))

-- p bytes, and then n of those behind them
pub take_more_of : (p n : ℕ) (xs : List ℕ) → p ≤ length xs → take (p + n) xs ≡ take p xs ++ take n (take (length xs - p) (drop p xs))
take_more_of p n xs h =
    let front : length (take p xs) ≡ p = omega (arith, length-take p xs) in
    let split : take (length (take p xs) + n) (take p xs ++ drop p xs) ≡ take p xs ++ take n (drop p xs) = take-append-add (take p xs) (drop p xs) n in
    let there : take (p + n) xs ≡ take p xs ++ take n (drop p xs) =
    ap (λ k. take (k + n) xs) (sym front) ∙ ap (take (length (take p xs) + n)) (sym (take-append-drop p xs)) ∙ split in
    there ∙ ap (λ ys. take p xs ++ take n ys) (sym (slice_from p xs))

-- the first bytes of a text were taken, and no more
pub broke_off : (told : Told) (before now after : Option (List ℕ)) (n : ℕ) (text : List ℕ)
    → told ≢ Ok → after ≡ now → Appended before now (take n text) → Wrote told before after text
broke_off told before now after n text fault still took =
    (take n text, drop n text, sym (take-append-drop n text), subst (λ taken. Appended before taken (take n text)) (sym still) took, λ ok. absurd (fault ok))

-- the whole text was taken
pub took_all : (before after : Option (List ℕ)) (n : ℕ) (text : List ℕ) → length text ≤ n → Appended before after (take n text) → Wrote Ok before after text
took_all before after n text all took = (take n text, drop n text, sym (take-append-drop n text), took, λ ok. drop_all n text all)

-- ---- what holds of the sink

-- nothing was asked of it
pub kept_all : {Blamed : Type 0} (Steady : Type 0) (faults : ℕ) → Keeps Steady Steady faults faults Blamed
kept_all Steady faults = (omega arith, (λ was. (was, refl)), (λ free. refl))

-- all calls but the last one met no fault
pub kept_on : {Old Middle New Blamed Later : Type 0} {old middle new : ℕ} → middle ≡ old → (Old → Middle)
    → Keeps Middle New middle new Blamed → (Blamed → Later) → Keeps Old New old new Later
kept_on same steady keeps blames = (
  omega (arith, same, keeps.0),
  (λ was. let next = keeps.1 (steady was) in (next.0, next.1 ∙ same)),
  (λ free. keeps.2 (λ is. free (blames is)) ∙ same),
)

-- no call met one
pub kept_still : {Old New Blamed : Type 0} {old new : ℕ} → new ≡ old → (Old → New) → Keeps Old New old new Blamed
kept_still same steady = (omega (arith, same), (λ was. (steady was, same)), (λ free. same))

-- what an answer says of it: whether it was steady and how many faults it had met, before and after
pub record Leaves (told : Told) (Old New : Type 0) (old new : ℕ) : Type 0 where
  pub write_fault : told ≡ WriteFault → Rose old new
  pub outside : Keeps Old New old new (told ≡ WriteFault)
  pub steady_no_fault : Old → told ≢ WriteFault

-- no call met a fault
pub leaves_still : (told : Told) {Old New : Type 0} {old new : ℕ} → told ≢ WriteFault → new ≡ old → (Old → New) → Leaves told Old New old new
leaves_still told fine same steady = record { write_fault = λ is. absurd (fine is); outside = kept_still same steady; steady_no_fault = λ was. fine }

-- all calls but the last one met none
pub leaves_on :
    (told : Told) {Old Middle New Blamed : Type 0} {old middle new : ℕ} → middle ≡ old → (Old → Middle)
    → (told ≡ WriteFault → Rose middle new) → Keeps Middle New middle new Blamed → (Blamed → told ≡ WriteFault) → (Middle → told ≢ WriteFault)
    → Leaves told Old New old new
leaves_on told {new = new} same steady rose keeps blames fine = record {
  write_fault = λ is. subst (λ n. Rose n new) same (rose is);
  outside = kept_on same steady keeps blames;
  steady_no_fault = λ was. fine (steady was);
}

-- ---- answers that are not one another

pub ok_is_no_fault : Ok ≡ WriteFault → ⊥
ok_is_no_fault same = cc

pub memory_is_no_fault : NoMemory ≡ WriteFault → ⊥
memory_is_no_fault same = cc

pub fault_is_not_ok : WriteFault ≡ Ok → ⊥
fault_is_not_ok same = cc

pub memory_is_not_ok : NoMemory ≡ Ok → ⊥
memory_is_not_ok same = cc

pub told_ok : {told : Told} → told ≡ Ok → told ≡ WriteFault → ⊥
told_ok is other = ok_is_no_fault (sym is ∙ other)

pub told_fault : {told : Told} → (told ≡ WriteFault) ⊎ (told ≡ NoMemory) → told ≡ Ok → ⊥
told_fault is other = elim is [ inl fault ↦ fault_is_not_ok (sym fault ∙ other) | inr memory ↦ memory_is_not_ok (sym memory ∙ other) ]

pub took_has_not_failed : {n : ℕ} → put.Took n ≡ put.Failed → ⊥
took_has_not_failed same = cc

pub full_has_not_failed : put.NoMemory ≡ put.Failed → ⊥
full_has_not_failed same = cc

-- ---- a piece more

pub within_more : (p n : ℕ) (text : List ℕ) → p ≤ length text → n ≤ length (take (length text - p) (drop p text)) → p + n ≤ length text
within_more p n text low few =
    let piece = ap length (slice_from p text) in
    omega (arith, low, few, piece, length-drop p text)

pub took_more : (before now later : Option (List ℕ)) (p n : ℕ) (text : List ℕ) → p ≤ length text
    → Appended before now (take p text) → Appended now later (take n (take (length text - p) (drop p text))) → Appended before later (take (p + n) text)
took_more before now later p n text low took more =
    subst (Appended before later) (sym (take_more_of p n text low))
    (appended_more before now later (take p text) (take n (take (length text - p) (drop p text))) took more)
