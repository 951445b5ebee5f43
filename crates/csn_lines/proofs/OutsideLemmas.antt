-- What a sink took and what a source gave, over several calls.
use Rattle.std.proofs.Common.{◌≡◌, ℕ, ◌+◌, ◌-◌, ◌<◌, ◌≤◌, List, [], ◌++◌, length, take, drop, refl, sym, ◌∙◌, ap, arith, length-drop, Option, Some, None}
use Rattle.std.proofs.lemmas.List.{append-nil, length-take}
use Rattle.csn_io.specs.Faults.{Keeps}
use Rattle.csn_io.specs.Put.{Appended}
use Rattle.csn_io.specs.Got.{Gave}
use Rattle.csn_replay.proofs.Puts.{slice_from, take_more_of}

-- nothing was taken
pub Appended-nil : (a : Option (List ℕ)) → Appended a a []
Appended-nil None = refl
Appended-nil (Some t) = ap Some (sym (append-nil t))

-- a source that gave nothing
pub Gave-nil : (a : Option (List ℕ)) → Gave a a []
Gave-nil None = refl
Gave-nil (Some left) = (left, refl, refl)

-- the last of some first bytes
pub last_byte : (n : ℕ) (xs : List ℕ) → 0 < n → n ≤ length xs → (past : List ℕ) × (take n xs ≡ take (n - 1) xs ++ past) × (length past ≡ 1)
last_byte n xs some fits =
    let back : n - 1 + 1 ≡ n = omega arith in (
      take 1 (take (length xs - (n - 1)) (drop (n - 1) xs)),
      ap (λ k. take k xs) (sym back) ∙ take_more_of (n - 1) 1 xs (omega arith),
      omega (arith, length-take 1 (take (length xs - (n - 1)) (drop (n - 1) xs)), ap length (slice_from (n - 1) xs), length-drop (n - 1) xs),
    )

-- ---- what holds of an object over calls

-- an object that is not to blame
pub keeps_quiet : {was is : Type 0} {before after : ℕ} {to_blame : Type 0} → (to_blame → ⊥) → Keeps was is before after to_blame → Keeps was is before after ⊥
keeps_quiet never keeps = (keeps.0, keeps.1, λ none. keeps.2 never)

-- calls after which it is not to blame, and then some more
pub keeps_then :
    {was now is : Type 0} {before between after : ℕ} {to_blame : Type 0}
    → Keeps was now before between ⊥ → Keeps now is between after to_blame → Keeps was is before after to_blame
keeps_then first next = (
  omega (arith, first.0, next.0),
  λ steady. (let here = first.1 steady in let there = next.1 here.0 in (there.0, there.1 ∙ here.1)),
  λ none. next.2 none ∙ first.2 (λ e. e),
)

-- what is to blame for less is to blame for more
pub keeps_along : {was is : Type 0} {before after : ℕ} {to_blame other : Type 0} → (to_blame → other)
    → Keeps was is before after to_blame → Keeps was is before after other
keeps_along f keeps = (keeps.0, keeps.1, λ no_other. keeps.2 (λ p. no_other (f p)))

-- no call at all
pub keeps_still : {was : Type 0} {before : ℕ} {to_blame : Type 0} → Keeps was was before before to_blame
keeps_still = (omega arith, λ steady. (steady, refl), λ none. refl)

-- some calls, and then some more
pub keeps_both :
    {was now is : Type 0} {before between after : ℕ} {first_blame next_blame to_blame : Type 0}
    → (first_blame → to_blame) → (next_blame → to_blame) → Keeps was now before between first_blame
    → Keeps now is between after next_blame → Keeps was is before after to_blame
keeps_both f g first next = (
  omega (arith, first.0, next.0),
  λ steady. (let here = first.1 steady in let there = next.1 here.0 in (there.0, there.1 ∙ here.1)),
  λ none. next.2 (λ q. none (g q)) ∙ first.2 (λ p. none (f p)),
)
