-- What is so from some round on.
use Rattle.std.proofs.Common.{◌≡◌, ℕ, zero, suc, ◌+◌, ◌-◌, ◌≤◌, arith, subst}

pub record Late (P : ℕ → Type 0) : Type 0 where
  pub from : ℕ
  pub holds : (k : ℕ) → from ≤ k → P k

pub always : {P : ℕ → Type 0} → ((k : ℕ) → P k) → Late P
always h = record { from = 0; holds = λ k more. h k }

pub then_late : {P Q : ℕ → Type 0} → ((k : ℕ) → P k → Q k) → Late P → Late Q
then_late make h = record { from = h.from; holds = λ k more. make k (h.holds k more) }

pub both_late : {P Q R : ℕ → Type 0} → ((k : ℕ) → P k → Q k → R k) → Late P → Late Q → Late R
both_late make p q =
    record { from = p.from + q.from; holds = λ k more. make k (p.holds k (omega arith)) (q.holds k (omega arith)) }

pub at_last : {P : ℕ → Type 0} → (l : Late P) → P l.from
at_last l = l.holds l.from (omega arith)

-- what each further round keeps
pub kept_late : (P : ℕ → Type 0) → ((k : ℕ) → P k → P (suc k)) → (j : ℕ) → P j → Late P
kept_late P keep j h =
    record { from = j; holds = λ k more. let same : (k - j) + j ≡ k = omega arith in subst P same (later (k - j)) }
  where
    later : (m : ℕ) → P (m + j)
    later zero = let same : j ≡ 0 + j = omega arith in subst P same h
    later (suc m) = let same : suc (m + j) ≡ suc m + j = omega arith in subst P same (keep (m + j) (later m))
