-- The least set that an equation allows keeps the equation both ways, and is inside every set that keeps it.
use Rattle.std.proofs.Common.{ℕ, zero, suc}
use Rattle.csn_equations.specs.Least.{Rounds, Least}
use Rattle.csn_equations.proofs.Late.{Late, always, at_last, kept_late}

-- what the equation makes of what is so from some round on, it makes from some round on
abbrev pub Finite : {A : Type 0} → ((A → Type 0) → A → Type 0) → Type 1
Finite {A} Makes =
    (By : ℕ → A → Type 0) (P : A → Type 0) → ((a : A) → P a → Late (λ k. By k a))
    → (a : A) → Makes P a → Late (λ k. Makes (By k) a)

module _ {A : Type 0} (Makes : (A → Type 0) → A → Type 0) (finite : Finite Makes) where
  pub more_made : (P Q : A → Type 0) → ((a : A) → P a → Q a) → (a : A) → Makes P a → Makes Q a
  more_made P Q f a h = at_last (finite (λ k. Q) P (λ b p. always (λ k. f b p)) a h)

  next_round : (k : ℕ) (a : A) → Rounds Makes k a → Rounds Makes (suc k) a
  next_round zero a h = elim h [ ]
  next_round (suc k) a h = more_made (Rounds Makes k) (Rounds Makes (suc k)) (next_round k) a h

  late : (a : A) → Least Makes a → Late (λ k. Rounds Makes k a)
  late a h = kept_late (λ k. Rounds Makes k a) (λ k. next_round k a) h.rounds h.made

  -- what it makes of the least set is in it
  pub closes : (a : A) → Makes (Least Makes) a → Least Makes a
  closes a h = let l = finite (Rounds Makes) (Least Makes) late a h in record { rounds = suc l.from; made = at_last l }

  opened : (k : ℕ) (a : A) → Rounds Makes k a → Makes (Least Makes) a
  opened zero a h = elim h [ ]
  opened (suc k) a h = more_made (Rounds Makes k) (Least Makes) (λ b made. record { rounds = k; made = made }) a h

  -- and each of it is made so
  pub opens : (a : A) → Least Makes a → Makes (Least Makes) a
  opens a h = opened h.rounds a h.made

  within : (Q : A → Type 0) → ((a : A) → Makes Q a → Q a) → (k : ℕ) (a : A) → Rounds Makes k a → Q a
  within Q closed zero a h = elim h [ ]
  within Q closed (suc k) a h = closed a (more_made (Rounds Makes k) Q (within Q closed k) a h)

  -- what is so of all that the equation makes of members of which it is so, is so of all members
  pub least : (Q : A → Type 0) → ((a : A) → Makes (λ b. Least Makes b × Q b) a → Q a) → (a : A) → Least Makes a → Q a
  least Q closed a h = (within (λ b. Least Makes b × Q b) both h.rounds a h.made).1
    where
      both : (b : A) → Makes (λ c. Least Makes c × Q c) b → Least Makes b × Q b
      both b made = (closes b (more_made (λ c. Least Makes c × Q c) (Least Makes) (λ c pair. pair.0) b made), closed b made)
