-- A block has a place by a name that follows the empty block, where it is decided what the name follows.
use Rattle.std.proofs.Common.{ℕ, zero, suc, ◌≤◌, ◌⊎◌, inl, inr, List, [], length, take, subst, arith}
use Rattle.std.proofs.lemmas.Bool.{cases_eq}
use Rattle.csn_desc.specs.declared.reading.Reading.{Reading}
use Rattle.csn_grammar.specs.RulesV.{RulesV}
use Rattle.csn_grammar.specs.Strings.{Followed, IsPlace}

module _ (rules : RulesV) (r : Reading) (n b : List ℕ) where
  -- of its first bits, so many at most, the greatest number that can be followed
  record UpTo (most : ℕ) : Type 0 where
    place : ℕ
    within : place ≤ most
    followed : Followed rules n r (take place b)
    greatest : (more : ℕ) → more ≤ most → Followed rules n r (take more b) → more ≤ place

  module _ (none : Followed rules n r []) (decided : (front : List ℕ) → Followed rules n r front ⊎ (¬ Followed rules n r front)) where
    up_to : (most : ℕ) → UpTo most
    up_to zero = record { place = 0; within = omega arith; followed = none; greatest = λ more few h. few }
    up_to (suc most) = elim (decided (take (suc most) b)) [
      | inl h ↦ record { place = suc most; within = omega arith; followed = h; greatest = λ more few h. few }
      | inr not ↦ (
          let u = up_to most in
          record {
            place = u.place;
            within = omega (arith, u.within);
            followed = u.followed;
            greatest = λ more few h. elim (cases_eq more (suc most)) [
              | inl e ↦ absurd (not (subst (λ m. Followed rules n r (take m b)) e h))
              | inr other ↦ u.greatest more (omega arith) h
            ];
          })
    ]

    pub place_of : (place : ℕ) × IsPlace rules n r b place
    place_of =
        let u = up_to (length b) in (u.place, record { within = u.within; followed = u.followed; greatest = u.greatest })
