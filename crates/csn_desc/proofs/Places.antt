-- A block has a place by a description, and one.
use Rattle.std.proofs.Common.{◌≡◌, ℕ, zero, suc, ◌≤◌, inl, inr, List, [], length, take, subst, arith}
use Rattle.std.proofs.lemmas.Bool.{cases_order}
use Rattle.csn_desc.specs.Nodes.{DescV}
use Rattle.csn_desc.specs.Follows.{NFollow, IsPlace}
use Rattle.csn_desc.specs.Formed.{IsDescription}
use Rattle.csn_desc.proofs.Empties.{empty_followed, nothing_seen}
use Rattle.csn_desc.proofs.Decided.{follow_decided}

module _ (d : DescV) (b : List ℕ) where
  -- of the first `most` bits, so many can be followed, at most
  record UpTo (most : ℕ) : Type 0 where
    place : ℕ
    within : place ≤ most
    followed : NFollow d 0 0 [] (take place b)
    greatest : (more : ℕ) → more ≤ most → NFollow d 0 0 [] (take more b) → more ≤ place

  up_to : IsDescription d → (most : ℕ) → UpTo most
  up_to is zero =
      record { place = 0; within = omega arith; followed = empty_followed d [] 0 nothing_seen is.well_formed; greatest = λ more few h. few }
  up_to is (suc most) =
      elim (follow_decided d is.numbered 0 [] (take (suc most) b)) [
        | inl h ↦ record { place = suc most; within = omega arith; followed = h; greatest = λ more few h. few }
        | inr never ↦ one_more never (up_to is most)
      ]
    where
      earlier : ¬ NFollow d 0 0 [] (take (suc most) b) → (more : ℕ) → more ≤ suc most → NFollow d 0 0 [] (take more b) → more ≤ most
      earlier never more few h =
          let P : ℕ → Type 0 = λ k. NFollow d 0 0 [] (take k b) in
          elim (cases_order more (suc most)) [
            | inl same ↦ absurd (never (subst P same h))
            | inr order ↦ elim order [ inl less ↦ omega (arith, less) | inr over ↦ absurd (omega (arith, few, over)) ]
          ]

      one_more : ¬ NFollow d 0 0 [] (take (suc most) b) → UpTo most → UpTo (suc most)
      one_more never u =
          let within = u.within in
          record { place = u.place; within = omega arith; followed = u.followed; greatest = λ more few h. u.greatest more (earlier never more few h) h }

  pub place_of_block : IsDescription d → (place : ℕ) × IsPlace d b place
  place_of_block is =
      let u = up_to is (length b) in (u.place, record { within = u.within; followed = u.followed; greatest = u.greatest })

  pub one_place : (m n : ℕ) → IsPlace d b m → IsPlace d b n → m ≡ n
  one_place m n left right =
      let above = right.greatest m left.within left.followed in
      let below = left.greatest n right.within right.followed in
      omega (arith, above, below)
