-- Trees that fit.
use Rattle.std.proofs.Common.{◌≡◌, ℕ, zero, suc, ◌+◌, ◌<◌, List, [], ◌∷◌, length, slice_get, Some, refl, sym, ap, ◌∙◌, arith, subst}
use Rattle.std.proofs.Common.{inl, inr}
use Rattle.std.proofs.lemmas.Bool.{cases_lt}
use Rattle.csn_treetext.specs.declared.bounds.TheConstants.{MOST_LEVELS}
use Rattle.csn_desc.specs.TreeV.{TreeV, empty, bits, row, alt, named, trees_of}
use Rattle.csn_treetext.specs.Fits.{FitsInside, AllFitInside}

-- a tree that fits stands at level 64 or above
pub room_for : (round : ℕ) (t : TreeV) → FitsInside round t → round < MOST_LEVELS
room_for round empty h = h
room_for round (bits b) h = h
room_for round (row ts) h = h.0
room_for round (alt j t) h = omega (arith, room_for (suc round) t h.1)
room_for round (named l t) h = omega (arith, room_for (suc round) t h)

-- each tree of a row that fits fits
pub member_fits : (round : ℕ) (trees : List TreeV) (at : ℕ) (t : TreeV)
    → slice_get trees at ≡ Some t → AllFitInside round (trees_of trees) → FitsInside round t
member_fits round [] at t h all = absurd (cc)
member_fits round (u ∷ trees) zero t h all = let same : u ≡ t = cc in subst (FitsInside round) same all.0
member_fits round (u ∷ trees) (suc at) t h all = member_fits round trees at t h all.1

-- the first trees of a row fit
abbrev pub FirstFit : ℕ → List TreeV → ℕ → Type 0
FirstFit round trees at = (k : ℕ) (t : TreeV) → k < at → slice_get trees k ≡ Some t → FitsInside round t

pub first_more : (round : ℕ) (trees : List TreeV) (at : ℕ) (t : TreeV)
    → FirstFit round trees at → slice_get trees at ≡ Some t → FitsInside round t → FirstFit round trees (at + 1)
first_more round trees at t before is this k u low at_k = elim (cases_lt k at) [
  | inl lower ↦ before k u lower at_k
  | inr higher ↦ (
      let same : k ≡ at = omega arith in
      let one : t ≡ u = (let e : slice_get trees at ≡ Some u = ap (slice_get trees) (sym same) ∙ at_k in cc) in
      subst (FitsInside round) one this)
]

pub all_from_first : (round : ℕ) (trees : List TreeV) → FirstFit round trees (length trees) → AllFitInside round (trees_of trees)
all_from_first round [] h = tt
all_from_first round (t ∷ trees) h = (h 0 t (omega arith) refl, all_from_first round trees (λ k u low is. h (suc k) u (omega arith) is))
