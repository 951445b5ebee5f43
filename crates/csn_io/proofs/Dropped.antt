-- Lists without what stood at their front.
use Rattle.std.proofs.Common.{◌≡◌, ℕ, ◌+◌, ◌-◌, ◌≤◌, ◌↔◌, IsTrue, nat_eq, List, [], ◌++◌, length, take, drop, arith, ap, ◌∙◌, length-drop, eq-eqb}
use Rattle.std.specs.List.{slice_range}
use Rattle.std.proofs.Math.Seq.{take-append_seam, drop-length}
use Rattle.std.proofs.lemmas.Bool.{eqb-true}
use Rattle.std.proofs.lemmas.List.{length-take-le}
use Rattle.std.proofs.lemmas.List.Folds.{drop_split}

-- nothing is left exactly where all was dropped
pub drop-empty : (xs : List ℕ) (at n : ℕ) → at ≤ length xs → n ≡ length xs → IsTrue (nat_eq at n) ↔ (drop at xs ≡ [])
drop-empty xs at n within is = (
  λ yes. let all : at ≡ length xs = eqb-true at n yes ∙ is in rw all (drop-length xs),
  λ none. let rest : length (drop at xs) ≡ 0 = ap length none in eq-eqb at n (omega (arith, length-drop at xs)),
)

-- a piece of a list, moved to the front of some room, and what stands behind the piece
pub drop-moved : (xs piece room : List ℕ) (at n : ℕ) → at + n ≤ length xs → piece ≡ slice_range xs at (at + n)
    → drop at xs ≡ take n (piece ++ room) ++ drop (at + n) xs
drop-moved xs piece room at n within is =
    let size : length piece ≡ n = ap length is ∙ length-take-le (at + n - at) (drop at xs) (omega (arith, length-drop at xs)) ∙ omega arith in
    let front : take n (piece ++ room) ≡ piece = rw (← size) (take-append_seam piece room) in
    rw (front, is) (drop_split xs at (at + n) (omega arith))
