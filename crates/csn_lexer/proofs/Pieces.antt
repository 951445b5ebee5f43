-- Pieces of a text from one place to another.
use Rattle.std.proofs.Common.{◌≡◌, ℕ, suc, ◌+◌, ◌-◌, ◌<◌, ◌≤◌, List, [], ◌∷◌, length, take, drop, get_or, slice_range, ap, ◌∙◌, arith}
use Rattle.std.proofs.lemmas.List.{drop_more}

-- a piece begins with the byte at its first place
pub slice_range_more : (text : List ℕ) (at m : ℕ) → at < m → m ≤ length text
    → slice_range text at m ≡ get_or text at 0 ∷ slice_range text (at + 1) m
slice_range_more text at m below within =
    let here : at < length text = omega arith in
    let one_more : m - at ≡ suc (m - (at + 1)) = omega arith in
    ap (λ n. take n (drop at text)) one_more ∙ ap (take (suc (m - (at + 1)))) (drop_more text at 0 here)

-- no piece stands between a place and itself
pub slice_range_none : (text : List ℕ) (at : ℕ) → slice_range text at at ≡ []
slice_range_none text at =
    let none : at - at ≡ 0 = omega arith in ap (λ n. take n (drop at text)) none
