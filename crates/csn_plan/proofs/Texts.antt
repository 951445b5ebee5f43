-- Texts behind what was written before.
use Rattle.std.proofs.Common.{◌≡◌, ℕ, List, ◌++◌, sym, ◌∙◌, ap, append_assoc, Result, Ok, Err, OnOk, true≢false}
use Rattle.std.specs.Prelude.{IsErr}

-- what stands behind a text that stands behind another stands behind that too
pub grown : (old between new front back : List ℕ) → between ≡ old ++ front → new ≡ between ++ back → (tail : List ℕ) × (new ≡ old ++ tail)
grown old between new front back first second = (front ++ back, second ∙ ap (λ l. l ++ back) first ∙ append_assoc old front back)

-- nothing is asked of an answer that is an error
pub on_ok_none : {T E : Type 0} (r : Result T E) (P : Type 0) → IsErr r → OnOk r P
on_ok_none (Ok x) P is = absurd (true≢false (sym is))
on_ok_none (Err e) P is = tt
