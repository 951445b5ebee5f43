-- Texts of answers, behind what was written before.
use Rattle.std.proofs.Common.{◌≡◌, ℕ, ◌+◌, ◌<◌, List, [], ◌∷◌, ◌++◌, length, take, Some, slice_get, refl, sym, ◌∙◌}
use Rattle.std.proofs.Common.{ap, append_assoc, arith, Result, Ok, Err, OnErr}
use Rattle.std.specs.Prelude.{if◌then◌else◌}
use Rattle.std.specs.Result.{is_ok}
use Rattle.std.proofs.lemmas.List.{flat_map_more}
use Rattle.std.proofs.Math.Seq.{take-append_seam}
use Rattle.std.specs.Fmt.{decimal}
use Rattle.csn_resolve.proofs.Basics.Parts.{take_next}
use Rattle.csn_lines.specs.OutLine.{steps_text, path_text}

-- a way and a reason behind a word
pub misfit_written :
    (old worded gone spaced new word path why : List ℕ) → worded ≡ old ++ word → gone ≡ worded ++ path → spaced ≡ gone ++ 32 ∷ [] → new ≡ spaced ++ why
    → new ≡ old ++ (word ++ (path ++ 32 ∷ why))
misfit_written old worded gone spaced new word path why first way space reason =
    reason ∙ ap (λ l. l ++ why) space ∙ append_assoc gone (32 ∷ []) why ∙ ap (λ l. l ++ 32 ∷ why) way ∙ append_assoc worded path (32 ∷ why)
    ∙ ap (λ l. l ++ (path ++ 32 ∷ why)) first ∙ append_assoc old word (path ++ 32 ∷ why)

-- what holds where there was no memory for what was to be put behind a text
pub not_put : {T E : Type 0} (r : Result T E) (P : Type 0) (new more same : List ℕ) → new ≡ (if is_ok r then more else same) → (new ≡ same → P) → OnErr r P
not_put (Ok x) P new more same is holds = tt
not_put (Err e) P new more same is holds = holds is

-- one step more of a way
pub step_written :
    (old here between new path : List ℕ) (at step : ℕ) → slice_get path at ≡ Some step → here ≡ old ++ steps_text (take at path)
    → between ≡ here ++ 47 ∷ [] → new ≡ between ++ decimal step → new ≡ old ++ steps_text (take (at + 1) path)
step_written old here between new path at step is so_far sign number =
    number ∙ ap (λ l. l ++ decimal step) sign ∙ append_assoc here (47 ∷ []) (decimal step) ∙ ap (λ l. l ++ 47 ∷ decimal step) so_far
    ∙ flat_map_more (λ s. 47 ∷ decimal s) old (take at path) step ∙ ap (λ l. old ++ steps_text l) (sym (take_next path at step is))

-- a way that has steps is told by them alone
pub path_of_steps : (path : List ℕ) → 0 < length path → steps_text path ≡ path_text path
path_of_steps [] some = absurd (omega (arith, some))
path_of_steps (step ∷ steps) some = refl

-- a text that is cut where another began behind it
pub cut_back : (old between new tail : List ℕ) (n : ℕ) → between ≡ old ++ tail → new ≡ take n between → n ≡ length old → new ≡ old
cut_back old between new tail n behind cut place =
    cut ∙ ap (take n) behind ∙ ap (λ k. take k (old ++ tail)) place ∙ take-append_seam old tail
