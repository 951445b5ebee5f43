-- The trees that have begun, as the program keeps them: the innermost one last.
use Rattle.std.specs.Prelude.{reverse, slice_get}
use Rattle.std.proofs.Common.{◌≡◌, ℕ, zero, suc, ◌-◌, ◌≤◌, true, List, [], ◌∷◌, ◌++◌, length, set, Some, refl, sym, ap, ◌∙◌, arith}
use Rattle.std.proofs.lemmas.List.{reverse-append}
use Rattle.csn_desc.specs.TreeV.{TreeV}
use Rattle.csn_treetext.specs.declared.stack.Frame.{Frame}
use Rattle.csn_treetext.specs.declared.stack.Frame.TheVariants.{Row}
use Rattle.csn_treetext.specs.reader.Machine.{state, is_in_row, with_tree}
use Rattle.csn_treetext.specs.reader.Mode.{Behind}

pub in_row_some : (frames : List Frame) → is_in_row (reverse frames) ≡ true → 1 ≤ length frames
in_row_some [] h = absurd (cc)
in_row_some (x ∷ more) h = omega arith

one_before : (x : Frame) (more rest : List Frame) (last : Frame) → reverse more ≡ last ∷ rest → reverse (x ∷ more) ≡ last ∷ (rest ++ x ∷ [])
one_before x more rest last e = reverse-append (x ∷ []) more ∙ ap (λ l. l ++ x ∷ []) e

-- what is written in place of the last one stands in place of the innermost one
last_written : (frames : List Frame) (last : ℕ) (old new : Frame) → last ≡ length frames - 1 → slice_get frames last ≡ Some old
    → (rest : List Frame) × (reverse frames ≡ old ∷ rest) × (reverse (set frames last new) ≡ new ∷ rest)
last_written [] last old new is there = absurd (cc)
last_written (x ∷ []) zero old new is there = ([], ap (λ y. y ∷ []) (cc), refl)
last_written (x ∷ []) (suc last) old new is there = absurd (omega arith)
last_written (x ∷ y ∷ more) zero old new is there = absurd (omega arith)
last_written (x ∷ y ∷ more) (suc last) old new is there =
    let (rest, before, after) = last_written (y ∷ more) last old new (omega arith) there in
    (rest ++ x ∷ [], one_before x (y ∷ more) rest old before, one_before x (set (y ∷ more) last new) rest new after)

-- a row that took a tree more where it stood
pub tree_pushed : (frames : List Frame) (last : ℕ) (rows more : List TreeV) (t : TreeV)
    → last ≡ length frames - 1 → slice_get frames last ≡ Some (Row rows) → more ≡ rows ++ t ∷ []
    → with_tree (reverse frames) t ≡ state Behind (reverse (set frames last (Row more)))
tree_pushed frames last rows more t is there pushed =
    let (rest, before, after) = last_written frames last (Row rows) (Row more) is there in
    ap (λ s. with_tree s t) before ∙ ap (λ l. state Behind (Row l ∷ rest)) (sym pushed) ∙ ap (state Behind) (sym after)
