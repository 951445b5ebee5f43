-- Trees whose text is the same in both versions.
use Rattle.std.proofs.Common.{◌≡◌, ℕ, zero, suc, ◌<◌, ◌≤◌, nat_le, true, List, [], ◌∷◌, ◌++◌, length, Some, slice_get, refl, ◌∙◌, ap, arith}
use Rattle.std.proofs.lemmas.Bool.{le-leb}
use Rattle.csn_desc.specs.TreeV.{TreeV, bits, row, trees_of}
use Rattle.csn_treetext.specs.declared.version.Version.TheVariants.{First, Second}
use Rattle.csn_treetext.specs.Text.{text_of, row_text, rest_text}
use Rattle.csn_treetext.specs.Place.{OldText, TreeText}

abbrev pub AreAlike : TreeV → Type 0
AreAlike t = text_of First t ≡ text_of Second t

-- the first trees of a row are
abbrev pub FirstAlike : List TreeV → ℕ → Type 0
FirstAlike rows at = (k : ℕ) (u : TreeV) → k < at → slice_get rows k ≡ Some u → AreAlike u

pub leaf_alike : (b : List ℕ) → length b ≤ 64 → AreAlike (bits b)
leaf_alike [] few = refl
leaf_alike (x ∷ b) few =
    let low : nat_le 1 (length (x ∷ b)) ≡ true = le-leb 1 (length (x ∷ b)) (omega arith) in
    let high : nat_le (length (x ∷ b)) 64 ≡ true = le-leb (length (x ∷ b)) 64 few in
    rw (low, high) refl

rest_alike : (ts : List TreeV) → ((k : ℕ) (u : TreeV) → slice_get ts k ≡ Some u → AreAlike u) → rest_text First (trees_of ts) ≡ rest_text Second (trees_of ts)
rest_alike [] each = refl
rest_alike (t ∷ ts) each =
    ap (λ l. 32 ∷ (l ++ rest_text First (trees_of ts))) (each 0 t refl)
    ∙ ap (λ l. 32 ∷ (text_of Second t ++ l)) (rest_alike ts (λ k u is. each (suc k) u is))

row_alike : (ts : List TreeV) → ((k : ℕ) (u : TreeV) → slice_get ts k ≡ Some u → AreAlike u) → row_text First (trees_of ts) ≡ row_text Second (trees_of ts)
row_alike [] each = refl
row_alike (t ∷ ts) each =
    ap (λ l. l ++ rest_text First (trees_of ts)) (each 0 t refl) ∙ ap (λ l. text_of Second t ++ l) (rest_alike ts (λ k u is. each (suc k) u is))

within : {A : Type 0} (l : List A) (k : ℕ) (x : A) → slice_get l k ≡ Some x → k < length l
within [] k x is = absurd (cc)
within (y ∷ l) zero x is = omega arith
within (y ∷ l) (suc k) x is = let less = within l k x is in omega (arith, less)

-- all trees of a row are
pub all_alike : (rows : List TreeV) (at : ℕ) → FirstAlike rows at → length rows ≤ at → AreAlike (row (trees_of rows))
all_alike rows at first all =
    ap (λ l. 91 ∷ (l ++ 93 ∷ [])) (row_alike rows (λ k u is. let less = within rows k u is in first k u (omega (arith, less, all)) is))

-- the old text of such a tree is its text of today
pub text_of_today : (t : TreeV) (line : List ℕ) → OldText t line → AreAlike t → TreeText t line
text_of_today t line old alike = record { fits = old.fits; parts = old.parts; spelled = old.spelled ∙ alike }
