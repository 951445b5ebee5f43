-- The text of a row, tree by tree.
use Rattle.std.proofs.Common.{◌≡◌, ℕ, zero, suc, ◌+◌, ◌<◌, List, [], ◌∷◌, ◌++◌, take, slice_get, Some, sym, ap, ◌∙◌, append_assoc, append-nil, arith}
use Rattle.csn_desc.specs.declared.tree.Shape.{Shape}
use Rattle.csn_desc.specs.declared.tree.Shape.TheVariants.{Row}
use Rattle.csn_desc.specs.TreeV.{TreeV, trees_of}
use Rattle.csn_desc.specs.TreeCode.{tree_size, rows_size}
use Rattle.csn_desc.specs.ShapeView.{shape_view}
use Rattle.csn_treetext.specs.declared.version.Version.{Version}
use Rattle.csn_treetext.specs.Text.{text_of, row_text, rest_text}
use Rattle.csn_desc.specs.TreeParts.{HasTreeParts, AllHaveTreeParts}

-- a tree among others is smaller than all of them
pub member_size : (trees : List TreeV) (at : ℕ) (t : TreeV) → slice_get trees at ≡ Some t → tree_size t < rows_size trees
member_size [] at t h = absurd (cc)
member_size (u ∷ trees) zero t h =
    let same : u ≡ t = cc in
    let sizes : tree_size u ≡ tree_size t = ap tree_size same in
    omega arith
member_size (u ∷ trees) (suc at) t h =
    let inner : tree_size t < rows_size trees = member_size trees at t h in
    omega arith

-- a tree of a row is smaller than the row
pub smaller_in_row : (tree : TreeV) (shape : Shape) (rows : List TreeV) (at : ℕ) (t : TreeV)
    → shape_view shape ≡ tree → shape ≡ Row rows → slice_get rows at ≡ Some t → tree_size t < tree_size tree
smaller_in_row tree shape rows at t view is get =
    let whole : tree_size tree ≡ rows_size rows + 1 = ap tree_size (sym view) ∙ ap (λ s. tree_size (shape_view s)) is in
    omega (arith, member_size rows at t get, whole)

-- the trees up to one of them are those before it, and it
pub take_next : {A : Type 0} (xs : List A) (at : ℕ) (x : A) → slice_get xs at ≡ Some x → take (suc at) xs ≡ take at xs ++ x ∷ []
take_next [] at x h = absurd (cc)
take_next (y ∷ xs) zero x h = let same : y ≡ x = cc in ap (λ z. z ∷ []) same
take_next (y ∷ xs) (suc at) x h = ap (λ l. y ∷ l) (take_next xs at x h)

rest_text-push : (version : Version) (ts : List TreeV) (t : TreeV)
    → rest_text version (trees_of (ts ++ t ∷ [])) ≡ rest_text version (trees_of ts) ++ 32 ∷ text_of version t
rest_text-push version [] t = ap (λ l. 32 ∷ l) (append-nil (text_of version t))
rest_text-push version (u ∷ ts) t =
    ap (λ l. 32 ∷ l)
    (ap (λ l. text_of version u ++ l) (rest_text-push version ts t)
    ∙ sym (append_assoc (text_of version u) (rest_text version (trees_of ts)) (32 ∷ text_of version t)))

-- the first tree of a row
pub row_text-one : (version : Version) (t : TreeV) → row_text version (trees_of (t ∷ [])) ≡ text_of version t
row_text-one version t = append-nil (text_of version t)

-- one more tree in a row that has some
pub row_text-push : (version : Version) (u : TreeV) (ts : List TreeV) (t : TreeV)
    → row_text version (trees_of ((u ∷ ts) ++ t ∷ [])) ≡ row_text version (trees_of (u ∷ ts))
    ++ 32 ∷ text_of version t
row_text-push version u ts t =
    ap (λ l. text_of version u ++ l) (rest_text-push version ts t)
    ∙ sym (append_assoc (text_of version u) (rest_text version (trees_of ts)) (32 ∷ text_of version t))

pub AllHaveTreeParts-push : (ts : List TreeV) (t : TreeV) → AllHaveTreeParts (trees_of ts) → HasTreeParts t → AllHaveTreeParts (trees_of (ts ++ t ∷ []))
AllHaveTreeParts-push [] t all this = (this, tt)
AllHaveTreeParts-push (u ∷ ts) t all this = (all.0, AllHaveTreeParts-push ts t all.1 this)

-- what is written after the first tree of a row, and after one more
wrote_first : (version : Version) (before after : List ℕ) (trees : List TreeV) (at : ℕ) (t : TreeV) → slice_get trees at ≡ Some t → at ≡ 0
    → before ≡ after ++ 91 ∷ row_text version (trees_of (take at trees))
    → before ++ text_of version t ≡ after ++ 91 ∷ row_text version (trees_of (take (at + 1) trees))
wrote_first version before after trees (suc at) t h zeroth wrote = absurd (omega arith)
wrote_first version before after trees zero t h zeroth wrote =
    let next : take 1 trees ≡ t ∷ [] = take_next trees 0 t h in
    ap (λ l. l ++ text_of version t) wrote ∙ append_assoc after (91 ∷ []) (text_of version t)
    ∙ ap (λ l. after ++ 91 ∷ l) (sym (row_text-one version t) ∙ ap (λ l. row_text version (trees_of l)) (sym next))

wrote_next : (version : Version) (before after : List ℕ) (trees : List TreeV) (at : ℕ) (t : TreeV) → slice_get trees at ≡ Some t → 0 < at
    → before ≡ after ++ 91 ∷ row_text version (trees_of (take at trees))
    → (before ++ 32 ∷ []) ++ text_of version t ≡ after ++ 91 ∷ row_text version (trees_of (take (at + 1) trees))
wrote_next version before after trees zero t h some wrote = absurd (omega arith)
wrote_next version before after [] (suc at) t h some wrote = absurd (cc)
wrote_next version before after (u ∷ trees) (suc at) t h some wrote =
    let next : take (suc (suc at)) (u ∷ trees) ≡ (u ∷ take at trees) ++ t ∷ [] = take_next (u ∷ trees) (suc at) t h in
    let count : suc at + 1 ≡ suc (suc at) = omega arith in
    ap (λ l. (l ++ 32 ∷ []) ++ text_of version t) wrote
    ∙ append_assoc (after ++ 91 ∷ row_text version (trees_of (u ∷ take at trees))) (32 ∷ []) (text_of version t)
    ∙ append_assoc after (91 ∷ row_text version (trees_of (u ∷ take at trees))) (32 ∷ text_of version t)
    ∙ ap (λ l. after ++ 91 ∷ l) (sym (row_text-push version u (take at trees) t))
    ∙ ap (λ l. after ++ 91 ∷ row_text version (trees_of l)) (sym next)
    ∙ ap (λ n. after ++ 91 ∷ row_text version (trees_of (take n (u ∷ trees)))) (sym count)

pub wrote_on : (version : Version) (before gap after : List ℕ) (trees : List TreeV) (at : ℕ) (t : TreeV) → slice_get trees at ≡ Some t
    → (at ≡ 0 → gap ≡ before) → (0 < at → gap ≡ before ++ 32 ∷ []) → before ≡ after ++ 91 ∷ row_text version (trees_of (take at trees))
    → gap ++ text_of version t ≡ after ++ 91 ∷ row_text version (trees_of (take (at + 1) trees))
wrote_on version before gap after trees zero t h first later wrote = ap (λ l. l ++ text_of version t)
    (first (omega arith)) ∙ wrote_first version before after trees 0 t h (omega arith) wrote
wrote_on version before gap after trees (suc at) t h first later wrote = ap (λ l. l ++ text_of version t)
    (later (omega arith)) ∙ wrote_next version before after trees (suc at) t h (omega arith) wrote

pub have_next : (trees : List TreeV) (at : ℕ) (t : TreeV)
    → slice_get trees at ≡ Some t → AllHaveTreeParts (trees_of (take at trees))
    → HasTreeParts t → AllHaveTreeParts (trees_of (take (at + 1) trees))
have_next trees at t h all this =
    let count : at + 1 ≡ suc at = omega arith in
    rw count (rw (take_next trees at t h) (AllHaveTreeParts-push (take at trees) t all this))
