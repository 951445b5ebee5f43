-- The value of a tree that fits can be written, and is read back.
use Rattle.std.proofs.Common.{◌≡◌, ℕ, suc, ◌+◌, ◌<◌, ◌≤◌, false, List, [], ◌∷◌, ◌++◌, take, slice_get, Some, refl, ap, ◌∙◌, arith}
use Rattle.csn_desc.specs.TreeV.{TreeV, empty, bits, row, alt, named, Trees, none, more, trees_of}
use Rattle.csn_treetext.specs.Fits.{Fits, FitsInside, AllFitInside}
use Rattle.csn_treetext.specs.declared.bounds.TheConstants.{MOST_LEVELS}
use Rattle.csn_treetext.proofs.Rows.{take_next}
use Rattle.serde_json.specs.Data.{no_items, item, depth, items_depth}
use Rattle.serde_json.specs.View.{view, items_view}
use Rattle.serde_json.specs.declared.value.Value.{Value}
use Rattle.serde_json.specs.Written.{has_float, items_have_float}
use Rattle.csn_json.specs.JsonTree.{json_of, items_of}

mutual
  -- arrays and objects nest as far as the tree has levels below it
  depth_of_tree : (round : ℕ) (t : TreeV) → FitsInside round t → depth (json_of t) + round ≤ MOST_LEVELS
  depth_of_tree round empty fits = omega arith
  depth_of_tree round (bits b) fits = omega arith
  depth_of_tree round (row ts) fits = let inside = depth_of_row round ts fits.0 fits.1 in omega arith
  depth_of_tree round (alt j t) fits = let inside = depth_of_tree (suc round) t fits.1 in omega arith
  depth_of_tree round (named l t) fits = let inside = depth_of_tree (suc round) t fits in omega arith

  depth_of_row : (round : ℕ) (ts : Trees) → round < MOST_LEVELS → AllFitInside (suc round) ts → items_depth (items_of ts) + suc round ≤ MOST_LEVELS
  depth_of_row round none room fits = omega arith
  depth_of_row round (more t ts) room fits =
      let first = depth_of_tree (suc round) t fits.0 in
      let rest = depth_of_row round ts room fits.1 in
      omega arith

pub is_shallow : (t : TreeV) → Fits t → depth (json_of t) ≤ 127
is_shallow t fits = omega (arith, depth_of_tree 0 t fits)

mutual
  pub no_float : (t : TreeV) → has_float (json_of t) ≡ false
  no_float empty = refl
  no_float (bits b) = refl
  no_float (row ts) = no_float_in_row ts
  no_float (alt j t) = rw (no_float t) refl
  no_float (named l t) = rw (no_float t) refl

  no_float_in_row : (ts : Trees) → items_have_float (items_of ts) ≡ false
  no_float_in_row none = refl
  no_float_in_row (more t ts) = rw (no_float t, no_float_in_row ts) refl

-- ---- rows

push_item : (vs : List Value) (v : Value) (ts : List TreeV) (t : TreeV) → items_view vs ≡ items_of (trees_of ts)
    → view v ≡ json_of t → items_view (vs ++ v ∷ []) ≡ items_of (trees_of (ts ++ t ∷ []))
push_item [] v [] t all this = ap (λ d. item d no_items) this
push_item [] v (u ∷ ts) t all this = absurd (cc)
push_item (w ∷ vs) v [] t all this = absurd (cc)
push_item (w ∷ vs) v (u ∷ ts) t all this =
    let first : view w ≡ json_of u = cc in
    let rest = push_item vs v ts t (cc) this in
    ap (λ d. item d (items_view (vs ++ v ∷ []))) first ∙ ap (item (json_of u)) rest

-- the values of a row's first trees, and of one more
pub next_item : (vs : List Value) (v : Value) (trees : List TreeV) (at : ℕ) (t : TreeV)
    → slice_get trees at ≡ Some t → items_view vs ≡ items_of (trees_of (take at trees)) → view v ≡ json_of t
    → items_view (vs ++ v ∷ []) ≡ items_of (trees_of (take (at + 1) trees))
next_item vs v trees at t here all this =
    let count : at + 1 ≡ suc at = omega arith in
    rw count (rw (take_next trees at t here) (push_item vs v (take at trees) t all this))
