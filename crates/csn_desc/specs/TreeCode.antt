-- How the logic stores a tree, and how large a tree is, so that code that goes down one ends.
use Rattle.std.specs.Prelude.{◌≡◌, ℕ, ◌+◌, ◌≤◌, List, [], ◌∷◌, max}
use Rattle.std.specs.Coded.{Coded, coded_ℕ, coded_list}
use Rattle.std.proofs.Common.{ap, arith}
use base.Stored.{Gv, gnil, gnum, gcons}
use denote.Param.Weighed.{most}
use Rattle.csn_desc.specs.TreeV.{TreeV, empty, bits, row, alt, named, Trees, none, more, trees_of}

abbrev numbers : Coded (List ℕ)
numbers = coded_list coded_ℕ

abbrev mutual
  pub code_tree : TreeV → Gv
  code_tree empty = gcons (gnum 0) gnil
  code_tree (bits b) = gcons (gnum 1) (numbers.code b)
  code_tree (row ts) = gcons (gnum 2) (code_trees ts)
  code_tree (alt j t) = gcons (gnum 3) (gcons (gnum j) (code_tree t))
  code_tree (named l t) = gcons (gnum 4) (gcons (numbers.code l) (code_tree t))

  pub code_trees : Trees → Gv
  code_trees none = gnil
  code_trees (more t ts) = gcons (code_tree t) (code_trees ts)

mutual
  pub code_tree-one : (x y : TreeV) → code_tree x ≡ code_tree y → x ≡ y
  code_tree-one empty empty p = cc
  code_tree-one (bits b) (bits c) p = ap bits (numbers.inj b c (cc))
  code_tree-one (row x) (row y) p = ap row (code_trees-one x y (cc))
  code_tree-one (alt i x) (alt j y) p =
      let numbers_agree : i ≡ j = cc in let trees_agree : x ≡ y = code_tree-one x y (cc) in cc
  code_tree-one (named l x) (named m y) p =
      let labels_agree : l ≡ m = numbers.inj l m (cc) in let trees_agree : x ≡ y = code_tree-one x y (cc) in cc
  code_tree-one _ _ p = cc

  pub code_trees-one : (x y : Trees) → code_trees x ≡ code_trees y → x ≡ y
  code_trees-one none none p = cc
  code_trees-one (more x xs) (more y ys) p =
      let heads_agree : x ≡ y = code_tree-one x y (cc) in let tails_agree : xs ≡ ys = code_trees-one xs ys (cc) in cc
  code_trees-one _ _ p = cc

abbrev pub tree_code : Coded TreeV
tree_code = record { code = code_tree; inj = code_tree-one }

abbrev pub rows_code : Coded (List TreeV)
rows_code = coded_list tree_code

abbrev mutual
  pub tree_size : TreeV → ℕ
  tree_size empty = 0
  tree_size (bits b) = 0
  tree_size (row ts) = trees_size ts + 1
  tree_size (alt j t) = tree_size t + 1
  tree_size (named l t) = tree_size t + 1

  -- more than any tree of the list
  pub trees_size : Trees → ℕ
  trees_size none = 0
  trees_size (more t ts) = max (tree_size t + 1) (trees_size ts)

abbrev pub rows_size : List TreeV → ℕ
rows_size ts = trees_size (trees_of ts)

-- no tree of a list is as large as the list
pub most_le-rows_size : (ts : List TreeV) → most (λ t. tree_size t + 1) ts ≤ rows_size ts
most_le-rows_size [] = omega arith
most_le-rows_size (t ∷ ts) = omega (arith, most_le-rows_size ts)
