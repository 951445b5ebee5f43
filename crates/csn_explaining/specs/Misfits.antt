-- Why a tree does not fit, in words. (This project's own choice.)
use Rattle.std.specs.Prelude.{ℕ, List, ◌++◌, codes, Option}
use Rattle.csn_desc.specs.TreeV.{TreeV}
use Rattle.csn_desc.specs.declared.node.Node.{Node}
use Rattle.csn_encode.specs.declared.misfit.MisfitWhy.{MisfitWhy}
use Rattle.csn_encode.specs.declared.misfit.MisfitWhy.TheVariants.{WrongKind, WrongLabel, WrongCount, WrongWidth}
use Rattle.csn_encode.specs.declared.misfit.MisfitWhy.TheVariants.{WrongSpare, NoSuchAlternative, WindowLength}
use Rattle.csn_encode.specs.declared.misfit.MisfitWhy.TheVariants.{TooManyBits}
use Rattle.csn_explaining.specs.Texts.{counted_text}
use Rattle.csn_explaining.specs.Wanted.{some_node_text, tree_text}

-- how many of something were wanted, and how many were found
abbrev pub counts_text : ℕ → ℕ → List ℕ → List ℕ
counts_text wanted found noun = counted_text wanted noun ++ (codes " wanted, " ++ (counted_text found noun ++ codes " found"))

-- which node was wanted, and which tree was found
abbrev pub kinds_text : Option Node → TreeV → List ℕ
kinds_text node tree = some_node_text node ++ (codes " wanted, " ++ (tree_text tree ++ codes " found"))

-- what was wanted at a node, and what was found in the tree that stands there
abbrev pub why_text : Option Node → TreeV → MisfitWhy → List ℕ
why_text node tree WrongKind = kinds_text node tree
why_text node tree WrongLabel = kinds_text node tree
why_text node tree NoSuchAlternative = kinds_text node tree
why_text _ _ (WrongCount wanted found) = counts_text wanted found (codes "tree")
why_text _ _ (WrongWidth wanted found) = counts_text wanted found (codes "bit")
why_text _ _ (WindowLength wanted found) = counts_text wanted found (codes "bit") ++ codes " in the window"
why_text _ _ WrongSpare = codes "the spare bits of a sender wanted, others found"
why_text _ _ TooManyBits = codes "at most " ++ (counted_text 524288 (codes "bit") ++ codes " wanted, more found")
