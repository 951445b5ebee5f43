-- Laws over the texts of trees.
use Rattle.std.specs.Prelude.{◌≡◌, ℕ, List, ◌++◌}
use Rattle.csn_desc.specs.TreeV.{TreeV}
use Rattle.csn_treetext.specs.declared.version.Version.{Version}
use Rattle.csn_treetext.specs.Text.{text_of}
use Rattle.csn_treetext.specs.Place.{IsTextOf, TreeText, OldText, BeginsText, IsFaultPlace, Decided}

abbrev pub TreeTextsDiffer : Type 0
TreeTextsDiffer = (t u : TreeV) (text : List ℕ) → TreeText t text → TreeText u text → t ≡ u

abbrev pub OldTextsDiffer : Type 0
OldTextsDiffer = (t u : TreeV) (text : List ℕ) → OldText t text → OldText u text → t ≡ u

abbrev pub FrontsBeginTexts : Type 0
FrontsBeginTexts = (version : Version) (front back : List ℕ) → BeginsText version (front ++ back) → BeginsText version front

-- each text is that of a tree, or has a place where it is wrong
abbrev pub TextsAreDecided : Type 0
TextsAreDecided = (version : Version) (text : List ℕ) → Decided version text

-- no text has two such places
abbrev pub TextsHaveOnePlace : Type 0
TextsHaveOnePlace =
    (version : Version) (text : List ℕ) (place other : ℕ)
    → IsFaultPlace version text place → IsFaultPlace version text other → place ≡ other

-- a tree that has a text in one version has one in the other
abbrev pub VersionsShareTrees : Type 0
VersionsShareTrees =
    (version other : Version) (t : TreeV) (text : List ℕ)
    → IsTextOf version t text → IsTextOf other t (text_of other t)
