-- What is known of the bits of a block along which memory is taken for what its moves make. (This project's own choice.)
use Rattle.std.specs.Prelude.{◌≡◌, ℕ, ◌<◌, ◌≤◌, Bool, true, false, List, [], ◌++◌, length, Some, None}
use Rattle.csn_desc.specs.declared.moves.Move.{Move}
use Rattle.csn_desc.specs.Nodes.{DescV}
use Rattle.csn_desc.specs.TreeV.{TreeV}
use Rattle.csn_desc.specs.Means.{NMeans}
use Rattle.csn_desc.specs.Follows.{NFollow, IsPlace}
use Rattle.csn_judge.specs.declared.fed.Fed.{Fed}
use Rattle.csn_judge.specs.declared.fed.Fed.TheVariants.{Going, Refused, NoMemory}
use Rattle.csn_judge.specs.declared.verdict.Verdict.{Verdict}
use Rattle.csn_judge.specs.declared.verdict.Verdict.TheVariants as verdict
use Rattle.csn_judge.specs.Judging.{JudgeV, JudgesFor}

abbrev pub is_going : Fed → Bool
is_going Going = true
is_going (Refused place) = false
is_going NoMemory = false

-- what is answered by what the judge says, where memory was wanting or not
abbrev pub answer_of : Verdict → Bool → Fed
answer_of verdict.Going false = Going
answer_of verdict.Going true = NoMemory
answer_of (verdict.Refused place) short = Refused place

-- the judge has refused exactly where this was the answer, or memory was wanting before
abbrev pub IsAnswer : Fed → JudgeV → Type 0
IsAnswer Going j = j.refused ≡ None
IsAnswer (Refused place) j = j.refused ≡ Some place
IsAnswer NoMemory j = j.refused ≡ None

-- behind this answer it is these bits that have come: by the moves that the judge has made for them, of which this is
-- told, and all of them can be followed; or they are refused. Where memory was wanting they are none.
pub data ComesAlong (d : DescV) (answer : Fed) (j : JudgeV) (is_told : List Move → Type 0) (b : List ℕ) : Type 0 where
  comes_on : (moves : List Move) → answer ≡ Going → JudgesFor j b moves → is_told moves → ComesAlong d answer j is_told b
  comes_no_more : (place : ℕ) → answer ≡ Refused place → IsPlace d b place → place < length b → ComesAlong d answer j is_told b

-- behind some more bits, which can be followed: all of them have come
pub record IsFollowed (d : DescV) (now : List ℕ → Type 0) (all : List ℕ) : Type 0 where
  pub comes : now all
  pub followed : NFollow d 0 0 [] all

-- behind some more bits, which cannot be followed: the place is that of all of them, before their end, and where
-- nothing was refused before, it lies in the bits that came last
pub record IsRefused (d : DescV) (answer : Fed) (now : List ℕ → Type 0) (b more : List ℕ) (place : ℕ) : Type 0 where
  pub comes : now (b ++ more)
  pub place_is : IsPlace d (b ++ more) place
  pub before_end : place < length (b ++ more)
  pub not_followed : ¬ NFollow d 0 0 [] (b ++ more)
  pub in_piece : answer ≡ Going → length b ≤ place

-- what is known behind some more bits, by the answer before them, for all bits that had come then. Where memory was
-- wanting, they can be followed
abbrev pub Continues : DescV → Fed → (before now : List ℕ → Type 0) (more : List ℕ) → Fed → Type 0
Continues d answer before now more Going = (b : List ℕ) → before b → IsFollowed d now (b ++ more)
Continues d answer before now more (Refused place) = (b : List ℕ) → before b → IsRefused d answer now b more place
Continues d answer before now more NoMemory = (b : List ℕ) → before b → NFollow d 0 0 [] (b ++ more)

-- bits that have no tree: the place is theirs
pub record IsNoString (d : DescV) (b : List ℕ) (place : ℕ) : Type 0 where
  pub place_is : IsPlace d b place
  pub no_tree : (tree : TreeV) → ¬ NMeans d 0 0 [] b tree
