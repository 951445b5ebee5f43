-- What a judge stands for, between two pieces of a block. (This project's own choice.)
use Rattle.std.specs.Prelude.{◌≡◌, ℕ, suc, ◌+◌, ◌<◌, ◌≤◌, false, List, [], ◌++◌, length, Option, Some, None}
use Rattle.csn_desc.specs.declared.moves.Move.{Move}
use Rattle.csn_desc.specs.Nodes.{DescV}
use Rattle.csn_desc.specs.TreeV.{TreeV}
use Rattle.csn_desc.specs.Means.{NMeans}
use Rattle.csn_desc.specs.Follows.{NFollow, IsPlace}
use Rattle.csn_judge.specs.declared.judge.Judge.TheInside.{Inside}
use Rattle.csn_judge.specs.declared.verdict.Verdict.{Verdict}
use Rattle.csn_judge.specs.declared.verdict.Verdict.TheVariants.{Going, Refused}
use Rattle.csn_judge.specs.declared.verdict.Judged.{Judged}
use Rattle.csn_judge.specs.declared.verdict.Judged.TheVariants.{Ok, Refused as no_string}
use Rattle.csn_bits.specs.Numbers.{low_bits}
use Rattle.csn_judge.specs.Coming.{Coming}
use Rattle.csn_judge.specs.Credit.{credit_of}
use Rattle.csn_judge.specs.Left.{Left}
use Rattle.csn_judge.specs.Remains.{Rest, Goes, IsBlock, StandsFor}
use Rattle.csn_judge.specs.Turns.{StateV, state_of, Stands, StandsSomewhere, around_of}

-- the description, where its nodes have been gone through, the bits that are held with their places, how many bits
-- have come, and where they were refused, if they were
pub record JudgeV : Type 0 where
  pub desc : DescV
  pub state : StateV
  pub seen : ℕ
  pub refused : Option ℕ

abbrev pub held_of : Inside → Coming
held_of j =
    record {
      bits = low_bits j.held.count j.held.number;
      held = j.held.count;
      place = j.place;
      limit = j.limit;
      ended = false;
    }

abbrev pub judge_of : Inside → JudgeV
judge_of j =
    record { desc = j.machine.plan.now; state = state_of j.machine (held_of j); seen = j.seen; refused = j.refused }

pub record IsJudge (j : Inside) : Type 0 where
  pub few : j.held.count < 12
  pub small : j.seen ≤ 524288
  pub seen_is : j.refused ≡ None → j.seen ≡ j.place + j.held.count
  pub inside : j.place ≤ j.limit
  pub stands : j.refused ≡ None → StandsSomewhere j.machine.plan.now (state_of j.machine (held_of j))

-- the judge has read the first of these bits by these moves, holds the others, and all of them can be followed; or
-- they are refused
pub data JudgesFor (j : JudgeV) (b : List ℕ) (made : List Move) : Type 0 where
  judges_on :
      (stack : List Left) (done : List ℕ)
      → j.refused ≡ None → j.seen ≡ length b → b ≡ done ++ j.state.coming.bits
      → Stands j.desc j.state stack done → StandsFor j.desc stack done j.state.coming.bits made
      → Goes j.desc stack done j.state.coming.bits
      → (0 < length j.state.coming.bits → (rest : List Move) → ¬ Rest j.desc stack done j.state.coming.bits rest)
      → JudgesFor j b made
  judges_no_more :
      (place : ℕ) → j.refused ≡ Some place → IsPlace j.desc b place → place < length b → JudgesFor j b made

-- the nodes that are open, the innermost first
abbrev pub opened : JudgeV → List ℕ
opened j = around_of j.state.frames

-- the steps that are paid for by the bits so far and not taken yet; none are taken behind a refusal
abbrev pub while_going : Option ℕ → ℕ → ℕ
while_going None n = n
while_going (Some place) n = 0

abbrev pub credit : JudgeV → ℕ
credit j = while_going j.refused (suc (credit_of (length j.desc.nodes) j.state.frames j.state.pace (length j.state.coming.bits)))

abbrev pub refusal_of : Verdict → Option ℕ
refusal_of Going = None
refusal_of (Refused place) = Some place

-- some moves are told, up to some open nodes
abbrev pub SomeTold : (List ℕ → List Move → Type 0) → Type 0
SomeTold are_told = (around : List ℕ) × (made : List Move) × are_told around made

-- behind some more bits, which can be followed: the judge stands for all of them, by some more moves, which are told
-- up to the nodes that are open then
pub record IsFollowed (are_told : List ℕ → List Move → Type 0) (old new : JudgeV) (b more : List ℕ) (moves : List Move) : Type 0 where
  pub made : List Move
  pub judges : JudgesFor new (b ++ more) (moves ++ made)
  pub followed : NFollow old.desc 0 0 [] (b ++ more)
  pub told : are_told (opened new) made

-- behind some more bits, which cannot be followed: the place is that of all of them, before their end. Where nothing
-- was refused before, it lies in the bits that came last, and some moves are told
pub record IsRefused (are_told : List ℕ → List Move → Type 0) (old : JudgeV) (b more : List ℕ) (place : ℕ) : Type 0 where
  pub place_is : IsPlace old.desc (b ++ more) place
  pub before_end : place < length (b ++ more)
  pub not_followed : ¬ NFollow old.desc 0 0 [] (b ++ more)
  pub in_piece : old.refused ≡ None → length b ≤ place
  pub told : old.refused ≡ None → SomeTold are_told

-- what is known behind some more bits, for all bits and moves that the judge stood for
abbrev pub Judges : (List ℕ → List Move → Type 0) → (old new : JudgeV) (more : List ℕ) → Verdict → Type 0
Judges are_told old new more Going = (b : List ℕ) (moves : List Move) → JudgesFor old b moves → IsFollowed are_told old new b more moves
Judges are_told old new more (Refused place) = (b : List ℕ) (moves : List Move) → JudgesFor old b moves → IsRefused are_told old b more place

-- at the end of a block whose bits are a string: the moves are those of its tree, and are told to the last
pub record IsString (are_told : List ℕ → List Move → Type 0) (j : JudgeV) (b : List ℕ) (moves : List Move) : Type 0 where
  pub made : List Move
  pub block : IsBlock j.desc b (moves ++ made)
  pub told : are_told [] made

-- at the end of a block whose bits have no tree: the place is theirs. Where nothing was refused before, some moves are
-- told
pub record IsNoString (are_told : List ℕ → List Move → Type 0) (j : JudgeV) (b : List ℕ) (place : ℕ) : Type 0 where
  pub place_is : IsPlace j.desc b place
  pub no_tree : (tree : TreeV) → ¬ NMeans j.desc 0 0 [] b tree
  pub told : j.refused ≡ None → SomeTold are_told

-- what is known at the end of a block, for all bits and moves that the judge stood for
abbrev pub Ends : (List ℕ → List Move → Type 0) → JudgeV → Judged → Type 0
Ends are_told j Ok = (b : List ℕ) (moves : List Move) → JudgesFor j b moves → IsString are_told j b moves
Ends are_told j (no_string place) = (b : List ℕ) (moves : List Move) → JudgesFor j b moves → IsNoString are_told j b place
