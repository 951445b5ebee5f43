-- Two judges of one block, of which one goes ahead: the moves of the other are told for bits alone that can be followed.
-- (This project's own choice.)
use Rattle.std.specs.Prelude.{◌≡◌, ℕ, ◌+◌, ◌-◌, ◌<◌, ◌≤◌, List, [], ◌++◌, length, take, min, Option, Some, None}
use Rattle.csn_desc.specs.declared.moves.Move.{Move}
use Rattle.csn_desc.specs.Nodes.{DescV}
use Rattle.csn_desc.specs.Follows.{NFollow, IsPlace}
use Rattle.csn_judge.specs.declared.verdict.Verdict.{Verdict}
use Rattle.csn_judge.specs.declared.verdict.Verdict.TheVariants.{Going, Refused}
use Rattle.csn_judge.specs.declared.verdict.Judged.{Judged}
use Rattle.csn_judge.specs.declared.verdict.Judged.TheVariants.{Ok, Refused as no_string}
use Rattle.csn_judge.specs.Remains.{IsBlock}
use Rattle.csn_judge.specs.Judging.{JudgeV, JudgesFor, opened}
use Rattle.csn_judge.specs.Judging as judging
use Rattle.csn_judge.specs.Following.{IsNoString}
use Rattle.csn_fields.specs.declared.follower.Follower.TheInside.{Inside}

-- the description, how many bits have come, where they were refused, if they were, and the two judges
pub record FollowerV : Type 0 where
  pub desc : DescV
  pub seen : ℕ
  pub refused : Option ℕ
  pub ahead : JudgeV
  pub judge : JudgeV

abbrev pub stands : JudgeV → JudgeV → FollowerV
stands ahead judge = record { desc = ahead.desc; seen = ahead.seen; refused = ahead.refused; ahead = ahead; judge = judge }

abbrev pub follower_of : Inside → FollowerV
follower_of f = stands f.ahead f.judge

pub record IsFollower (f : Inside) : Type 0 where
  pub same_desc : f.judge.desc ≡ f.ahead.desc
  pub refused_is : f.refused ≡ f.ahead.refused
  pub behind : f.judge.seen ≤ f.ahead.seen
  pub few : f.ahead.seen ≤ 524288

-- the steps that are paid for by the bits so far and not taken yet: those of both judges
abbrev pub credit : FollowerV → ℕ
credit f = judging.credit f.ahead + judging.credit f.judge

-- how many bits of a piece are told, where so many had come before it
abbrev pub told_of : Option ℕ → ℕ → ℕ → Verdict → ℕ
told_of (Some place) before bits says = 0
told_of None before bits Going = bits
told_of None before bits (Refused place) = min (place - before) bits

-- the bits of a block that can be followed
abbrev pub front_of : Option ℕ → List ℕ → List ℕ
front_of None b = b
front_of (Some place) b = take place b

-- these bits have come, and these are the moves for those that can be followed
pub record FollowsFor (f : FollowerV) (b : List ℕ) (moves : List Move) : Type 0 where
  pub same_desc : f.judge.desc ≡ f.desc
  pub ahead_moves : List Move
  pub ahead : JudgesFor f.ahead b ahead_moves
  pub going : f.judge.refused ≡ None
  pub judge : JudgesFor f.judge (front_of f.refused b) moves

-- behind some more bits: some more moves, which are told up to the nodes that are open then
pub record FollowsOn (are_told : List ℕ → List Move → Type 0) (new : FollowerV) (b : List ℕ) (moves : List Move) : Type 0 where
  pub made : List Move
  pub follows : FollowsFor new b (moves ++ made)
  pub told : are_told (opened new.judge) made

-- what the answer says of all bits so far
abbrev pub Says : DescV → List ℕ → Verdict → Type 0
Says d b Going = NFollow d 0 0 [] b
Says d b (Refused place) = IsPlace d b place × (place < length b)

-- at the end of a block: where it is a string, its moves are told to the last; else it has a place, and the moves are those
-- of the bits before it
pub record IsTold (are_told : List ℕ → List Move → Type 0) (f : FollowerV) (b : List ℕ) (moves : List Move) : Type 0 where
  pub made : List Move
  pub few : length b ≤ 524288
  pub block : IsBlock f.desc b (moves ++ made)
  pub told : are_told [] made

pub record IsRefusedAt (f : FollowerV) (b : List ℕ) (moves : List Move) (place : ℕ) : Type 0 where
  pub no_string : IsNoString f.desc b place
  pub judge : JudgesFor f.judge (take place b) moves

abbrev pub Ends : (List ℕ → List Move → Type 0) → FollowerV → List ℕ → List Move → Judged → Type 0
Ends are_told f b moves Ok = IsTold are_told f b moves
Ends are_told f b moves (no_string place) = IsRefusedAt f b moves place
