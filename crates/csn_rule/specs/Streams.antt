-- A block that comes in pieces. (This project's own choice.)
use Rattle.std.specs.Prelude.{◌≡◌, ℕ, List, [], Option, Some, None}
use Rattle.csn_desc.specs.declared.moves.Move.{Move}
use Rattle.csn_desc.specs.Nodes.{DescV}
use Rattle.csn_judge.specs.Judging.{JudgeV, JudgesFor}
use Rattle.csn_judge.specs.Paused.{PausedV, GoesBy, judge_by}

-- the description, and the judge that was put aside behind a piece
pub record StreamV : Type 0 where
  pub desc : DescV
  pub block : Option PausedV

-- no bits have come
abbrev pub at_begin : DescV → StreamV
at_begin d = record { desc = d; block = None }

-- the judge may go on by the description
abbrev pub GoesOn : DescV → Option PausedV → Type 0
GoesOn d None = Unit {0}
GoesOn d (Some paused) = GoesBy d paused

-- how many bits have come
abbrev pub seen_by : Option PausedV → ℕ
seen_by None = 0
seen_by (Some paused) = paused.seen

abbrev pub seen_of : StreamV → ℕ
seen_of s = seen_by s.block

-- a judge stands for these bits
abbrev pub JudgesOn : JudgeV → List ℕ → Type 0
JudgesOn judge b = (moves : List Move) × JudgesFor judge b moves

-- these bits have come
abbrev pub ComeBy : DescV → Option PausedV → List ℕ → Type 0
ComeBy d None b = b ≡ []
ComeBy d (Some paused) b = JudgesOn (judge_by d paused) b

abbrev pub HasCome : StreamV → List ℕ → Type 0
HasCome s b = ComeBy s.desc s.block b
