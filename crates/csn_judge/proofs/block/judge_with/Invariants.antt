use Rattle.std.proofs.Common.{◌≡◌, ◌≤◌, List, take}
use Rattle.csn_desc.specs.declared.moves.Move.{Move}
use Rattle.csn_judge.specs.Judging.{JudgesFor}
use Rattle.csn_judge.specs.Blocks.{bits_in, bits_of}
use Rattle.csn_judge.proofs.block.judge_with.Given as goal

abbrev pub invariant-loop-piece : goal.invariant-loop-piece
invariant-loop-piece g l = record {
  judges : (moves : List Move) × JudgesFor l.judge (bits_of (take l.piece-index l.pieces)) moves;
  desc : l.judge.desc ≡ l.fn.judge.desc;
  seen : l.judge.seen ≤ bits_in (take l.piece-index l.pieces);
}
