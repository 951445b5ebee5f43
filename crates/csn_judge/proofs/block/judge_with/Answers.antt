use Rattle.std.proofs.Common.{◌≡◌, ℕ, suc, ◌+◌, ◌≤◌, List, [], take, refl, sym, subst, ◌∙◌, arith, take_all}
use Rattle.csn_desc.specs.declared.moves.Move.{Move}
use Rattle.csn_judge.specs.Judging.{JudgeV, JudgesFor}
use Rattle.csn_judge.specs.declared.block.Piece.{Piece}
use Rattle.csn_judge.specs.Blocks.{bits_of, bits_in, IsJudged}
use Rattle.csn_judge.proofs.Pieces.{bits_with, count_with, few_with, within_at, fed, seen_with, judged}
use Rattle.csn_judge.proofs.block.judge_with.Goals as goal

abbrev no_piece : Piece
no_piece = record { octets = record { ref_ptr = (0, 0); now = [] }; bits = 0 }

pub loop-piece-init : goal.loop-piece-init
loop-piece-init g c = record { judges = ([], c.requires.fresh.0); desc = refl; seen = omega (arith, c.requires.fresh.1) }

pub feed-verdict-requires-clause-within : goal.feed-verdict-requires-clause-within
feed-verdict-requires-clause-within g c = within_at c.args.pieces.now c.loop-piece.piece-index _ c.requires.block.0 c.loop-piece-test.true

pub feed-verdict-requires-clause-few : goal.feed-verdict-requires-clause-few
feed-verdict-requires-clause-few g c =
    omega (arith, few_with c.args.pieces.now c.loop-piece.piece-index no_piece c.loop-piece-test.true, c.loop-piece.invariant.seen, c.requires.block.1)

pub loop-piece-preserved : goal.loop-piece-preserved
loop-piece-preserved g c =
    let pieces : List Piece = c.args.pieces.now in
    let i : ℕ = c.loop-piece.piece-index in
    let old : JudgeV = c.loop-piece.judge in
    let new : JudgeV = c.feed-verdict.new.self in
    let told = c.feed-verdict.ensures in
    let stood = c.loop-piece.invariant in
    let next : suc i ≡ i + 1 = omega arith in
    let P : List ℕ → Type 0 = λ b. (moves : List Move) × JudgesFor new b moves in
    let Q : ℕ → Type 0 = λ n. P (bits_of (take n pieces)) in
    let R : ℕ → Type 0 = λ n. new.seen ≤ bits_in (take n pieces) in
    record {
      judges = subst Q next (subst P (sym (bits_with pieces i no_piece c.loop-piece-test.true))
          (fed old new _ c.feed-verdict.result told.judges told.refused told.desc (bits_of (take i pieces)) stood.judges));
      desc = told.desc ∙ stood.desc;
      seen = subst R next (omega (
        arith,
        count_with pieces i no_piece c.loop-piece-test.true,
        seen_with old new _ (bits_in (take i pieces)) old.refused refl told.seen told.stays stood.seen,
      ));
    }

pub returns-clause-judged : goal.returns-clause-judged
returns-clause-judged g c =
    let pieces : List Piece = c.args.pieces.now in
    let P : List Piece → Type 0 = λ ps. IsJudged c.args.judge.now.desc (bits_of ps) c.next_block.result in
    let whole : take c.loop-piece.piece-index pieces ≡ pieces = take_all c.loop-piece.piece-index pieces (omega (arith, c.loop-piece-test.false)) in
    subst P whole (judged c.loop-piece.judge c.args.judge.now.desc (bits_of (take c.loop-piece.piece-index pieces)) c.next_block.result
    c.loop-piece.invariant.desc c.next_block.ensures.ends c.loop-piece.invariant.judges)
