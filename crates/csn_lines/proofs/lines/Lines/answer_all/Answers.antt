use Rattle.std.proofs.Common.{◌≡◌, ◌-◌, ◌⊎◌, [], arith, sym, subst, ◌∙◌}
use Rattle.std.proofs.lemmas.List.{append-nil, length-take, length-take-le}
use Rattle.std.proofs.lemmas.Result.{err_from_is_err_and}
use Rattle.csn_lines.specs.declared.fault.Fault.TheVariants.{Write, Memory}
use Rattle.csn_lines.specs.Work.{Works}
use Rattle.csn_lines.specs.Progress.{Stops}
use Rattle.csn_lines.proofs.OutsideLemmas.{last_byte, keeps_then, keeps_quiet}
use Rattle.csn_lines.proofs.StandingLemmas.{stops_halted, stops_read, stops_last, answers_last, standing_more, stops_too_long}
use Rattle.csn_lines.proofs.lines.Lines.answer_all.Goals as goal

pub returns-in_err-pass_piece-in-Bytes-clause-err : goal.returns-in_err-pass_piece-in-Bytes-clause-err
returns-in_err-pass_piece-in-Bytes-clause-err g c =
    let p = err_from_is_err_and c.from_residual.result c.from_residual.ensures.1 in
    let past = last_byte c.in-Bytes.n c.take_piece.new.buffer c.in-Bytes.ensures.at_least_one c.in-Bytes.ensures.within in
    rw p.1 (stops_halted _ _ _ _ _ _ _ _ _ _ _ _ _ _ _ _ c.pieces.invariant.standing c.in-Bytes.ensures.gave past.1
    (omega (
      arith,
      length-take (c.in-Bytes.n - 1) c.take_piece.new.buffer,
      c.in-Bytes.ensures.within,
      c.in-Bytes.ensures.at_least_one,
      c.if-n-room.true,
    ))
    (omega (arith, length-take c.in-Bytes.n c.take_piece.new.buffer, c.in-Bytes.ensures.room))
    (omega (arith, length-take c.in-Bytes.n c.take_piece.new.buffer, c.in-Bytes.ensures.piece))
    (rw c.pieces.invariant.work at c.in_err-pass_piece-in-Bytes.ensures.err c.pieces.invariant.line
    c.pieces.invariant.at_line) (subst (λ f. (f ≡ Write) ⊎ (f ≡ Memory)) (sym p.2)
    c.in_err-pass_piece-in-Bytes.ensures.causes))

pub returns-in-Bytes-clause-err : goal.returns-in-Bytes-clause-err
returns-in-Bytes-clause-err g c =
    let past = last_byte c.in-Bytes.n c.take_piece.new.buffer c.in-Bytes.ensures.at_least_one c.in-Bytes.ensures.within in
    let passed = rw c.pieces.invariant.work at c.in_ok-pass_piece-in-Bytes.ensures.ok c.pieces.invariant.line c.pieces.invariant.at_line in
    stops_too_long _ _ _ _ _ _ _ _ _ _ _ _ _ _ _ _ _ c.pieces.invariant.standing c.in-Bytes.ensures.gave past.1
    (omega (
      arith,
      length-take (c.in-Bytes.n - 1) c.take_piece.new.buffer,
      c.in-Bytes.ensures.within,
      c.in-Bytes.ensures.at_least_one,
      c.if-n-room.true,
    )) past.2
    (omega (arith, length-take c.in-Bytes.n c.take_piece.new.buffer, c.in-Bytes.ensures.piece))
    passed.2 c.in_ok-pass_piece-in-Bytes.ensures.pending

pub returns-in_err-pass_piece-in-Bytes-2-clause-err : goal.returns-in_err-pass_piece-in-Bytes-2-clause-err
returns-in_err-pass_piece-in-Bytes-2-clause-err g c =
    let p = err_from_is_err_and c.from_residual-in_err-pass_piece-in-Bytes-2.result c.from_residual-in_err-pass_piece-in-Bytes-2.ensures.1 in
    rw p.1 (stops_halted _ _ _ _ _ _ _ _ _ _ _ _ _ [] _ _ c.pieces.invariant.standing c.in-Bytes.ensures.gave
    (sym (append-nil _))
    (omega (arith, length-take c.in-Bytes.n c.take_piece.new.buffer, c.in-Bytes.ensures.room, c.if-n-room.false))
    (omega (arith, length-take c.in-Bytes.n c.take_piece.new.buffer, c.in-Bytes.ensures.room))
    (omega (arith, length-take c.in-Bytes.n c.take_piece.new.buffer, c.in-Bytes.ensures.piece))
    (rw c.pieces.invariant.work at c.in_err-pass_piece-in-Bytes-2.ensures.err c.pieces.invariant.line
    c.pieces.invariant.at_line) (subst (λ f. (f ≡ Write) ⊎ (f ≡ Memory)) (sym p.2)
    c.in_err-pass_piece-in-Bytes-2.ensures.causes))

pub pieces-preserved : goal.pieces-preserved
pieces-preserved g c =
    let passed = rw c.pieces.invariant.work at c.in_ok-pass_piece-in-Bytes-2.ensures.ok c.pieces.invariant.line c.pieces.invariant.at_line in
    record {
      line = passed.0;
      at_line = passed.1;
      standing = standing_more _ _ _ _ _ _ _ _ _ _ _ _ _ _ _ _ c.pieces.invariant.standing c.in-Bytes.ensures.gave
          (length-take-le _ _ c.in-Bytes.ensures.within) (omega (arith, c.in-Bytes.ensures.room, c.if-n-room.false))
          passed.2 c.in_ok-pass_piece-in-Bytes-2.ensures.pending passed.3;
      work = c.in_ok-pass_piece-in-Bytes-2.ensures.work ∙ c.pieces.invariant.work;
      input = keeps_then c.pieces.invariant.input (keeps_quiet (λ e. cc) c.take_piece.ensures.outside);
      out = keeps_then c.pieces.invariant.out (keeps_quiet (λ e. cc) c.in_ok-pass_piece-in-Bytes-2.ensures.out);
      unfailed = c.in_ok-pass_piece-in-Bytes-2.ensures.out.2 (λ e. cc) ∙ c.pieces.invariant.unfailed;
    }

pub returns-in_err-end_input-in-End-clause-err : goal.returns-in_err-end_input-in-End-clause-err
returns-in_err-end_input-in-End-clause-err g c =
    let p = err_from_is_err_and c.from_residual-in_err-end_input-in-End.result c.from_residual-in_err-end_input-in-End.ensures.1 in
    rw p.1 (subst (λ f. Stops (Works (g.C.LineCommand.work c.args.command.now))
    (g.C.LineCommand.kept c.args.command.now) f (g.S.Source.left c.args.input.now)
    (g.S.Source.left c.take_piece.new.input) (g.K.Sink.taken c.args.out.now) (g.K.Sink.taken c.pieces.out)
    c.end_input.new.self.pending.items) (sym p.2)
    (stops_last _ _ _ _ _ _ _ _ _ _ _ c.pieces.invariant.standing c.in-End.ensures.left_stays
    c.in_err-end_input-in-End.ensures.err))

pub returns-in-End-clause-ok : goal.returns-in-End-clause-ok
returns-in-End-clause-ok g c =
    answers_last _ _ _ _ _ _ _ _ _ _ _ _ _ c.pieces.invariant.standing c.in-End.ensures.end
    c.in-End.ensures.left_stays
    (rw c.pieces.invariant.work at c.in_ok-end_input-in-End.ensures.ok c.pieces.invariant.line
    c.pieces.invariant.at_line)

pub returns-in-Failed-clause-err : goal.returns-in-Failed-clause-err
returns-in-Failed-clause-err g c = stops_read _ _ _ _ _ _ _ _ _ _ c.pieces.invariant.standing c.in-Failed.ensures.left_stays
