use Rattle.std.proofs.Common.{◌≡◌, ◌≤◌, ◌<◌, ◌+◌, length}
use Rattle.csn_io.specs.Faults.{Keeps}
use Rattle.csn_lines.specs.declared.lines.TheConstants.{MOST_INPUT}
use Rattle.csn_companion.proofs.lines.Lines.answer_all.Given as goal

abbrev pub invariant-pieces : goal.invariant-pieces
invariant-pieces g l = record {
  unfailed : g.K.Sink.faults l.out ≡ 0;
  room : 0 < l.room;
  fits : length l.self.line.items + l.room ≤ MOST_INPUT + 1;
  input : Keeps (g.S.Source.steady l.fn.input) (g.S.Source.steady l.input) (g.S.Source.faults l.fn.input) (g.S.Source.faults l.input) ⊥;
  out : Keeps (g.K.Sink.steady l.fn.out) (g.K.Sink.steady l.out) (g.K.Sink.faults l.fn.out) (g.K.Sink.faults l.out) ⊥;
}

abbrev pub decreases-pieces : goal.decreases-pieces
decreases-pieces g l = l.room
