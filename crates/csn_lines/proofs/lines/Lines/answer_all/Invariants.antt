use Rattle.std.proofs.Common.{◌≡◌, List, ℕ}
use Rattle.csn_lines.specs.Work.{Works}
use Rattle.csn_lines.proofs.ProgressLemmas.{Standing}
use Rattle.csn_io.specs.Faults.{Keeps}
use Rattle.csn_lines.specs.Reading.{AtLine}
use Rattle.csn_lines.proofs.lines.Lines.answer_all.Given as goal

abbrev pub invariant-pieces : goal.invariant-pieces
invariant-pieces g l = record {
  line : List ℕ;
  at_line : AtLine (g.C.LineCommand.reads l.command) l.self.given l.self.held line;
  standing : Standing (Works (g.C.LineCommand.work l.fn.command)) (g.C.LineCommand.kept l.fn.command)
      (g.S.Source.left l.fn.input) (g.S.Source.left l.input) (g.K.Sink.taken l.fn.out) (g.K.Sink.taken l.out)
      line l.self.pending.items (g.C.LineCommand.kept l.command) l.self.refused l.room;
  work : g.C.LineCommand.work l.command ≡ g.C.LineCommand.work l.fn.command;
  input : Keeps (g.S.Source.steady l.fn.input) (g.S.Source.steady l.input) (g.S.Source.faults l.fn.input) (g.S.Source.faults l.input) ⊥;
  out : Keeps (g.K.Sink.steady l.fn.out) (g.K.Sink.steady l.out) (g.K.Sink.faults l.fn.out) (g.K.Sink.faults l.out) ⊥;
  unfailed : g.K.Sink.faults l.out ≡ 0;
}

abbrev pub decreases-pieces : goal.decreases-pieces
decreases-pieces g l = l.room
