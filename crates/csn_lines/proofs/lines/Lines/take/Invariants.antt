use Rattle.std.proofs.Common.{◌≡◌, ◌≤◌, ◌+◌, length, List, ℕ}
use Rattle.csn_lines.specs.Work.{Works}
use Rattle.csn_lines.specs.Reading.{AtLine}
use Rattle.csn_lines.proofs.ProgressLemmas.{SoFar}
use Rattle.csn_lines.proofs.lines.Lines.take.Given as goal

abbrev pub invariant-loop-front : goal.invariant-loop-front
invariant-loop-front g l = record {
  so_far : (line : List ℕ) → AtLine (g.C.LineCommand.reads l.fn.command) l.fn.self.given l.fn.self.held line → (here : List ℕ)
      × AtLine (g.C.LineCommand.reads l.command) l.self.given l.self.held here
      × SoFar (Works (g.C.LineCommand.work l.fn.command)) (g.C.LineCommand.kept l.fn.command)
      line l.fn.piece l.rest here l.fn.self.pending.items l.self.pending.items (g.C.LineCommand.kept l.command)
      l.fn.self.refused l.self.refused
      × (length here + length l.rest ≤ length line + length l.fn.piece);
  work : g.C.LineCommand.work l.command ≡ g.C.LineCommand.work l.fn.command;
}

abbrev pub decreases-loop-front : goal.decreases-loop-front
decreases-loop-front g l = length l.rest
