use Rattle.std.proofs.Common.{◌≤◌, ◌+◌, length}
use Rattle.csn_companion.proofs.lines.Lines.take.Given as goal

abbrev pub invariant-loop-front : goal.invariant-loop-front
invariant-loop-front g l = length l.self.line.items + length l.rest ≤ length l.fn.self.line.items + length l.fn.piece

abbrev pub decreases-loop-front : goal.decreases-loop-front
decreases-loop-front g l = length l.rest
