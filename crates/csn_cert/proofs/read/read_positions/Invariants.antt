use Rattle.std.proofs.Common.{length}
use Rattle.csn_cert.proofs.Nodes.{PositionsRead}
use Rattle.csn_cert.proofs.read.read_positions.Given as goal

abbrev pub invariant-positions : goal.invariant-positions
invariant-positions l = PositionsRead l.fn.text l.positions.items l.text

abbrev pub decreases-positions : goal.decreases-positions
decreases-positions l = length l.text
