use Rattle.std.proofs.Common.{◌≤◌, ◌-◌, [], List, length}
use Rattle.csn_bits.specs.declared.bits.TheConstants.{MOST_BITS}
use Rattle.csn_treetext.specs.declared.stack.Frame.{Frame}
use Rattle.csn_treetext.specs.declared.version.Version.TheVariants.{First}
use Rattle.csn_treetext.specs.reader.Mode.{Bare}
use Rattle.csn_treetext.specs.reader.Machine.{state}
use Rattle.csn_treetext.specs.reader.Reading.{Comes}
use Rattle.csn_treetext.proofs.long.bit_run.Given as goal

abbrev pub invariant-loop-bit : goal.invariant-loop-bit
invariant-loop-bit l =
    (l.from ≤ l.end) × (l.end ≤ length l.text)
    × ((stack : List Frame) → Comes First l.text l.from (state (Bare []) stack) → Comes First l.text l.end (state (Bare l.bits) stack))

abbrev pub decreases-loop-bit : goal.decreases-loop-bit
decreases-loop-bit l = MOST_BITS - length l.bits
