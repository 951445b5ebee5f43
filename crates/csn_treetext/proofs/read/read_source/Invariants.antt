use Rattle.std.proofs.Common.{◌≤◌, ◌-◌, length}
use Rattle.csn_treetext.specs.reader.Machine.{state}
use Rattle.csn_treetext.specs.reader.Reading.{HasRoomFor, Stands, mode_of}
use Rattle.csn_treetext.proofs.read.read_source.Given as goal

abbrev pub invariant-loop-at : goal.invariant-loop-at
invariant-loop-at l = (l.at ≤ length l.source.text.now)
    × HasRoomFor l.next l.stack × Stands l.source.version l.source.text.now l.at (state (mode_of l.next) l.stack)

abbrev pub decreases-loop-at : goal.decreases-loop-at
decreases-loop-at l = length l.source.text.now - l.at
