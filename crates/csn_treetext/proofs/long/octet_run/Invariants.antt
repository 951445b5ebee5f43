use Rattle.std.proofs.Common.{◌≤◌, ◌-◌, [], List, None, length}
use Rattle.csn_treetext.specs.declared.bounds.TheConstants.{MOST_OCTETS}
use Rattle.csn_treetext.specs.declared.stack.Frame.{Frame}
use Rattle.csn_treetext.specs.declared.version.Version.TheVariants.{Second}
use Rattle.csn_treetext.specs.reader.Mode.{Octets}
use Rattle.csn_treetext.specs.reader.Machine.{state}
use Rattle.csn_treetext.specs.reader.Reading.{Comes}
use Rattle.csn_treetext.proofs.long.octet_run.Given as goal

abbrev pub invariant-loop-octet : goal.invariant-loop-octet
invariant-loop-octet l =
    (l.from ≤ l.end) × (l.end ≤ length l.text) × (length l.octets.items ≤ MOST_OCTETS)
    × ((stack : List Frame) → Comes Second l.text l.from (state (Octets [] None) stack) → Comes Second l.text l.end (state (Octets l.octets.items None) stack))

abbrev pub decreases-loop-octet : goal.decreases-loop-octet
decreases-loop-octet l = MOST_OCTETS - length l.octets.items
