use Rattle.std.proofs.Common.{◌≤◌, ◌-◌, [], List, length, take, drop}
use Rattle.csn_treetext.specs.declared.version.Version.{Version}
use Rattle.csn_treetext.specs.declared.stack.Frame.{Frame}
use Rattle.csn_treetext.specs.declared.name.NameAt.TheVariants.{Front}
use Rattle.csn_treetext.specs.reader.Mode.{Name}
use Rattle.csn_treetext.specs.reader.Machine.{state}
use Rattle.csn_treetext.specs.reader.Reading.{Comes}
use Rattle.csn_treetext.proofs.name.name_end.Given as goal

abbrev pub invariant-loop-at : goal.invariant-loop-at
invariant-loop-at l =
    (l.from ≤ l.at) × (l.at ≤ length l.text)
    × ((version : Version) (stack : List Frame) → Comes version l.text l.from (state (Name [] Front) stack)
    → Comes version l.text l.at (state (Name (take (l.at - l.from) (drop l.from l.text)) l.stands) stack))

abbrev pub decreases-loop-at : goal.decreases-loop-at
decreases-loop-at l = length l.text - l.at
