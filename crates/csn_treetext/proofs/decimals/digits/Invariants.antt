use Rattle.std.proofs.Common.{◌≤◌, ◌-◌, length}
use Rattle.csn_treetext.specs.reader.Reading.{LeadsTo}
use Rattle.csn_treetext.proofs.decimals.digits.Given as goal

abbrev pub invariant-loop-at : goal.invariant-loop-at
invariant-loop-at l = (l.from ≤ l.at) × (l.at ≤ length l.text) × (l.number ≤ l.most) × (l.first ≤ l.number)
    × LeadsTo l.most l.text l.from l.first l.at l.number

abbrev pub decreases-loop-at : goal.decreases-loop-at
decreases-loop-at l = length l.text - l.at
