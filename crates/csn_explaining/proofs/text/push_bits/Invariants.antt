use Rattle.std.proofs.Common.{◌≡◌, ◌-◌, ◌≤◌, ◌++◌, take, drop}
use Rattle.csn_explaining.specs.LeafLine.{digits_of}
use Rattle.csn_explaining.proofs.text.push_bits.Given as goal

-- the first digits are written
abbrev pub invariant-loop-at : goal.invariant-loop-at
invariant-loop-at l =
    (l.out.items ≡ l.fn.out.items ++ digits_of (take (l.at - l.place) (drop l.place l.block)))
    × (l.place ≤ l.at) × (l.place ≤ l.end → l.at ≤ l.end)

abbrev pub decreases-loop-at : goal.decreases-loop-at
decreases-loop-at l = l.end - l.at
