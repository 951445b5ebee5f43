use Rattle.std.proofs.Common.{◌≡◌, take, map}
use Rattle.csn_desc.specs.Spelled.{spelled}
use Rattle.csn_good.specs.Patterns.{mark_of}
use Rattle.csn_good.proofs.leaf.literal.Given as goal

abbrev pub invariant-loop-at : goal.invariant-loop-at
invariant-loop-at l =
    (l.pattern.marks ≡ take l.at (map mark_of (spelled l.run l.octet))) × (l.pattern.whole ≡ l.initial.pattern.whole)
