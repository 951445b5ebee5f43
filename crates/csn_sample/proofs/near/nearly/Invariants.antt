use Rattle.std.specs.Prelude.{All}
use Rattle.csn_sample.specs.Nearly.{IsNear}
use Rattle.csn_sample.proofs.near.nearly.Given as goal

abbrev pub invariant-loop-spot : goal.invariant-loop-spot
invariant-loop-spot g l = All (IsNear l.plan l.block) l.told.items

abbrev pub invariant-loop-bit : goal.invariant-loop-bit
invariant-loop-bit g l = All (IsNear l.plan l.block) l.told.items
