use Rattle.std.proofs.Common.{◌≡◌, ◌≤◌}
use Rattle.std.specs.Prelude.{Contains, IfSome}
use Rattle.csn_sample.proofs.drawn.Drawn.alternative.Given as goal

abbrev pub invariant-loop-at : goal.invariant-loop-at
invariant-loop-at l = record {
  among : l.among ≤ l.at;
  one : IfSome l.drawn (Contains l.parts);
  kept : l.self.bits.items ≡ l.fn.self.bits.items;
}
