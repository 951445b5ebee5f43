use Rattle.std.proofs.Common.{◌≡◌, ◌+◌, ◌*◌, ◌≤◌, length}
use Rattle.std.specs.Prelude.{All}
use Rattle.csn_sample.specs.Samples.{work}
use Rattle.csn_sample.specs.Covering.{AreMet, HasMarks, IsExample}
use Rattle.csn_sample.proofs.covering.found.Given as goal

abbrev pub invariant-loop-turn : goal.invariant-loop-turn
invariant-loop-turn g l = record {
  desc : l.sampler ≡ l.plan;
  many : HasMarks l.plan l.marks;
  marks : AreMet l.plan l.told.items l.marks;
  blocks : All (IsExample l.plan l.most) l.told.items;
  steps : l.steps ≤ l.fn.steps + 3 * length l.plan.nodes + l.turn * (work (length l.plan.nodes) l.most + 2 * length l.plan.nodes);
}
