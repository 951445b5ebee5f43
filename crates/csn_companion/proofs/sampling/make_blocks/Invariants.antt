use Rattle.std.proofs.Common.{◌≡◌}
use Rattle.csn_io.specs.Faults.{Keeps}
use Rattle.csn_companion.proofs.sampling.make_blocks.Given as goal

abbrev pub invariant-loop : goal.invariant-loop
invariant-loop g l = record {
  unfailed : g.K.Sink.faults l.out ≡ 0;
  out : Keeps (g.K.Sink.steady l.fn.out) (g.K.Sink.steady l.out) (g.K.Sink.faults l.fn.out) (g.K.Sink.faults l.out) ⊥;
}
