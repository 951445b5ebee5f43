use Rattle.std.proofs.Common.{◌≡◌}
use Rattle.csn_judge.specs.Blocks.{IsFresh}
use Rattle.csn_soak.specs.Generator.{number}
use Rattle.csn_soak.specs.Soaking.{IsSoaked}
use Rattle.csn_soak.proofs.soaking.soak.Given as goal

abbrev pub invariant-loop-k : goal.invariant-loop-k
invariant-loop-k l = record {
  number : l.number ≡ number l.k;
  soaked : IsSoaked l.plan l.fn.entry l.k l.soaked;
  fresh : IsFresh l.judge;
  desc : l.judge.desc ≡ l.plan;
  template : l.template.sample ≡ l.sample;
}
