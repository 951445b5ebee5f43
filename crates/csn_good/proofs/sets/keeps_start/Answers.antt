use Rattle.std.proofs.Common.{refl, arith}
use Rattle.csn_good.specs.ClaimedSets.{claims_of}
use Rattle.csn_good.proofs.SetArms.{reached_small, starts_small, node_starts_one}
use Rattle.csn_good.proofs.sets.keeps_start.Goals as goal

pub returns : goal.returns
returns c = (
  (λ h o bit reached starts.
      let low = reached_small c.args.c.now c.requires.certificate c.args.i o reached in
      c.loop-octet.invariant o bit (omega (arith, c.loop-octet-test.false))
      (node_starts_one c.args.desc.now (claims_of c.args.c.now) (starts_small c.args.c.now) starts)
      reached starts),
  (λ h. refl),
)
