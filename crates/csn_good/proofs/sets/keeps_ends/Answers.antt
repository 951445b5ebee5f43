use Rattle.std.proofs.Common.{refl, arith}
use Rattle.csn_good.specs.ClaimedSets.{claims_of}
use Rattle.csn_good.proofs.EndsTold.{ends_small}
use Rattle.csn_good.proofs.SetArms.{reached_small, node_ends_small}
use Rattle.csn_good.proofs.sets.keeps_ends.Goals as goal

pub returns : goal.returns
returns c = (
  (λ h o p reached ends.
      let low = reached_small c.args.c.now c.requires.certificate c.args.i o reached in
      c.loop-octet.invariant o p (omega (arith, c.loop-octet-test.false))
      (node_ends_small c.args.desc.now (claims_of c.args.c.now) (ends_small c.args.c.now) low ends) reached ends),
  (λ h. refl),
)
