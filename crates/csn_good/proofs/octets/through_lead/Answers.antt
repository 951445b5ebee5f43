use Rattle.std.proofs.Common.{arith}
use Rattle.csn_good.specs.ClaimedSets.{claims_of}
use Rattle.csn_good.proofs.EndsTold.{ends_small, lead_begin, lead_on, lead_done}
use Rattle.csn_good.proofs.octets.through_lead.Goals as goal

pub loop-at-init : goal.loop-at-init
loop-at-init c = lead_begin (claims_of c.args.c.now) (ends_small c.args.c.now) c.args.parts.now c.args.from.now.has

pub loop-at-preserved : goal.loop-at-preserved
loop-at-preserved c =
    lead_on (claims_of c.args.c.now) (ends_small c.args.c.now) c.args.parts.now c.loop-at.at c.get.result
    c.args.from.now.has c.loop-at.here.has c.loop-at.ends.has c.through-here.result.has c.or-ends.result.has
    c.get.ensures c.through-here.ensures c.or-ends.ensures c.loop-at.invariant

pub returns : goal.returns
returns c =
    lead_done (claims_of c.args.c.now) (ends_small c.args.c.now) c.args.parts.now c.loop-at.at c.args.from.now.has
    c.loop-at.here.has c.loop-at.ends.has (omega (arith, c.loop-at-test.false, c.len-at-end.ensures.len))
    c.loop-at.invariant
