use Rattle.std.proofs.Common.{arith}
use Rattle.csn_good.specs.ClaimedSets.{claims_of}
use Rattle.csn_good.proofs.EndsTold.{ends_small, parts_begin, parts_on, parts_done}
use Rattle.csn_good.proofs.octets.through_parts.Goals as goal

pub loop-at-init : goal.loop-at-init
loop-at-init c = parts_begin (claims_of c.args.c.now) (ends_small c.args.c.now) c.args.parts.now c.args.from.now.has

pub loop-at-preserved : goal.loop-at-preserved
loop-at-preserved c =
    parts_on (claims_of c.args.c.now) (ends_small c.args.c.now) c.args.parts.now c.loop-at.at c.get.result
    c.args.from.now.has c.loop-at.here.has c.through-here.result.has c.get.ensures c.through-here.ensures
    c.loop-at.invariant

pub returns : goal.returns
returns c =
    parts_done (claims_of c.args.c.now) (ends_small c.args.c.now) c.args.parts.now c.loop-at.at c.args.from.now.has
    c.loop-at.here.has (omega (arith, c.loop-at-test.false, c.len-at-end.ensures.len)) c.loop-at.invariant
