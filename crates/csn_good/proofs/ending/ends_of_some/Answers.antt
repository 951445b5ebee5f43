use Rattle.std.proofs.Common.{arith}
use Rattle.csn_good.specs.ClaimedSets.{claims_of}
use Rattle.csn_good.proofs.EndsTold.{some_begin, some_on, some_done}
use Rattle.csn_good.proofs.ending.ends_of_some.Goals as goal

pub loop-at-init : goal.loop-at-init
loop-at-init c = some_begin (claims_of c.args.c.now) c.args.parts.now c.args.from.now.has c.none-ends.result.has c.none-ends.ensures

pub loop-at-preserved : goal.loop-at-preserved
loop-at-preserved c =
    some_on (claims_of c.args.c.now) c.args.parts.now c.args.from.now.has c.loop-at.at c.get.result c.loop-at.ends.has
    c.through.result.has c.or-ends.result.has
    c.get.ensures c.through.ensures c.or-ends.ensures c.loop-at.invariant

pub returns : goal.returns
returns c =
    some_done (claims_of c.args.c.now) c.args.parts.now c.args.from.now.has c.loop-at.at c.loop-at.ends.has
    (omega (arith, c.loop-at-test.false, c.len-at-end.ensures.len)) c.loop-at.invariant

pub get-requires : goal.get-requires
get-requires c = omega (arith, c.loop-at-test.true, c.len-at-end.ensures.len)

pub through-requires : goal.through-requires
through-requires c = c.requires c.loop-at.at c.get.result c.get.ensures
