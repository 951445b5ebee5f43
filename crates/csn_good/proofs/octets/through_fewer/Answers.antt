use Rattle.std.proofs.Common.{◌-◌, ◌+◌, arith}
use Rattle.csn_good.specs.ClaimedSets.{claims_of}
use Rattle.csn_good.proofs.EndsTold.{ends_small, fewer_begin, fewer_on, fewer_done}
use Rattle.csn_good.proofs.octets.through_fewer.Goals as goal

pub loop-turn-init : goal.loop-turn-init
loop-turn-init c = fewer_begin (claims_of c.args.c.now) (ends_small c.args.c.now) c.args.i c.args.n (c.args.n - 0)
    c.args.from.now.has c.none-ends.result.has (omega arith) c.none-ends.ensures

pub loop-turn-preserved : goal.loop-turn-preserved
loop-turn-preserved c =
    fewer_on (claims_of c.args.c.now) (ends_small c.args.c.now) c.args.i c.args.n (c.args.n - c.loop-turn.turn)
    (c.args.n - (c.loop-turn.turn + 1)) c.args.from.now.has c.loop-turn.here.has c.loop-turn.ends.has
    c.through-here.result.has c.or-ends.result.has (omega arith) c.through-here.ensures c.or-ends.ensures
    c.loop-turn.invariant

pub returns : goal.returns
returns c =
    fewer_done (claims_of c.args.c.now) (ends_small c.args.c.now) c.args.i c.args.n (c.args.n - c.loop-turn.turn)
    c.args.from.now.has c.loop-turn.here.has c.loop-turn.ends.has (omega arith) c.loop-turn.invariant
