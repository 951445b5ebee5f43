use Rattle.std.proofs.Common.{◌-◌, ◌+◌, arith}
use Rattle.csn_good.specs.ClaimedSets.{claims_of}
use Rattle.csn_good.proofs.EndsTold.{ends_small, times_begin, times_on, times_done}
use Rattle.csn_good.proofs.octets.through_times.Goals as goal

pub loop-turn-init : goal.loop-turn-init
loop-turn-init c = times_begin (claims_of c.args.c.now) (ends_small c.args.c.now) c.args.i c.args.n (c.args.n - 0) c.args.from.now.has (omega arith)

pub loop-turn-preserved : goal.loop-turn-preserved
loop-turn-preserved c =
    times_on (claims_of c.args.c.now) (ends_small c.args.c.now) c.args.i c.args.n (c.args.n - c.loop-turn.turn)
    (c.args.n - (c.loop-turn.turn + 1)) c.args.from.now.has c.loop-turn.here.has c.through-here.result.has
    (omega arith) c.through-here.ensures c.loop-turn.invariant

pub returns : goal.returns
returns c =
    times_done (claims_of c.args.c.now) (ends_small c.args.c.now) c.args.i c.args.n (c.args.n - c.loop-turn.turn)
    c.args.from.now.has c.loop-turn.here.has (omega arith) c.loop-turn.invariant
