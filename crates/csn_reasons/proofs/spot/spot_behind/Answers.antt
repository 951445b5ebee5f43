use Rattle.std.proofs.Common.{arith}
use Rattle.csn_reasons.proofs.Spotted.{column_grows, line_grows, one_more_of}
use Rattle.csn_reasons.proofs.spot.spot_behind.Goals as goal

pub loop-byte-preserved : goal.loop-byte-preserved
loop-byte-preserved c =
    let so_far = c.loop-byte.invariant in
    let next = c.behind-spot.ensures in
    record {
      line = (let more = line_grows _ _ _ _ _ next in omega (arith, so_far.line, more));
      column = (let more = column_grows _ _ _ _ _ next in omega (arith, so_far.column, more));
      spot = one_more_of c.args.bytes.now c.loop-byte.byte-index _ _ _ _ (omega (arith, c.loop-byte-test.true)) so_far.spot next;
    }
