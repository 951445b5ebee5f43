use Rattle.std.proofs.Common.{arith}
use Rattle.csn_certify.specs.Overlaps.{Meets}
use Rattle.csn_certify.proofs.SearchFacts.{denied}
use Rattle.csn_certify.proofs.KeyOrder.{meeting_found, meeting_more, meeting_end}
use Rattle.csn_certify.proofs.overlaps.first_meeting.Goals as goal

pub returns-then-touches : goal.returns-then-touches
returns-then-touches c = meeting_found c.args.table.now c.args.keys.now c.loop-at.at c.get.result.now c.get.ensures
    (c.touches.ensures.0 c.if-touches.true) c.loop-at.invariant

pub loop-at-preserved : goal.loop-at-preserved
loop-at-preserved c =
    meeting_more c.args.table.now c.args.keys.now c.loop-at.at c.get.result.now c.get.ensures
    (denied c.touches.result (Meets c.args.table.now c.get.result.now.word) c.touches.ensures c.if-touches.false)
    c.loop-at.invariant

pub returns : goal.returns
returns c = meeting_end c.args.table.now c.args.keys.now c.loop-at.at (omega (arith, c.loop-at-test.false, c.len-at-end.ensures)) c.loop-at.invariant
