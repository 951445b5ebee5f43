use Rattle.std.proofs.Common.{◌+◌, ◌%◌, [], arith}
use Rattle.std.proofs.lemmas.Option.{get_or_from_slice_get}
use Rattle.csn_certmake.proofs.Behind.{behind_more, behind_all}
use Rattle.csn_certmake.proofs.joining.behind_each.Goals as goal

pub loop-size-preserved : goal.loop-size-preserved
loop-size-preserved c =
    let rests = c.args.rests.now in
    behind_more c.args.first.now c.args.octet rests c.loop-size.behind c.push.new.self c.loop-size.size
    c.at.result.now c.in_ok-behind_size.field-0.items c.loop-size.invariant
    (get_or_from_slice_get rests ((c.args.octet + c.loop-size.size) % 8) c.at.result.now [] c.at.ensures) c.in_ok-behind_size.ensures c.in_ok-push.ensures

pub returns : goal.returns
returns c = behind_all c.args.first.now c.args.octet c.args.rests.now c.loop-size.behind c.loop-size.size
    (omega (arith, c.loop-size-test.false, c.loop-size.auto.size-end)) c.loop-size.invariant
