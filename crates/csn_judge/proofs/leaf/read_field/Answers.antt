use Rattle.std.proofs.Common.{◌<◌, arith}
use Rattle.csn_judge.proofs.LeafReads.{IsReadied, given, told_of, field_reads_all, field_reads_some}
use Rattle.csn_judge.proofs.leaf.read_field.Goals as goal

pub returns-then-ready-left : goal.returns-then-ready-left
returns-then-ready-left g c =
    let r : IsReadied c.min.result c.ready-ready.result c.args.source.now c.ready-ready.new.self =
    record {
      same = c.ready-ready.ensures.same;
      good = c.ready-ready.ensures.good;
      count =
          c.ready-ready.ensures.count;
    } in
    λ d.
    field_reads_all d g.T.Track.takes c.args.node.now c.args.source.now c.take.new.source c.args.track.now
    c.take.new.track (given r c.take.ensures.taken) c.if-ready-left.true
    (told_of g.T.Track.takes c.args.node.now c.args.track.now c.take.new.track c.ready-ready.result c.ready-ready.ensures.same.bits c.take.ensures.told)

pub returns-else-ready-left : goal.returns-else-ready-left
returns-else-ready-left g c =
    let r : IsReadied c.min.result c.ready-ready.result c.args.source.now c.ready-ready.new.self =
    record {
      same = c.ready-ready.ensures.same;
      good = c.ready-ready.ensures.good;
      count =
          c.ready-ready.ensures.count;
    } in
    let few : c.ready-ready.result < c.args.left = omega (arith, c.ready-ready.ensures.count, c.min.ensures, c.if-ready-left.false) in
    λ d.
    field_reads_some d g.T.Track.takes c.args.node.now c.args.source.now c.take.new.source c.args.track.now
    c.take.new.track (given r c.take.ensures.taken) few (omega (arith, few, c.min.ensures))
    (told_of g.T.Track.takes c.args.node.now c.args.track.now c.take.new.track c.ready-ready.result c.ready-ready.ensures.same.bits c.take.ensures.told)
