use Rattle.std.proofs.Common.{◌∙◌, refl, lit<, lit≤, arith}
use Rattle.csn_judge.proofs.LeafReads.{IsReadied, given, given_none, told_of, spare_of, spare_stays, spare_reads_all, spare_reads_none}
use Rattle.csn_judge.proofs.leaf.read_spare.Goals as goal

pub returns-then-ready-eq0 : goal.returns-then-ready-eq0
returns-then-ready-eq0 g c =
    let r : IsReadied 1 c.ready.result c.args.source.now c.ready.new.self =
    record { same = c.ready.ensures.same; good = c.ready.ensures.good; count = c.ready.ensures.count } in
    λ d reading.
    spare_stays d g.T.Track.takes c.args.node.now c.args.source.now c.ready.new.self c.args.track.now c.args.track.now
    (given_none c.if-ready-eq0.true r) (lit< tt) refl

pub returns-in-Some : goal.returns-in-Some
returns-in-Some g c =
    let r : IsReadied 1 1 c.args.source.now c.ready.new.self = record {
      same = c.ready.ensures.same;
      good =
          c.ready.ensures.good;
      count = omega (arith, c.ready.ensures.count, c.if-ready-eq0.false);
    } in
    λ d reading.
    let found = c.in-Some.ensures.some in
    spare_reads_none d g.T.Track.takes c.args.node.now c.args.source.now c.take_spare.new.source c.args.track.now
    c.take_spare.new.track c.ready.new.self r c.in-Spare.symbol c.in-Some.place c.in-Spare.is (lit≤ tt)
    (reading ∙ found.0) found.1 found.2

pub returns-in-None : goal.returns-in-None
returns-in-None g c =
    let r : IsReadied 1 1 c.args.source.now c.ready.new.self = record {
      same = c.ready.ensures.same;
      good =
          c.ready.ensures.good;
      count = omega (arith, c.ready.ensures.count, c.if-ready-eq0.false);
    } in
    λ d reading.
    let found = c.in-None.ensures.none in
    spare_reads_all d g.T.Track.takes c.args.node.now c.args.source.now c.take_spare.new.source c.args.track.now
    c.take_spare.new.track (given r found.0) c.in-Spare.symbol c.in-Spare.is refl
    (spare_of c.in-Spare.symbol reading 1 c.ready.ensures.same.place c.ready.ensures.same.bits found.1)
    (told_of g.T.Track.takes c.args.node.now c.args.track.now c.take_spare.new.track 1 c.ready.ensures.same.bits found.2)
