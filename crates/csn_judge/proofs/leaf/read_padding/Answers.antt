use Rattle.std.proofs.Common.{◌∙◌, refl, lit<, arith}
use Rattle.csn_desc.specs.declared.symbol.Symbol.TheVariants.{Low}
use Rattle.csn_judge.proofs.Clashes.{true_and_false}
use Rattle.csn_judge.proofs.LeafReads.{IsReadied, given, given_none, told_of, spare_of, pad_reads_all, pad_stays, pad_reads_some, pad_reads_none}
use Rattle.csn_judge.proofs.leaf.read_padding.Goals.{else-begun-via-then-begun+else-is_closed, else-begun-via-else-begun}
use Rattle.csn_judge.proofs.leaf.read_padding.Goals as goal

pub returns-then-is_closed : goal.returns-then-is_closed
returns-then-is_closed g c =
    let r : IsReadied 56 c.ready-ready.result c.args.source.now c.ready-ready.new.self =
    record {
      same = c.ready-ready.ensures.same;
      good = c.ready-ready.ensures.good;
      count =
          c.ready-ready.ensures.count;
    } in
    λ d reading.
    pad_reads_all d g.T.Track.takes c.args.node.now c.args.source.now c.ready-ready.new.self c.args.track.now
    c.args.track.now (given_none c.if-ready-eq0.true r) c.if-begun.true
    (c.is_closed.ensures.0 c.if-is_closed.true) refl

pub returns-then-ready-eq0 : goal.returns-then-ready-eq0
returns-then-ready-eq0 g c =
    let r : IsReadied 56 c.ready-ready.result c.args.source.now c.ready-ready.new.self =
    record {
      same = c.ready-ready.ensures.same;
      good = c.ready-ready.ensures.good;
      count =
          c.ready-ready.ensures.count;
    } in
    λ d reading.
    pad_stays d g.T.Track.takes c.args.node.now c.args.source.now c.ready-ready.new.self c.args.track.now
    c.args.track.now (given_none c.if-ready-eq0.true r) (lit< tt)
    (λ begun closed. elim c.else-begun.branch [
      | else-begun-via-then-begun+else-is_closed w ↦ absurd (true_and_false (w.is_closed.ensures.1 closed) w.if-is_closed.false)
      | else-begun-via-else-begun w ↦ absurd (true_and_false begun w.if-begun.false)
    ])
    refl

pub returns-in-Some : goal.returns-in-Some
returns-in-Some g c =
    let r : IsReadied 56 c.ready-ready.result c.args.source.now c.ready-ready.new.self =
    record {
      same = c.ready-ready.ensures.same;
      good = c.ready-ready.ensures.good;
      count =
          c.ready-ready.ensures.count;
    } in
    λ d reading.
    let found = c.in-Some.ensures.some in
    pad_reads_none d g.T.Track.takes c.args.node.now c.args.source.now c.take_spare.new.source c.args.track.now
    c.take_spare.new.track c.ready-ready.new.self r c.in-Some.place (reading ∙ found.0) found.1 found.2

pub returns-in-None : goal.returns-in-None
returns-in-None g c =
    let r : IsReadied 56 c.ready-ready.result c.args.source.now c.ready-ready.new.self =
    record {
      same = c.ready-ready.ensures.same;
      good = c.ready-ready.ensures.good;
      count =
          c.ready-ready.ensures.count;
    } in
    λ d reading.
    let found = c.in-None.ensures.none in
    pad_reads_some d g.T.Track.takes c.args.node.now c.args.source.now c.take_spare.new.source c.args.track.now
    c.take_spare.new.track (given r found.0) (omega (arith, c.if-ready-eq0.false))
    (spare_of Low reading c.ready-ready.result c.ready-ready.ensures.same.place c.ready-ready.ensures.same.bits found.1)
    (told_of g.T.Track.takes c.args.node.now c.args.track.now c.take_spare.new.track c.ready-ready.result c.ready-ready.ensures.same.bits found.2)
