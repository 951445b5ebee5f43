use Rattle.std.proofs.Common.{refl, lit<}
use Rattle.csn_judge.proofs.Clashes.{true_and_false}
use Rattle.csn_judge.proofs.LeafReads.{IsReadied, given, given_none, told_of, closed_before, rest_reads_all, rest_reads_some}
use Rattle.csn_judge.proofs.leaf.read_rest.Goals.{else-ready-eq0-via-then-ready-eq0+else-is_closed, else-ready-eq0-via-else-ready-eq0}
use Rattle.csn_judge.proofs.leaf.read_rest.Goals as goal

pub returns-then-is_closed : goal.returns-then-is_closed
returns-then-is_closed g c =
    let r : IsReadied 56 c.ready-ready.result c.args.source.now c.ready-ready.new.self =
    record {
      same = c.ready-ready.ensures.same;
      good = c.ready-ready.ensures.good;
      count =
          c.ready-ready.ensures.count;
    } in
    λ d.
    rest_reads_all d g.T.Track.takes c.args.node.now c.args.source.now c.ready-ready.new.self c.args.track.now
    c.args.track.now (given_none c.if-ready-eq0.true r)
    (c.is_closed.ensures.0 c.if-is_closed.true) refl

pub returns : goal.returns
returns g c =
    let r : IsReadied 56 c.ready-ready.result c.args.source.now c.ready-ready.new.self =
    record {
      same = c.ready-ready.ensures.same;
      good = c.ready-ready.ensures.good;
      count =
          c.ready-ready.ensures.count;
    } in
    λ d.
    rest_reads_some d g.T.Track.takes c.args.node.now c.args.source.now c.take.new.source c.args.track.now
    c.take.new.track (given r c.take.ensures.taken) (lit< tt)
    (λ none closed. elim c.else-ready-eq0.branch [
      | else-ready-eq0-via-then-ready-eq0+else-is_closed w ↦ absurd
          (true_and_false (w.is_closed.ensures.1 (closed_before c.take.ensures.taken none closed))
          w.if-is_closed.false)
      | else-ready-eq0-via-else-ready-eq0 w ↦ w.if-ready-eq0.false none
    ])
    (told_of g.T.Track.takes c.args.node.now c.args.track.now c.take.new.track c.ready-ready.result c.ready-ready.ensures.same.bits c.take.ensures.told)
