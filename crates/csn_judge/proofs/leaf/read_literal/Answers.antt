use Rattle.std.proofs.Common.{◌+◌, ◌<◌, ◌≤◌, ◌∙◌, length, take, drop, refl, sym, ap, arith, length-drop}
use Rattle.std.proofs.lemmas.List.{length-take-le}
use Rattle.csn_desc.specs.Spelled.{spelled}
use Rattle.csn_judge.proofs.LeafReads.{IsReadied, given, given_none, told_of, may_go_on, literal_stays}
use Rattle.csn_judge.proofs.LeafReads.{literal_reads_all, literal_reads_some, literal_reads_none, alike_here}
use Rattle.csn_judge.proofs.leaf.read_literal.Goals as goal

pub returns-then-ready-eq0 : goal.returns-then-ready-eq0
returns-then-ready-eq0 g c =
    let r : IsReadied c.min.result c.ready-ready.result c.args.source.now c.ready-ready.new.self =
    record {
      same = c.ready-ready.ensures.same;
      good = c.ready-ready.ensures.good;
      count =
          c.ready-ready.ensures.count;
    } in
    λ d.
    literal_stays d g.T.Track.takes c.args.node.now c.args.source.now c.ready-ready.new.self c.args.track.now
    c.args.track.now (given_none c.if-ready-eq0.true r)
    (omega (arith, c.min.ensures, c.len.ensures.len, may_go_on c.requires.may c.in-Lits.is)) refl

pub returns-then-alike-ready : goal.returns-then-alike-ready
returns-then-alike-ready g c =
    let r : IsReadied c.min.result c.ready-ready.result c.args.source.now c.ready-ready.new.self =
    record {
      same = c.ready-ready.ensures.same;
      good = c.ready-ready.ensures.good;
      count =
          c.ready-ready.ensures.count;
    } in
    let run = c.in-Lits.run' in
    let n = c.ready-ready.result in
    let goes_on : c.args.at < length run = may_go_on c.requires.may c.in-Lits.is in
    let within : c.args.at + n ≤ length run = omega (arith, c.ready-ready.ensures.count, c.min.ensures, c.len.ensures.len, goes_on) in
    let wanted = c.spelled-wanted.ensures.value ∙ ap (λ p. spelled (take n (drop c.args.at run)) p) c.place.ensures.place in
    λ d.
    literal_reads_none d g.T.Track.takes c.args.node.now c.args.source.now c.ready-ready.new.self c.args.track.now
    c.args.track.now c.ready-ready.new.self r run (c.place-then-alike-ready.result + c.alike-alike.result)
    (ap (λ p. p + c.alike-alike.result) c.place-then-alike-ready.ensures.place) c.in-Lits.is within c.if-alike-ready.true
    (c.alike-alike.ensures.same ∙ ap (λ l. take c.alike-alike.result l) wanted)
    (λ h. c.alike-alike.ensures.differs c.if-alike-ready.true (h ∙ ap (λ l. take (c.alike-alike.result + 1) l) (sym wanted)))
    refl

pub returns-then-at-ready : goal.returns-then-at-ready
returns-then-at-ready g c =
    let r : IsReadied c.min.result c.ready-ready.result c.args.source.now c.ready-ready.new.self =
    record {
      same = c.ready-ready.ensures.same;
      good = c.ready-ready.ensures.good;
      count =
          c.ready-ready.ensures.count;
    } in
    let here = alike_here (take c.ready-ready.result (drop c.args.at c.in-Lits.run')) r
    (length-take-le c.ready-ready.result (drop c.args.at c.in-Lits.run')
    (omega (
      arith,
      c.ready-ready.ensures.count,
      c.min.ensures,
      c.len.ensures.len,
      may_go_on c.requires.may
          c.in-Lits.is,
      length-drop c.args.at c.in-Lits.run',
    )))
    (c.spelled-wanted.ensures.value ∙ ap (λ p. spelled (take c.ready-ready.result (drop c.args.at c.in-Lits.run'))
    p) c.place.ensures.place) c.alike-alike.ensures.within c.if-alike-ready.false c.alike-alike.ensures.same in
    λ d.
    literal_reads_all d g.T.Track.takes c.args.node.now c.args.source.now c.take.new.source c.args.track.now
    c.take.new.track (given r c.take.ensures.taken) c.in-Lits.run' c.in-Lits.is
    (omega (arith, c.if-at-ready.true, c.len-2.ensures.len)) here
    (told_of g.T.Track.takes c.args.node.now c.args.track.now c.take.new.track c.ready-ready.result c.ready-ready.ensures.same.bits c.take.ensures.told)

pub returns-else-at-ready : goal.returns-else-at-ready
returns-else-at-ready g c =
    let r : IsReadied c.min.result c.ready-ready.result c.args.source.now c.ready-ready.new.self =
    record {
      same = c.ready-ready.ensures.same;
      good = c.ready-ready.ensures.good;
      count =
          c.ready-ready.ensures.count;
    } in
    let here = alike_here (take c.ready-ready.result (drop c.args.at c.in-Lits.run')) r
    (length-take-le c.ready-ready.result (drop c.args.at c.in-Lits.run')
    (omega (
      arith,
      c.ready-ready.ensures.count,
      c.min.ensures,
      c.len.ensures.len,
      may_go_on c.requires.may
          c.in-Lits.is,
      length-drop c.args.at c.in-Lits.run',
    )))
    (c.spelled-wanted.ensures.value ∙ ap (λ p. spelled (take c.ready-ready.result (drop c.args.at c.in-Lits.run'))
    p) c.place.ensures.place) c.alike-alike.ensures.within c.if-alike-ready.false c.alike-alike.ensures.same in
    λ d.
    literal_reads_some d g.T.Track.takes c.args.node.now c.args.source.now c.take.new.source c.args.track.now
    c.take.new.track (given r c.take.ensures.taken) c.in-Lits.run' c.in-Lits.is
    (omega (
      arith,
      c.if-at-ready.false,
      c.len-2.ensures.len,
      c.ready-ready.ensures.count,
      c.min.ensures,
      c.len.ensures.len,
      may_go_on c.requires.may c.in-Lits.is,
    )) (omega (arith, c.if-ready-eq0.false)) here
    (told_of g.T.Track.takes c.args.node.now c.args.track.now c.take.new.track c.ready-ready.result c.ready-ready.ensures.same.bits c.take.ensures.told)
