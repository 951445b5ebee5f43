use Rattle.std.proofs.Common.{nat_lt, List, ◌∷◌, length, reverse, lit<, refl, sym, ap, ◌∙◌, arith}
use Rattle.std.proofs.lemmas.Bool.{ltb-false}
use Rattle.std.proofs.lemmas.List.{length-reverse}
use Rattle.std.proofs.lemmas.Option.{slice_get_within}
use Rattle.csn_desc.specs.Nodes.{DescV}
use Rattle.csn_judge.specs.declared.frame.Frame.{Frame}
use Rattle.csn_judge.specs.declared.frame.Frame.TheVariants as frame
use Rattle.csn_judge.specs.Turns.{over}
use Rattle.csn_judge.proofs.Turning.{pushed, frames_room}
use Rattle.csn_judge.proofs.Rooms.{no_fewer}
use Rattle.csn_judge.proofs.TurningLeaves.{paced, leaf_stands, may_be_left, turns_all, turns_some, turns_stopped, turns_refused, not_less}
use Rattle.csn_judge.proofs.PayingBits.{all_pays, some_pays}
use Rattle.csn_judge.proofs.machine.Machine.read_part.Goals as goal

pub read-read-requires : goal.read-read-requires
read-read-requires g c =
    let t = leaf_stands c.args.self.now.plan.now c.requires.stands.stands.shows in
    record { may = may_be_left c.args.self.now.plan.now c.requires.node t.shows }

pub put-requires : goal.put-requires
put-requires g c =
    omega (
      arith,
      frames_room c.args.self.now.plan.now c.requires.stands.stands.shows
          c.requires.stands.stands.stack_is,
      no_fewer c.args.behind (reverse c.args.self.now.frames.items),
      length-reverse c.args.self.now.frames.items,
    )

pub push-requires : goal.push-requires
push-requires g c = (
  lit< tt,
  omega (
    arith,
    frames_room c.args.self.now.plan.now c.requires.stands.stands.shows
        c.requires.stands.stands.stack_is,
    ap (λ (l : List Frame). length l) c.put.ensures,
    length-reverse c.put.new.frames.items,
  ),
)

pub returns-in-All : goal.returns-in-All
returns-in-All g c = record {
  turns =
      let d : DescV = c.args.self.now.plan.now in
      turns_all d g.T.Track.takes c.args.track.now c.args.self.now.values.items c.args.self.now.pace c.args.source.now
      c.read-read.new.source c.args.i (over c.args.behind (reverse c.args.self.now.frames.items)) c.args.node.now
      c.read-read.new.track c.step.new.self (nat_lt c.place-before.result c.place.result) c.requires.node c.requires.stands.known c.bits.ensures
      (λ e. omega (arith, ltb-false c.place-before.result c.place.result e, c.place-before.ensures.place, c.place.ensures.place))
      (c.in-All.ensures d (sym c.reading.ensures)) c.step.ensures;
  pays =
      all_pays c.args.self.now.plan.now g.T.Track.takes c.args.track.now c.read-read.new.track
      c.args.self.now.values.items c.args.self.now.pace c.args.source.now c.read-read.new.source c.args.i
      (over c.args.behind (reverse c.args.self.now.frames.items)) c.args.node.now
      (frame.Leaf c.args.i c.args.leaf)
      c.requires.node c.requires.stands.known (c.in-All.ensures c.args.self.now.plan.now (sym c.reading.ensures)) c.requires.stands.stands (lit< tt)
      (c.bits.ensures ∙ ap (λ b. paced b c.args.self.now.pace)
      (ap (λ p. nat_lt p c.place.result) c.place-before.ensures.place ∙ ap (λ p. nat_lt c.args.source.now.place p)
      c.place.ensures.place));
  plan = refl;
}

pub returns-then-took : goal.returns-then-took
returns-then-took g c = record {
  turns =
      let d : DescV = c.args.self.now.plan.now in
      turns_some d g.T.Track.takes c.args.track.now c.args.self.now.values.items c.args.self.now.pace
      c.args.source.now c.read-read.new.source c.args.i
      (over c.args.behind (reverse c.args.self.now.frames.items)) c.args.node.now
      c.read-read.new.track (nat_lt c.place-before.result c.place.result) c.requires.node c.requires.stands.known c.bits.ensures
      (λ e. omega (arith, ltb-false c.place-before.result c.place.result e, c.place-before.ensures.place, c.place.ensures.place))
      (pushed c.put.new.frames.items (frame.Leaf c.args.i c.in-Some.leaf) c.push.ensures.items ∙ ap
      (λ (l : List Frame). frame.Leaf c.args.i c.in-Some.leaf ∷ l) c.put.ensures)
      (c.in-Some.ensures d (sym c.reading.ensures));
  pays =
      some_pays c.args.self.now.plan.now g.T.Track.takes c.args.track.now c.read-read.new.track
      c.args.self.now.values.items c.args.self.now.pace c.args.source.now c.read-read.new.source c.args.i
      (over c.args.behind (reverse c.args.self.now.frames.items)) c.args.node.now
      (frame.Leaf c.args.i c.args.leaf)
      c.requires.node c.requires.stands.known (c.in-Some.ensures c.args.self.now.plan.now (sym c.reading.ensures))
      c.requires.stands.stands (slice_get_within _ _ _ c.requires.node) refl
      (pushed c.put.new.frames.items (frame.Leaf c.args.i c.in-Some.leaf) c.push.ensures.items ∙ ap
      (λ (l : List Frame). frame.Leaf c.args.i c.in-Some.leaf ∷ l) c.put.ensures)
      (omega (arith, c.if-took.true, c.place-before.ensures.place, c.place.ensures.place))
      (c.bits.ensures ∙ ap (λ b. paced b c.args.self.now.pace)
      (ap (λ p. nat_lt p c.place.result) c.place-before.ensures.place ∙ ap (λ p. nat_lt c.args.source.now.place p)
      c.place.ensures.place));
  plan = refl;
}

pub returns-else-took-clause-turns : goal.returns-else-took-clause-turns
returns-else-took-clause-turns g c =
    let d : DescV = c.args.self.now.plan.now in
    turns_stopped d g.T.Track.takes c.args.track.now c.args.self.now.values.items c.args.self.now.pace
    c.args.source.now c.read-read.new.source c.args.i (over c.args.behind (reverse c.args.self.now.frames.items))
    c.args.node.now
    c.read-read.new.track c.stopped.result (nat_lt c.place-before.result c.place.result)
    c.requires.node c.requires.stands.known c.bits.ensures
    (not_less c.place-before.result c.place.result c.if-took.false)
    (omega (arith, c.if-took.false, c.place-before.ensures.place, c.place.ensures.place)) c.place.ensures.fits c.place.ensures.nothing c.stopped.ensures
    (pushed c.put.new.frames.items (frame.Leaf c.args.i c.in-Some.leaf) c.push.ensures.items ∙ ap
    (λ (l : List Frame). frame.Leaf c.args.i c.in-Some.leaf ∷ l) c.put.ensures)
    (c.in-Some.ensures d (sym c.reading.ensures))

pub returns-in-Refused-clause-turns : goal.returns-in-Refused-clause-turns
returns-in-Refused-clause-turns g c =
    let d : DescV = c.args.self.now.plan.now in
    turns_refused d g.T.Track.takes c.args.track.now c.args.self.now.values.items c.args.self.now.pace
    c.args.source.now c.read-read.new.source c.args.i (over c.args.behind (reverse c.args.self.now.frames.items))
    c.args.node.now
    c.read-read.new.track c.in-Refused.place c.requires.node c.requires.stands.known (c.in-Refused.ensures d (sym c.reading.ensures))
