use Rattle.std.proofs.Common.{ℕ, ◌≡◌, ◌+◌, ◌^◌, ◌≤◌, ◌∷◌, List, length, reverse, take, refl, ap, ◌∙◌, subst, lit<, arith}
use Rattle.std.proofs.Math.Pow.{pow_mono}
use Rattle.std.proofs.lemmas.Option.{slice_get_within}
use Rattle.csn_bits.specs.Numbers.{number_of}
use Rattle.csn_desc.specs.Nodes.{DescV}
use Rattle.csn_judge.specs.declared.frame.Frame.TheVariants as frame
use Rattle.csn_judge.specs.declared.turn.Turn.TheVariants.{Moved}
use Rattle.csn_judge.specs.Credit.{credit_of, Pays}
use Rattle.csn_judge.specs.Left.{Left}
use Rattle.csn_judge.specs.Inside.{IsStack}
use Rattle.csn_judge.specs.Turns.{fresh_at}
use Rattle.csn_judge.proofs.Turning.{pushed, items_room}
use Rattle.csn_judge.proofs.LeafReads.{IsReadied, given, told_of}
use Rattle.csn_judge.proofs.TurningCounted.{counted_stands, counted_few, counted_ready, room_for_value, number_taken}
use Rattle.csn_judge.proofs.TurningCounted.{counted_stopped, counted_on, counted_ends}
use Rattle.csn_judge.proofs.PayingBits.{given_bits, taken_pays}
use Rattle.csn_judge.proofs.machine.Machine.read_counted.Goals as goal

pub ready-ready-requires : goal.ready-ready-requires
ready-ready-requires g c =
    let d : DescV = c.args.self.now.plan.now in
    omega (arith, (counted_few d c.requires.stands.known (counted_stands d c.requires.stands.stands.shows)).0)

pub push-requires : goal.push-requires
push-requires g c = (
  lit< tt,
  items_room c.args.self.now.plan.now c.args.self.now.frames.items c.requires.stands.stands.shows
      c.requires.stands.stands.stack_is,
)

pub returns-then-ready-eq0-clause-turns : goal.returns-then-ready-eq0-clause-turns
returns-then-ready-eq0-clause-turns g c =
    let d : DescV = c.args.self.now.plan.now in
    let r : IsReadied c.args.counted.left c.ready-ready.result c.args.source.now c.ready-ready.new.self =
    record {
      same = c.ready-ready.ensures.same;
      good = c.ready-ready.ensures.good;
      count =
          c.ready-ready.ensures.count;
    } in
    counted_stopped d g.T.Track.takes c.args.track.now c.args.self.now.values.items c.args.self.now.pace
    c.args.source.now c.ready-ready.new.self c.args.counted (reverse c.args.self.now.frames.items)
    c.args.field.now
    c.stopped.result c.stopped.ensures c.requires.stands.known r c.if-ready-eq0.true (counted_stands d c.requires.stands.stands.shows).some
    (pushed c.args.self.now.frames.items (frame.Counted c.args.counted) c.push.ensures.items)

pub take-bits-requires-clause-few : goal.take-bits-requires-clause-few
take-bits-requires-clause-few g c =
    let d : DescV = c.args.self.now.plan.now in
    omega (arith, (counted_few d c.requires.stands.known (counted_stands d c.requires.stands.stands.shows)).0, c.ready-ready.ensures.count)

pub overflow_shl-number : goal.overflow_shl-number
overflow_shl-number g c =
    let d : DescV = c.args.self.now.plan.now in
    omega (arith, (counted_few d c.requires.stands.known (counted_stands d c.requires.stands.stands.shows)).0, c.ready-ready.ensures.count)

pub overflow_cast-number : goal.overflow_cast-number
overflow_cast-number g c =
    let d : DescV = c.args.self.now.plan.now in
    let few : c.ready-ready.result ≤ 16 =
    omega (
      arith,
      (counted_few d c.requires.stands.known (counted_stands d c.requires.stands.stands.shows)).0,
      c.ready-ready.ensures.count,
    ) in
    let word : 2 ^ 16 ≡ 65536 = refl in
    omega (arith, c.take-bits.ensures.small, pow_mono few, word)

pub push-requires-then-ready-counted : goal.push-requires-then-ready-counted
push-requires-then-ready-counted g c = (
  lit< tt,
  items_room c.args.self.now.plan.now c.args.self.now.frames.items c.requires.stands.stands.shows
      c.requires.stands.stands.stack_is,
)

pub returns-then-ready-counted-clause-turns : goal.returns-then-ready-counted-clause-turns
returns-then-ready-counted-clause-turns g c =
    let d : DescV = c.args.self.now.plan.now in
    let r : IsReadied c.args.counted.left c.ready-ready.result c.args.source.now c.ready-ready.new.self =
    record {
      same = c.ready-ready.ensures.same;
      good = c.ready-ready.ensures.good;
      count =
          c.ready-ready.ensures.count;
    } in
    let taken = given r c.take-bits.ensures.taken in
    counted_on d g.T.Track.takes c.args.track.now c.args.self.now.values.items c.args.self.now.pace c.args.source.now
    c.take-bits.new.source c.args.counted (reverse c.args.self.now.frames.items) c.args.field.now
    taken c.take-bits.new.track c.requires.stands.known c.requires.field (omega (arith, c.if-ready-eq0.false)) c.if-ready-counted.true c.bits.ensures
    (number_taken taken (c.take-bits.ensures.value ∙ ap (λ l. number_of (take c.ready-ready.result l))
    c.ready-ready.ensures.same.bits) (omega (arith, c.ready-ready.ensures.count)))
    (pushed c.args.self.now.frames.items _ c.push-then-ready-counted.ensures.items)
    (told_of g.T.Track.takes c.args.field.now c.args.track.now c.take-bits.new.track c.ready-ready.result
    c.ready-ready.ensures.same.bits c.take-bits.ensures.told)

pub push-requires-2 : goal.push-requires-2
push-requires-2 g c =
    let d : DescV = c.args.self.now.plan.now in
    let t = counted_stands d c.requires.stands.stands.shows in
    let is = subst (λ (l : List Left). IsStack d c.args.self.now.pace.next
    (fresh_at c.args.self.now.pace (length c.requires.stands.done)) l c.requires.stands.done)
    t.is c.requires.stands.stands.stack_is in
    (lit< tt, omega (arith, room_for_value d (counted_ready d t.label t.at is t.began) t.counts, ap (λ l. length l) t.kept))

pub leave-requires : goal.leave-requires
leave-requires g c =
    let t = counted_stands c.args.self.now.plan.now c.requires.stands.stands.shows in
    slice_get_within _ _ _ t.at

pub returns-clause-turns : goal.returns-clause-turns
returns-clause-turns g c =
    let d : DescV = c.args.self.now.plan.now in
    let r : IsReadied c.args.counted.left c.ready-ready.result c.args.source.now c.ready-ready.new.self =
    record {
      same = c.ready-ready.ensures.same;
      good = c.ready-ready.ensures.good;
      count =
          c.ready-ready.ensures.count;
    } in
    let taken = given r c.take-bits.ensures.taken in
    counted_ends d g.T.Track.takes c.args.track.now c.args.self.now.values.items c.args.self.now.pace
    c.args.source.now c.take-bits.new.source c.args.counted (reverse c.args.self.now.frames.items)
    c.args.field.now
    taken c.take-bits.new.track c.step.new.self c.leave.new.track c.leave.ensures.told.0 c.requires.stands.known
    c.requires.field (omega (arith, c.if-ready-counted.false, c.ready-ready.ensures.count)) c.bits.ensures
    (number_taken taken (c.take-bits.ensures.value ∙ ap (λ l. number_of (take c.ready-ready.result l))
    c.ready-ready.ensures.same.bits) (omega (arith, c.ready-ready.ensures.count)))
    c.push-2.ensures.items
    (told_of g.T.Track.takes c.args.field.now c.args.track.now c.take-bits.new.track c.ready-ready.result
    c.ready-ready.ensures.same.bits c.take-bits.ensures.told)
    c.step.ensures c.leave.ensures.told.1 c.leave.ensures.told.2

pub returns-then-ready-counted-clause-pays : goal.returns-then-ready-counted-clause-pays
returns-then-ready-counted-clause-pays g c =
    let d : DescV = c.args.self.now.plan.now in
    let r : IsReadied c.args.counted.left c.ready-ready.result c.args.source.now c.ready-ready.new.self =
    record {
      same = c.ready-ready.ensures.same;
      good = c.ready-ready.ensures.good;
      count =
          c.ready-ready.ensures.count;
    } in
    let within = slice_get_within d.nodes _ _ c.requires.field in
    taken_pays (length d.nodes) (length c.take-bits.new.source.bits) c.args.steps.now 1
    (frame.Counted c.args.counted ∷ reverse c.args.self.now.frames.items) _ c.args.self.now.pace
    (pushed c.args.self.now.frames.items _ c.push-then-ready-counted.ensures.items) c.bits.ensures
    (given_bits (given r c.take-bits.ensures.taken)) (omega (arith, c.if-ready-eq0.false))
    (omega (arith, within)) (omega (arith, within))

pub returns-clause-pays : goal.returns-clause-pays
returns-clause-pays g c =
    let d : DescV = c.args.self.now.plan.now in
    let r : IsReadied c.args.counted.left c.ready-ready.result c.args.source.now c.ready-ready.new.self =
    record {
      same = c.ready-ready.ensures.same;
      good = c.ready-ready.ensures.good;
      count =
          c.ready-ready.ensures.count;
    } in
    let within = slice_get_within d.nodes _ _ c.requires.field in
    let steps : c.args.steps.now + 2 ≡ c.leave.new.steps + 1 = omega (arith, c.leave.ensures.step) in
    subst (λ (k : ℕ). Pays
    (credit_of (length d.nodes) (frame.Counted c.args.counted ∷ reverse c.args.self.now.frames.items)
    c.args.self.now.pace (length c.args.source.now.bits))
    (credit_of (length d.nodes) (reverse c.args.self.now.frames.items) c.bits.new.self (length c.take-bits.new.source.bits)) c.args.steps.now k Moved) steps
    (taken_pays (length d.nodes) (length c.take-bits.new.source.bits) c.args.steps.now 2
    (frame.Counted c.args.counted ∷ reverse c.args.self.now.frames.items) (reverse c.args.self.now.frames.items)
    c.args.self.now.pace
    refl c.bits.ensures (given_bits (given r c.take-bits.ensures.taken)) (omega (arith, c.if-ready-eq0.false)) (omega (arith, within)) (omega (arith, within)))
