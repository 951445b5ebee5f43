use Rattle.std.proofs.Common.{ℕ, ◌%◌, List, lit<, ◌≡◌, ◌∷◌, ◌⊎◌, true, length, reverse, refl, sym, ap, subst, ◌∙◌, arith}
use Rattle.std.proofs.lemmas.List.{length-reverse}
use Rattle.std.proofs.lemmas.Option.{slice_get_within}
use Rattle.csn_desc.specs.Nodes.{DescV}
use Rattle.csn_certify.specs.Picks.{IsAsked}
use Rattle.csn_judge.specs.declared.frame.Frame.{Frame}
use Rattle.csn_judge.specs.declared.frame.Frame.TheVariants as frame
use Rattle.csn_judge.specs.Coming.{Coming}
use Rattle.csn_judge.specs.Left.{Left}
use Rattle.csn_judge.specs.Inside.{IsStack}
use Rattle.csn_judge.specs.Turns.{fresh_at}
use Rattle.csn_judge.proofs.Clashes.{moved_and_waits, true_and_false}
use Rattle.csn_judge.proofs.Paying.{begun_pays_on, left_pays_on, free_goes_back}
use Rattle.csn_judge.proofs.PayingWaits.{waits_pay}
use Rattle.csn_judge.proofs.Turning.{room, round_length, begun_within, pushed, GoesOn-along, items_room}
use Rattle.csn_judge.proofs.Stacks.{of_begun}
use Rattle.csn_judge.proofs.TurningSame.{goes_since, stands_on, waits_unready}
use Rattle.csn_judge.proofs.TurningFree.{free_stands, free_begins, free_asked, free_takes, free_leaves}
use Rattle.csn_judge.proofs.machine.Machine.many.Goals.{else-ready-eq0-via-then-ready-eq0+else-not-is_closed, else-ready-eq0-via-else-ready-eq0}
use Rattle.csn_judge.proofs.machine.Machine.many.Goals as goal

pub push-requires : goal.push-requires
push-requires g c = (lit< tt, items_room c.args.self.now.plan.now c.args.self.now.frames.items c.requires.stands.shows c.requires.stands.stack_is)

pub returns-then-not-is_closed-clause-turns : goal.returns-then-not-is_closed-clause-turns
returns-then-not-is_closed-clause-turns g c =
    waits_unready c.args.self.now.plan.now g.T.Track.takes c.args.track.now c.args.self.now.values.items
    c.args.self.now.pace c.ready-ready.new.self 1 (omega arith) c.ready-ready.ensures.same
    (sym c.ready-ready.ensures.count ∙ c.if-ready-eq0.true)
    c.ready-ready.ensures.good c.ready-ready.ensures.within
    (λ closed. true_and_false (c.is_closed.ensures.1 closed) c.if-not-is_closed.true) c.requires.known
    (pushed c.args.self.now.frames.items (frame.Many c.args.i c.args.part) c.push.ensures.items)

pub pick-requires-clause-node : goal.pick-requires-clause-node
pick-requires-clause-node g c =
    let k = free_stands c.args.self.now.plan.now c.requires.stands.shows in
    slice_get_within _ _ _ k.repeats.at

pub pick-requires-clause-asked : goal.pick-requires-clause-asked
pick-requires-clause-asked g c =
    let d : DescV = c.args.self.now.plan.now in
    subst (λ o. IsAsked d c.args.i (o % 8)) (sym (c.ready-ready.ensures.same.place ∙ c.requires.stands.place))
    (free_asked d c.args.self.now.pace c.requires.known c.requires.stands.shows c.requires.stands.stack_is)

pub begin-requires-clause-few : goal.begin-requires-clause-few
begin-requires-clause-few g c =
    let d : DescV = c.args.self.now.plan.now in
    let k = free_stands d c.requires.stands.shows in
    let stack = subst (λ (l : List Left). IsStack d c.args.self.now.pace.next
    (fresh_at c.args.self.now.pace (length c.requires.done)) l c.requires.done) k.is c.requires.stands.stack_is in
    omega (arith, begun_within d (of_begun d (free_begins d c.args.self.now.pace c.requires.known stack)), c.requires.known.description.few)

pub begin-requires-clause-room : goal.begin-requires-clause-room
begin-requires-clause-room g c =
    let d : DescV = c.args.self.now.plan.now in
    let k = free_stands d c.requires.stands.shows in
    let stack = subst (λ (l : List Left). IsStack d c.args.self.now.pace.next
    (fresh_at c.args.self.now.pace (length c.requires.done)) l c.requires.done) k.is c.requires.stands.stack_is in
    omega (
      arith,
      room d (of_begun d (free_begins d c.args.self.now.pace c.requires.known stack)),
      round_length d k.round,
      length-reverse c.args.self.now.frames.items,
    )

pub returns-in-Take-clause-turns : goal.returns-in-Take-clause-turns
returns-in-Take-clause-turns g c =
    let d : DescV = c.args.self.now.plan.now in
    λ stack done stands.
    goes_since d g.T.Track.takes c.args.track.now c.args.track.now
    (frame.Many c.args.i c.args.part ∷ reverse c.args.self.now.frames.items)
    c.args.self.now.values.items c.args.self.now.pace c.ready-ready.ensures.same _
    (GoesOn-along d g.T.Track.takes c.args.track.now c.args.self.now.values.items c.args.self.now.pace
    c.ready-ready.new.self (ap (λ (l : List Frame). frame.Begin c.args.part ∷ l) c.begin.ensures.frames)
    (ap (λ v. v.items) c.begin.ensures.values) c.begin.ensures.pace
    (free_takes d g.T.Track.takes c.args.track.now c.args.self.now.values.items c.args.self.now.pace c.ready-ready.new.self c.ready-ready.ensures.count
    c.in-Take.ensures.none c.in-Take.ensures.some c.requires.known
    (stands_on d g.T.Track.takes c.args.track.now c.args.track.now
    (frame.Many c.args.i c.args.part ∷ reverse c.args.self.now.frames.items)
    c.args.self.now.values.items c.args.self.now.pace c.ready-ready.ensures.same stands)))

pub leave-requires : goal.leave-requires
leave-requires g c =
    let k = free_stands c.args.self.now.plan.now c.requires.stands.shows in
    slice_get_within _ _ _ k.repeats.at

pub returns : goal.returns
returns g c =
    let d : DescV = c.args.self.now.plan.now in
    let next : Coming = c.ready-ready.new.self in
    let closed : c.ready-ready.result ≡ 0 → (next.ended ≡ true) ⊎ (next.place ≡ next.limit) =
    λ none.
    elim c.else-ready-eq0.branch [
      | else-ready-eq0-via-then-ready-eq0+else-not-is_closed w ↦ w.is_closed.ensures.0 w.if-not-is_closed.false
      | else-ready-eq0-via-else-ready-eq0 w ↦ absurd (w.if-ready-eq0.false none)
    ]
    in
    record {
      turns = λ stack done stands.
          goes_since d g.T.Track.takes c.args.track.now c.leave.new.track
          (frame.Many c.args.i c.args.part ∷ reverse c.args.self.now.frames.items)
          c.args.self.now.values.items c.args.self.now.pace c.ready-ready.ensures.same _
          (free_leaves d g.T.Track.takes c.args.track.now c.args.self.now.values.items c.args.self.now.pace next
          c.leave.ensures.told.0 c.ready-ready.ensures.good c.ready-ready.ensures.count closed c.pick.ensures.some
          c.in_default.not-Take
          c.leave.ensures.told.1 c.leave.ensures.told.2 c.requires.known
          (stands_on d g.T.Track.takes c.args.track.now c.args.track.now
          (frame.Many c.args.i c.args.part ∷ reverse c.args.self.now.frames.items)
          c.args.self.now.values.items c.args.self.now.pace c.ready-ready.ensures.same stands));
      plan = refl;
      waits = λ same. absurd (moved_and_waits same);
      pays =
          left_pays_on (length d.nodes) c.args.steps.now (length c.args.source.now.bits) 2
          (frame.Many c.args.i c.args.part) (ap (λ (l : List ℕ). length l) c.ready-ready.ensures.same.bits)
          refl refl
          (omega (arith, c.leave.ensures.step, c.pick.ensures.step)) (omega arith) (omega arith);
    }

pub returns-in-Take-clause-pays : goal.returns-in-Take-clause-pays
returns-in-Take-clause-pays g c =
    let d : DescV = c.args.self.now.plan.now in
    let k = free_stands d c.requires.stands.shows in
    let stack = subst (λ (l : List Left). IsStack d c.args.self.now.pace.next
    (fresh_at c.args.self.now.pace (length c.requires.done)) l c.requires.done) k.is c.requires.stands.stack_is in
    begun_pays_on c.args.steps.now 1 (frame.Many c.args.i c.args.part) _
    (ap (λ (l : List ℕ). length l) c.ready-ready.ensures.same.bits)
    (ap (λ (l : List Frame). frame.Begin c.args.part ∷ l) c.begin.ensures.frames)
    c.begin.ensures.pace c.pick.ensures.step
    (begun_within d (of_begun d (free_begins d c.args.self.now.pace c.requires.known stack)))
    (free_goes_back d c.args.self.now.pace c.requires.known stack) (omega arith) (omega arith)

pub pick-requires-clause-few : goal.pick-requires-clause-few
pick-requires-clause-few g c = omega (arith, c.ready-ready.ensures.count)

pub pick-requires-clause-held : goal.pick-requires-clause-held
pick-requires-clause-held g c = omega (arith, c.ready-ready.ensures.count, c.ready-ready.ensures.held)

pub returns-then-not-is_closed-clause-pays : goal.returns-then-not-is_closed-clause-pays
returns-then-not-is_closed-clause-pays g c =
    waits_pay (length c.args.self.now.plan.now.nodes) c.args.steps.now c.args.steps.now 0
    (frame.Many c.args.i c.args.part) (reverse c.args.self.now.frames.items) c.args.self.now.pace
    (length c.args.source.now.bits) (pushed c.args.self.now.frames.items (frame.Many c.args.i c.args.part)
    c.push.ensures.items) (ap (λ (l : List ℕ). length l) c.ready-ready.ensures.same.bits) (omega arith)
    (omega arith) (omega arith)

pub returns-then-not-is_closed-clause-waits : goal.returns-then-not-is_closed-clause-waits
returns-then-not-is_closed-clause-waits g c = λ waits. omega arith

pub returns-then-not-is_closed-clause-plan : goal.returns-then-not-is_closed-clause-plan
returns-then-not-is_closed-clause-plan g c = refl

pub returns-in-Take-clause-waits : goal.returns-in-Take-clause-waits
returns-in-Take-clause-waits g c = λ waits. absurd (moved_and_waits waits)

pub returns-in-Take-clause-plan : goal.returns-in-Take-clause-plan
returns-in-Take-clause-plan g c = c.begin.ensures.plan
