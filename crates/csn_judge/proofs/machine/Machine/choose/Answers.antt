use Rattle.std.proofs.Common.{inl, ℕ, ◌++◌, ◌+◌, List, lit<, ◌%◌, ◌≡◌, ◌∷◌, ◌⊎◌, true, length, reverse, refl, sym, ap, subst, ◌∙◌, arith, Some}
use Rattle.std.proofs.lemmas.Option.{slice_get_within}
use Rattle.csn_desc.specs.Nodes.{DescV}
use Rattle.csn_certify.specs.Picks.{IsAsked}
use Rattle.csn_judge.specs.declared.frame.Frame.{Frame}
use Rattle.csn_judge.specs.declared.frame.Frame.TheVariants as frame
use Rattle.csn_judge.specs.declared.turn.Turn.TheVariants.{Waits, Refused}
use Rattle.csn_judge.specs.Coming.{Coming}
use Rattle.csn_judge.specs.Credit.{credit_in, credit_of, Pays}
use Rattle.csn_judge.specs.Turns.{begun_by, state_begun, state_of, state_then, turn_in}
use Rattle.csn_judge.proofs.Clashes.{true_and_false}
use Rattle.csn_judge.proofs.Paying.{begun_credit}
use Rattle.csn_judge.proofs.PayingBits.{chosen_pays}
use Rattle.csn_judge.proofs.PayingParts.{alternative_comes}
use Rattle.csn_judge.proofs.PayingWaits.{paid_two, refused_pays, waits_pay}
use Rattle.csn_judge.proofs.Turning.{pushed, stays, items_room}
use Rattle.csn_judge.proofs.TurningOn.{turns_then, quietly}
use Rattle.csn_judge.proofs.TurningSame.{turns_since, goes_since, stands_on, waits_unready}
use Rattle.csn_judge.proofs.TurningChoices.{open_asked, taken_of, left_of, takes_open, waits_with_all, waits_with_more}
use Rattle.csn_judge.proofs.machine.Machine.choose.Goals.{else-ready-eq0-via-then-ready-eq0+else-not-is_closed, else-ready-eq0-via-else-ready-eq0}
use Rattle.csn_judge.proofs.machine.Machine.choose.Goals as goal

pub push-requires : goal.push-requires
push-requires g c = (
  lit< tt,
  items_room c.args.self.now.plan.now c.args.self.now.frames.items c.requires.stands.stands.shows
      c.requires.stands.stands.stack_is,
)

pub push-requires-in-Wait : goal.push-requires-in-Wait
push-requires-in-Wait g c = (
  lit< tt,
  items_room c.args.self.now.plan.now c.args.self.now.frames.items c.requires.stands.stands.shows
      c.requires.stands.stands.stack_is,
)

pub returns-then-not-is_closed-clause-turns : goal.returns-then-not-is_closed-clause-turns
returns-then-not-is_closed-clause-turns g c =
    waits_unready c.args.self.now.plan.now g.T.Track.takes c.args.track.now c.args.self.now.values.items
    c.args.self.now.pace c.ready-ready.new.self 12 (omega arith) c.ready-ready.ensures.same
    (sym c.ready-ready.ensures.count ∙ c.if-ready-eq0.true)
    c.ready-ready.ensures.good c.ready-ready.ensures.within
    (λ closed. true_and_false (c.is_closed.ensures.1 closed) c.if-not-is_closed.true) c.requires.stands.known
    (pushed c.args.self.now.frames.items (frame.Open c.args.i) c.push.ensures.items)

pub pick-requires-clause-node : goal.pick-requires-clause-node
pick-requires-clause-node g c = slice_get_within _ _ _ c.requires.node

pub pick-requires-clause-asked : goal.pick-requires-clause-asked
pick-requires-clause-asked g c =
    let d : DescV = c.args.self.now.plan.now in
    subst (λ o. IsAsked d c.args.i (o % 8)) (sym (c.ready-ready.ensures.same.place ∙ c.requires.stands.stands.place))
    (open_asked d c.args.self.now.pace c.requires.stands.known c.requires.stands.stands.shows c.requires.stands.stands.stack_is)

pub get-requires : goal.get-requires
get-requires g c =
    let found = taken_of c.args.self.now.plan.now g.T.Track.takes c.args.track.now c.args.self.now.values.items
    c.args.self.now.pace c.ready-ready.new.self c.ready-ready.result c.in-Choice.parts
    (c.requires.node ∙ ap (λ n. Some n) c.in-Choice.is) c.in-Take.ensures.none c.in-Take.ensures.some
    in
    slice_get_within _ _ _ found.1

pub unreachable-requires-in-Leave : goal.unreachable-requires-in-Leave
unreachable-requires-in-Leave g c =
    left_of c.args.self.now.plan.now g.T.Track.takes c.args.track.now c.args.self.now.values.items
    c.args.self.now.pace c.ready-ready.new.self c.ready-ready.result c.in-Choice.parts
    (c.requires.node ∙ ap (λ n. Some n) c.in-Choice.is) c.in-Leave.ensures.none c.in-Leave.ensures.some

pub take_alternative-requires-clause-stands : goal.take_alternative-requires-clause-stands
take_alternative-requires-clause-stands g c =
    let d : DescV = c.args.self.now.plan.now in
    let next : Coming = c.ready-ready.new.self in
    let frames : List Frame = frame.Open c.args.i ∷ reverse c.args.self.now.frames.items in
    let closed : c.ready-ready.result ≡ 0 → (next.ended ≡ true) ⊎ (next.place ≡ next.limit) =
    λ none.
    elim c.else-ready-eq0.branch [
      | else-ready-eq0-via-then-ready-eq0+else-not-is_closed w ↦ w.is_closed.ensures.0 w.if-not-is_closed.false
      | else-ready-eq0-via-else-ready-eq0 w ↦ absurd (w.if-ready-eq0.false none)
    ]
    in
    let on =
    takes_open d g.T.Track.takes c.args.track.now c.args.self.now.values.items c.args.self.now.pace next c.ready-ready.result c.in-Choice.parts
    (c.requires.node ∙ ap (λ n. Some n) c.in-Choice.is) c.get.ensures c.ready-ready.ensures.good
    c.ready-ready.ensures.count closed c.in-Take.ensures.none c.in-Take.ensures.some c.requires.stands.known
    (stands_on d g.T.Track.takes c.args.track.now c.args.track.now frames c.args.self.now.values.items
    c.args.self.now.pace c.ready-ready.ensures.same c.requires.stands.stands) in
    record { known = c.requires.stands.known; stack = on.now; done = c.requires.stands.done ++ on.taken; stands = on.stands }

pub returns-in-Take-clause-turns : goal.returns-in-Take-clause-turns
returns-in-Take-clause-turns g c =
    let d : DescV = c.args.self.now.plan.now in
    let next : Coming = c.ready-ready.new.self in
    let frames : List Frame = frame.Open c.args.i ∷ reverse c.args.self.now.frames.items in
    let closed : c.ready-ready.result ≡ 0 → (next.ended ≡ true) ⊎ (next.place ≡ next.limit) =
    λ none.
    elim c.else-ready-eq0.branch [
      | else-ready-eq0-via-then-ready-eq0+else-not-is_closed w ↦ w.is_closed.ensures.0 w.if-not-is_closed.false
      | else-ready-eq0-via-else-ready-eq0 w ↦ absurd (w.if-ready-eq0.false none)
    ]
    in
    turns_then d g.T.Track.takes {middle = state_begun c.get.result (frame.Choice c.args.i) c.args.self.now next}
    (state_then c.take_alternative.result c.take_alternative.new.self c.take_alternative.new.source)
    c.take_alternative.new.track (turn_in c.take_alternative.result)
    (λ ended. c.ready-ready.ensures.same.bits ∙ c.none_behind_end.ensures ended)
    (λ stack done stands.
    goes_since d g.T.Track.takes c.args.track.now c.args.track.now frames c.args.self.now.values.items c.args.self.now.pace c.ready-ready.ensures.same _
    (takes_open d g.T.Track.takes c.args.track.now c.args.self.now.values.items c.args.self.now.pace next c.ready-ready.result c.in-Choice.parts
    (c.requires.node ∙ ap (λ n. Some n) c.in-Choice.is) c.get.ensures c.ready-ready.ensures.good
    c.ready-ready.ensures.count closed c.in-Take.ensures.none c.in-Take.ensures.some c.requires.stands.known
    (stands_on d g.T.Track.takes c.args.track.now c.args.track.now frames c.args.self.now.values.items
    c.args.self.now.pace c.ready-ready.ensures.same stands)))
    c.take_alternative.ensures.turns

pub returns-then-has_more-clause-turns : goal.returns-then-has_more-clause-turns
returns-then-has_more-clause-turns g c =
    let d : DescV = c.args.self.now.plan.now in
    let next : Coming = c.ready-ready.new.self in
    let frames : List Frame = frame.Open c.args.i ∷ reverse c.args.self.now.frames.items in
    turns_since d g.T.Track.takes c.args.track.now c.args.track.now frames c.args.self.now.values.items
    c.args.self.now.pace c.ready-ready.ensures.same _ (Refused (c.place.result + c.ready-ready.result))
    (waits_with_more d g.T.Track.takes c.args.track.now c.args.self.now.values.items c.args.self.now.pace next _
    (c.place.result + c.ready-ready.result) c.ready-ready.result c.in-Choice.parts
    (c.requires.node ∙ ap (λ n. Some n) c.in-Choice.is) c.ready-ready.ensures.good c.ready-ready.ensures.count
    (c.has_more.ensures.0 c.if-has_more.true) (ap (λ n. n + c.ready-ready.result) c.place.ensures.place)
    c.in-Wait.ensures.none c.in-Wait.ensures.some c.requires.stands.known)

pub returns-else-has_more-clause-turns : goal.returns-else-has_more-clause-turns
returns-else-has_more-clause-turns g c =
    let d : DescV = c.args.self.now.plan.now in
    let next : Coming = c.ready-ready.new.self in
    let frames : List Frame = frame.Open c.args.i ∷ reverse c.args.self.now.frames.items in
    turns_since d g.T.Track.takes c.args.track.now c.args.track.now frames c.args.self.now.values.items c.args.self.now.pace c.ready-ready.ensures.same _ Waits
    (stays d g.T.Track.takes c.args.track.now c.args.self.now.values.items c.args.self.now.pace next Waits _ c.args.track.now
    (pushed c.args.self.now.frames.items (frame.Open c.args.i) c.push-in-Wait.ensures.items)
    (waits_with_all d g.T.Track.takes c.args.track.now c.args.self.now.values.items c.args.self.now.pace next c.ready-ready.result c.in-Choice.parts
    (c.requires.node ∙ ap (λ n. Some n) c.in-Choice.is) c.ready-ready.ensures.good c.ready-ready.ensures.count
    c.ready-ready.ensures.held c.ready-ready.ensures.within
    (λ more. true_and_false (c.has_more.ensures.1 more) c.if-has_more.false)
    c.in-Wait.ensures.none c.in-Wait.ensures.some c.requires.stands.known))

pub returns-in-Refuse-clause-turns : goal.returns-in-Refuse-clause-turns
returns-in-Refuse-clause-turns g c =
    let d : DescV = c.args.self.now.plan.now in
    let frames : List Frame = frame.Open c.args.i ∷ reverse c.args.self.now.frames.items in
    turns_since d g.T.Track.takes c.args.track.now c.args.track.now frames c.args.self.now.values.items
    c.args.self.now.pace c.ready-ready.ensures.same _ c.refuse.result
    (quietly d g.T.Track.takes c.args.track.now _ _ c.refuse.result c.refuse.ensures.turns)

pub returns-in-Take-clause-pays : goal.returns-in-Take-clause-pays
returns-in-Take-clause-pays g c =
    let d : DescV = c.args.self.now.plan.now in
    let frames = reverse c.args.self.now.frames.items in
    let bits = length c.args.source.now.bits in
    let rises = alternative_comes d c.args.self.now.pace c.in-Take.j c.in-Choice.parts
    (c.requires.node ∙ ap (λ n. Some n) c.in-Choice.is) c.get.ensures c.requires.stands.known
    c.requires.stands.stands.shows c.requires.stands.stands.stack_is in
    let less = begun_credit (frame.Open c.args.i) (frame.Choice c.args.i) frames c.args.self.now.pace bits rises.is_node (inl rises.rises) in
    let begun : ℕ = credit_of (length d.nodes) (frame.Begin c.get.result ∷ frame.Choice c.args.i ∷ frames) (begun_by c.get.result c.args.self.now.pace) bits in
    let after : ℕ = credit_in d (state_then c.take_alternative.result c.take_alternative.new.self c.take_alternative.new.source) in
    let same = ap (λ (l : List ℕ). length l) c.ready-ready.ensures.same.bits in
    let P : ℕ → Type 0 =
    λ b. Pays (credit_of (length d.nodes) (frame.Begin c.get.result ∷ frame.Choice c.args.i ∷ frames)
    (begun_by c.get.result c.args.self.now.pace) b + 1) after c.pick.new.steps c.take_alternative.new.steps
    (turn_in c.take_alternative.result) in
    chosen_pays (credit_of (length d.nodes) (frame.Open c.args.i ∷ frames) c.args.self.now.pace bits)
    begun after c.args.steps.now c.take_alternative.new.steps (turn_in c.take_alternative.result)
    (omega (arith, less))
    (subst (λ (k : ℕ). Pays (begun + 1) after k c.take_alternative.new.steps (turn_in c.take_alternative.result))
    c.pick.ensures.step (subst P same c.take_alternative.ensures.pays))

pub pick-requires-clause-few : goal.pick-requires-clause-few
pick-requires-clause-few g c = omega (arith, c.ready-ready.ensures.count)

pub pick-requires-clause-held : goal.pick-requires-clause-held
pick-requires-clause-held g c = omega (arith, c.ready-ready.ensures.count, c.ready-ready.ensures.held)

pub take_alternative-requires-clause-node : goal.take_alternative-requires-clause-node
take_alternative-requires-clause-node g c = c.requires.node

pub refuse-requires-clause-stands : goal.refuse-requires-clause-stands
refuse-requires-clause-stands g c =
    let frames : List Frame = frame.Open c.args.i ∷ reverse c.args.self.now.frames.items in
    record {
      known = c.requires.stands.known;
      stack = c.requires.stands.stack;
      done = c.requires.stands.done;
      stands =
          stands_on c.args.self.now.plan.now g.T.Track.takes c.args.track.now c.args.track.now frames
          c.args.self.now.values.items c.args.self.now.pace c.ready-ready.ensures.same c.requires.stands.stands;
    }

pub refuse-requires-clause-ready : goal.refuse-requires-clause-ready
refuse-requires-clause-ready g c = c.ready-ready.ensures.count

pub refuse-requires-clause-held : goal.refuse-requires-clause-held
refuse-requires-clause-held g c = omega (arith, c.ready-ready.ensures.count, c.ready-ready.ensures.held)

pub refuse-requires-clause-good : goal.refuse-requires-clause-good
refuse-requires-clause-good g c = c.ready-ready.ensures.good

pub refuse-requires-clause-closed : goal.refuse-requires-clause-closed
refuse-requires-clause-closed g c =
    λ none.
    elim c.else-ready-eq0.branch [
      | else-ready-eq0-via-then-ready-eq0+else-not-is_closed w ↦ w.is_closed.ensures.0 w.if-not-is_closed.false
      | else-ready-eq0-via-else-ready-eq0 w ↦ absurd (w.if-ready-eq0.false none)
    ]

pub refuse-requires-clause-some : goal.refuse-requires-clause-some
refuse-requires-clause-some g c = c.in-Refuse.ensures.some

pub refuse-requires-clause-none : goal.refuse-requires-clause-none
refuse-requires-clause-none g c = c.in-Refuse.ensures.none

pub returns-then-not-is_closed-clause-pays : goal.returns-then-not-is_closed-clause-pays
returns-then-not-is_closed-clause-pays g c =
    waits_pay (length c.args.self.now.plan.now.nodes) c.args.steps.now (c.args.steps.now + 1) 1 (frame.Open c.args.i)
    (reverse c.args.self.now.frames.items) c.args.self.now.pace (length c.args.source.now.bits)
    (pushed c.args.self.now.frames.items (frame.Open c.args.i) c.push.ensures.items)
    (ap (λ (l : List ℕ). length l) c.ready-ready.ensures.same.bits) (omega arith) (omega arith) (omega arith)

pub returns-then-has_more-clause-pays : goal.returns-then-has_more-clause-pays
returns-then-has_more-clause-pays g c = refused_pays (length c.args.self.now.plan.now.nodes) 0 c.args.steps.now
    (c.pick.new.steps + 1) 2 (c.place.result + c.ready-ready.result) (frame.Open c.args.i)
    (reverse c.args.self.now.frames.items) c.args.self.now.pace (length c.args.source.now.bits)
    (omega (arith, c.pick.ensures.step)) (omega arith)

pub returns-else-has_more-clause-pays : goal.returns-else-has_more-clause-pays
returns-else-has_more-clause-pays g c =
    waits_pay (length c.args.self.now.plan.now.nodes) c.args.steps.now (c.pick.new.steps + 1) 2 (frame.Open c.args.i)
    (reverse c.args.self.now.frames.items) c.args.self.now.pace (length c.args.source.now.bits)
    (pushed c.args.self.now.frames.items (frame.Open c.args.i) c.push-in-Wait.ensures.items)
    (ap (λ (l : List ℕ). length l) c.ready-ready.ensures.same.bits) (omega (arith, c.pick.ensures.step))
    (omega arith) (omega arith)

pub returns-in-Refuse-clause-pays : goal.returns-in-Refuse-clause-pays
returns-in-Refuse-clause-pays g c =
    let after = credit_in c.args.self.now.plan.now (state_of c.refuse.new.self c.ready-ready.new.self) in
    let P : ℕ → Type 0 =
    λ b. Pays (credit_of (length c.args.self.now.plan.now.nodes)
    (frame.Open c.args.i ∷ reverse c.args.self.now.frames.items) c.args.self.now.pace b) after c.pick.new.steps
    (c.refuse.new.steps + 2) c.refuse.result in
    paid_two (credit_of (length c.args.self.now.plan.now.nodes)
    (frame.Open c.args.i ∷ reverse c.args.self.now.frames.items) c.args.self.now.pace
    (length c.args.source.now.bits)) after c.args.steps.now c.refuse.new.steps c.refuse.result c.pick.ensures.step
    (subst P (ap (λ (l : List ℕ). length l) c.ready-ready.ensures.same.bits) c.refuse.ensures.pays)

pub returns-then-not-is_closed-clause-plan : goal.returns-then-not-is_closed-clause-plan
returns-then-not-is_closed-clause-plan g c = refl

pub returns-then-has_more-clause-plan : goal.returns-then-has_more-clause-plan
returns-then-has_more-clause-plan g c = refl

pub returns-else-has_more-clause-plan : goal.returns-else-has_more-clause-plan
returns-else-has_more-clause-plan g c = refl

pub returns-in-Take-clause-plan : goal.returns-in-Take-clause-plan
returns-in-Take-clause-plan g c = c.take_alternative.ensures.plan

pub returns-in-Refuse-clause-plan : goal.returns-in-Refuse-clause-plan
returns-in-Refuse-clause-plan g c = c.refuse.ensures.plan
