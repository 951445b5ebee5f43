use Rattle.std.proofs.Common.{inl, inr, ℕ, List, lit<, ◌≤◌, ◌≡◌, ◌∷◌, [], ◌⊎◌, true, length, reverse, refl, sym, ap, subst, ◌∙◌, arith, Some}
use Rattle.std.proofs.lemmas.List.{length-reverse}
use Rattle.std.proofs.lemmas.Option.{slice_get_within}
use Rattle.csn_desc.specs.Nodes.{DescV}
use Rattle.csn_desc.specs.declared.moves.Move.TheVariants.{Leave}
use Rattle.csn_desc.specs.declared.node.Node.{Node}
use Rattle.csn_judge.specs.declared.frame.Frame.{Frame}
use Rattle.csn_judge.specs.declared.frame.Frame.TheVariants as frame
use Rattle.csn_judge.specs.Coming.{Coming}
use Rattle.csn_judge.proofs.Clashes.{moved_and_waits, one_value, true_and_false}
use Rattle.csn_judge.proofs.Rooms.{first_of, unready}
use Rattle.csn_judge.proofs.Paying.{begun_pays_on, left_pays_on}
use Rattle.csn_judge.proofs.PayingParts.{component_rises}
use Rattle.csn_judge.proofs.PayingWaits.{waits_pay}
use Rattle.csn_judge.proofs.Turning.{pushed, GoesOn-along, items_room}
use Rattle.csn_judge.proofs.TurningSame.{goes_since, stands_on, waits_unready}
use Rattle.csn_judge.proofs.TurningTruncs.{trunc_at, begins_component, leaves_truncation, component_begins}
use Rattle.csn_judge.proofs.machine.Machine.trunc.Goals.{else-ready-eq0-via-then-ready-eq0+then-at-len+else-not-is_closed}
use Rattle.csn_judge.proofs.machine.Machine.trunc.Goals.{else-ready-eq0-via-then-ready-eq0+else-at-len}
use Rattle.csn_judge.proofs.machine.Machine.trunc.Goals.{else-ready-eq0-via-else-ready-eq0}
use Rattle.csn_judge.proofs.machine.Machine.trunc.Goals.{then-ready-eq0-2-via-then-ready-eq0-2}
use Rattle.csn_judge.proofs.machine.Machine.trunc.Goals.{then-ready-eq0-2-via-else-ready-eq0-2+then-at-len-2}
use Rattle.csn_judge.proofs.machine.Machine.trunc.Goals as goal

pub returns-then-not-is_closed-clause-turns : goal.returns-then-not-is_closed-clause-turns
returns-then-not-is_closed-clause-turns g c =
    waits_unready c.args.self.now.plan.now g.T.Track.takes c.args.track.now c.args.self.now.values.items
    c.args.self.now.pace c.ready-ready.new.self 1 (omega arith) c.ready-ready.ensures.same
    (sym c.ready-ready.ensures.count ∙ c.if-ready-eq0.true)
    c.ready-ready.ensures.good c.ready-ready.ensures.within
    (λ closed. true_and_false (c.is_closed.ensures.1 closed) c.if-not-is_closed.true) c.requires.known
    (pushed c.args.self.now.frames.items (frame.Trunc c.args.i c.args.at c.args.values) c.push.ensures.items)

pub push-requires : goal.push-requires
push-requires g c = (lit< tt, items_room c.args.self.now.plan.now c.args.self.now.frames.items c.requires.stands.shows c.requires.stands.stack_is)

pub returns-then-ready-eq0-2-clause-turns : goal.returns-then-ready-eq0-2-clause-turns
returns-then-ready-eq0-2-clause-turns g c =
    let d : DescV = c.args.self.now.plan.now in
    let next : Coming = c.ready-ready.new.self in
    let top : Frame = frame.Trunc c.args.i c.args.at c.args.values in
    let closed : (length c.in-Trunc.parts ≤ c.args.at) ⊎ (((next.bits ≡ []) ⊎ (next.place ≡ next.limit)) × ((next.ended ≡ true) ⊎ (next.place ≡ next.limit))) =
    elim c.then-ready-eq0-2.branch [
      | then-ready-eq0-2-via-then-ready-eq0-2 w ↦
          elim c.else-ready-eq0.branch [
            | else-ready-eq0-via-then-ready-eq0+then-at-len+else-not-is_closed u ↦ inr (
              unready next 1 (omega arith) (sym c.ready-ready.ensures.count ∙ w.if-ready-eq0-2.true)
                  c.ready-ready.ensures.good,
              u.is_closed.ensures.0 u.if-not-is_closed.false,
            )
            | else-ready-eq0-via-then-ready-eq0+else-at-len u ↦ inl (omega (arith, u.if-at-len.false, u.len.ensures.len))
            | else-ready-eq0-via-else-ready-eq0 u ↦ absurd (u.if-ready-eq0.false w.if-ready-eq0-2.true)
          ]
      | then-ready-eq0-2-via-else-ready-eq0-2+then-at-len-2 w ↦ inl (omega (arith, w.if-at-len-2.true, w.len-else-ready-eq0-2.ensures.len))
    ]
    in
    λ stack done stands.
    goes_since d g.T.Track.takes c.args.track.now c.step.new.self (top ∷ reverse c.args.self.now.frames.items)
    c.args.self.now.values.items c.args.self.now.pace c.ready-ready.ensures.same _
    (GoesOn-along d g.T.Track.takes c.args.track.now c.args.self.now.values.items c.args.self.now.pace next refl c.truncate.ensures.items refl
    (leaves_truncation d g.T.Track.takes c.args.track.now c.args.self.now.values.items c.args.self.now.pace next c.in-Trunc.parts
    (c.node-node.ensures.node ∙ ap (λ n. Some n) c.in-Trunc.is)
    (subst (λ (n : Node). g.T.Track.takes c.args.track.now Leave n c.step.new.self) c.in-Trunc.is c.step.ensures)
    c.ready-ready.ensures.good closed c.requires.known
    (stands_on d g.T.Track.takes c.args.track.now c.args.track.now (top ∷ reverse c.args.self.now.frames.items)
    c.args.self.now.values.items c.args.self.now.pace c.ready-ready.ensures.same stands)))

pub begin-requires-clause-few : goal.begin-requires-clause-few
begin-requires-clause-few g c =
    let begins = component_begins c.args.self.now.plan.now g.T.Track.takes c.args.track.now
    c.args.self.now.values.items c.args.self.now.pace c.ready-ready.new.self c.in-Trunc.parts
    (c.node-node.ensures.node ∙ ap (λ n. Some n) c.in-Trunc.is) c.part_at-part.ensures
    (omega (arith, c.ready-ready.ensures.count, c.if-ready-eq0-2.false))
    (omega (arith, c.ready-ready.ensures.count, c.if-ready-eq0-2.false)) c.requires.known
    (stands_on c.args.self.now.plan.now g.T.Track.takes c.args.track.now c.args.track.now
    (frame.Trunc c.args.i c.args.at c.args.values ∷ reverse c.args.self.now.frames.items)
    c.args.self.now.values.items c.args.self.now.pace c.ready-ready.ensures.same c.requires.stands) in
    omega (arith, begins.within)

pub begin-requires-clause-room : goal.begin-requires-clause-room
begin-requires-clause-room g c =
    let begins = component_begins c.args.self.now.plan.now g.T.Track.takes c.args.track.now
    c.args.self.now.values.items c.args.self.now.pace c.ready-ready.new.self c.in-Trunc.parts
    (c.node-node.ensures.node ∙ ap (λ n. Some n) c.in-Trunc.is) c.part_at-part.ensures
    (omega (arith, c.ready-ready.ensures.count, c.if-ready-eq0-2.false))
    (omega (arith, c.ready-ready.ensures.count, c.if-ready-eq0-2.false)) c.requires.known
    (stands_on c.args.self.now.plan.now g.T.Track.takes c.args.track.now c.args.track.now
    (frame.Trunc c.args.i c.args.at c.args.values ∷ reverse c.args.self.now.frames.items)
    c.args.self.now.values.items c.args.self.now.pace c.ready-ready.ensures.same c.requires.stands) in
    omega (arith, begins.room, length-reverse c.args.self.now.frames.items)

pub returns-clause-turns : goal.returns-clause-turns
returns-clause-turns g c =
    let d : DescV = c.args.self.now.plan.now in
    let next : Coming = c.ready-ready.new.self in
    let top : Frame = frame.Trunc c.args.i c.args.at c.args.values in
    let found = first_of next.bits (omega (arith, c.ready-ready.ensures.count, c.if-ready-eq0-2.false)) in
    λ stack done stands.
    goes_since d g.T.Track.takes c.args.track.now c.args.track.now (top ∷ reverse c.args.self.now.frames.items)
    c.args.self.now.values.items c.args.self.now.pace c.ready-ready.ensures.same _
    (GoesOn-along d g.T.Track.takes c.args.track.now c.args.self.now.values.items c.args.self.now.pace next
    (ap (λ (l : List Frame). frame.Begin c.part_at-part.result ∷ l) c.begin.ensures.frames)
    (ap (λ v. v.items) c.begin.ensures.values) c.begin.ensures.pace
    (begins_component d g.T.Track.takes c.args.track.now c.args.self.now.values.items c.args.self.now.pace next c.in-Trunc.parts found.0 found.1
    (c.node-node.ensures.node ∙ ap (λ n. Some n) c.in-Trunc.is) c.part_at-part.ensures found.2
    (omega (arith, c.ready-ready.ensures.count, c.if-ready-eq0-2.false)) c.requires.known
    (stands_on d g.T.Track.takes c.args.track.now c.args.track.now (top ∷ reverse c.args.self.now.frames.items)
    c.args.self.now.values.items c.args.self.now.pace c.ready-ready.ensures.same stands)))

pub returns-clause-pays : goal.returns-clause-pays
returns-clause-pays g c =
    let d : DescV = c.args.self.now.plan.now in
    let rises = component_rises d c.args.self.now.pace c.in-Trunc.parts (c.node-node.ensures.node ∙ ap (λ n. Some n)
    c.in-Trunc.is) c.part_at-part.ensures c.requires.known c.requires.stands.shows c.requires.stands.stack_is in
    begun_pays_on c.args.steps.now 1 (frame.Trunc c.args.i c.args.at c.args.values) _
    (ap (λ (l : List ℕ). length l) c.ready-ready.ensures.same.bits)
    (ap (λ (l : List Frame). frame.Begin c.part_at-part.result ∷ l) c.begin.ensures.frames)
    c.begin.ensures.pace c.node-node.ensures.step
    rises.is_node (inl rises.rises) (omega arith) (omega arith)

pub node-node-requires : goal.node-node-requires
node-node-requires g c = slice_get_within _ _ _ (trunc_at c.args.self.now.plan.now c.requires.stands.shows).1

pub unreachable-requires : goal.unreachable-requires
unreachable-requires g c =
    let found = trunc_at c.args.self.now.plan.now c.requires.stands.shows in
    c.in_default.not-Trunc found.0 (one_value c.node-node.ensures.node found.1)

pub returns-then-not-is_closed-clause-pays : goal.returns-then-not-is_closed-clause-pays
returns-then-not-is_closed-clause-pays g c =
    waits_pay (length c.args.self.now.plan.now.nodes) c.args.steps.now c.node-node.new.steps 1
    (frame.Trunc c.args.i c.args.at c.args.values) (reverse c.args.self.now.frames.items) c.args.self.now.pace
    (length c.args.source.now.bits)
    (pushed c.args.self.now.frames.items (frame.Trunc c.args.i c.args.at c.args.values) c.push.ensures.items)
    (ap (λ (l : List ℕ). length l) c.ready-ready.ensures.same.bits) (omega (arith, c.node-node.ensures.step))
    (omega arith) (omega arith)

pub returns-then-not-is_closed-clause-waits : goal.returns-then-not-is_closed-clause-waits
returns-then-not-is_closed-clause-waits g c = λ waits. omega (arith, c.node-node.ensures.step)

pub returns-then-not-is_closed-clause-plan : goal.returns-then-not-is_closed-clause-plan
returns-then-not-is_closed-clause-plan g c = refl

pub returns-then-ready-eq0-2-clause-pays : goal.returns-then-ready-eq0-2-clause-pays
returns-then-ready-eq0-2-clause-pays g c = left_pays_on (length c.args.self.now.plan.now.nodes) c.args.steps.now
    (length c.args.source.now.bits) 1 (frame.Trunc c.args.i c.args.at c.args.values)
    (ap (λ (l : List ℕ). length l) c.ready-ready.ensures.same.bits) refl refl c.node-node.ensures.step (omega arith)
    (omega arith)

pub returns-then-ready-eq0-2-clause-waits : goal.returns-then-ready-eq0-2-clause-waits
returns-then-ready-eq0-2-clause-waits g c = λ waits. absurd (moved_and_waits waits)

pub returns-then-ready-eq0-2-clause-plan : goal.returns-then-ready-eq0-2-clause-plan
returns-then-ready-eq0-2-clause-plan g c = refl

pub returns-clause-waits : goal.returns-clause-waits
returns-clause-waits g c = λ waits. absurd (moved_and_waits waits)

pub returns-clause-plan : goal.returns-clause-plan
returns-clause-plan g c = c.begin.ensures.plan
