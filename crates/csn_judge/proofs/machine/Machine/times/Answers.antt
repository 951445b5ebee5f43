use Rattle.std.proofs.Common.{suc, List, ◌≡◌, ◌-◌, ◌∷◌, length, ap, subst, ◌∙◌, arith}
use Rattle.std.proofs.lemmas.List.{length-reverse}
use Rattle.std.proofs.lemmas.Option.{slice_get_within}
use Rattle.csn_desc.specs.Nodes.{DescV}
use Rattle.csn_judge.specs.declared.frame.Frame.{Frame}
use Rattle.csn_judge.specs.declared.frame.Frame.TheVariants as frame
use Rattle.csn_judge.specs.Left.{Left, turns_left}
use Rattle.csn_judge.specs.Inside.{IsStack}
use Rattle.csn_judge.specs.Turns.{fresh_at}
use Rattle.csn_judge.proofs.Paying.{begun_pays, turn_goes_back}
use Rattle.csn_judge.proofs.Turning.{turns_stand, turn_stack, begun_within, GoesOn-along, begins_turn, ends_turns}
use Rattle.csn_judge.proofs.machine.Machine.times.Goals as goal
use Rattle.csn_judge.proofs.Rooms.{turn_room}

pub leave-requires : goal.leave-requires
leave-requires g c =
    let k = turns_stand c.args.self.now.plan.now c.requires.stands.shows in
    slice_get_within _ _ _ k.repeats.at

pub begin-requires-clause-few : goal.begin-requires-clause-few
begin-requires-clause-few g c =
    let rooms = turn_room c.args.self.now.pace (c.args.left - 1) c.requires.known (omega (arith, c.if-left-eq0.false))
    c.requires.stands.shows c.requires.stands.stack_is in
    omega (arith, rooms.0, c.requires.known.description.few)

pub begin-requires-clause-room : goal.begin-requires-clause-room
begin-requires-clause-room g c =
    let rooms = turn_room c.args.self.now.pace (c.args.left - 1) c.requires.known (omega (arith, c.if-left-eq0.false))
    c.requires.stands.shows c.requires.stands.stack_is in
    omega (arith, rooms.1, length-reverse c.args.self.now.frames.items)

pub returns-clause-turns : goal.returns-clause-turns
returns-clause-turns g c =
    let d : DescV = c.args.self.now.plan.now in
    λ stack done stands.
    GoesOn-along d g.T.Track.takes c.args.track.now c.args.self.now.values.items c.args.self.now.pace
    c.args.source.now (ap (λ (l : List Frame). frame.Begin c.args.part ∷ l) c.begin.ensures.frames)
    (ap (λ v. v.items) c.begin.ensures.values) c.begin.ensures.pace
    (begins_turn d g.T.Track.takes c.args.track.now c.args.self.now.values.items c.args.self.now.pace
    c.args.source.now (omega (arith, c.if-left-eq0.false)) c.requires.known stands)

pub returns-then-left-eq0-clause-turns : goal.returns-then-left-eq0-clause-turns
returns-then-left-eq0-clause-turns g c =
    let d : DescV = c.args.self.now.plan.now in
    λ stack done stands.
    ends_turns d g.T.Track.takes c.args.track.now c.args.self.now.values.items c.args.self.now.pace c.args.source.now c.leave.ensures.told.0
    c.if-left-eq0.true c.requires.known stands c.leave.ensures.told.1 c.leave.ensures.told.2

pub returns-clause-pays : goal.returns-clause-pays
returns-clause-pays g c =
    let d : DescV = c.args.self.now.plan.now in
    let k = turns_stand d c.requires.stands.shows in
    let some : c.args.left ≡ suc (c.args.left - 1) = omega (arith, c.if-left-eq0.false) in
    let stack = subst (λ (l : List Left). IsStack d c.args.self.now.pace.next
    (fresh_at c.args.self.now.pace (length c.requires.done)) l c.requires.done)
    (k.is ∙ ap (λ n. turns_left n c.args.part k.v ∷ k.outer) some) c.requires.stands.stack_is in
    begun_pays c.args.steps.now (length c.args.source.now.bits) 0 (frame.Times c.args.i c.args.part c.args.left) _
    (ap (λ (l : List Frame). frame.Begin c.args.part ∷ l) c.begin.ensures.frames) c.begin.ensures.pace
    (omega arith)
    (begun_within d (turn_stack d c.args.self.now.pace c.requires.known stack))
    (turn_goes_back d c.args.self.now.pace c.requires.known stack) (omega arith) (omega arith)
