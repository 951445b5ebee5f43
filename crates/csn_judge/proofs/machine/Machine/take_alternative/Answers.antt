use Rattle.std.proofs.Common.{◌≡◌, ℕ, List, ◌∷◌, length, reverse, refl, sym, ap, ◌∙◌, subst, arith}
use Rattle.std.proofs.lemmas.List.{length-reverse}
use Rattle.csn_judge.specs.declared.frame.Frame.{Frame}
use Rattle.csn_judge.specs.declared.frame.Frame.TheVariants as frame
use Rattle.csn_judge.specs.declared.leaf.Leaf.TheVariants as leaf
use Rattle.csn_judge.specs.declared.pace.Pace.{Pace}
use Rattle.csn_judge.specs.Credit.{credit_of, Pays}
use Rattle.csn_judge.specs.Turns.{begun_by, passed_choice, state_of}
use Rattle.csn_judge.proofs.PayingBits.{more_pays, paid_with}
use Rattle.csn_judge.proofs.Rooms.{begin_room, begin_within}
use Rattle.csn_judge.proofs.Turning.{GoesOn-along, begun_again, stays_as}
use Rattle.csn_judge.proofs.TurningEntry.{entered, literal_at, stands_behind}
use Rattle.csn_judge.proofs.TurningOn.{read_and_left, turns_then}
use Rattle.csn_judge.proofs.machine.Machine.take_alternative.Goals as goal

pub node-alternative-requires : goal.node-alternative-requires
node-alternative-requires g c = begin_within c.requires.stands.stands.shows c.requires.stands.stands.stack_is

pub begin-requires-clause-few : goal.begin-requires-clause-few
begin-requires-clause-few g c = let begins = begin_room c.requires.stands.known c.requires.stands.stands.shows
    c.requires.stands.stands.stack_is in omega (arith, begins.0)

pub begin-requires-clause-room : goal.begin-requires-clause-room
begin-requires-clause-room g c =
    let begins = begin_room c.requires.stands.known c.requires.stands.stands.shows c.requires.stands.stands.stack_is in
    omega (arith, begins.1, length-reverse c.args.self.now.frames.items)

pub begin-requires-2 : goal.begin-requires-2
begin-requires-2 g c = let begins = begin_room c.requires.stands.known c.requires.stands.stands.shows
    c.requires.stands.stands.stack_is in omega (arith, begins.0)

pub returns-in_default-clause-turns : goal.returns-in_default-clause-turns
returns-in_default-clause-turns g c =
    λ stack done stands.
    GoesOn-along c.args.self.now.plan.now g.T.Track.takes c.args.track.now c.args.self.now.values.items c.args.self.now.pace c.args.source.now
    (ap (λ (l : List Frame). frame.Begin c.args.part ∷ l) c.begin.ensures.frames) (ap (λ v. v.items) c.begin.ensures.values) c.begin.ensures.pace
    (stays_as c.args.self.now.plan.now g.T.Track.takes c.args.track.now _ stands)

pub returns-in_default-clause-pays : goal.returns-in_default-clause-pays
returns-in_default-clause-pays g c =
    let n = length c.args.self.now.plan.now.nodes in
    let bits = length c.args.source.now.bits in
    let frames = frame.Choice c.args.i ∷ reverse c.args.self.now.frames.items in
    let same =
    ap (λ (l : List Frame). credit_of n (frame.Begin c.args.part ∷ l) c.begin.new.self.pace bits) c.begin.ensures.frames
    ∙ ap (λ p. credit_of n (frame.Begin c.args.part ∷ frames) p bits) c.begin.ensures.pace in
    (omega (arith, same, c.node-alternative.ensures.step), omega (arith, same))

pub read_part-requires-clause-stands : goal.read_part-requires-clause-stands
read_part-requires-clause-stands g c =
    stands_behind c.requires.stands.known
    (literal_at c.args.self.now.plan.now g.T.Track.takes c.args.track.now c.args.self.now.values.items
    (begun_by c.args.part c.args.self.now.pace) c.args.source.now c.requires.stands.known c.requires.stands.stands
    c.in-Lits.field-0
    (begun_again c.args.self.now.plan.now c.args.self.now.pace c.args.part c.begin-2.ensures)
    (entered g.T.Track.takes _ c.in-Lits.is c.node-alternative.ensures.node c.step.ensures))

pub returns-in-Ended-clause-turns : goal.returns-in-Ended-clause-turns
returns-in-Ended-clause-turns g c =
    λ stack done stands.
    read_and_left c.args.self.now.plan.now g.T.Track.takes c.read_part.new.self.values.items c.read_part.new.self.pace c.read_part.new.source c.args.node.now
    (literal_at c.args.self.now.plan.now g.T.Track.takes c.args.track.now c.args.self.now.values.items
    (begun_by c.args.part c.args.self.now.pace) c.args.source.now c.requires.stands.known stands c.in-Lits.field-0
    (begun_again c.args.self.now.plan.now c.args.self.now.pace c.args.part c.begin-2.ensures)
    (entered g.T.Track.takes _ c.in-Lits.is c.node-alternative.ensures.node c.step.ensures))
    c.in-Ended.ensures.turns (passed_choice refl) c.requires.stands.known c.requires.node c.step-in-Ended.ensures

pub returns-in-Turn-clause-turns : goal.returns-in-Turn-clause-turns
returns-in-Turn-clause-turns g c =
    turns_then c.args.self.now.plan.now g.T.Track.takes (state_of c.read_part.new.self c.read_part.new.source)
    c.read_part.new.track c.in-Turn.turn c.none_behind_end.ensures
    (λ stack done stands.
    literal_at c.args.self.now.plan.now g.T.Track.takes c.args.track.now c.args.self.now.values.items
    (begun_by c.args.part c.args.self.now.pace) c.args.source.now c.requires.stands.known stands c.in-Lits.field-0
    (begun_again c.args.self.now.plan.now c.args.self.now.pace c.args.part c.begin-2.ensures)
    (entered g.T.Track.takes _ c.in-Lits.is c.node-alternative.ensures.node c.step.ensures))
    c.in-Turn.ensures.turns

-- the literal takes no steps more than the part that has begun
literal_credit : (nodes part i : ℕ) (frames : List Frame) (pace now : Pace) (bits : ℕ) → now ≡ begun_by part pace
    → credit_of nodes (frame.Leaf part (leaf.Lits 0) ∷ frame.Choice i ∷ frames) now bits ≡ credit_of nodes
    (frame.Leaf part (leaf.Lits 0) ∷ frame.Choice i ∷ frames) (begun_by part pace) bits
literal_credit nodes part i frames pace now bits paced = ap (λ p. credit_of nodes (frame.Leaf part (leaf.Lits 0) ∷ frame.Choice i ∷ frames) p bits) paced

pub returns-in-Ended-clause-pays : goal.returns-in-Ended-clause-pays
returns-in-Ended-clause-pays g c =
    let same = literal_credit (length c.args.self.now.plan.now.nodes) c.args.part c.args.i
    (reverse c.args.self.now.frames.items) c.args.self.now.pace c.begin-2.new.self (length c.args.source.now.bits)
    (begun_again c.args.self.now.plan.now c.args.self.now.pace c.args.part c.begin-2.ensures) in
    let paid = c.in-Ended.ensures.pays in
    (omega (arith, same, paid.0, c.node-alternative.ensures.step), omega (arith, same, paid.1))

pub returns-in-Turn-clause-pays : goal.returns-in-Turn-clause-pays
returns-in-Turn-clause-pays g c =
    let same = literal_credit (length c.args.self.now.plan.now.nodes) c.args.part c.args.i
    (reverse c.args.self.now.frames.items) c.args.self.now.pace c.begin-2.new.self (length c.args.source.now.bits)
    (begun_again c.args.self.now.plan.now c.args.self.now.pace c.args.part c.begin-2.ensures) in
    let before = credit_of (length c.args.self.now.plan.now.nodes)
    (frame.Leaf c.args.part (leaf.Lits 0) ∷ frame.Choice c.args.i ∷ reverse c.args.self.now.frames.items)
    c.begin-2.new.self (length c.args.source.now.bits) in
    let after = credit_of (length c.args.self.now.plan.now.nodes) (reverse c.read_part.new.self.frames.items)
    c.read_part.new.self.pace (length c.read_part.new.source.bits) in
    more_pays before _ after c.args.steps.now _ c.in-Turn.turn (omega (arith, same))
    (subst (λ (k : ℕ). Pays before after c.args.steps.now k c.in-Turn.turn) (sym c.node-alternative.ensures.step)
    (paid_with before after c.args.steps.now c.in-Turn.turn c.in-Turn.ensures.pays))
