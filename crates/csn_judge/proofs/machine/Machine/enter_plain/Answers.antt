use Rattle.std.specs.Prelude.{⊤}
use Rattle.std.proofs.Common.{inl, ◌*◌, List, ◌∷◌, length, reverse, Some, refl, ap, ◌∙◌, subst, arith}
use Rattle.std.proofs.lemmas.List.{length-reverse}
use Rattle.csn_desc.specs.declared.moves.Move.TheVariants.{Enter}
use Rattle.csn_desc.specs.declared.node.Node.{Node}
use Rattle.csn_desc.specs.declared.node.Node.TheVariants.{Named}
use Rattle.csn_desc.specs.Nodes.{DescV}
use Rattle.csn_judge.specs.declared.frame.Frame.{Frame}
use Rattle.csn_judge.specs.declared.frame.Frame.TheVariants as frame
use Rattle.csn_judge.specs.declared.leaf.Leaf.TheVariants as leaf
use Rattle.csn_judge.specs.Credit.{credit_of}
use Rattle.csn_judge.specs.Turns.{begun_by, passed_label, state_of}
use Rattle.csn_judge.proofs.Paying.{begun_pays}
use Rattle.csn_judge.proofs.PayingBits.{labelled_credit, entered_pays, paid_with}
use Rattle.csn_judge.proofs.Turning.{GoesOn-along, begun_again}
use Rattle.csn_judge.proofs.TurningEntry.{field_fits, keeps_field, stands_behind}
use Rattle.csn_judge.proofs.TurningOn.{read_and_left, turns_then}
use Rattle.csn_judge.proofs.TurningNamed.{label_goes_on, field_goes_on, label_begins}
use Rattle.csn_judge.proofs.machine.Machine.enter_plain.Goals as goal

pub begin-requires-clause-few : goal.begin-requires-clause-few
begin-requires-clause-few g c =
    let t = label_begins c.args.self.now.plan.now c.args.self.now.pace c.requires.stands.known c.requires.part.1
    c.requires.stands.stands.shows c.requires.stands.stands.stack_is in
    omega (arith, t.within, c.requires.stands.known.description.few)

pub begin-requires-clause-room : goal.begin-requires-clause-room
begin-requires-clause-room g c =
    let t = label_begins c.args.self.now.plan.now c.args.self.now.pace c.requires.stands.known c.requires.part.1
    c.requires.stands.stands.shows c.requires.stands.stands.stack_is in
    omega (arith, t.room, length-reverse c.args.self.now.frames.items)

pub returns-in_default-clause-turns : goal.returns-in_default-clause-turns
returns-in_default-clause-turns g c =
    let d : DescV = c.args.self.now.plan.now in
    λ first node look took stack done stands.
    GoesOn-along d g.T.Track.takes first c.args.self.now.values.items c.args.self.now.pace c.args.source.now
    (ap (λ (l : List Frame). frame.Begin c.args.part ∷ l) c.begin.ensures.frames)
    (ap (λ v. v.items) c.begin.ensures.values) c.begin.ensures.pace
    (label_goes_on d g.T.Track.takes first c.args.self.now.values.items c.args.self.now.pace c.args.source.now
    c.args.i (reverse c.args.self.now.frames.items) c.requires.part.0 node c.requires.stands.known
    c.requires.plain c.requires.part.1 look took stands)

pub returns-in_default-clause-pays : goal.returns-in_default-clause-pays
returns-in_default-clause-pays g c =
    let t = label_begins c.args.self.now.plan.now c.args.self.now.pace c.requires.stands.known c.requires.part.1
    c.requires.stands.stands.shows c.requires.stands.stands.stack_is in
    begun_pays 0 (length c.args.source.now.bits) 2 (frame.Begin c.args.i) (frame.Named c.args.i)
    (ap (λ (l : List Frame). frame.Begin c.args.part ∷ l) c.begin.ensures.frames) c.begin.ensures.pace refl
    t.within (inl t.rises) (omega arith) (omega arith)

pub number_of-requires : goal.number_of-requires
number_of-requires g c =
    let d : DescV = c.args.self.now.plan.now in
    let on = label_goes_on d {S = ⊤} (λ _ _ _ _. ⊤) tt c.args.self.now.values.items c.args.self.now.pace
    c.args.source.now c.args.i (reverse c.args.self.now.frames.items) {after = tt} c.requires.part.0
    (Named c.requires.part.0 c.args.part) c.requires.stands.known c.requires.plain c.requires.part.1
    c.requires.part.1 tt c.requires.stands.stands in
    keeps_field d {S = ⊤} (λ _ _ _ _. ⊤) tt c.args.self.now.values.items (begun_by c.args.part c.args.self.now.pace)
    c.args.source.now c.requires.stands.known on.stands c.in-Field.unit c.in-Field.count
    (c.requires.field ∙ ap (λ n. Some n) c.in-Field.is)

pub overflow_mul-left : goal.overflow_mul-left
overflow_mul-left g c =
    let d : DescV = c.args.self.now.plan.now in
    let on = label_goes_on d {S = ⊤} (λ _ _ _ _. ⊤) tt c.args.self.now.values.items c.args.self.now.pace
    c.args.source.now c.args.i (reverse c.args.self.now.frames.items) {after = tt} c.requires.part.0
    (Named c.requires.part.0 c.args.part) c.requires.stands.known c.requires.plain c.requires.part.1
    c.requires.part.1 tt c.requires.stands.stands in
    omega (
      arith,
      field_fits d {S = ⊤} (λ _ _ _ _. ⊤) tt c.args.self.now.values.items
          (begun_by c.args.part c.args.self.now.pace) c.args.source.now c.requires.stands.known on.stands
          c.in-Field.unit c.number_of.result c.in-Field.count (c.requires.field ∙ ap (λ n. Some n) c.in-Field.is)
          c.number_of.ensures.small,
    )

pub begin-requires-2 : goal.begin-requires-2
begin-requires-2 g c =
    let t = label_begins c.args.self.now.plan.now c.args.self.now.pace c.requires.stands.known c.requires.part.1
    c.requires.stands.stands.shows c.requires.stands.stands.stack_is in
    omega (arith, t.within, c.requires.stands.known.description.few)

pub read_part-requires-clause-stands : goal.read_part-requires-clause-stands
read_part-requires-clause-stands g c =
    stands_behind c.requires.stands.known
    (field_goes_on c.args.self.now.plan.now {S = ⊤} (λ _ _ _ _. ⊤) tt c.args.self.now.values.items
    c.args.self.now.pace c.args.source.now c.args.i (reverse c.args.self.now.frames.items) {middle = tt}
    {after = tt} c.requires.part.0 (Named c.requires.part.0 c.args.part)
    c.requires.stands.known c.requires.plain c.requires.part.1 c.requires.part.1 tt
    (c.requires.field ∙ ap (λ n. Some n) c.in-Field.is) tt c.number_of.ensures.count refl
    (begun_again c.args.self.now.plan.now c.args.self.now.pace c.args.part c.begin-2.ensures) c.requires.stands.stands)

pub returns-in-Ended-clause-turns : goal.returns-in-Ended-clause-turns
returns-in-Ended-clause-turns g c =
    λ first node look_node took stack done stands.
    read_and_left c.args.self.now.plan.now g.T.Track.takes c.read_part.new.self.values.items c.read_part.new.self.pace c.read_part.new.source c.args.node.now
    (field_goes_on c.args.self.now.plan.now g.T.Track.takes first c.args.self.now.values.items c.args.self.now.pace
    c.args.source.now c.args.i (reverse c.args.self.now.frames.items) c.requires.part.0 node
    c.requires.stands.known c.requires.plain c.requires.part.1 look_node took
    (c.requires.field ∙ ap (λ n. Some n) c.in-Field.is)
    (subst (λ (n : Node). g.T.Track.takes c.args.track.now (Enter c.args.part) n c.step.new.self)
    c.in-Field.is c.step.ensures)
    c.number_of.ensures.count refl (begun_again c.args.self.now.plan.now c.args.self.now.pace c.args.part c.begin-2.ensures) stands)
    c.in-Ended.ensures.turns (passed_label refl) c.requires.stands.known c.requires.node c.step-in-Ended.ensures

pub returns-in-Turn-clause-turns : goal.returns-in-Turn-clause-turns
returns-in-Turn-clause-turns g c =
    λ first node look_node took.
    turns_then c.args.self.now.plan.now g.T.Track.takes (state_of c.read_part.new.self c.read_part.new.source)
    c.read_part.new.track c.in-Turn.turn c.none_behind_end.ensures
    (λ stack done stands.
    field_goes_on c.args.self.now.plan.now g.T.Track.takes first c.args.self.now.values.items c.args.self.now.pace
    c.args.source.now c.args.i (reverse c.args.self.now.frames.items) c.requires.part.0 node
    c.requires.stands.known c.requires.plain c.requires.part.1 look_node took
    (c.requires.field ∙ ap (λ n. Some n) c.in-Field.is)
    (subst (λ (n : Node). g.T.Track.takes c.args.track.now (Enter c.args.part) n c.step.new.self)
    c.in-Field.is c.step.ensures)
    c.number_of.ensures.count refl (begun_again c.args.self.now.plan.now c.args.self.now.pace c.args.part c.begin-2.ensures) stands)
    c.in-Turn.ensures.turns

pub returns-in-Ended-clause-pays : goal.returns-in-Ended-clause-pays
returns-in-Ended-clause-pays g c =
    let t = label_begins c.args.self.now.plan.now c.args.self.now.pace c.requires.stands.known c.requires.part.1
    c.requires.stands.stands.shows c.requires.stands.stands.stack_is in
    let less = labelled_credit c.args.i (c.in-Field.unit * c.number_of.result) (reverse c.args.self.now.frames.items)
    c.args.self.now.pace (length c.args.source.now.bits)
    (begun_again c.args.self.now.plan.now c.args.self.now.pace c.args.part c.begin-2.ensures) t.within t.rises in
    let paid = c.in-Ended.ensures.pays in
    (omega (arith, less, paid.0), omega (arith, less, paid.1))

pub returns-in-Turn-clause-pays : goal.returns-in-Turn-clause-pays
returns-in-Turn-clause-pays g c =
    let n = length c.args.self.now.plan.now.nodes in
    let frames = reverse c.args.self.now.frames.items in
    let bits = length c.args.source.now.bits in
    let left = c.in-Field.unit * c.number_of.result in
    let before = credit_of n (frame.Leaf c.args.part (leaf.Field left) ∷ frame.Named c.args.i ∷ frames) c.begin-2.new.self bits in
    let after = credit_of n (reverse c.read_part.new.self.frames.items) c.read_part.new.self.pace (length c.read_part.new.source.bits) in
    let t = label_begins c.args.self.now.plan.now c.args.self.now.pace c.requires.stands.known c.requires.part.1
    c.requires.stands.stands.shows c.requires.stands.stands.stack_is in
    let less = labelled_credit c.args.i left frames c.args.self.now.pace bits
    (begun_again c.args.self.now.plan.now c.args.self.now.pace c.args.part c.begin-2.ensures) t.within t.rises in
    entered_pays (credit_of n (frame.Begin c.args.i ∷ frames) c.args.self.now.pace bits) before after 0 1 2 c.in-Turn.turn
    less refl (paid_with before after 1 c.in-Turn.turn c.in-Turn.ensures.pays)
