use Rattle.std.proofs.Common.{inl, ◌≡◌, ℕ, ◌+◌, ◌*◌, ◌<◌, ◌≤◌, true, false, List, ◌∷◌, [], length, reverse, min, refl, ap, subst, ◌∙◌, arith, Some}
use Rattle.std.proofs.lemmas.List.{length-reverse}
use Rattle.csn_desc.specs.Nodes.{DescV}
use Rattle.csn_desc.specs.declared.moves.Move.{Move}
use Rattle.csn_desc.specs.declared.moves.Move.TheVariants.{Leave}
use Rattle.csn_desc.specs.declared.node.Node.{Node}
use Rattle.csn_desc.specs.declared.node.Node.TheVariants.{Seq, Window}
use Rattle.csn_judge.specs.declared.frame.Frame.{Frame}
use Rattle.csn_judge.specs.declared.frame.Frame.TheVariants as frame
use Rattle.csn_judge.specs.declared.leaf.Leaf.TheVariants as leaf
use Rattle.csn_certify.specs.declared.numbers.Number.{Number}
use Rattle.csn_judge.specs.declared.machine.Machine.{Machine}
use Rattle.csn_judge.specs.declared.pace.Pace.{Pace}
use Rattle.csn_judge.specs.declared.turn.Turn.{Turn}
use Rattle.csn_judge.specs.Known.{Known}
use Rattle.csn_judge.specs.Left.{Left}
use Rattle.csn_judge.specs.Coming.{Coming}
use Rattle.csn_judge.specs.Credit.{weight_of, credit_in, Pays, TurnPays}
use Rattle.csn_judge.specs.Turns.{StateV, state_of, state_then, state_with, turn_in, Stands, GoesOn, Turns}
use Rattle.csn_judge.proofs.Paying.{begun_pays, begun_pays_on, left_pays}
use Rattle.csn_judge.proofs.PayingBits.{paid_before}
use Rattle.csn_judge.proofs.PayingEntry.{heavier_steps, heavier_with}
use Rattle.csn_judge.proofs.Popping.{Taken}
use Rattle.csn_judge.proofs.Rooms.{begin_room, begin_within}
use Rattle.csn_judge.proofs.Turning.{GoesOn-along}
use Rattle.csn_judge.proofs.TurningOn.{turns_then}
use Rattle.csn_judge.proofs.TurningEntry.{entered, literal, spare, pad, rest, field, choice, turns, free, truncation}
use Rattle.csn_judge.proofs.TurningEntry.{sequence, window, null, node_within, some_parts, field_fits, window_fits}
use Rattle.csn_judge.proofs.TurningEntry.{keeps_field, keeps_turns, keeps_window, first_rises, stands_behind}
use Rattle.csn_judge.proofs.machine.Machine.enter.Goals as goal

-- one step is paid for before a turn
step_before : {between : ℕ} (before after steps steps_after : ℕ) (turn : Turn)
    → between ≡ steps + 1 → Pays before after between (steps_after + 1) turn
    → Pays before after steps steps_after turn
step_before before after steps steps_after turn one paid =
    paid_before before after steps steps_after turn (subst (λ (k : ℕ). Pays before after k (steps_after + 1) turn) one paid)

-- a part that begins is few enough for its number, and there is room for the frame round it
frame_room : {d : DescV} {S : Type 0} {takes : S → Move → Node → S → Type 0} {old : StateV} {before after : S}
    {stack : List Left} {done : List ℕ} {part : ℕ} {top : Frame} {values : List Number} {pace : Pace}
    {coming : Coming} (items : List Frame)
    → Known d → GoesOn d takes old (record {
      frames = frame.Begin part ∷ top ∷ reverse items;
      values = values;
      pace =
          pace;
      coming = coming;
    }) before after stack done → (part < 65535) × (length items < 63)
frame_room items known on =
    let begins = begin_room known on.stands.shows on.stands.stack_is in
    (omega (arith, begins.0), omega (arith, begins.1, length-reverse items))

-- a node is entered, and goes on as this frame says
module _ (d : DescV) {S : Type 0} (takes : S → Move → Node → S → Type 0) (machine : Machine) (coming : Coming) (i : ℕ) (form : Frame) (before begun : S) where
  -- where it is a leaf, a step is paid for with it
  leaf_turn : {steps_after : ℕ} (new : StateV) (after : S) (steps : ℕ) (turn : Turn) → weight_of form ≤ 3 → steps_after ≡ steps + 1
      → Turns d takes (state_with form machine coming) new begun after turn → TurnPays d (state_with form machine coming) new 0 1 turn
      → (coming.ended ≡ true → coming.bits ≡ [])
      → ((stack : List Left) (done : List ℕ) → Stands d (state_with (frame.Begin i) machine coming) stack done
      → GoesOn d takes (state_with (frame.Begin i) machine coming) (state_with form machine coming) before begun stack done)
      → Taken d takes (state_with (frame.Begin i) machine coming) new before after steps steps_after turn
  leaf_turn new after steps turn light one turns pays quiet enters =
      record {
        turns = turns_then d takes new after turn quiet enters turns;
        pays = heavier_with (length d.nodes) (frame.Begin i) form (reverse machine.frames.items) machine.pace
            (length coming.bits) (credit_in d new) steps turn light one pays;
      }

  -- and else before it
  node_turn : {between : ℕ} (new : StateV) (after : S) (steps steps_after : ℕ) (turn : Turn) → weight_of form + 1 ≤ 3 → between ≡ steps + 1
      → Turns d takes (state_with form machine coming) new begun after turn → TurnPays d (state_with form machine coming) new between steps_after turn
      → (coming.ended ≡ true → coming.bits ≡ [])
      → ((stack : List Left) (done : List ℕ) → Stands d (state_with (frame.Begin i) machine coming) stack done
      → GoesOn d takes (state_with (frame.Begin i) machine coming) (state_with form machine coming) before begun stack done)
      → Taken d takes (state_with (frame.Begin i) machine coming) new before after steps steps_after turn
  node_turn new after steps steps_after turn light one turns pays quiet enters =
      record {
        turns = turns_then d takes new after turn quiet enters turns;
        pays = heavier_steps (length d.nodes) (frame.Begin i) form (reverse machine.frames.items) machine.pace
            (length coming.bits) (credit_in d new) steps steps_after turn light one pays;
      }

pub node-node-requires : goal.node-node-requires
node-node-requires g c =
    let d : DescV = c.args.self.now.plan.now in
    node_within d g.T.Track.takes c.args.track.now c.args.self.now.values.items c.args.self.now.pace c.args.source.now c.requires.known c.requires.stands

pub read-requires : goal.read-requires
read-requires g c = record {
  node = c.node-node.ensures.node;
  stands = stands_behind c.requires.known
      (literal c.args.self.now.plan.now g.T.Track.takes c.args.track.now c.args.self.now.values.items
      c.args.self.now.pace c.args.source.now c.requires.known c.requires.stands c.in-Lits.field-0
      (entered g.T.Track.takes c.args.self.now.plan.now.nodes c.in-Lits.is c.node-node.ensures.node c.step.ensures));
}

pub returns-in-Lits : goal.returns-in-Lits
returns-in-Lits g c =
    let t = leaf_turn c.args.self.now.plan.now g.T.Track.takes c.args.self.now c.args.source.now c.args.i
    (frame.Leaf c.args.i (leaf.Lits 0)) c.args.track.now c.step.new.self
    (state_of c.read.new.self c.read.new.source) c.read.new.track c.args.steps.now c.read.result (omega arith)
    c.node-node.ensures.step c.read.ensures.turns c.read.ensures.pays c.none_behind_end.ensures
    (λ stack done stands. literal c.args.self.now.plan.now g.T.Track.takes c.args.track.now
    c.args.self.now.values.items c.args.self.now.pace c.args.source.now c.requires.known stands c.in-Lits.field-0
    (entered g.T.Track.takes c.args.self.now.plan.now.nodes c.in-Lits.is c.node-node.ensures.node c.step.ensures))
    in
    record { turns = t.turns; pays = t.pays; plan = c.read.ensures.plan }

pub read-requires-in-Spare : goal.read-requires-in-Spare
read-requires-in-Spare g c = record {
  node = c.node-node.ensures.node;
  stands = stands_behind c.requires.known
      (spare c.args.self.now.plan.now g.T.Track.takes c.args.track.now c.args.self.now.values.items c.args.self.now.pace
      c.args.source.now c.requires.known c.requires.stands c.in-Spare.field-0
      (entered g.T.Track.takes c.args.self.now.plan.now.nodes c.in-Spare.is c.node-node.ensures.node c.step.ensures));
}

pub returns-in-Spare : goal.returns-in-Spare
returns-in-Spare g c =
    let t = leaf_turn c.args.self.now.plan.now g.T.Track.takes c.args.self.now c.args.source.now c.args.i
    (frame.Leaf c.args.i leaf.Spare) c.args.track.now c.step.new.self
    (state_of c.read-in-Spare.new.self c.read-in-Spare.new.source) c.read-in-Spare.new.track c.args.steps.now
    c.read-in-Spare.result (omega arith) c.node-node.ensures.step c.read-in-Spare.ensures.turns
    c.read-in-Spare.ensures.pays c.none_behind_end.ensures
    (λ stack done stands. spare c.args.self.now.plan.now g.T.Track.takes c.args.track.now c.args.self.now.values.items
    c.args.self.now.pace c.args.source.now c.requires.known stands c.in-Spare.field-0
    (entered g.T.Track.takes c.args.self.now.plan.now.nodes c.in-Spare.is c.node-node.ensures.node
    c.step.ensures)) in
    record { turns = t.turns; pays = t.pays; plan = c.read-in-Spare.ensures.plan }

pub read-requires-in-Pad : goal.read-requires-in-Pad
read-requires-in-Pad g c = record {
  node = c.node-node.ensures.node;
  stands = stands_behind c.requires.known
      (pad c.args.self.now.plan.now g.T.Track.takes c.args.track.now c.args.self.now.values.items c.args.self.now.pace
      c.args.source.now c.requires.known c.requires.stands
      (entered g.T.Track.takes c.args.self.now.plan.now.nodes c.in-Pad.is c.node-node.ensures.node c.step.ensures));
}

pub returns-in-Pad : goal.returns-in-Pad
returns-in-Pad g c =
    let t = leaf_turn c.args.self.now.plan.now g.T.Track.takes c.args.self.now c.args.source.now c.args.i
    (frame.Leaf c.args.i (leaf.Pad false)) c.args.track.now c.step.new.self
    (state_of c.read-in-Pad.new.self c.read-in-Pad.new.source) c.read-in-Pad.new.track c.args.steps.now
    c.read-in-Pad.result (omega arith) c.node-node.ensures.step c.read-in-Pad.ensures.turns
    c.read-in-Pad.ensures.pays c.none_behind_end.ensures
    (λ stack done stands. pad c.args.self.now.plan.now g.T.Track.takes c.args.track.now c.args.self.now.values.items
    c.args.self.now.pace c.args.source.now c.requires.known stands
    (entered g.T.Track.takes c.args.self.now.plan.now.nodes c.in-Pad.is c.node-node.ensures.node c.step.ensures))
    in
    record { turns = t.turns; pays = t.pays; plan = c.read-in-Pad.ensures.plan }

pub read-requires-in-Rest : goal.read-requires-in-Rest
read-requires-in-Rest g c = record {
  node = c.node-node.ensures.node;
  stands = stands_behind c.requires.known
      (rest c.args.self.now.plan.now g.T.Track.takes c.args.track.now c.args.self.now.values.items c.args.self.now.pace
      c.args.source.now c.requires.known c.requires.stands
      (entered g.T.Track.takes c.args.self.now.plan.now.nodes c.in-Rest.is c.node-node.ensures.node c.step.ensures));
}

pub returns-in-Rest : goal.returns-in-Rest
returns-in-Rest g c =
    let t = leaf_turn c.args.self.now.plan.now g.T.Track.takes c.args.self.now c.args.source.now c.args.i
    (frame.Leaf c.args.i leaf.Rest) c.args.track.now c.step.new.self
    (state_of c.read-in-Rest.new.self c.read-in-Rest.new.source) c.read-in-Rest.new.track c.args.steps.now
    c.read-in-Rest.result (omega arith) c.node-node.ensures.step c.read-in-Rest.ensures.turns
    c.read-in-Rest.ensures.pays c.none_behind_end.ensures
    (λ stack done stands. rest c.args.self.now.plan.now g.T.Track.takes c.args.track.now c.args.self.now.values.items
    c.args.self.now.pace c.args.source.now c.requires.known stands
    (entered g.T.Track.takes c.args.self.now.plan.now.nodes c.in-Rest.is c.node-node.ensures.node c.step.ensures))
    in
    record { turns = t.turns; pays = t.pays; plan = c.read-in-Rest.ensures.plan }

pub read-requires-in-Field : goal.read-requires-in-Field
read-requires-in-Field g c = record {
  node = c.node-node.ensures.node;
  stands = stands_behind c.requires.known
      (field c.args.self.now.plan.now g.T.Track.takes c.args.track.now c.args.self.now.values.items c.args.self.now.pace
      c.args.source.now c.requires.known c.requires.stands c.in-Field.unit c.number_of.result
      (c.in-Field.unit * c.number_of.result) c.in-Field.count
      (entered g.T.Track.takes c.args.self.now.plan.now.nodes c.in-Field.is c.node-node.ensures.node c.step.ensures)
      c.number_of.ensures.count refl);
}

pub returns-in-Field : goal.returns-in-Field
returns-in-Field g c =
    let t = leaf_turn c.args.self.now.plan.now g.T.Track.takes c.args.self.now c.args.source.now c.args.i
    (frame.Leaf c.args.i (leaf.Field (c.in-Field.unit * c.number_of.result))) c.args.track.now c.step.new.self
    (state_of c.read-in-Field.new.self c.read-in-Field.new.source) c.read-in-Field.new.track c.args.steps.now
    c.read-in-Field.result (omega arith) c.node-node.ensures.step c.read-in-Field.ensures.turns
    c.read-in-Field.ensures.pays c.none_behind_end.ensures
    (λ stack done stands. field c.args.self.now.plan.now g.T.Track.takes c.args.track.now c.args.self.now.values.items
    c.args.self.now.pace c.args.source.now c.requires.known stands c.in-Field.unit c.number_of.result
    (c.in-Field.unit * c.number_of.result) c.in-Field.count
    (entered g.T.Track.takes c.args.self.now.plan.now.nodes c.in-Field.is c.node-node.ensures.node c.step.ensures)
    c.number_of.ensures.count refl) in
    record { turns = t.turns; pays = t.pays; plan = c.read-in-Field.ensures.plan }

pub overflow_mul-left : goal.overflow_mul-left
overflow_mul-left g c =
    let d : DescV = c.args.self.now.plan.now in
    omega (
      arith,
      field_fits d g.T.Track.takes c.args.track.now c.args.self.now.values.items c.args.self.now.pace
          c.args.source.now c.requires.known c.requires.stands c.in-Field.unit c.number_of.result c.in-Field.count
          (c.node-node.ensures.node ∙ ap (λ n. Some n) c.in-Field.is) c.number_of.ensures.small,
    )

pub overflow_mul-bits : goal.overflow_mul-bits
overflow_mul-bits g c =
    let d : DescV = c.args.self.now.plan.now in
    omega (
      arith,
      window_fits d g.T.Track.takes c.args.track.now c.args.self.now.values.items c.args.self.now.pace
          c.args.source.now c.requires.known c.requires.stands c.in-Window.unit c.number_of-in-Window.result
          c.in-Window.part c.in-Window.count (c.node-node.ensures.node ∙ ap (λ n. Some n) c.in-Window.is)
          c.number_of-in-Window.ensures.small,
    )

pub choose-requires : goal.choose-requires
choose-requires g c = record {
  node = c.node-node.ensures.node;
  stands = stands_behind c.requires.known
      (choice c.args.self.now.plan.now g.T.Track.takes c.args.track.now c.args.self.now.values.items
      c.args.self.now.pace c.args.source.now c.requires.known c.requires.stands c.in-Choice.field-0
      (entered g.T.Track.takes c.args.self.now.plan.now.nodes c.in-Choice.is c.node-node.ensures.node c.step.ensures));
}

pub returns-in-Choice : goal.returns-in-Choice
returns-in-Choice g c = record {
  turns =
      turns_then c.args.self.now.plan.now g.T.Track.takes
      (state_then c.choose.result c.choose.new.self c.choose.new.source) c.choose.new.track
      (turn_in c.choose.result) c.none_behind_end.ensures
      (λ stack done stands. choice c.args.self.now.plan.now g.T.Track.takes c.args.track.now
      c.args.self.now.values.items c.args.self.now.pace c.args.source.now c.requires.known stands
      c.in-Choice.field-0 (entered g.T.Track.takes c.args.self.now.plan.now.nodes c.in-Choice.is
      c.node-node.ensures.node c.step.ensures))
      c.choose.ensures.turns;
  pays = step_before
      (credit_in c.args.self.now.plan.now (state_with (frame.Open c.args.i) c.args.self.now c.args.source.now))
      (credit_in c.args.self.now.plan.now (state_then c.choose.result c.choose.new.self c.choose.new.source))
      c.args.steps.now c.choose.new.steps (turn_in c.choose.result) c.node-node.ensures.step c.choose.ensures.pays;
  plan = c.choose.ensures.plan;
}

pub times-requires : goal.times-requires
times-requires g c = stands_behind c.requires.known
    (turns c.args.self.now.plan.now g.T.Track.takes c.args.track.now c.args.self.now.values.items c.args.self.now.pace
    c.args.source.now c.requires.known c.requires.stands c.number_of-left.result c.in-Times.part c.in-Times.count
    (entered g.T.Track.takes c.args.self.now.plan.now.nodes c.in-Times.is c.node-node.ensures.node c.step.ensures)
    c.number_of-left.ensures.count)

pub returns-in-Times : goal.returns-in-Times
returns-in-Times g c =
    let t = node_turn c.args.self.now.plan.now g.T.Track.takes c.args.self.now c.args.source.now c.args.i
    (frame.Times c.args.i c.in-Times.part c.number_of-left.result) c.args.track.now c.step.new.self
    (state_then c.times.result c.times.new.self c.args.source.now) c.times.new.track c.args.steps.now
    c.times.new.steps (turn_in c.times.result) (omega arith) c.node-node.ensures.step c.times.ensures.turns
    c.times.ensures.pays c.none_behind_end.ensures
    (λ stack done stands. turns c.args.self.now.plan.now g.T.Track.takes c.args.track.now c.args.self.now.values.items
    c.args.self.now.pace c.args.source.now c.requires.known stands c.number_of-left.result c.in-Times.part
    c.in-Times.count
    (entered g.T.Track.takes c.args.self.now.plan.now.nodes c.in-Times.is c.node-node.ensures.node c.step.ensures)
    c.number_of-left.ensures.count) in
    record { turns = t.turns; pays = t.pays; plan = c.times.ensures.plan }

pub many-requires : goal.many-requires
many-requires g c = stands_behind c.requires.known
    (free c.args.self.now.plan.now g.T.Track.takes c.args.track.now c.args.self.now.values.items c.args.self.now.pace
    c.args.source.now c.requires.known c.requires.stands c.in-Many.part
    (entered g.T.Track.takes c.args.self.now.plan.now.nodes c.in-Many.is c.node-node.ensures.node c.step.ensures))

pub returns-in-Many : goal.returns-in-Many
returns-in-Many g c =
    let t = node_turn c.args.self.now.plan.now g.T.Track.takes c.args.self.now c.args.source.now c.args.i
    (frame.Many c.args.i c.in-Many.part) c.args.track.now c.step.new.self
    (state_then c.many.result c.many.new.self c.many.new.source) c.many.new.track c.args.steps.now
    c.many.new.steps (turn_in c.many.result) (omega arith) c.node-node.ensures.step c.many.ensures.turns
    c.many.ensures.pays c.none_behind_end.ensures
    (λ stack done stands. free c.args.self.now.plan.now g.T.Track.takes c.args.track.now c.args.self.now.values.items
    c.args.self.now.pace c.args.source.now c.requires.known stands c.in-Many.part
    (entered g.T.Track.takes c.args.self.now.plan.now.nodes c.in-Many.is c.node-node.ensures.node c.step.ensures))
    in
    record { turns = t.turns; pays = t.pays; plan = c.many.ensures.plan }

pub trunc-requires : goal.trunc-requires
trunc-requires g c = stands_behind c.requires.known
    (truncation c.args.self.now.plan.now g.T.Track.takes c.args.track.now c.args.self.now.values.items
    c.args.self.now.pace c.args.source.now c.requires.known c.requires.stands c.in-Trunc.field-0 _
    (entered g.T.Track.takes c.args.self.now.plan.now.nodes c.in-Trunc.is c.node-node.ensures.node c.step.ensures)
    c.len-values.ensures.value)

pub returns-in-Trunc : goal.returns-in-Trunc
returns-in-Trunc g c =
    let t = node_turn c.args.self.now.plan.now g.T.Track.takes c.args.self.now c.args.source.now c.args.i
    (frame.Trunc c.args.i 0 c.len-values.result) c.args.track.now c.step.new.self
    (state_then c.trunc.result c.trunc.new.self c.trunc.new.source) c.trunc.new.track c.args.steps.now
    c.trunc.new.steps (turn_in c.trunc.result) (omega arith) c.node-node.ensures.step c.trunc.ensures.turns
    c.trunc.ensures.pays c.none_behind_end.ensures
    (λ stack done stands. truncation c.args.self.now.plan.now g.T.Track.takes c.args.track.now
    c.args.self.now.values.items c.args.self.now.pace c.args.source.now c.requires.known stands c.in-Trunc.field-0
    _ (entered g.T.Track.takes c.args.self.now.plan.now.nodes c.in-Trunc.is c.node-node.ensures.node
    c.step.ensures) c.len-values.ensures.value) in
    record { turns = t.turns; pays = t.pays; plan = c.trunc.ensures.plan }

pub returns-in-Null : goal.returns-in-Null
returns-in-Null g c = record {
  turns =
      let d : DescV = c.args.self.now.plan.now in
      λ stack done stands.
      null d g.T.Track.takes c.args.track.now c.args.self.now.values.items c.args.self.now.pace c.args.source.now
      c.requires.known stands c.step-in-Null.new.self
      (entered g.T.Track.takes c.args.self.now.plan.now.nodes c.in-Null.is c.node-node.ensures.node
      c.step.ensures)
      (subst (λ (n : Node). g.T.Track.takes c.step.new.self Leave n c.step-in-Null.new.self) c.in-Null.is c.step-in-Null.ensures);
  pays = left_pays (length c.args.self.now.plan.now.nodes) c.args.steps.now (length c.args.source.now.bits) 1
      (frame.Begin c.args.i) refl refl c.node-node.ensures.step (omega arith) (omega arith);
  plan = refl;
}

pub get-part-requires : goal.get-part-requires
get-part-requires g c =
    let d : DescV = c.args.self.now.plan.now in
    some_parts d g.T.Track.takes c.args.track.now c.args.self.now.values.items c.args.self.now.pace c.args.source.now
    c.requires.known c.requires.stands c.in-Seq.parts (c.node-node.ensures.node ∙ ap (λ n. Some n) c.in-Seq.is)

pub begin-requires : goal.begin-requires
begin-requires g c =
    let room = frame_room c.args.self.now.frames.items c.requires.known
    (sequence c.args.self.now.plan.now g.T.Track.takes c.args.track.now c.args.self.now.values.items
    c.args.self.now.pace c.args.source.now c.requires.known c.requires.stands c.in-Seq.parts c.get-part.result
    (length c.args.self.now.values.items)
    (entered g.T.Track.takes c.args.self.now.plan.now.nodes c.in-Seq.is c.node-node.ensures.node c.step.ensures)
    c.get-part.ensures refl) in
    record { few = room.0; room = room.1 }

pub returns-in-Seq-clause-turns : goal.returns-in-Seq-clause-turns
returns-in-Seq-clause-turns g c =
    λ stack done stands.
    GoesOn-along c.args.self.now.plan.now g.T.Track.takes c.args.track.now c.args.self.now.values.items
    c.args.self.now.pace c.args.source.now (ap (λ (l : List Frame). frame.Begin c.get-part.result ∷ l)
    c.begin.ensures.frames) (ap (λ v. v.items) c.begin.ensures.values) c.begin.ensures.pace
    (sequence c.args.self.now.plan.now g.T.Track.takes c.args.track.now c.args.self.now.values.items
    c.args.self.now.pace c.args.source.now c.requires.known stands c.in-Seq.parts c.get-part.result _
    (entered g.T.Track.takes c.args.self.now.plan.now.nodes c.in-Seq.is c.node-node.ensures.node c.step.ensures)
    c.get-part.ensures c.len-values.ensures.value)

pub enter_window-requires : goal.enter_window-requires
enter_window-requires g c =
    let bits : ℕ = c.in-Window.unit * c.number_of-in-Window.result in
    let later : Coming = record {
      bits = c.args.source.now.bits;
      held = c.args.source.now.held;
      place =
          c.args.source.now.place;
      limit = min c.args.source.now.limit (c.args.source.now.place + bits);
      ended =
          c.args.source.now.ended;
    } in
    let room = frame_room c.args.self.now.frames.items c.requires.known
    (window c.args.self.now.plan.now g.T.Track.takes c.args.track.now c.args.self.now.values.items
    c.args.self.now.pace c.args.source.now c.requires.known c.requires.stands c.in-Window.unit
    c.number_of-in-Window.result c.in-Window.part (c.in-Window.unit * c.number_of-in-Window.result)
    c.in-Window.count later (entered g.T.Track.takes c.args.self.now.plan.now.nodes c.in-Window.is
    c.node-node.ensures.node c.step.ensures) c.number_of-in-Window.ensures.count refl refl refl refl refl) in
    record { few = room.0; room = room.1 }

pub returns-in-Window-clause-turns : goal.returns-in-Window-clause-turns
returns-in-Window-clause-turns g c =
    λ stack done stands.
    GoesOn-along c.args.self.now.plan.now g.T.Track.takes c.args.track.now c.args.self.now.values.items
    c.args.self.now.pace c.enter_window.new.source (ap (λ (l : List Frame). frame.Begin c.in-Window.part ∷ l)
    c.enter_window.ensures.frames) (ap (λ v. v.items) c.enter_window.ensures.values) c.enter_window.ensures.pace
    (window c.args.self.now.plan.now g.T.Track.takes c.args.track.now c.args.self.now.values.items
    c.args.self.now.pace c.args.source.now c.requires.known stands c.in-Window.unit c.number_of-in-Window.result
    c.in-Window.part (c.in-Window.unit * c.number_of-in-Window.result) c.in-Window.count c.enter_window.new.source
    (entered g.T.Track.takes c.args.self.now.plan.now.nodes c.in-Window.is c.node-node.ensures.node
    c.step.ensures) c.number_of-in-Window.ensures.count refl
    c.enter_window.ensures.bits c.enter_window.ensures.ended c.enter_window.ensures.place c.enter_window.ensures.limit)

pub number_of-requires : goal.number_of-requires
number_of-requires g c =
    let d : DescV = c.args.self.now.plan.now in
    keeps_field d g.T.Track.takes c.args.track.now c.args.self.now.values.items c.args.self.now.pace c.args.source.now
    c.requires.known c.requires.stands c.in-Field.unit c.in-Field.count
    (c.node-node.ensures.node ∙ ap (λ n. Some n) c.in-Field.is)

pub number_of-left-requires : goal.number_of-left-requires
number_of-left-requires g c =
    let d : DescV = c.args.self.now.plan.now in
    keeps_turns d g.T.Track.takes c.args.track.now c.args.self.now.values.items c.args.self.now.pace c.args.source.now
    c.requires.known c.requires.stands c.in-Times.part c.in-Times.count
    (c.node-node.ensures.node ∙ ap (λ n. Some n) c.in-Times.is)

pub number_of-requires-in-Window : goal.number_of-requires-in-Window
number_of-requires-in-Window g c =
    let d : DescV = c.args.self.now.plan.now in
    keeps_window d g.T.Track.takes c.args.track.now c.args.self.now.values.items c.args.self.now.pace
    c.args.source.now c.requires.known c.requires.stands c.in-Window.unit c.in-Window.part c.in-Window.count
    (c.node-node.ensures.node ∙ ap (λ n. Some n) c.in-Window.is)

pub returns-in-Seq-clause-pays : goal.returns-in-Seq-clause-pays
returns-in-Seq-clause-pays g c =
    let d : DescV = c.args.self.now.plan.now in
    let on = sequence d g.T.Track.takes c.args.track.now c.args.self.now.values.items c.args.self.now.pace
    c.args.source.now c.requires.known c.requires.stands c.in-Seq.parts c.get-part.result
    (length c.args.self.now.values.items)
    (entered g.T.Track.takes c.args.self.now.plan.now.nodes c.in-Seq.is c.node-node.ensures.node c.step.ensures)
    c.get-part.ensures refl in
    begun_pays c.args.steps.now (length c.args.source.now.bits) 1 (frame.Begin c.args.i) (frame.Seq c.args.i 1 c.len-values.result)
    (ap (λ (l : List Frame). frame.Begin c.get-part.result ∷ l) c.begin.ensures.frames)
    c.begin.ensures.pace c.node-node.ensures.step (begin_within on.stands.shows on.stands.stack_is)
    (inl (first_rises d g.T.Track.takes c.args.track.now c.args.self.now.values.items c.args.self.now.pace
    c.args.source.now c.requires.known c.requires.stands c.get-part.result c.in-Seq.parts (Seq c.in-Seq.parts)
    (c.node-node.ensures.node ∙ ap (λ n. Some n) c.in-Seq.is) refl c.get-part.ensures)) (omega arith)
    (omega arith)

pub returns-in-Window-clause-pays : goal.returns-in-Window-clause-pays
returns-in-Window-clause-pays g c =
    let d : DescV = c.args.self.now.plan.now in
    let bits : ℕ = c.in-Window.unit * c.number_of-in-Window.result in
    let on = window d g.T.Track.takes c.args.track.now c.args.self.now.values.items c.args.self.now.pace
    c.args.source.now c.requires.known c.requires.stands c.in-Window.unit c.number_of-in-Window.result
    c.in-Window.part bits c.in-Window.count c.enter_window.new.source
    (entered g.T.Track.takes c.args.self.now.plan.now.nodes c.in-Window.is c.node-node.ensures.node
    c.step.ensures)
    c.number_of-in-Window.ensures.count refl
    c.enter_window.ensures.bits c.enter_window.ensures.ended c.enter_window.ensures.place c.enter_window.ensures.limit
    in
    begun_pays_on c.args.steps.now 1 (frame.Begin c.args.i) (frame.Window c.args.i c.args.source.now.place bits c.args.source.now.limit)
    (ap (λ (l : List ℕ). length l) c.enter_window.ensures.bits)
    (ap (λ (l : List Frame). frame.Begin c.in-Window.part ∷ l) c.enter_window.ensures.frames)
    c.enter_window.ensures.pace c.node-node.ensures.step (begin_within on.stands.shows on.stands.stack_is)
    (inl (first_rises d g.T.Track.takes c.args.track.now c.args.self.now.values.items c.args.self.now.pace
    c.args.source.now c.requires.known c.requires.stands c.in-Window.part (c.in-Window.part ∷ [])
    (Window c.in-Window.unit c.in-Window.count c.in-Window.part) (c.node-node.ensures.node ∙ ap (λ n. Some n)
    c.in-Window.is) refl refl)) (omega arith) (omega arith)

pub enter_named-requires-clause-node : goal.enter_named-requires-clause-node
enter_named-requires-clause-node g c = c.node-node.ensures.node

pub enter_named-requires-clause-stands : goal.enter_named-requires-clause-stands
enter_named-requires-clause-stands g c = c.requires

pub returns-in-Named : goal.returns-in-Named
returns-in-Named g c = record {
  turns = c.enter_named.ensures.turns c.args.track.now c.node-node.result.now c.node-node.ensures.node c.step.ensures;
  pays = step_before
      (credit_in c.args.self.now.plan.now (state_with (frame.Begin c.args.i) c.args.self.now c.args.source.now))
      (credit_in c.args.self.now.plan.now
      (state_then c.enter_named.result c.enter_named.new.self c.enter_named.new.source))
      c.args.steps.now c.enter_named.new.steps (turn_in c.enter_named.result)
      c.node-node.ensures.step c.enter_named.ensures.pays;
  plan = c.enter_named.ensures.plan;
}

pub returns-in-Seq-clause-plan : goal.returns-in-Seq-clause-plan
returns-in-Seq-clause-plan g c = c.begin.ensures.plan

pub returns-in-Window-clause-plan : goal.returns-in-Window-clause-plan
returns-in-Window-clause-plan g c = c.enter_window.ensures.plan
