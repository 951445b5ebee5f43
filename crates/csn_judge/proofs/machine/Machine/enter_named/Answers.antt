use Rattle.std.specs.Prelude.{⊤}
use Rattle.std.proofs.Common.{ℕ, ◌+◌, ◌≡◌, ◌*◌, ◌∷◌, length, reverse, Some, slice_get, refl, sym, ap, ◌∙◌, arith}
use Rattle.std.proofs.lemmas.Option.{slice_get_within}
use Rattle.csn_desc.specs.declared.node.Node.TheVariants.{Field, Named}
use Rattle.csn_desc.specs.declared.node.Count.TheVariants.{Fixed}
use Rattle.csn_desc.specs.Nodes.{DescV}
use Rattle.csn_judge.specs.declared.frame.Frame.TheVariants as frame
use Rattle.csn_judge.specs.declared.turn.Turn.{Turn}
use Rattle.csn_judge.specs.declared.turn.Turn.TheVariants.{Moved, Waits, Refused}
use Rattle.csn_judge.specs.Credit.{credit_in, credit_of, Pays}
use Rattle.csn_judge.specs.Turns.{begun_by, state_of, state_then, state_with, turn_in}
use Rattle.csn_judge.proofs.Clashes.{one_count, one_value}
use Rattle.csn_judge.proofs.PayingBits.{counted_credit, entered_pays}
use Rattle.csn_judge.proofs.Turning.{begun_again}
use Rattle.csn_judge.proofs.TurningOn.{turns_then}
use Rattle.csn_judge.proofs.TurningCounted.{field_width, counted_width}
use Rattle.csn_judge.proofs.TurningEntry.{stands_behind}
use Rattle.csn_judge.proofs.TurningNamed.{counted_goes_on, label_begins}
use Rattle.csn_judge.proofs.machine.Machine.enter_named.Goals as goal

pub node-field-requires : goal.node-field-requires
node-field-requires g c =
    let t = label_begins c.args.self.now.plan.now c.args.self.now.pace c.requires.stands.known c.requires.part.1
    c.requires.stands.stands.shows c.requires.stands.stands.stack_is in
    t.within

pub unreachable-requires : goal.unreachable-requires
unreachable-requires g c =
    let d : DescV = c.args.self.now.plan.now in
    let f = field_width d c.requires.stands.known c.args.i c.requires.part.0 (sym c.counts.ensures ∙ c.if-not-counts.false) c.requires.part.1 in
    c.in_default.not-Field f.unit (Fixed f.width) (one_value c.node-field.ensures.node f.is)

pub unreachable-requires-in_default-count : goal.unreachable-requires-in_default-count
unreachable-requires-in_default-count g c =
    let d : DescV = c.args.self.now.plan.now in
    let f = field_width d c.requires.stands.known c.args.i c.requires.part.0 (sym c.counts.ensures ∙ c.if-not-counts.false) c.requires.part.1 in
    c.in_default-count.not-Fixed f.width (one_count (one_value (c.node-field.ensures.node ∙ ap (λ n. Some n) c.in-Field.is) f.is))

pub begin-requires : goal.begin-requires
begin-requires g c =
    let d : DescV = c.args.self.now.plan.now in
    omega (arith, slice_get_within d.nodes c.args.part c.node-field.result.now c.node-field.ensures.node, c.requires.stands.known.description.few)

pub overflow_mul-counted : goal.overflow_mul-counted
overflow_mul-counted g c =
    let d : DescV = c.args.self.now.plan.now in
    let look : slice_get d.nodes c.args.part ≡ Some (Field c.in-Field.unit (Fixed c.in-Fixed.width)) =
    c.node-field.ensures.node ∙ ap (λ n. Some n) (c.in-Field.is ∙ ap (λ k. Field c.in-Field.unit k) c.in-Fixed.is)
    in
    omega (arith, (counted_width d c.requires.stands.known c.args.i c.requires.part.0 (sym c.counts.ensures ∙ c.if-not-counts.false) c.requires.part.1 look).1)

pub read_counted-requires : goal.read_counted-requires
read_counted-requires g c = record {
  field = c.node-field.ensures.node;
  stands =
      let d : DescV = c.args.self.now.plan.now in
      let look : slice_get d.nodes c.args.part ≡ Some (Field c.in-Field.unit (Fixed c.in-Fixed.width)) =
      c.node-field.ensures.node
      ∙ ap (λ n. Some n) (c.in-Field.is ∙ ap (λ k. Field c.in-Field.unit k) c.in-Fixed.is) in
      stands_behind c.requires.stands.known
      (counted_goes_on d {S = ⊤} (λ _ _ _ _. ⊤) tt c.args.self.now.values.items c.args.self.now.pace c.args.source.now
      c.args.i (reverse c.args.self.now.frames.items) {middle = tt} {after = tt} c.requires.part.0
      (Named c.requires.part.0 c.args.part) c.node-field.result.now
      c.requires.stands.known (sym c.counts.ensures ∙ c.if-not-counts.false) c.requires.part.1 look c.requires.part.1
      tt c.node-field.ensures.node tt (begun_again d c.args.self.now.pace c.args.part c.begin.ensures)
      c.requires.stands.stands);
}

pub returns : goal.returns
returns g c = record {
  turns =
      let d : DescV = c.args.self.now.plan.now in
      let look : slice_get d.nodes c.args.part ≡ Some (Field c.in-Field.unit (Fixed c.in-Fixed.width)) =
      c.node-field.ensures.node
      ∙ ap (λ n. Some n) (c.in-Field.is ∙ ap (λ k. Field c.in-Field.unit k) c.in-Fixed.is) in
      λ first node look_node took.
      turns_then d g.T.Track.takes (state_of c.read_counted.new.self c.read_counted.new.source)
      c.read_counted.new.track c.read_counted.result c.none_behind_end.ensures
      (λ stack done stands.
      counted_goes_on d g.T.Track.takes first c.args.self.now.values.items c.args.self.now.pace c.args.source.now
      c.args.i (reverse c.args.self.now.frames.items) c.requires.part.0 node c.node-field.result.now
      c.requires.stands.known (sym c.counts.ensures ∙ c.if-not-counts.false) c.requires.part.1 look look_node took
      c.node-field.ensures.node c.step.ensures (begun_again d c.args.self.now.pace c.args.part c.begin.ensures)
      stands)
      c.read_counted.ensures.turns;
  pays =
      let d : DescV = c.args.self.now.plan.now in
      let paced : c.begin.new.self ≡ begun_by c.args.part c.args.self.now.pace = begun_again d c.args.self.now.pace c.args.part c.begin.ensures in
      let t = label_begins c.args.self.now.plan.now c.args.self.now.pace c.requires.stands.known c.requires.part.1
      c.requires.stands.stands.shows c.requires.stands.stands.stack_is in
      let top = frame.Counted (record { node = c.args.i; part = c.args.part; left = c.in-Field.unit * c.in-Fixed.width; number = 0 }) in
      let frames = reverse c.args.self.now.frames.items in
      let bits = length c.args.source.now.bits in
      let less = counted_credit c.args.i top frames c.args.self.now.pace bits refl
      (slice_get_within d.nodes c.args.part c.node-field.result.now c.node-field.ensures.node) t.rises in
      let same = ap (λ p. credit_of (length d.nodes) (top ∷ frames) p bits) paced in
      entered_pays (credit_of (length d.nodes) (frame.Begin c.args.i ∷ frames) c.args.self.now.pace bits)
      (credit_of (length d.nodes) (top ∷ frames) c.begin.new.self bits)
      (credit_of (length d.nodes) (reverse c.read_counted.new.self.frames.items) c.read_counted.new.self.pace
      (length c.read_counted.new.source.bits)) c.args.steps.now c.node-field.new.steps
      (c.read_counted.new.steps + 1) c.read_counted.result
      (omega (arith, less, same)) c.node-field.ensures.step c.read_counted.ensures.pays;
  plan = c.read_counted.ensures.plan;
}

pub enter_plain-requires : goal.enter_plain-requires
enter_plain-requires g c = record {
  part = c.requires.part;
  node = c.requires.node;
  field =
      c.node-field.ensures.node;
  plain = sym c.counts.ensures ∙ c.if-not-counts.true;
  stands = c.requires.stands;
}

-- two steps are paid for, of which one was taken before
two_paid : {between : ℕ} (before after steps : ℕ) (turn : Turn) → between ≡ steps + 1 → Pays before after 0 2 turn → Pays before after steps (between + 1) turn
two_paid before after steps Moved one paid = (omega (arith, one, paid.0), paid.1)
two_paid before after steps Waits one paid = (omega (arith, one, paid.0), paid.1, omega (arith, one, paid.2))
two_paid before after steps (Refused place) one paid = omega (arith, one, paid)

pub returns-then-not-counts : goal.returns-then-not-counts
returns-then-not-counts g c = record {
  turns = c.enter_plain.ensures.turns;
  pays = two_paid
      (credit_in c.args.self.now.plan.now (state_with (frame.Begin c.args.i) c.args.self.now c.args.source.now))
      (credit_in c.args.self.now.plan.now
      (state_then c.enter_plain.result c.enter_plain.new.self c.enter_plain.new.source)) c.args.steps.now
      (turn_in c.enter_plain.result) c.node-field.ensures.step c.enter_plain.ensures.pays;
  plan = c.enter_plain.ensures.plan;
}
