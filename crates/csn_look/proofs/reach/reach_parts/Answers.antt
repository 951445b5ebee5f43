use Rattle.std.proofs.Common.{refl, ap, length}
use Rattle.csn_desc.specs.Nodes.{parts_of}
use Rattle.csn_look.proofs.Meaning.ShapeFacts.{has_no_parts}
use Rattle.csn_look.proofs.Sets.RepetitionsTell.{many_lengths}
use Rattle.csn_look.proofs.Handing.ReachedParts.{below_kind, in_sequence, part_below, steps_of, no_steps, trunc_steps}
use Rattle.csn_look.proofs.Handing.ReachedParts.{single_steps, single_others, others_of, at_choice, at_times, at_many}
use Rattle.csn_look.proofs.Handing.ReachedParts.{at_window, at_named}
use Rattle.csn_look.proofs.reach.reach_parts.Goals as goal

pub reach_in_order-requires : goal.reach_in_order-requires
reach_in_order-requires c = in_sequence c.args.node.now c.in-Seq.parts (ap parts_of c.in-Seq.is) c.requires

pub reach_in_order-requires-in-Trunc : goal.reach_in_order-requires-in-Trunc
reach_in_order-requires-in-Trunc c = in_sequence c.args.node.now c.in-Trunc.parts (ap parts_of c.in-Trunc.is) c.requires

pub hand_to_each-requires : goal.hand_to_each-requires
hand_to_each-requires c = record { below = below_kind c.args.node.now _ (length c.args.reached.now) c.in-Choice.is c.requires.below }

pub before_last-requires : goal.before_last-requires
before_last-requires c = part_below c.args.node.now _ (length c.args.look.now.sets) c.in-Times.part c.in-Times.is refl c.requires.known

pub lengths-requires : goal.lengths-requires
lengths-requires c = part_below c.args.node.now _ (length c.args.look.now.sets) c.in-Many.part c.in-Many.is refl c.requires.known

pub bounds-reached-part : goal.bounds-reached-part
bounds-reached-part c = part_below c.args.node.now _ (length c.args.reached.now) c.in-Times.part c.in-Times.is refl c.requires.below

pub bounds-reached-part-in-Many : goal.bounds-reached-part-in-Many
bounds-reached-part-in-Many c = part_below c.args.node.now _ (length c.args.reached.now) c.in-Many.part c.in-Many.is refl c.requires.below

pub bounds-reached-part-in-Window : goal.bounds-reached-part-in-Window
bounds-reached-part-in-Window c = part_below c.args.node.now _ (length c.args.reached.now) c.in-Window.part c.in-Window.is refl c.requires.below

pub bounds-reached-part-in-Named : goal.bounds-reached-part-in-Named
bounds-reached-part-in-Named c = part_below c.args.node.now _ (length c.args.reached.now) c.in-Named.part c.in-Named.is refl c.requires.below

pub returns-in-Seq-clause-steps : goal.returns-in-Seq-clause-steps
returns-in-Seq-clause-steps c = λ d look. steps_of d c.args.node.now _ c.args.from c.reach_in_order.new.reached
    c.in-Seq.is (c.reach_in_order.ensures.steps d look)

pub returns-in-Seq-clause-others : goal.returns-in-Seq-clause-others
returns-in-Seq-clause-others c = others_of c.args.node.now _ c.args.reached.now c.reach_in_order.new.reached c.in-Seq.is c.reach_in_order.ensures.others

pub returns-in-Trunc-clause-steps : goal.returns-in-Trunc-clause-steps
returns-in-Trunc-clause-steps c =
    λ d look. steps_of d c.args.node.now _ c.args.from c.reach_in_order-in-Trunc.new.reached c.in-Trunc.is
    (trunc_steps d c.in-Trunc.parts c.args.from c.reach_in_order-in-Trunc.new.reached
    (c.reach_in_order-in-Trunc.ensures.steps d look))

pub returns-in-Trunc-clause-others : goal.returns-in-Trunc-clause-others
returns-in-Trunc-clause-others c =
    others_of c.args.node.now _ c.args.reached.now c.reach_in_order-in-Trunc.new.reached c.in-Trunc.is
    c.reach_in_order-in-Trunc.ensures.others

pub returns-in-Choice-clause-steps : goal.returns-in-Choice-clause-steps
returns-in-Choice-clause-steps c = λ d look. steps_of d c.args.node.now _ c.args.from c.hand_to_each.new.table c.in-Choice.is
    (λ j p get. (c.args.from, c.hand_to_each.ensures.parts j p get, at_choice d c.in-Choice.parts c.args.from j p))

pub returns-in-Choice-clause-others : goal.returns-in-Choice-clause-others
returns-in-Choice-clause-others c = others_of c.args.node.now _ c.args.reached.now c.hand_to_each.new.table c.in-Choice.is c.hand_to_each.ensures.others

pub returns-in-Times-clause-steps : goal.returns-in-Times-clause-steps
returns-in-Times-clause-steps c = λ d look. single_steps d c.args.node.now _ c.args.from c.plus.result c.in-Times.part
    c.args.reached.now c.in-Times.is refl (part_below c.args.node.now _ (length c.args.reached.now)
    c.in-Times.part c.in-Times.is refl c.requires.below)
    (at_times d c.in-Times.count c.in-Times.part c.args.from c.before_last.result c.plus.result (c.before_last.ensures d look) c.plus.ensures)

pub returns-in-Times-clause-others : goal.returns-in-Times-clause-others
returns-in-Times-clause-others c = single_others c.args.node.now _ c.in-Times.part c.plus.result c.args.reached.now c.in-Times.is refl

pub returns-in-Many-clause-steps : goal.returns-in-Many-clause-steps
returns-in-Many-clause-steps c = λ d look. single_steps d c.args.node.now _ c.args.from c.plus-in-Many.result
    c.in-Many.part c.args.reached.now c.in-Many.is refl (part_below c.args.node.now _ (length c.args.reached.now)
    c.in-Many.part c.in-Many.is refl c.requires.below)
    (at_many d c.in-Many.part c.args.from c.repeated.result c.plus-in-Many.result
    (many_lengths d c.lengths.result c.repeated.result c.in-Many.part (c.lengths.ensures d look)
    c.repeated.ensures) c.plus-in-Many.ensures)

pub returns-in-Many-clause-others : goal.returns-in-Many-clause-others
returns-in-Many-clause-others c = single_others c.args.node.now _ c.in-Many.part c.plus-in-Many.result c.args.reached.now c.in-Many.is refl

pub returns-in-Window-clause-steps : goal.returns-in-Window-clause-steps
returns-in-Window-clause-steps c = λ d look. single_steps d c.args.node.now _ c.args.from c.args.from c.in-Window.part
    c.args.reached.now c.in-Window.is refl (part_below c.args.node.now _ (length c.args.reached.now)
    c.in-Window.part c.in-Window.is refl c.requires.below)
    (at_window d c.in-Window.unit c.in-Window.part c.in-Window.count c.args.from 0 c.in-Window.part)

pub returns-in-Window-clause-others : goal.returns-in-Window-clause-others
returns-in-Window-clause-others c = single_others c.args.node.now _ c.in-Window.part c.args.from c.args.reached.now c.in-Window.is refl

pub returns-in-Named-clause-steps : goal.returns-in-Named-clause-steps
returns-in-Named-clause-steps c = λ d look. single_steps d c.args.node.now _ c.args.from c.args.from c.in-Named.part
    c.args.reached.now c.in-Named.is refl (part_below c.args.node.now _ (length c.args.reached.now)
    c.in-Named.part c.in-Named.is refl c.requires.below)
    (at_named d c.in-Named.label c.in-Named.part c.args.from 0 c.in-Named.part)

pub returns-in-Named-clause-others : goal.returns-in-Named-clause-others
returns-in-Named-clause-others c = single_others c.args.node.now _ c.in-Named.part c.args.from c.args.reached.now c.in-Named.is refl

pub returns-in_default-clause-steps : goal.returns-in_default-clause-steps
returns-in_default-clause-steps c = λ d look.
    let other = c.in_default in
    no_steps d c.args.node.now c.args.node.now c.args.from c.args.reached.now refl
    (has_no_parts c.args.node.now other.not-Seq other.not-Choice other.not-Times other.not-Many other.not-Trunc
    other.not-Window other.not-Named)
