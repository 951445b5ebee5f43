use Rattle.std.proofs.Common.{suc, drop, refl, ap, length}
use Rattle.csn_desc.specs.Nodes.{parts_of}
use Rattle.csn_look.proofs.Meaning.ShapeFacts.{has_no_parts}
use Rattle.csn_look.proofs.Sets.LookFacts.{known_sets}
use Rattle.csn_look.proofs.Handing.ReachedParts.{below_kind, in_sequence, part_below, single_others, others_of}
use Rattle.csn_look.proofs.Handing.FollowedParts.{follows_of, no_follows, single_follows, says_choice, says_times, says_many, says_window, says_named}
use Rattle.csn_look.proofs.following.follow_parts.Goals as goal

pub follow_in_order-requires : goal.follow_in_order-requires
follow_in_order-requires c = in_sequence c.args.node.now c.in-Seq.parts (ap parts_of c.in-Seq.is) c.requires

pub returns-in-Seq-clause-follows : goal.returns-in-Seq-clause-follows
returns-in-Seq-clause-follows c = λ d k look says. follows_of d c.args.node.now _ k c.follow_in_order.new.table
    c.in-Seq.is (c.follow_in_order.ensures.follows d k look says)

pub returns-in-Seq-clause-others : goal.returns-in-Seq-clause-others
returns-in-Seq-clause-others c = others_of c.args.node.now _ c.args.table.now c.follow_in_order.new.table c.in-Seq.is c.follow_in_order.ensures.others

pub follow_in_order-requires-in-Trunc : goal.follow_in_order-requires-in-Trunc
follow_in_order-requires-in-Trunc c = in_sequence c.args.node.now c.in-Trunc.parts (ap parts_of c.in-Trunc.is) c.requires

pub returns-in-Trunc-clause-follows : goal.returns-in-Trunc-clause-follows
returns-in-Trunc-clause-follows c =
    λ d k look says. follows_of d c.args.node.now _ k c.follow_in_order-in-Trunc.new.table c.in-Trunc.is
    (c.follow_in_order-in-Trunc.ensures.follows d k look says)

pub returns-in-Trunc-clause-others : goal.returns-in-Trunc-clause-others
returns-in-Trunc-clause-others c = others_of c.args.node.now _ c.args.table.now c.follow_in_order-in-Trunc.new.table
    c.in-Trunc.is c.follow_in_order-in-Trunc.ensures.others

pub hand_to_each-requires : goal.hand_to_each-requires
hand_to_each-requires c = record { below = below_kind c.args.node.now _ (length c.args.table.now) c.in-Choice.is c.requires.below }

pub returns-in-Choice-clause-follows : goal.returns-in-Choice-clause-follows
returns-in-Choice-clause-follows c = λ d k look says. follows_of d c.args.node.now _ k c.hand_to_each.new.table c.in-Choice.is
    (λ j p get. (c.args.above, c.hand_to_each.ensures.parts j p get, says_choice d c.in-Choice.parts (drop (suc j) c.in-Choice.parts) k p c.args.above says))

pub returns-in-Choice-clause-others : goal.returns-in-Choice-clause-others
returns-in-Choice-clause-others c = others_of c.args.node.now _ c.args.table.now c.hand_to_each.new.table c.in-Choice.is c.hand_to_each.ensures.others

pub of-requires : goal.of-requires
of-requires c = part_below c.args.node.now _ (length c.args.look.now.sets) c.in-Times.part c.in-Times.is refl c.requires.known

pub of-requires-in-Many : goal.of-requires-in-Many
of-requires-in-Many c = part_below c.args.node.now _ (length c.args.look.now.sets) c.in-Many.part c.in-Many.is refl c.requires.known

pub bounds-table-part : goal.bounds-table-part
bounds-table-part c = part_below c.args.node.now _ (length c.args.table.now) c.in-Times.part c.in-Times.is refl c.requires.below

pub bounds-table-part-in-Many : goal.bounds-table-part-in-Many
bounds-table-part-in-Many c = part_below c.args.node.now _ (length c.args.table.now) c.in-Many.part c.in-Many.is refl c.requires.below

pub bounds-table-part-in-Window : goal.bounds-table-part-in-Window
bounds-table-part-in-Window c = part_below c.args.node.now _ (length c.args.table.now) c.in-Window.part c.in-Window.is refl c.requires.below

pub bounds-table-part-in-Named : goal.bounds-table-part-in-Named
bounds-table-part-in-Named c = part_below c.args.node.now _ (length c.args.table.now) c.in-Named.part c.in-Named.is refl c.requires.below

pub returns-in-Times-clause-follows : goal.returns-in-Times-clause-follows
returns-in-Times-clause-follows c = λ d k look says. single_follows d c.args.node.now _ k c.ahead_of.result
    c.in-Times.part c.args.table.now c.in-Times.is refl (part_below c.args.node.now _ (length c.args.table.now)
    c.in-Times.part c.in-Times.is refl c.requires.below)
    (says_times d c.in-Times.count k c.in-Times.part _ c.of.result _ c.args.above c.ahead_of.result
    (known_sets d c.args.look.now.sets c.in-Times.part c.of.result look c.of.ensures)
    refl refl refl says c.ahead_of.ensures)

pub returns-in-Times-clause-others : goal.returns-in-Times-clause-others
returns-in-Times-clause-others c = single_others c.args.node.now _ c.in-Times.part c.ahead_of.result c.args.table.now c.in-Times.is refl

pub returns-in-Many-clause-follows : goal.returns-in-Many-clause-follows
returns-in-Many-clause-follows c = λ d k look says. single_follows d c.args.node.now _ k c.ahead_of-in-Many.result
    c.in-Many.part c.args.table.now c.in-Many.is refl (part_below c.args.node.now _ (length c.args.table.now)
    c.in-Many.part c.in-Many.is refl c.requires.below)
    (says_many d k c.in-Many.part _ c.of-in-Many.result _ c.args.above c.ahead_of-in-Many.result
    (known_sets d c.args.look.now.sets c.in-Many.part c.of-in-Many.result look c.of-in-Many.ensures)
    refl refl refl says c.ahead_of-in-Many.ensures)

pub returns-in-Many-clause-others : goal.returns-in-Many-clause-others
returns-in-Many-clause-others c = single_others c.args.node.now _ c.in-Many.part c.ahead_of-in-Many.result c.args.table.now c.in-Many.is refl

pub returns-in-Window-clause-follows : goal.returns-in-Window-clause-follows
returns-in-Window-clause-follows c = λ d k look says. single_follows d c.args.node.now _ k c.end.result
    c.in-Window.part c.args.table.now c.in-Window.is refl (part_below c.args.node.now _ (length c.args.table.now)
    c.in-Window.part c.in-Window.is refl c.requires.below)
    (says_window d c.in-Window.unit c.in-Window.part k c.in-Window.part c.in-Window.count _ c.end.result
    (record { zero = c.end.ensures.zero; one = c.end.ensures.one; end = c.end.ensures.end }))

pub returns-in-Window-clause-others : goal.returns-in-Window-clause-others
returns-in-Window-clause-others c = single_others c.args.node.now _ c.in-Window.part c.end.result c.args.table.now c.in-Window.is refl

pub returns-in-Named-clause-follows : goal.returns-in-Named-clause-follows
returns-in-Named-clause-follows c = λ d k look says. single_follows d c.args.node.now _ k c.args.above c.in-Named.part
    c.args.table.now c.in-Named.is refl (part_below c.args.node.now _ (length c.args.table.now)
    c.in-Named.part c.in-Named.is refl c.requires.below)
    (says_named d c.in-Named.label c.in-Named.part k c.in-Named.part _ c.args.above says)

pub returns-in-Named-clause-others : goal.returns-in-Named-clause-others
returns-in-Named-clause-others c = single_others c.args.node.now _ c.in-Named.part c.args.above c.args.table.now c.in-Named.is refl

pub returns-in_default-clause-follows : goal.returns-in_default-clause-follows
returns-in_default-clause-follows c = λ d k look says.
    let other = c.in_default in
    no_follows d c.args.node.now k c.args.table.now
    (has_no_parts c.args.node.now other.not-Seq other.not-Choice other.not-Times other.not-Many other.not-Trunc
    other.not-Window other.not-Named)
