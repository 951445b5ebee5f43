use Rattle.std.proofs.Common.{refl}
use Rattle.csn_look.proofs.Sets.LeavesTell.{null_sets}
use Rattle.csn_look.proofs.Sets.LabelsTell.{named_sets, parts_of_kind, part_of_kind, of_kind}
use Rattle.csn_look.proofs.known.Known.node.Goals as goal

pub sequence-requires : goal.sequence-requires
sequence-requires c = parts_of_kind c.args.self.now.desc.now c.args.node.now _ c.args.self.now.sets.now c.in-Seq.is c.requires

pub choice-requires : goal.choice-requires
choice-requires c = parts_of_kind c.args.self.now.desc.now c.args.node.now _ c.args.self.now.sets.now c.in-Choice.is c.requires

pub truncation-requires : goal.truncation-requires
truncation-requires c = parts_of_kind c.args.self.now.desc.now c.args.node.now _ c.args.self.now.sets.now c.in-Trunc.is c.requires

pub times-requires : goal.times-requires
times-requires c = part_of_kind c.args.self.now.desc.now c.args.node.now _ c.in-Times.part c.args.self.now.sets.now c.in-Times.is refl c.requires

pub many-requires : goal.many-requires
many-requires c = part_of_kind c.args.self.now.desc.now c.args.node.now _ c.in-Many.part c.args.self.now.sets.now c.in-Many.is refl c.requires

pub window-requires : goal.window-requires
window-requires c = part_of_kind c.args.self.now.desc.now c.args.node.now _ c.in-Window.part c.args.self.now.sets.now c.in-Window.is refl c.requires

pub of-requires : goal.of-requires
of-requires c = part_of_kind c.args.self.now.desc.now c.args.node.now _ c.in-Named.part c.args.self.now.sets.now c.in-Named.is refl c.requires

pub returns-in-Null : goal.returns-in-Null
returns-in-Null c =
    let none = c.no_bits.ensures in
    of_kind c.args.self.now.desc.now c.args.node.now _ c.no_bits.result c.in-Null.is
    (null_sets c.args.self.now.desc.now c.no_bits.result
    (record {
      nullable = none.nullable;
      whole_empty = none.whole_empty;
      cut_empty = none.cut_empty;
      lengths =
          none.lengths;
      zero = none.zero;
      one = none.one;
    }))

pub returns-in-Named : goal.returns-in-Named
returns-in-Named c =
    of_kind c.args.self.now.desc.now c.args.node.now _ c.of.result c.in-Named.is
    (named_sets c.args.self.now.desc.now _ c.in-Named.part c.of.result c.of.ensures)
