use Rattle.std.proofs.Common.{arith}
use Rattle.csn_look.proofs.Sets.LeavesTell.{no_choice}
use Rattle.csn_look.proofs.Sets.PartsTell.{more_choice, choice_sets}
use Rattle.csn_look.proofs.known.Known.choice.Goals as goal

pub loop-at-init : goal.loop-at-init
loop-at-init c =
    let none = c.none-sets.ensures in
    no_choice c.args.self.now.desc.now c.args.parts.now c.none-sets.result
    (record { nullable = none.nullable; whole_empty = none.whole_empty; cut_empty = none.cut_empty; lengths = none.lengths; zero = none.zero; one = none.one })

pub loop-at-preserved : goal.loop-at-preserved
loop-at-preserved c =
    let or = c.or-sets.ensures in
    more_choice c.args.self.now.desc.now c.args.parts.now c.loop-at.at c.get.result c.loop-at.sets c.of.result
    c.or-sets.result c.get.ensures c.loop-at.invariant c.of.ensures
    (record { nullable = or.nullable; whole_empty = or.whole_empty; cut_empty = or.cut_empty; lengths = or.lengths; zero = or.zero; one = or.one })

pub returns : goal.returns
returns c = choice_sets c.args.self.now.desc.now c.args.parts.now c.loop-at.at c.loop-at.sets (omega arith) c.loop-at.invariant
