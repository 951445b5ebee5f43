use Rattle.std.proofs.Common.{length, ◌∙◌, ap, arith}
use Rattle.csn_resolve.proofs.Giving.MadeFacts.{paired_long, paired_set}
use Rattle.csn_resolve.proofs.made.Made.set.Goals as goal

pub index_mut-requires : goal.index_mut-requires
index_mut-requires c =
    let long = paired_long c.self.inside.nodes.items c.self.inside.places.items c.self.invariant.0 in
    let same = ap length c.self.view_is in
    omega (arith, long, same, c.requires)

pub returns : goal.returns
returns c = λ before after other is here.
    paired_set c.self.inside.nodes.items c.self.inside.places.items c.args.number c.args.node before after other (c.self.view_is ∙ is) here
