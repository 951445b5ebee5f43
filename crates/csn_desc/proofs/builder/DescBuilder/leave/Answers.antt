-- What stands where a node is left.
use Rattle.std.proofs.Common.{sym, subst}
use Rattle.csn_desc.specs.Building.{BuilderV, MayLeave}
use Rattle.csn_desc.proofs.Innermost.{leaves_last}
use Rattle.csn_desc.proofs.builder.DescBuilder.leave.Goals as goal

pub invariant_of-self : goal.invariant_of-self
invariant_of-self c =
    let P : BuilderV → Type 0 = λ b. MayLeave b in
    leaves_last c.self.inside.nodes.items c.self.inside.around.items c.pop.new.self.items c.pop.result c.pop.ensures.items
    c.self.invariant (subst P (sym c.self.view_is) c.requires)
