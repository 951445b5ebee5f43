use Rattle.std.proofs.Common.{length, ap, arith}
use Rattle.csn_certify.proofs.plan.Plan.layout.Goals as goal

pub index-requires : goal.index-requires
index-requires c = omega (arith, c.requires, c.from.ensures, c.self.invariant.1.many, ap (λ d. length d.nodes) c.self.view_is)
