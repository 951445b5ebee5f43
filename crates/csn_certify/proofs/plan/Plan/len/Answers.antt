use Rattle.std.proofs.Common.{subst}
use Rattle.csn_desc.specs.Nodes.{DescV}
use Rattle.csn_desc.specs.Formed.{IsDescription}
use Rattle.csn_certify.specs.Conflicts.{Certified}
use Rattle.csn_certify.proofs.plan.Plan.len.Goals as goal

pub returns-clause-one_tree : goal.returns-clause-one_tree
returns-clause-one_tree c =
    let P : DescV → Type 0 = λ d. IsDescription d in
    let Q : DescV → Type 0 = λ d. Certified d 12 in
    λ b t u left right.
    c.blocks_have_one_tree.ensures c.args.self.now 12 b t u (subst P c.self.view_is c.len.ensures.description)
    (subst Q c.self.view_is c.self.invariant.0.certified) left right
