use Rattle.std.proofs.Common.{ℕ, ◌∷◌, length, reverse, sym, subst}
use Rattle.csn_desc.specs.Nodes.{DescV}
use Rattle.csn_judge.specs.declared.frame.Frame.TheVariants as frame
use Rattle.csn_judge.specs.Credit.{credit_of, Pays}
use Rattle.csn_judge.proofs.PayingBits.{paid_with}
use Rattle.csn_judge.proofs.TurningLeaves.{leaf_stands, leaf_within}
use Rattle.csn_judge.proofs.machine.Machine.read_on.Goals as goal

pub node-node-requires : goal.node-node-requires
node-node-requires g c =
    leaf_within c.args.self.now.plan.now (leaf_stands c.args.self.now.plan.now c.requires.stands.shows).shows

pub returns-clause-pays : goal.returns-clause-pays
returns-clause-pays g c =
    let d : DescV = c.args.self.now.plan.now in
    let before = credit_of (length d.nodes) (frame.Leaf c.args.i c.args.leaf ∷ reverse c.args.self.now.frames.items)
    c.args.self.now.pace (length c.args.source.now.bits) in
    let after = credit_of (length d.nodes) (reverse c.read.new.self.frames.items) c.read.new.self.pace (length c.read.new.source.bits) in
    subst (λ (k : ℕ). Pays before after c.args.steps.now k c.read.result) (sym c.node-node.ensures.step)
    (paid_with before after c.args.steps.now c.read.result c.read.ensures.pays)
