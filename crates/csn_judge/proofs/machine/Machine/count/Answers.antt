use Rattle.std.proofs.Common.{ℕ, ◌+◌, ◌∷◌, length, reverse, subst}
use Rattle.csn_desc.specs.Nodes.{DescV}
use Rattle.csn_judge.specs.declared.frame.Frame.TheVariants as frame
use Rattle.csn_judge.specs.Credit.{credit_of, Pays}
use Rattle.csn_judge.proofs.PayingBits.{paid_before}
use Rattle.std.proofs.lemmas.Option.{slice_get_within}
use Rattle.csn_judge.proofs.TurningCounted.{counted_stands}
use Rattle.csn_judge.proofs.machine.Machine.count.Goals as goal

pub node-field-requires : goal.node-field-requires
node-field-requires g c =
    let t = counted_stands c.args.self.now.plan.now c.requires.stands.shows in
    slice_get_within _ _ _ t.field

pub returns-clause-pays : goal.returns-clause-pays
returns-clause-pays g c =
    let d : DescV = c.args.self.now.plan.now in
    let before = credit_of (length d.nodes) (frame.Counted c.args.counted ∷ reverse c.args.self.now.frames.items)
    c.args.self.now.pace (length c.args.source.now.bits) in
    let after = credit_of (length d.nodes) (reverse c.read_counted.new.self.frames.items) c.read_counted.new.self.pace
    (length c.read_counted.new.source.bits) in
    paid_before before after c.args.steps.now c.read_counted.new.steps c.read_counted.result
    (subst (λ (k : ℕ). Pays before after k (c.read_counted.new.steps + 1) c.read_counted.result) c.node-field.ensures.step c.read_counted.ensures.pays)
