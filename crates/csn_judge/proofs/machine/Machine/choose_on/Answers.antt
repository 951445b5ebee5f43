use Rattle.std.proofs.Common.{ℕ, ◌+◌, subst}
use Rattle.std.proofs.lemmas.Option.{slice_get_within}
use Rattle.csn_judge.specs.declared.frame.Frame.TheVariants as frame
use Rattle.csn_judge.specs.Credit.{credit_in, Pays}
use Rattle.csn_judge.specs.Turns.{state_then, state_with, turn_in}
use Rattle.csn_judge.proofs.PayingBits.{paid_before}
use Rattle.csn_judge.proofs.TurningChoices.{open_stands}
use Rattle.csn_judge.proofs.machine.Machine.choose_on.Goals as goal

pub node-node-requires : goal.node-node-requires
node-node-requires g c =
    let on = open_stands c.args.self.now.plan.now c.requires.stands.shows in
    slice_get_within _ _ _ on.at

pub choose-requires-clause-node : goal.choose-requires-clause-node
choose-requires-clause-node g c = c.node-node.ensures.node

pub choose-requires-clause-stands : goal.choose-requires-clause-stands
choose-requires-clause-stands g c = c.requires

pub returns-clause-pays : goal.returns-clause-pays
returns-clause-pays g c =
    let before = credit_in c.args.self.now.plan.now (state_with (frame.Open c.args.i) c.args.self.now c.args.source.now) in
    let after = credit_in c.args.self.now.plan.now (state_then c.choose.result c.choose.new.self c.choose.new.source) in
    paid_before before after c.args.steps.now c.choose.new.steps (turn_in c.choose.result)
    (subst (λ (k : ℕ). Pays before after k (c.choose.new.steps + 1) (turn_in c.choose.result))
    c.node-node.ensures.step c.choose.ensures.pays)
