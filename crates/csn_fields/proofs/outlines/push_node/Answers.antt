use Rattle.std.proofs.Common.{◌∷◌, sym, ap, ◌∙◌}
use Rattle.csn_fields.proofs.OutlineFacts.{leaf_tells}
use Rattle.csn_fields.proofs.outlines.push_node.Goals as goal

pub returns-in_ok-push-in-Some : goal.returns-in_ok-push-in-Some
returns-in_ok-push-in-Some c = λ yes.
    leaf_tells c.args.made.plan.now c.args.i c.args.node.now c.in-Some.kind c.args.width c.args.made.outlines.now c.new.result c.push.new.self
    (sym c.kind_of.ensures ∙ c.in-Some.is) c.new.ensures (c.in_ok-push-in-Some.ensures ∙ ap (λ l. c.new.result ∷ l) c.requires.empty)
