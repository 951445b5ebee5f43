use Rattle.std.proofs.Common.{◌∷◌, List, ap, subst, ◌∙◌}
use Rattle.csn_fields.specs.declared.outline.Mark.{Mark}
use Rattle.csn_fields.specs.Outlines.{WithinNode}
use Rattle.csn_fields.proofs.OutlineFacts.{node_tells}
use Rattle.csn_fields.proofs.outlines.push_around.Goals as goal

pub returns : goal.returns
returns c = λ yes.
    let P : List Mark → Type 0 = λ l. WithinNode c.args.made.plan.now c.args.node.now c.args.made.outlines.now l c.push_inside.new.outline in
    node_tells c.args.made.plan.now c.args.i c.args.node.now c.args.width c.args.made.outlines.now c.new-2.result c.new.result
    c.push_inside.new.outline c.push-2.new.self c.requires.kind (c.in_ok-push_inside.ensures.parts c.if-not-branch.false)
    c.new-2.ensures c.new.ensures c.in_ok-push-2.ensures
    (subst P (c.in_ok-push.ensures ∙ ap (λ l. c.new.result ∷ l) c.requires.empty) (c.in_ok-push_inside.ensures.within c.if-not-branch.false))
