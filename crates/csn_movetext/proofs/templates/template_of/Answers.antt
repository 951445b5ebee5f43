use Rattle.std.proofs.Common.{◌++◌, ap, sym, ◌∙◌, append-nil}
use Rattle.csn_movetext.proofs.NumberFacts.{parts_within}
use Rattle.csn_movetext.proofs.PoolFacts.{no_label}
use Rattle.csn_movetext.proofs.TemplateFacts.{node_template}
use Rattle.csn_movetext.proofs.templates.template_of.Goals as goal

pub push_node-requires-clause-parts : goal.push_node-requires-clause-parts
push_node-requires-clause-parts g c =
    λ j part get. parts_within c.args.plan.now c.args.i j part c.node-node.result.now c.len-count.ensures.description
    c.node-node.ensures.node get

pub returns-then-branch : goal.returns-then-branch
returns-then-branch g c =
    node_template c.args.plan.now c.args.openings.now c.args.i c.node-node.result.now c.in-Some.layout
    c.args.templates.now c.push_text.new.self c.push_node.new.template
    c.requires.form c.requires.opened c.node-node.ensures.node c.in-Some.ensures c.requires.templates
    (λ number. c.in_ok-push_text.ensures number
    ∙ ap (λ l. l ++ c.get-opening.result.text.now) (c.new-template.ensures number)
    ∙ sym (append-nil c.get-opening.result.text.now)
    ∙ ap (λ l. c.get-opening.result.text.now ++ l)
    (sym (no_label c.args.openings.now.form c.get-opening.result.label (sym c.is_some.ensures ∙ c.if-is_some.false)))
    ∙ c.get-opening.ensures)
    (c.in_ok-push_node.ensures c.if-branch.true)
