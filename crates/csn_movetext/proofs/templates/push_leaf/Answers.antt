use Rattle.std.proofs.Common.{sym, ◌∙◌}
use Rattle.csn_movetext.proofs.TemplateFacts.{leaf_written}
use Rattle.csn_movetext.proofs.templates.push_leaf.Goals as goal

pub returns-in_ok-push_field-in-Some : goal.returns-in_ok-push_field-in-Some
returns-in_ok-push_field-in-Some c = λ yes. leaf_written c.args.node.now _ c.args.width c.args.template.now
    c.push_field.new.self (sym c.leaf_width.ensures ∙ c.in-Some.is) c.in_ok-push_field-in-Some.ensures
