use Rattle.std.proofs.Common.{ap, ◌∙◌}
use Rattle.csn_movetext.proofs.TemplateFacts.{field_added}
use Rattle.csn_movetext.proofs.template.Template.push_field.Goals as goal

pub returns : goal.returns
returns c = λ number.
    field_added c.args.self.now.pieces.items c.push.new.self.items c.args.self.now.tail.items c.replace-text.new.dest.items _ number
    c.in_ok-push.ensures.items (ap (λ v. v.items) c.replace-text.ensures.value) (ap (λ v. v.items) c.replace-text.ensures.after ∙ c.new-none.ensures.items)
