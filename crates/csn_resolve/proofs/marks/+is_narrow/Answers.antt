use Rattle.std.proofs.Common.{refl}
use Rattle.csn_grammar.specs.declared.expr.Form.TheVariants as form
use Rattle.csn_grammar.specs.ExprV.{sends}
use Rattle.csn_resolve.specs.Tests.{is_narrow, form_narrow}
use Rattle.csn_resolve.specs.Marked.{marked}
use Rattle.csn_resolve.proofs.Naming.ViewFacts.{told-part, alike-in-reading}
use Rattle.csn_resolve.proofs.marks.+is_narrow.Goals as goal

pub returns-in-Group : goal.returns-in-Group
returns-in-Group t c = told-part (is_narrow c.args.reading (marked c.args.names.now c.args.marks.now))
    c.args.x.now c.x.inside.span c.x.inside.form (form.Group c.in-Group.part)
    c.in-Group.part.value c.deref-in-Group.result.now c.is_narrow.result c.x.view_is c.in-Group.is
    c.deref-in-Group.ensures refl c.is_narrow.ensures

pub returns-in-Received : goal.returns-in-Received
returns-in-Received t c = told-part (is_narrow c.args.reading (marked c.args.names.now c.args.marks.now))
    c.args.x.now c.x.inside.span c.x.inside.form (form.Sends c.in-Sends.left c.in-Sends.right)
    c.in-Sends.left.value c.deref-in-Received.result.now c.is_narrow-in-Received.result c.x.view_is c.in-Sends.is
    c.deref-in-Received.ensures (alike-in-reading (λ z. form_narrow z (marked c.args.names.now c.args.marks.now)
    (sends c.in-Sends.left.value c.in-Sends.right.value)) (λ z. is_narrow z (marked c.args.names.now c.args.marks.now)
    c.in-Sends.left.value) c.in-Received.is refl) c.is_narrow-in-Received.ensures

pub returns-in-Sent : goal.returns-in-Sent
returns-in-Sent t c = told-part (is_narrow c.args.reading (marked c.args.names.now c.args.marks.now))
    c.args.x.now c.x.inside.span c.x.inside.form (form.Sends c.in-Sends.left c.in-Sends.right)
    c.in-Sends.right.value c.deref-in-Sent.result.now c.is_narrow-in-Sent.result c.x.view_is c.in-Sends.is
    c.deref-in-Sent.ensures (alike-in-reading (λ z. form_narrow z (marked c.args.names.now c.args.marks.now)
    (sends c.in-Sends.left.value c.in-Sends.right.value)) (λ z. is_narrow z (marked c.args.names.now c.args.marks.now)
    c.in-Sends.right.value) c.in-Sent.is refl) c.is_narrow-in-Sent.ensures
