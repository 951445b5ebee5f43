use Rattle.std.proofs.Common.{ap, ◌∙◌, ◌*◌, arith}
use Rattle.csn_certify.proofs.LayoutNumbers.{field_layout}
use Rattle.csn_certify.proofs.layouts.field.Goals as goal

pub returns : goal.returns
returns c = λ d.
    field_layout d c.args.unit c.in-Fixed.n (c.from.result * c.from-2.result) c.args.count c.in-Fixed.is
    (ap (λ k. k * c.from-2.result) c.from.ensures ∙ ap (λ k. c.args.unit * k) c.from-2.ensures)
    (omega (arith, c.if-width-from.false, c.from-3.ensures))
