use Rattle.std.proofs.Common.{refl, sym, ap, ◌∙◌}
use Rattle.std.specs.FinSet as set
use Rattle.csn_look.specs.Marks.{marked}
use Rattle.csn_look.proofs.Basics.Octets.{closing_none, closing_more, closing_end, closing_falls}
use Rattle.csn_look.proofs.octet_set.OctetSet.repeated.Goals as goal

pub loop-sums-init : goal.loop-sums-init
loop-sums-init c = closing_none c.args.self c.with-sums.result (c.with-sums.ensures ∙ ap (λ s. set.insert s 0) c.empty.ensures)

pub returns-then-more-sums : goal.returns-then-more-sums
returns-then-more-sums c =
    closing_end c.args.self c.loop-sums.sums c.plus.result c.union-more.result c.loop-sums.invariant c.plus.ensures c.union-more.ensures
    (sym c.more.view_is ∙ ap marked c.if-more-sums.true ∙ c.sums.view_is)

pub loop-sums-smaller : goal.loop-sums-smaller
loop-sums-smaller c =
    closing_falls c.sums.inside.marks c.more.inside.marks c.loop-sums.sums (marked c.more.inside.marks) c.plus.result
    c.sums.invariant c.more.invariant c.sums.view_is refl (c.more.view_is ∙ c.union-more.ensures) c.if-more-sums.false

pub loop-sums-preserved : goal.loop-sums-preserved
loop-sums-preserved c =
    closing_more c.args.self c.loop-sums.sums c.plus.result (marked c.more.inside.marks)
    c.loop-sums.invariant c.plus.ensures (c.more.view_is ∙ c.union-more.ensures)
