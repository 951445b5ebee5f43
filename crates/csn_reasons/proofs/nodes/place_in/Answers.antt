use Rattle.std.proofs.Common.{◌≡◌, false, get_or, sym, ◌∙◌, arith, below_more, ne_eqb}
use Rattle.std.specs.Prelude.{◌==◌}
use Rattle.std.proofs.lemmas.Option.{get_or_from_slice_get}
use Rattle.csn_reasons.proofs.Placed.{place_here, place_none}
use Rattle.csn_reasons.proofs.nodes.place_in.Goals as goal

pub returns-then-get-part : goal.returns-then-get-part
returns-then-get-part c =
    let parts = c.args.parts.now in
    let at = c.loop-at.at in
    place_here c.args.part parts at 0 (omega (arith, c.loop-at-test.true, c.len-at-end.ensures.len))
    (get_or_from_slice_get parts at c.get.result 0 c.get.ensures ∙ c.if-get-part.true) c.loop-at.invariant

pub loop-at-preserved : goal.loop-at-preserved
loop-at-preserved c =
    let parts = c.args.parts.now in
    let at = c.loop-at.at in
    let here = get_or_from_slice_get parts at c.get.result 0 c.get.ensures in
    below_more (λ k. (get_or parts k 0 == c.args.part) ≡ false) at c.loop-at.invariant
    (ne_eqb (get_or parts at 0) c.args.part (λ same. c.if-get-part.false (sym here ∙ same)))

pub returns : goal.returns
returns c =
    place_none c.args.part c.args.parts.now 0
    (λ k below. c.loop-at.invariant k (omega (arith, below, c.loop-at-test.false, c.len-at-end.ensures.len)))
