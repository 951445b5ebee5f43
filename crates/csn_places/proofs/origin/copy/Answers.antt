use Rattle.std.proofs.Common.{[], ◌∷◌, ◌++◌, take_all, sym, ◌∙◌, ap, arith}
use Rattle.csn_resolve.proofs.Basics.Parts.{take_next}
use Rattle.csn_places.proofs.origin.copy.Goals as goal

pub loop-at-preserved : goal.loop-at-preserved
loop-at-preserved c =
    c.in_ok-add.ensures.ok
    ∙ (ap (λ l. l ++ c.get.result.now ∷ []) c.loop-at.invariant
    ∙ sym (take_next c.args.names.now c.loop-at.at c.get.result.now c.get.ensures))

pub returns : goal.returns
returns c = c.loop-at.invariant ∙ take_all c.loop-at.at c.args.names.now (omega (arith, c.len-at-end.ensures.len, c.loop-at-test.false))
