use Rattle.std.proofs.Common.{refl, sym, subst}
use Rattle.csn_sample.specs.declared.near.Near.{Near}
use Rattle.csn_sample.specs.Nearly.{IsNear}
use Rattle.csn_vectors.specs.Lines.{nears_none, nears_more}
use Rattle.csn_vectors.proofs.nears.push_nears.Goals as goal

pub loop-near-init : goal.loop-near-init
loop-near-init c = λ d string tree all. nears_none refl

pub loop-near-preserved : goal.loop-near-preserved
loop-near-preserved c = λ d string tree all.
    nears_more c.loop-near.out.items string c.near-item.result (c.loop-near.invariant d string tree all) tree
    (subst (λ (near : Near). IsNear d string.block near) (sym c.near-item.is)
    (all c.loop-near.near-index c.near-item.result c.loop-near-test.true))
    c.in_ok-push_near.ensures
