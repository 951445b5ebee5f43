use Rattle.std.proofs.Common.{ℕ, sym, subst, arith}
use Rattle.std.specs.Prelude.{IfSome}
use Rattle.csn_certify.specs.Layouts.{HasLayout}
use Rattle.csn_certify.proofs.LayoutNumbers.{layouts_more}
use Rattle.csn_certify.proofs.layouts.layouts.Goals as goal

pub loop-i-preserved : goal.loop-i-preserved
loop-i-preserved c =
    let d = c.args.desc.now in
    let layout = c.layout_of-layout.result in
    let many = c.loop-i.invariant.many in
    let P : ℕ → Type 0 = λ i. IfSome layout (HasLayout d i) in
    layouts_more d c.loop-i.layouts.items c.from.result layout c.loop-i.invariant
    (omega (arith, many, c.loop-i-test.true, c.len-count.ensures.len, c.from.ensures)) (subst P (sym c.from.ensures) c.layout_of-layout.ensures)

pub layout_of-layout-requires-clause-node : goal.layout_of-layout-requires-clause-node
layout_of-layout-requires-clause-node c = omega (arith, c.len-count.ensures.len, c.loop-i-test.true)

pub index_mut-requires : goal.index_mut-requires
index_mut-requires c = omega (arith, c.loop-i.invariant.many, c.loop-i-test.true, c.len-count.ensures.len, c.from.ensures)
