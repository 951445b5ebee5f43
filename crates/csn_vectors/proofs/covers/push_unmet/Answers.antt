use Rattle.std.proofs.Common.{List, refl, subst, take, arith, get_or}
use Rattle.std.proofs.lemmas.List.{take_all, take_more}
use Rattle.csn_sample.specs.declared.covering.Way.{Way}
use Rattle.csn_vectors.specs.Lines.{UnmetLines, unmet_none, unmet_more}
use Rattle.csn_vectors.proofs.covers.push_unmet.Goals as goal

pub loop-way-init : goal.loop-way-init
loop-way-init c = unmet_none refl refl

pub loop-way-preserved : goal.loop-way-preserved
loop-way-preserved c =
    let none : Way = record { node = 0; number = 0 } in
    unmet_more (take c.loop-way.way-index c.args.unmet.now) c.loop-way.out.items (get_or c.args.unmet.now c.loop-way.way-index none)
    (take_more c.args.unmet.now c.loop-way.way-index none c.loop-way-test.true)
    c.loop-way.invariant c.in_ok-push_unmet_way.ensures

pub returns : goal.returns
returns c =
    subst (λ (told : List Way). UnmetLines c.args.out.now.items told c.loop-way.out.items)
    (take_all c.loop-way.way-index c.args.unmet.now (omega (arith, c.loop-way-test.false)))
    c.loop-way.invariant
