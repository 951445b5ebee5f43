use Rattle.std.proofs.Common.{List, refl, subst, take, arith}
use Rattle.std.proofs.lemmas.List.{take_all}
use Rattle.csn_sample.specs.declared.covering.Example.{Example}
use Rattle.csn_vectors.specs.Lines.{ExampleLines, examples_none, examples_more}
use Rattle.csn_vectors.proofs.Told.{take_next}
use Rattle.csn_vectors.proofs.covers.push_examples.Goals as goal

pub loop-example-init : goal.loop-example-init
loop-example-init c = examples_none refl refl

pub loop-example-preserved : goal.loop-example-preserved
loop-example-preserved c =
    examples_more (take c.loop-example.example-index c.args.blocks.now) c.loop-example.out.items c.example-item.result
    (take_next c.args.blocks.now c.loop-example.example-index c.example-item.result c.loop-example-test.true c.example-item.is)
    c.loop-example.invariant c.in_ok-push_example.ensures

pub returns : goal.returns
returns c =
    subst (λ (told : List Example). ExampleLines c.args.out.now.items told c.loop-example.out.items)
    (take_all c.loop-example.example-index c.args.blocks.now (omega (arith, c.loop-example-test.false)))
    c.loop-example.invariant
