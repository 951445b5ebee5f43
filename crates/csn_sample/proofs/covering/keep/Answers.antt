use Rattle.std.proofs.Common.{subst}
use Rattle.std.specs.Prelude.{Option, IfSome}
use Rattle.csn_sample.specs.declared.covering.Way.{Way}
use Rattle.csn_sample.specs.declared.sampler.Sampled.{Sampled}
use Rattle.csn_sample.specs.declared.wish.Length.TheVariants.{AtMost}
use Rattle.csn_sample.specs.Samples.{IsSample}
use Rattle.csn_sample.specs.Covering.{IsMarked}
use Rattle.csn_sample.proofs.WaysUnset.{met_more, new_goes, examples_more}
use Rattle.csn_sample.proofs.covering.keep.Goals as goal

pub returns-clause-marks : goal.returns-clause-marks
returns-clause-marks c =
    met_more c.args.plan.now c.args.told.now.items c.push.new.self.items
    (record { sampled = c.in-Some.sampled; way = c.in-Some-add_tree.way })
    c.args.marks.now c.add_tree.new.self c.in_ok-push.ensures.items c.add_tree.ensures.marks c.requires.marks

pub returns-clause-blocks : goal.returns-clause-blocks
returns-clause-blocks c = λ most before string.
    examples_more c.args.plan.now most c.args.told.now.items c.push.new.self.items
    (record { sampled = c.in-Some.sampled; way = c.in-Some-add_tree.way }) c.in_ok-push.ensures.items before
    (new_goes c.args.plan.now most (record { sampled = c.in-Some.sampled; way = c.in-Some-add_tree.way })
    c.args.marks.now c.add_tree.new.self c.add_tree.ensures.marks
    (subst (λ (told : Option Way). IfSome told (λ way. IsMarked c.add_tree.new.self way.node way.number × ¬ IsMarked c.args.marks.now way.node way.number))
    c.in-Some-add_tree.is c.add_tree.ensures.first)
    (subst (λ (drawn : Option Sampled). IfSome drawn (IsSample c.args.plan.now (AtMost most))) c.in-Some.is string))
