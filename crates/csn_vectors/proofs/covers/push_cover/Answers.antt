use Rattle.std.proofs.Common.{List, subst}
use Rattle.csn_sample.specs.declared.covering.Example.{Example}
use Rattle.csn_sample.specs.declared.covering.Way.{Way}
use Rattle.csn_vectors.specs.Lines.{ExampleLines, UnmetLines}
use Rattle.csn_vectors.proofs.covers.push_cover.Goals as goal

pub returns : goal.returns
returns c = record {
  covered = c.in_ok-covered.covered;
  covers = c.in_ok-covered.ensures;
  middle = c.push_examples.new.out.items;
  blocks = subst (λ (told : List Example). ExampleLines c.args.out.now.items told c.push_examples.new.out.items)
      c.deref.ensures.value c.in_ok-push_examples.ensures;
  unmet = subst (λ (ways : List Way). UnmetLines c.push_examples.new.out.items ways c.push_unmet.new.out.items)
      c.deref-2.ensures.value c.in_ok-push_unmet.ensures;
}
