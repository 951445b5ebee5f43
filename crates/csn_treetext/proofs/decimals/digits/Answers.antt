use Rattle.std.proofs.Common.{slice_index, sym, ◌∙◌, arith, refl}
use Rattle.csn_treetext.specs.reader.Machine.{state}
use Rattle.csn_treetext.proofs.ReadingFacts.{came_on, grown_rises}
use Rattle.csn_treetext.proofs.decimals.digits.Goals as goal

pub loop-at-preserved : goal.loop-at-preserved
loop-at-preserved c =
    let (begins, within, few, rises, leads) = c.loop-at.invariant in
    let grows_by = sym c.grown.ensures.value ∙ c.in-Some.is in
    let more = grown_rises c.args.most c.loop-at.number (slice_index c.args.text.now c.loop-at.at) c.in-Some.next grows_by in
    let least = c.in-Some.ensures.few c.in-Some.next refl in (
      omega arith,
      omega arith,
      omega arith,
      omega arith,
      λ version to stack grows e.
          came_on version c.args.text.now c.loop-at.at (state (to c.loop-at.number) stack) (state (to c.in-Some.next) stack) c.loop-at-test.true
          (leads version to stack grows e) (grows c.loop-at.number (slice_index c.args.text.now c.loop-at.at) c.in-Some.next grows_by),
    )
