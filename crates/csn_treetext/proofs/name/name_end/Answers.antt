use Rattle.std.proofs.Common.{sym, ◌∙◌, arith}
use Rattle.csn_treetext.proofs.ReadingFacts.{name_more}
use Rattle.csn_treetext.proofs.name.name_end.Goals as goal

pub loop-at-preserved : goal.loop-at-preserved
loop-at-preserved c =
    let (begins, within, comes) = c.loop-at.invariant in (
      omega arith,
      omega arith,
      λ version stack e.
          name_more version c.args.text.now c.args.from c.loop-at.at c.loop-at.stands c.in-Some.next stack begins c.loop-at-test.true
          (comes version stack e) (sym c.after.ensures ∙ c.in-Some.is),
    )
