use Rattle.std.proofs.Common.{◌++◌, subst, ap, ◌∙◌, inl, inr}
use Rattle.std.proofs.lemmas.Result.{IfOk-weaker}
use Rattle.csn_lines.specs.OutLine.{Reads, writes_block, writes_misfit}
use Rattle.csn_lines.proofs.write.write_by_tree.Goals as goal

pub returns-clause-ok : goal.returns-clause-ok
returns-clause-ok c =
    let found = subst (λ f. Reads c.args.form c.args.line.now f c.args.out.now.items c.tree_of_line.new.out.items) c.in-Some.is c.in_ok-tree.ensures.ok in
    IfOk-weaker c.answer_tree.result _ _ (λ answered told. (
      told.0,
      told.1 ∙ ap (λ l. l ++ told.0) found.1,
      elim told.2 [
        | inl has ↦ writes_block c.in-Some.tree has.0 found.0 has.1.within has.1.means has.2
        | inr misses ↦ writes_misfit c.in-Some.tree misses.0.path misses.0.why found.0
            (λ block few means. misses.1.1 block (record { means = means; within = few })) misses.1.0 misses.2
      ],
      told.3,
    )) c.answer_tree.ensures.ok
