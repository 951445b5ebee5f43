use Rattle.std.proofs.Common.{◌++◌, codes, refl, subst, inl, inr}
use Rattle.csn_bits.specs.Line.{written}
use Rattle.csn_encode.specs.Encoding.{IsFaultOf}
use Rattle.csn_lines.specs.OutLine.{misfit_text}
use Rattle.csn_lines.proofs.ProgressLemmas.{OnErr-from}
use Rattle.csn_lines.proofs.write.answer_tree.Goals as goal

pub returns-in-Ok-clause-ok : goal.returns-in-Ok-clause-ok
returns-in-Ok-clause-ok g c = (
  codes "ok " ++ written c.in-Ok.bits,
  c.in_ok-answer_block-in-Ok.ensures.ok,
  inl (c.in-Ok.bits, c.in-Ok.ensures.bits, refl),
  refl,
)

pub returns-clause-ok : goal.returns-clause-ok
returns-clause-ok g c =
    let told = c.in_ok-answer_no_block-in-Err.ensures.ok in (
      misfit_text told.0.path told.0.why,
      told.2,
      inr (told.0, subst (IsFaultOf c.args.plan.now c.args.tree.now) told.1 c.in-Err.ensures.misfit, refl),
      refl,
    )

pub returns-in_err-answer_block-in-Ok-clause-err : goal.returns-in_err-answer_block-in-Ok-clause-err
returns-in_err-answer_block-in-Ok-clause-err g c = OnErr-from c.from_residual.result c.in_err-answer_block-in-Ok.ensures.err

pub returns-in_err-answer_no_block-in-Err-clause-err : goal.returns-in_err-answer_no_block-in-Err-clause-err
returns-in_err-answer_no_block-in-Err-clause-err g c = OnErr-from c.from_residual-in_err-answer_no_block-in-Err.result
    c.in_err-answer_no_block-in-Err.ensures.err
