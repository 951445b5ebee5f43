use Rattle.std.proofs.Common.{◌≡◌, ◌++◌, ◌∙◌, codes, length, refl, ap, subst, append_assoc, arith}
use Rattle.csn_movetext.specs.declared.fault.BlockFault.{BlockFault}
use Rattle.csn_movetext.specs.Blocks.{IsFaultOf}
use Rattle.csn_lines.specs.OutLine.{refusal_text}
use Rattle.csn_lines.proofs.AnswerLemmas.{cut_back}
use Rattle.csn_lines.proofs.ShowLemmas.{place_shown, text_shown}
use Rattle.csn_lines.proofs.show.show_block.Goals as goal

pub returns-in-Ok-clause-ok : goal.returns-in-Ok-clause-ok
returns-in-Ok-clause-ok c =
    let added = c.in-Ok.ensures.text in (
      codes "ok " ++ added.0,
      added.1 ∙ ap (λ l. l ++ added.0) c.in_ok-extend_from_slice.ensures.items ∙ append_assoc _ (codes "ok ") added.0,
      text_shown c.args.form c.args.plan.now c.args.bits.now added.0 added.2,
      refl,
    )

pub returns-in_ok-answer_no_tree-in-Err-clause-ok : goal.returns-in_ok-answer_no_tree-in-Err-clause-ok
returns-in_ok-answer_no_tree-in-Err-clause-ok c =
    let told = c.in_ok-answer_no_tree-in-Err.ensures.ok in
    let start : c.len-start.result ≡ length c.args.out.now.items = omega (arith, c.len-start.ensures, c.args.out.now.ok) in
    let same : c.truncate.new.self.items ≡ c.args.out.now.items =
    cut_back _ _ _ (codes "ok ") _ (c.in-Err.ensures.same ∙ c.in_ok-extend_from_slice.ensures.items) c.truncate.ensures.items start in
    let P : BlockFault → Type 0 = λ f. IsFaultOf c.args.plan.now c.args.bits.now f in
    let refusal = subst P told.1 c.in-Err.ensures.why in (
      refusal_text told.0 c.args.bits.now,
      told.2 ∙ ap (λ l. l ++ refusal_text told.0 c.args.bits.now) same,
      place_shown c.args.form c.args.plan.now c.args.bits.now told.0 refusal,
      refl,
    )
