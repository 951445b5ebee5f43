use Rattle.std.proofs.Common.{◌++◌, ap, ◌∙◌, arith}
use Rattle.csn_movetext.specs.Templates.{filled}
use Rattle.csn_movetext.proofs.TemplateFacts.{none_behind, part_behind, parts_written}
use Rattle.csn_movetext.proofs.templates.push_parts.Goals as goal

pub loop-k-init : goal.loop-k-init
loop-k-init c = (c.requires.few, none_behind c.args.made.plan.now c.args.parts.now c.args.width c.args.made.templates.now c.args.template.now)

pub push_part-requires-clause-few : goal.push_part-requires-clause-few
push_part-requires-clause-few c = omega (arith, c.in-Some.ensures.few, c.loop-k.invariant.0)

pub loop-k-preserved : goal.loop-k-preserved
loop-k-preserved c = (
  omega (arith, c.in-Some.ensures.few, c.loop-k.invariant.0),
  part_behind c.args.made.plan.now c.args.parts.now c.args.width c.args.made.templates.now c.loop-k.k c.loop-k.behind c.get-part.result c.in-Some.left
      c.args.template.now c.loop-k.template c.push_text.new.self c.push_part.new.template c.get-part.ensures c.in-Some.ensures.ends
      (λ number. c.in_ok-push_text.ensures number ∙ ap (λ l. filled c.loop-k.template number ++ l) c.gap_before.ensures)
      (c.in_ok-push_part.ensures c.if-not-branch.false) c.loop-k.invariant.1,
)

pub returns : goal.returns
returns c = λ yes.
    parts_written c.args.made.plan.now c.args.parts.now c.args.width c.args.made.templates.now c.loop-k.k
    c.loop-k.behind c.args.template.now c.loop-k.template c.push_text-2.new.self
    (omega (arith, c.loop-k-test.false, c.loop-k.auto.k-end, c.len-k-end.ensures.len)) c.in_ok-push_text-2.ensures c.loop-k.invariant.1
