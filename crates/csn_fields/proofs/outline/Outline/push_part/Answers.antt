use Rattle.std.proofs.Common.{◌≡◌, ◌∷◌, [], List, reverse, take, ap, subst, ◌∙◌, arith}
use Rattle.std.proofs.lemmas.List.{reverse-append, take_all}
use Rattle.csn_fields.specs.declared.outline.Mark.{Mark}
use Rattle.csn_fields.specs.Outlines.{Precedes}
use Rattle.csn_fields.proofs.OutlineFacts.{mark_precedes, read_mark}
use Rattle.csn_fields.proofs.outline.Outline.push_part.Goals as goal

pub loop-mark-preserved : goal.loop-mark-preserved
loop-mark-preserved c =
    let items : List Mark = c.deref-mark-items.result.now in (
      c.loop-mark.invariant.0,
      mark_precedes items c.loop-mark.mark-index c.mark-item.result c.new-moved.result c.args.behind c.args.self.now
          (reverse c.loop-mark.self-inside.marks.items) (reverse c.push.new.self.items)
          (read_mark items c.loop-mark.mark-index c.mark-item.result c.loop-mark-test.true c.mark-item.is) c.new-moved.ensures
          (ap (λ l. reverse l) c.in_ok-push.ensures.items ∙ reverse-append c.loop-mark.self-inside.marks.items (c.new-moved.result ∷ []))
          c.loop-mark.invariant.1,
    )

pub returns : goal.returns
returns c = λ yes.
    let items : List Mark = c.deref-mark-items.result.now in
    let all : reverse (take c.loop-mark.mark-index items) ≡ c.args.part.now =
    ap (λ l. reverse l) (take_all c.loop-mark.mark-index items (omega (arith, c.loop-mark-test.false))) ∙ c.loop-mark.invariant.0 in
    subst (λ l. Precedes l c.args.behind c.args.self.now (reverse c.loop-mark.self-inside.marks.items)) all c.loop-mark.invariant.1
