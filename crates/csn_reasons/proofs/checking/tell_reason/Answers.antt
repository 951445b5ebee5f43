use Rattle.std.proofs.Common.{[], ◌∷◌, ◌++◌, ◌∙◌, ap, append_assoc}
use Rattle.csn_reasons.proofs.checking.tell_reason.Goals as goal

pub returns : goal.returns
returns c =
    let line = c.in_ok-ended.ensures.ok.0 in (
      line,
      c.in_ok-extend_from_slice.ensures.items
          ∙ (ap (λ l. l ++ c.args.words.now) (c.in_ok-push.ensures.items ∙ ap (λ l. l ++ 10 ∷ []) c.in_ok-ended.ensures.ok.1)
          ∙ append_assoc (c.args.out.now.items ++ line) (10 ∷ []) c.args.words.now),
      c.in_ok-ended.ensures.ok.2,
    )
