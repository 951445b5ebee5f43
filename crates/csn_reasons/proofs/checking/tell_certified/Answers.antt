use Rattle.std.proofs.Common.{[], ◌∷◌, ◌++◌, ◌∙◌, ap}
use Rattle.csn_reasons.proofs.checking.tell_certified.Goals as goal

pub returns : goal.returns
returns c = (c.in_ok-ended.ensures.ok.0, c.in_ok-push.ensures.items ∙ ap (λ l. l ++ 10 ∷ []) c.in_ok-ended.ensures.ok.1)
