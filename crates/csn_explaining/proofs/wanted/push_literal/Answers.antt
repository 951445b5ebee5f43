use Rattle.std.proofs.Common.{[], ◌∷◌, ◌∙◌, ap, sym, ◌++◌, codes, append_assoc}
use Rattle.csn_explaining.proofs.Texts.{more_letters}
use Rattle.csn_explaining.specs.Wanted.{symbol_letter}
use Rattle.csn_explaining.proofs.wanted.push_literal.Goals as goal

pub loop-at-preserved : goal.loop-at-preserved
loop-at-preserved c =
    let old = c.args.out.now.items in
    let head = codes "literal " in
    more_letters symbol_letter c.args.run.now (old ++ head) c.loop-at.out.items _ c.loop-at.at c.get.result.now c.get.ensures
    (c.loop-at.invariant ∙ sym (append_assoc old head _))
    (c.in_ok-push.ensures.items ∙ ap (λ s. c.loop-at.out.items ++ s ∷ []) c.symbol_letter.ensures)
    ∙ append_assoc old head _
