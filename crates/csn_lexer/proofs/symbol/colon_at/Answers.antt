use Rattle.std.proofs.Common.{refl, inl, inr}
use Rattle.csn_lexer.proofs.Longest.{token_here, define_longest, colon_longest}
use Rattle.csn_lexer.proofs.symbol.colon_at.Goals as goal
use Rattle.csn_lexer.proofs.symbol.colon_at.Goals.{else-is_at-via-then-is_at+else-is_at-2, else-is_at-via-else-is_at}

pub returns-then-is_at-2 : goal.returns-then-is_at-2
returns-then-is_at-2 c =
    token_here c.token_of.ensures
    (define_longest c.args.text.now c.args.at c.requires.sign (c.if-is_at.ensures.0 refl) (c.if-is_at-2.ensures.0 refl))

pub returns-else-is_at : goal.returns-else-is_at
returns-else-is_at c =
    token_here c.token_of-else-is_at.ensures
    (colon_longest c.args.text.now c.args.at c.requires.inside c.requires.sign (elim c.else-is_at.branch [
      | else-is_at-via-then-is_at+else-is_at-2 w ↦
          inr (w.if-is_at.ensures.0 refl, λ h. absurd (cc (w.if-is_at-2.ensures.1 h)))
      | else-is_at-via-else-is_at w ↦ inl (λ h. absurd (cc (w.if-is_at.ensures.1 h)))
    ]))
