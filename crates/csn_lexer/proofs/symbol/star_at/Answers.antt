use Rattle.std.proofs.Common.{refl}
use Rattle.csn_lexer.proofs.Longest.{token_here, star_longest, stars_longest}
use Rattle.csn_lexer.proofs.symbol.star_at.Goals as goal

pub returns-then-is_at : goal.returns-then-is_at
returns-then-is_at c =
    token_here c.token_of.ensures
    (stars_longest c.args.text.now c.args.at c.requires.sign (c.if-is_at.ensures.0 refl))

pub returns-else-is_at : goal.returns-else-is_at
returns-else-is_at c =
    token_here c.token_of-else-is_at.ensures
    (star_longest c.args.text.now c.args.at c.requires.inside c.requires.sign
    (λ h. absurd (cc (c.if-is_at.ensures.1 h))))
