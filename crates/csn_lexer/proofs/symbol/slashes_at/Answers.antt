use Rattle.std.proofs.Common.{refl}
use Rattle.csn_lexer.proofs.Longest.{token_here, slashes_longest, slash_none}
use Rattle.csn_lexer.proofs.symbol.slashes_at.Goals as goal

pub returns-then-is_at-clause-some : goal.returns-then-is_at-clause-some
returns-then-is_at-clause-some c =
    token_here c.token_of.ensures (slashes_longest c.args.text.now c.args.at c.requires.sign (c.if-is_at.ensures.0 refl))

pub returns-else-is_at-clause-none : goal.returns-else-is_at-clause-none
returns-else-is_at-clause-none c =
    slash_none c.args.text.now c.args.at c.requires.inside c.requires.sign
    (λ h. absurd (cc (c.if-is_at.ensures.1 h)))
