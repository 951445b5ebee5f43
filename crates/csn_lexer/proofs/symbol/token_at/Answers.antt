use Rattle.std.proofs.Common.{sym, rules}
use Rattle.csn_lexer.proofs.Longest.{no_token}
use Rattle.csn_lexer.proofs.symbol.token_at.Goals as goal

pub returns-in-None-2-clause-none : goal.returns-in-None-2-clause-none
returns-in-None-2-clause-none c = let h = c.in_default in
    no_token c.args.text.now c.args.at c.requires.inside (c.in-None-2.ensures.none) (search rules) (search rules) (search rules) (sym c.if-begins_word.ensures)
