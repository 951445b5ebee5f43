use Rattle.csn_lexer.proofs.Longest.{token_here, lone_longest}
use Rattle.csn_lexer.proofs.symbol.lone_symbol_at.Goals as goal

pub returns : goal.returns
returns c =
    token_here c.token_of.ensures
    (lone_longest c.args.text.now c.args.kind c.args.at c.requires.inside c.requires.alone)
