use Rattle.csn_lexer.proofs.Longest.{token_here, word_longest}
use Rattle.csn_lexer.proofs.symbol.word_at.Goals as goal

pub returns : goal.returns
returns c =
    token_here c.token_of.ensures
    (word_longest c.args.text.now c.args.at c.word_end.result c.requires.inside c.requires.begins
    c.word_end.ensures.from c.word_end.ensures.within c.word_end.ensures.tail c.word_end.ensures.longest)
