use Rattle.std.proofs.Common.{List, subst, None}
use Rattle.csn_lexer.specs.declared.token.Token.{Token}
use Rattle.csn_grammar.specs.TokenV.{tokens_in}
use Rattle.csn_grammar.specs.Grammar.{AreRules}
use Rattle.csn_grammar.proofs.CompleteRules.{one_list_of_rules}
use Rattle.csn_grammar.proofs.laws.one_list_of_rules.Goals as goal

pub returns : goal.returns
returns c text rules others a b =
    let same = c.one_list_of_tokens.ensures text a.tokens b.tokens None None a.read b.read in
    one_list_of_rules (subst (λ (ts : List Token). AreRules (tokens_in text ts) rules) same.0 a.are) b.are
