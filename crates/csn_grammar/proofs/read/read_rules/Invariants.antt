use Rattle.std.proofs.Common.{◌≡◌, ◌-◌, length}
use Rattle.csn_grammar.proofs.Reading.{IsRead}
use Rattle.csn_grammar.proofs.read.read_rules.Given as goal

abbrev pub invariant-tokens : goal.invariant-tokens
invariant-tokens l = record {
  text : l.lexer.text ≡ l.text;
  read : IsRead l.text l.lexer.place l.reader;
}

abbrev pub decreases-tokens : goal.decreases-tokens
decreases-tokens l = length l.text - l.lexer.place
