use Rattle.std.proofs.Common.{◌≡◌, ◌<◌, ◌^◌, drop}
use Rattle.csn_grammar.specs.Writing.{decimal_after}
use Rattle.csn_grammar.proofs.reader.spellings.decimal.Given as goal

abbrev pub invariant-loop-digit : goal.invariant-loop-digit
invariant-loop-digit l = record {
  small : l.number < 10 ^ l.digit-index;
  value : decimal_after l.number (drop l.digit-index l.digits) ≡ decimal_after 0 l.digits;
}
