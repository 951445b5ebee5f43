use Rattle.std.proofs.Common.{◌≡◌, drop}
use Rattle.csn_grammar.specs.reader.Spellings.{run_of}
use Rattle.csn_grammar.proofs.Spelled.{with_run}
use Rattle.csn_grammar.proofs.reader.spellings.run_of.Given as goal

abbrev pub invariant-loop-byte : goal.invariant-loop-byte
invariant-loop-byte l = with_run l.run (run_of (drop l.byte-index l.word)) ≡ run_of l.word
