use Rattle.std.proofs.Common.{length}
use Rattle.csn_cert.proofs.Lines.{PatternsRead}
use Rattle.csn_cert.proofs.read.read_patterns.Given as goal

abbrev pub invariant-patterns : goal.invariant-patterns
invariant-patterns l = PatternsRead l.fn.text l.patterns.items l.last l.text

abbrev pub decreases-patterns : goal.decreases-patterns
decreases-patterns l = length l.text
