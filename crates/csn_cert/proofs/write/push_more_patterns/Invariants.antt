use Rattle.std.proofs.Common.{◌≡◌, ◌++◌, take}
use Rattle.csn_cert.specs.PatternText.{more_patterns_text}
use Rattle.csn_cert.proofs.write.push_more_patterns.Given as goal

abbrev pub invariant-loop-pattern : goal.invariant-loop-pattern
invariant-loop-pattern l = l.out.items ≡ l.fn.out.items ++ more_patterns_text (take l.pattern-index l.patterns)
