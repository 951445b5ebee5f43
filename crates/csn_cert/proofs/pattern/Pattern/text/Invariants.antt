use Rattle.std.proofs.Common.{◌≡◌, map, take}
use Rattle.csn_cert.specs.PatternText.{mark_character}
use Rattle.csn_cert.proofs.pattern.Pattern.text.Given as goal

abbrev pub invariant-loop-at : goal.invariant-loop-at
invariant-loop-at l = l.text.items ≡ map mark_character (take l.at l.self.marks)
