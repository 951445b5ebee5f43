use Rattle.std.proofs.Common.{ℕ, false, ◌+◌, ◌*◌, ◌^◌, ◌<◌}
use Rattle.csn_look.specs.Full.{AreAll}
use Rattle.csn_look.proofs.full.has_no_shorter.Given as goal

-- no word is a key that goes on by fewer bits
abbrev pub invariant-loop-less : goal.invariant-loop-less
invariant-loop-less l = (less : ℕ) → less < l.less → AreAll l.table false (l.place * 2 ^ less) (l.place * 2 ^ less + 2 ^ less)
