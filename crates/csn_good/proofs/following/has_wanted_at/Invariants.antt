use Rattle.std.proofs.Common.{◌<◌, ℕ, IsTrue}
use Rattle.csn_good.specs.ClaimedSets.{claims_of}
use Rattle.csn_good.specs.Signs.{sign_of}
use Rattle.csn_good.specs.Wanted.{Wants}
use Rattle.csn_good.proofs.following.has_wanted_at.Given as goal

abbrev pub invariant-loop-sign : goal.invariant-loop-sign
invariant-loop-sign l = (s : ℕ) → s < l.sign → Wants (claims_of l.c) l.k l.part l.around l.octet s → IsTrue ((claims_of l.c).follow l.part l.octet (sign_of s))
