use Rattle.std.proofs.Common.{◌<◌, ◌≤◌, ℕ, IsTrue}
use Rattle.csn_good.specs.ClaimedSets.{claims_of}
use Rattle.csn_good.specs.Signs.{sign_of}
use Rattle.csn_good.specs.Wanted.{Wants, MayEnd}
use Rattle.csn_good.proofs.following.has_wanted.Given as goal

abbrev pub invariant-loop-octet : goal.invariant-loop-octet
invariant-loop-octet l = (o s : ℕ) → o < l.octet → s ≤ 2 → MayEnd (claims_of l.c) l.part o
    → Wants (claims_of l.c) l.k l.part l.around o s → IsTrue ((claims_of l.c).follow l.part o (sign_of s))
