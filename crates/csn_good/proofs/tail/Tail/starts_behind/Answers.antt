use Rattle.std.proofs.Common.{◌≡◌, ◌≤◌, ◌↔◌, ℕ, Bool, false, sym, ◌∙◌, IsTrue}
use Rattle.csn_claims.specs.Claims.{Claims}
use Rattle.csn_good.specs.declared.tail.Tail.{Tail}
use Rattle.csn_good.specs.ClaimedSets.{claims_of}
use Rattle.csn_good.specs.Tails.{tail_has, StartsBehind, behind_own, behind_later}
use Rattle.csn_good.proofs.tail.Tail.starts_behind.Goals as goal

later : (claims : Claims) (tail : Tail) (i o bit : ℕ) (r : Bool) → claims.starts i o bit ≡ false
    → IsTrue (claims.nullable i)
    → (IsTrue r ↔ ((end : ℕ) × (end ≤ 7) × IsTrue (claims.ends i o end) × IsTrue (tail_has tail end bit)))
    → IsTrue r ↔ StartsBehind claims tail i o bit
later claims tail i o bit r none nullable both = ((λ h. let e = both.0 h in behind_later nullable e.0 e.1 e.2 e.3), (λ h. of_behind h))
  where
    of_behind : StartsBehind claims tail i o bit → IsTrue r
    of_behind (behind_own h) = absurd (cc)
    of_behind (behind_later n end low ends h) = both.1 (end, low, ends, h)

pub returns-then-nullable : goal.returns-then-nullable
returns-then-nullable c =
    later (claims_of c.args.c.now) c.args.self.now c.args.i c.args.octet c.args.bit c.starts_later.result
    (sym c.starts_with.ensures ∙ c.if-starts_with.false) (sym c.nullable.ensures ∙ c.if-nullable.true)
    c.starts_later.ensures
