use Rattle.std.proofs.Common.{refl}
use Rattle.csn_look.proofs.Handing.FollowedParts.{with_above, without_above}
use Rattle.csn_look.proofs.following.Following.ahead_of.Goals as goal

pub returns-then-rest : goal.returns-then-rest
returns-then-rest c = with_above c.args.rest.now c.args.self.now _ c.if-rest.true c.union.ensures c.union-then-rest.ensures refl

pub returns-else-rest : goal.returns-else-rest
returns-else-rest c = without_above c.args.rest.now c.args.self.now _ (λ h. cc (h, c.if-rest.false)) refl refl c.empty.ensures
