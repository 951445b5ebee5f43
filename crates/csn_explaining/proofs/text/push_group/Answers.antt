use Rattle.std.proofs.Common.{refl}
use Rattle.csn_explaining.proofs.Texts.{grown_not, grown_then}
use Rattle.csn_explaining.proofs.text.push_group.Goals as goal

pub loop-at-init : goal.loop-at-init
loop-at-init c = grown_not _ _ refl

pub loop-at-preserved : goal.loop-at-preserved
loop-at-preserved c = grown_then _ _ _ c.loop-at.invariant (_, c.in_ok-push.ensures.items)

pub returns : goal.returns
returns c = c.loop-at.invariant
