use Rattle.std.proofs.Common.{refl}
use Rattle.csn_explaining.proofs.Texts.{grown_not, grown_then}
use Rattle.csn_explaining.proofs.text.push_mask.Goals as goal

pub loop-group-init : goal.loop-group-init
loop-group-init c = grown_not _ _ refl

pub loop-group-preserved : goal.loop-group-preserved
loop-group-preserved c = grown_then _ _ _ c.loop-group.invariant (grown_then _ _ _ c.in_ok-push_gap.ensures c.in_ok-push_group.ensures)

pub returns : goal.returns
returns c = c.loop-group.invariant
