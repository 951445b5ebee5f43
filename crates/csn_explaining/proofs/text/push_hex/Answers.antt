use Rattle.csn_explaining.proofs.Texts.{grown_then}
use Rattle.csn_explaining.proofs.text.push_hex.Goals as goal

pub loop-at-init : goal.loop-at-init
loop-at-init c = (_, c.in_ok-extend_from_slice.ensures.items)

pub loop-at-preserved : goal.loop-at-preserved
loop-at-preserved c = grown_then _ _ _ c.loop-at.invariant (_, c.in_ok-push.ensures.items)

pub returns : goal.returns
returns c = c.loop-at.invariant
