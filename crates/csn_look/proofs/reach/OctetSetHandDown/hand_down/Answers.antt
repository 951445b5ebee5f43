use Rattle.csn_look.proofs.Handing.ReachedParts.{parts_right}
use Rattle.csn_look.proofs.reach.OctetSetHandDown.hand_down.Goals as goal

pub returns-clause-parts : goal.returns-clause-parts
returns-clause-parts c = λ d k is look at right. parts_right d k c.args.node.now c.args.above
    c.reach_parts.new.reached is at right (c.reach_parts.ensures.steps d look)
