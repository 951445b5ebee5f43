use Rattle.csn_look.proofs.Handing.FollowedParts.{parts_follow}
use Rattle.csn_look.proofs.following.FollowingHandDown.hand_down.Goals as goal

pub returns-clause-parts : goal.returns-clause-parts
returns-clause-parts c = λ d k is look at right. parts_follow d k c.args.node.now c.follow_parts.new.table is at
    (c.follow_parts.ensures.follows d k look right)
