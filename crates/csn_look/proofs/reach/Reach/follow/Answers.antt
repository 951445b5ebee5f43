use Rattle.std.proofs.Common.{ap}
use Rattle.csn_look.specs.Reached.{InFollow}
use Rattle.csn_look.specs.ReachV.{ReachV}
use Rattle.csn_look.proofs.Basics.Puts.{read_through}
use Rattle.csn_look.proofs.Handing.FollowedParts.{follow_says, known_follow}
use Rattle.csn_look.proofs.reach.Reach.follow.Goals as goal

pub returns : goal.returns
returns c = λ d table.
    let at = read_through c.self.inside.follow.items c.args.self.now.follow c.args.node c.index.result.now
    (ap (λ (r : ReachV). r.follow) c.self.view_is) c.requires c.index.ensures in
    follow_says c.index.result.now c.signs_of.result (InFollow d c.args.node)
    (known_follow d c.args.self.now.follow c.args.node c.index.result.now table at) c.signs_of.ensures
