use Rattle.std.proofs.Common.{◌∙◌, ap}
use Rattle.std.specs.FinSet as set
use Rattle.csn_look.proofs.Handing.ReachedParts.{root_right}
use Rattle.csn_look.proofs.Handing.FollowedParts.{root_follow}
use Rattle.csn_look.proofs.reach.Reach.new.Goals as goal

pub handed_down-requires-clause-root : goal.handed_down-requires-clause-root
handed_down-requires-clause-root c = λ is. root_right c.args.desc.now c.with.result is (c.with.ensures ∙ ap (λ s. set.insert s 0) c.empty.ensures)

pub handed_down-requires-2-clause-root : goal.handed_down-requires-2-clause-root
handed_down-requires-2-clause-root c = λ is. root_follow c.args.desc.now c.end.result is
    (record { zero = c.end.ensures.zero; one = c.end.ensures.one; end = c.end.ensures.end })
