use Rattle.std.proofs.Common.{ℕ, suc, drop}
use Rattle.csn_desc.specs.Nodes.{DescV}
use Rattle.csn_look.specs.NodeSets.{IsLookOf}
use Rattle.csn_look.specs.FollowV.{FollowsAre, in_order}
use Rattle.csn_look.specs.Reached.{PartFollow}
use Rattle.csn_look.proofs.Sets.Telling.{PartsSetsAre}
use Rattle.csn_look.proofs.Handing.ReachedParts.{KeptBeside}
use Rattle.csn_look.proofs.Handing.FollowedParts.{PutFrom}
use Rattle.csn_look.proofs.following.follow_in_order.Given as goal

abbrev pub invariant-loop-at : goal.invariant-loop-at
invariant-loop-at l =
    KeptBeside l.parts l.initial.table l.table
    × ((d : DescV) (k : ℕ) → IsLookOf d l.look.sets → FollowsAre d k l.above
    → PartsSetsAre d (drop l.at l.parts) l.rest × PutFrom l.parts l.at l.table
    (λ j p. PartFollow d (in_order l.ends_early l.parts) k (drop (suc j) l.parts) p))
