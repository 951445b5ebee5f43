use Rattle.std.proofs.Common.{◌*◌, ◌<◌}
use Rattle.std.specs.Prelude.{◌^◌}
use Rattle.csn_desc.specs.Nodes.{DescV}
use Rattle.csn_look.specs.FollowV.{IsFollowOf}
use Rattle.csn_look.specs.Reached.{InFollow}
use Rattle.csn_certmake.specs.Digits.{DigitsAre}
use Rattle.csn_certmake.proofs.Writing.{AtPlace}
use Rattle.csn_certmake.proofs.digits.follow_digits.Given as goal

abbrev pub invariant-loop-octet : goal.invariant-loop-octet
invariant-loop-octet l =
    (l.digits < 2 ^ (3 * l.octet))
    × ((d : DescV) → IsFollowOf d l.reach.follow → DigitsAre (3 * l.octet) l.digits (AtPlace (InFollow d l.node)))
