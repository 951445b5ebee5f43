use Rattle.std.proofs.Common.{◌↔◌, refl, IsTrue}
use Rattle.csn_good.specs.ClaimedSets.{claims_of}
use Rattle.csn_good.proofs.EndsTold.{ends_small}
use Rattle.csn_good.proofs.SetArms.{reached_small, starts_small, tells}
use Rattle.csn_good.specs.Wanted.{PartsHave}
use Rattle.csn_look.proofs.Meaning.ShapeFacts.{has_no_parts}
use Rattle.csn_good.proofs.Arms.{along}
use Rattle.csn_good.proofs.FollowArms.{are_counted, ends_reach, none_have, times_have, many_have, window_have, named_have}
use Rattle.csn_good.proofs.following.parts_have.Goals as goal

pub returns-in-Times : goal.returns-in-Times
returns-in-Times c = along (λ n. IsTrue c.has_wanted.result ↔ PartsHave (claims_of c.args.c.now) c.args.k n)
    c.in-Times.is (tells c.has_wanted.ensures (times_have (claims_of c.args.c.now) (ends_small c.args.c.now)
    (starts_small c.args.c.now) (are_counted c.args.c.now) (reached_small c.args.c.now c.requires.certificate)
    (ends_reach c.args.c.now) c.args.k c.in-Times.count c.in-Times.part))

pub returns-in-Many : goal.returns-in-Many
returns-in-Many c = along (λ n. IsTrue c.has_wanted-in-Many.result ↔ PartsHave (claims_of c.args.c.now) c.args.k n)
    c.in-Many.is (tells c.has_wanted-in-Many.ensures (many_have (claims_of c.args.c.now) (ends_small c.args.c.now)
    (starts_small c.args.c.now) (are_counted c.args.c.now) (reached_small c.args.c.now c.requires.certificate)
    (ends_reach c.args.c.now) c.args.k c.in-Many.part))

pub returns-in-Window : goal.returns-in-Window
returns-in-Window c = along (λ n. IsTrue c.has_wanted-in-Window.result ↔ PartsHave (claims_of c.args.c.now)
    c.args.k n) c.in-Window.is
    (tells c.has_wanted-in-Window.ensures (window_have (claims_of c.args.c.now) (ends_small c.args.c.now)
    (starts_small c.args.c.now) (are_counted c.args.c.now) (reached_small c.args.c.now c.requires.certificate)
    (ends_reach c.args.c.now) c.args.k c.in-Window.unit c.in-Window.count c.in-Window.part))

pub returns-in-Named : goal.returns-in-Named
returns-in-Named c = along (λ n. IsTrue c.has_wanted-in-Named.result ↔ PartsHave (claims_of c.args.c.now) c.args.k n)
    c.in-Named.is (tells c.has_wanted-in-Named.ensures (named_have (claims_of c.args.c.now) (ends_small c.args.c.now)
    (starts_small c.args.c.now) (are_counted c.args.c.now) (reached_small c.args.c.now c.requires.certificate)
    (ends_reach c.args.c.now) c.args.k c.in-Named.label c.in-Named.part))

pub returns-in_default : goal.returns-in_default
returns-in_default c =
    let other = c.in_default in
    let none = has_no_parts c.args.node.now other.not-Seq other.not-Choice other.not-Times other.not-Many other.not-Trunc other.not-Window other.not-Named in (
      (λ h. none_have (claims_of c.args.c.now) (ends_small c.args.c.now) (starts_small c.args.c.now)
          (are_counted c.args.c.now) (reached_small c.args.c.now c.requires.certificate) (ends_reach c.args.c.now)
          c.args.k c.args.node.now none),
      (λ h. refl),
    )
