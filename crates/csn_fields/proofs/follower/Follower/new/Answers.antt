use Rattle.std.proofs.Common.{◌∙◌, sym}
use Rattle.csn_fields.proofs.FollowerFacts.{fresh}
use Rattle.csn_fields.proofs.follower.Follower.new.Goals as goal

pub returns-clause-follows : goal.returns-clause-follows
returns-clause-follows c =
    fresh c.new.result c.new-2.result (c.new-2.ensures.desc ∙ sym c.new.ensures.desc) c.new.ensures.judges c.new.ensures.refused
    c.new-2.ensures.judges c.new-2.ensures.refused
