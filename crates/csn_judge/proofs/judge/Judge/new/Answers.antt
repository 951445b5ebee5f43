use Rattle.csn_judge.proofs.NewJudges.{is_judge, judges_none}
use Rattle.csn_judge.proofs.judge.Judge.new.Goals as goal

pub invariant_of-result : goal.invariant_of-result
invariant_of-result c = is_judge c.new.result c.new.ensures.plan c.known.ensures c.new.ensures.frames c.new.ensures.values c.new.ensures.pace

pub returns-clause-judges : goal.returns-clause-judges
returns-clause-judges c = judges_none c.new.result c.new.ensures.plan c.known.ensures c.new.ensures.frames
    c.new.ensures.values c.new.ensures.pace c.empty_bits_are_followed.ensures.block
