use Rattle.std.proofs.Common.{ap}
use Rattle.csn_judge.proofs.NewJudges.{is_judge, judges_none}
use Rattle.csn_judge.proofs.judge.Judge.restart.Goals as goal

pub invariant_of-self : goal.invariant_of-self
invariant_of-self c = is_judge c.restart.new.self (ap (λ p. p.now) c.restart.ensures.plan)
    c.known.ensures c.restart.ensures.frames c.restart.ensures.values c.restart.ensures.pace

pub returns-clause-judges : goal.returns-clause-judges
returns-clause-judges c = judges_none c.restart.new.self (ap (λ p. p.now) c.restart.ensures.plan)
    c.known.ensures c.restart.ensures.frames c.restart.ensures.values c.restart.ensures.pace
    c.empty_bits_are_followed.ensures.block
