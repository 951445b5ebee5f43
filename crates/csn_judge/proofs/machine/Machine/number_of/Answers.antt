use Rattle.std.proofs.Common.{◌∙◌}
use Rattle.csn_judge.proofs.machine.Machine.number_of.Goals as goal

pub count_of-requires : goal.count_of-requires
count_of-requires c = (c.args.self.now.plan.now, c.requires.0, record { kept = c.as_slice.ensures.value ∙ c.requires.1.kept; has = c.requires.1.has })

pub returns-clause-count : goal.returns-clause-count
returns-clause-count c = λ v kept.
    c.count_of.ensures.count c.args.self.now.plan.now c.requires.0 v (record { kept = c.as_slice.ensures.value ∙ c.requires.1.kept; has = c.requires.1.has })
    (c.as_slice.ensures.value ∙ kept)
