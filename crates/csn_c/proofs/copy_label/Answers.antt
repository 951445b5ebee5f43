use Rattle.std.proofs.Common.{refl}
use Rattle.csn_c.specs.Answers.{labelled, no_label}
use Rattle.csn_c.proofs.copy_label.Goals as goal

pub returns-in_default-clause-labels : goal.returns-in_default-clause-labels
returns-in_default-clause-labels c = no_label c.in_default.ensures.none refl

pub returns-clause-labels : goal.returns-clause-labels
returns-clause-labels c = labelled c.in-Some.label.now c.in-Some.ensures.label refl refl c.copy_into.ensures
