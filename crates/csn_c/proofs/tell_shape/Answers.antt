use Rattle.std.proofs.Common.{refl}
use Rattle.csn_c.specs.Answers.{shaped, no_node}
use Rattle.csn_c.proofs.tell_shape.Goals as goal

pub returns-in_default-clause-shapes : goal.returns-in_default-clause-shapes
returns-in_default-clause-shapes c = no_node c.in_default.ensures.none refl

pub returns-clause-shapes : goal.returns-clause-shapes
returns-clause-shapes c = shaped c.in-Some.ensures.shape refl
