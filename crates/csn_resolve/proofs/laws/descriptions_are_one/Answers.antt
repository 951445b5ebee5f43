use Rattle.std.proofs.Common.{refl}
use Rattle.csn_resolve.proofs.Giving.Once.{gives_once, resolved_once}
use Rattle.csn_resolve.proofs.laws.descriptions_are_one.Goals as goal

pub returns-clause-expression : goal.returns-clause-expression
returns-clause-expression c = λ rules r x at seen nodes others h g. gives_once rules r refl refl h g

pub returns-clause-name : goal.returns-clause-name
returns-clause-name c = λ rules r n d other h g. resolved_once rules r h g
