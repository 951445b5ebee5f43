use Rattle.csn_resolve.proofs.Giving.Given.{nodes_given}
use Rattle.csn_resolve.proofs.Laying.Numbered.{nodes_numbered}
use Rattle.csn_resolve.proofs.laws.nodes_are_given.Goals as goal

pub returns-clause-given : goal.returns-clause-given
returns-clause-given c = λ rules r n h. nodes_given rules r h

pub returns-clause-numbered : goal.returns-clause-numbered
returns-clause-numbered c = λ rules r n nodes h. nodes_numbered rules r h
