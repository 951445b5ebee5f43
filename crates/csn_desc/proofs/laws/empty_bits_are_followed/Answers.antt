use Rattle.std.proofs.Common.{[]}
use Rattle.csn_desc.proofs.Empties.{empty_followed, nothing_seen}
use Rattle.csn_desc.proofs.laws.empty_bits_are_followed.Goals as goal

pub returns-clause-node : goal.returns-clause-node
returns-clause-node c = λ d seen round i o v h values. empty_followed d v o values h

pub returns-clause-block : goal.returns-clause-block
returns-clause-block c = λ d h. empty_followed d [] 0 nothing_seen h.well_formed
