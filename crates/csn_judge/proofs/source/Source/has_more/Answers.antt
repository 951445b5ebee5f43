use Rattle.std.proofs.Common.{rules}
use Rattle.csn_judge.proofs.SourceFacts.{known}
use Rattle.csn_judge.proofs.source.Source.has_more.Goals as goal

pub returns : goal.returns
returns c = (let k = known _ _ c.self.invariant c.self.view_is in rw k.all (search rules))
