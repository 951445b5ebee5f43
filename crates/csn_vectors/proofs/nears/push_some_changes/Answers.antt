use Rattle.std.proofs.Common.{refl}
use Rattle.csn_vectors.specs.Lines.{nears_none}
use Rattle.csn_vectors.proofs.nears.push_some_changes.Goals as goal

pub returns : goal.returns
returns c = nears_none refl
