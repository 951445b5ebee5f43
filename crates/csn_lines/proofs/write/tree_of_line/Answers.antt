use Rattle.std.proofs.Common.{refl}
use Rattle.csn_lines.proofs.write.tree_of_line.Goals as goal

pub returns-in-Ok-clause-ok : goal.returns-in-Ok-clause-ok
returns-in-Ok-clause-ok c = (rw c.in-Text.is c.in-Ok.ensures.ok, refl)
