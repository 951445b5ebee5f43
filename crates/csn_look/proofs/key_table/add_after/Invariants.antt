use Rattle.std.proofs.Common.{◌%◌, [], get_or}
use Rattle.csn_look.specs.KeySteps.{Gains}
use Rattle.csn_look.proofs.Tables.Products.{AfterBelow}
use Rattle.csn_look.proofs.key_table.add_after.Given as goal

-- the keys that begin with fewer bits of the first part are added
abbrev pub invariant-loop-size : goal.invariant-loop-size
invariant-loop-size l =
    Gains l.initial.marks l.marks (AfterBelow l.first (λ size. get_or l.tables (get_or l.rests (size % 8) 0) []) l.size)
