use Rattle.std.proofs.Common.{arith}
use Rattle.csn_io.proofs.Dropped.{drop-empty}
use Rattle.csn_io.proofs.memory.unread.Unread.is_empty.Goals as goal

pub returns : goal.returns
returns c =
    rw (← c.self.view_is)
    (drop-empty c.self.inside.bytes.items c.self.inside.at c.len.result c.self.invariant (omega arith))
