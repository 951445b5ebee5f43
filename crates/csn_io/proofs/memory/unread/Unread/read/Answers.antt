use Rattle.std.proofs.Common.{arith}
use Rattle.csn_io.proofs.Dropped.{drop-moved}
use Rattle.csn_io.proofs.memory.unread.Unread.read.Goals as goal

pub returns-clause-moved : goal.returns-clause-moved
returns-clause-moved c =
    let piece = rw c.deref.ensures.value at c.copy_from_slice.ensures.after in
    rw (← c.self.view_is)
    (drop-moved c.self.inside.bytes.items c.copy_from_slice.new.self _ c.self.inside.at c.min-count.result (omega arith) piece)
