use Rattle.std.proofs.Common.{arith}
use Rattle.csn_sample.proofs.marks.WayMarks.add_way.Goals as goal

pub set-requires : goal.set-requires
set-requires c =
    let within = (c.way_gone.ensures c.in-Some.way).0 c.in-Some.is in
    omega (arith, within.1, c.requires)
