use Rattle.std.proofs.Common.{length, arith, ap}
use Rattle.csn_resolve.proofs.Giving.MadeFacts.{paired_long}
use Rattle.csn_resolve.proofs.made.Made.len.Goals as goal

pub returns-clause-len : goal.returns-clause-len
returns-clause-len c =
    let long = paired_long c.self.inside.nodes.items c.self.inside.places.items c.self.invariant.0 in
    let same = ap length c.self.view_is in
    omega (arith, long, same, c.len.ensures)
