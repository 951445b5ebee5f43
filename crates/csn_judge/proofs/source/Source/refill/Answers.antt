use Rattle.std.proofs.Common.{arith}
use Rattle.csn_judge.proofs.SourceFacts.{known}
use Rattle.csn_judge.proofs.source.Source.refill.Goals as goal

pub add_octets-requires-clause-many : goal.add_octets-requires-clause-many
add_octets-requires-clause-many c =
    let k = known _ _ c.self.invariant c.self.view_is in
    omega (arith, k.all, k.held)
