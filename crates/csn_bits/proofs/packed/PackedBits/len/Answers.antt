use Rattle.std.proofs.Common.{arith, ap, length}
use Rattle.csn_bits.proofs.PackedFacts.{packed_length}
use Rattle.csn_bits.proofs.packed.PackedBits.len.Goals as goal

pub returns-clause-count : goal.returns-clause-count
returns-clause-count c =
    omega (
      arith,
      packed_length c.self.inside.octets.items c.self.inside.held c.self.inside.last,
      ap length c.self.view_is,
      c.len.ensures,
      c.self.inside.octets.ok,
    )
