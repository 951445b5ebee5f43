use Rattle.std.proofs.Common.{arith}
use Rattle.csn_bits.proofs.OctetNumbers.{first_octets_small, number_of-next_octet}
use Rattle.csn_bits.proofs.Packing.{IsBits-bits_of_octets}
use Rattle.csn_encode.proofs.draft.octets_number.Goals as goal

pub overflow_mul-number : goal.overflow_mul-number
overflow_mul-number c =
    omega (
      arith,
      c.loop-octet.invariant,
      first_octets_small c.args.octets.now c.loop-octet.octet-index
          (λ k. omega (arith, c.type_inv.octets k)) (omega arith) (omega (arith, c.requires)),
    )

pub overflow_add-number : goal.overflow_add-number
overflow_add-number c =
    omega (
      arith,
      c.loop-octet.invariant,
      c.from.ensures,
      first_octets_small c.args.octets.now
          c.loop-octet.octet-index (λ k. omega (arith, c.type_inv.octets k)) (omega arith) (omega (arith, c.requires)),
    )

pub loop-octet-preserved : goal.loop-octet-preserved
loop-octet-preserved c =
    omega (arith, c.loop-octet.invariant, c.from.ensures, number_of-next_octet c.args.octets.now c.loop-octet.octet-index (omega arith))

pub returns-clause-bits : goal.returns-clause-bits
returns-clause-bits c = IsBits-bits_of_octets c.args.octets.now (λ k. omega (arith, c.type_inv.octets k))
