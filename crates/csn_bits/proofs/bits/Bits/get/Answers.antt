use Rattle.std.proofs.Common.{length, slice_index, sym, ap, ◌∙◌}
use Rattle.csn_bits.proofs.Packing.{length-packed, bit_of_octet}
use Rattle.csn_bits.proofs.bits.Bits.get.Goals as goal

pub returns-clause-value : goal.returns-clause-value
returns-clause-value c =
    let count = sym (ap length c.self.view_is) ∙ length-packed _ _ c.self.invariant in
    let below = rw count at c.requires in
    bit_of_octet _ _ _ _ c.self.invariant below c.index-octet.ensures
    ∙ ap (λ bits. slice_index bits c.args.at) c.self.view_is
