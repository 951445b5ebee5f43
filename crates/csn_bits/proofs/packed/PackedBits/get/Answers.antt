use Rattle.std.proofs.Common.{ap, ◌∙◌, arith, length, slice_index}
use Rattle.csn_bits.specs.Numbers.{low_bits}
use Rattle.csn_bits.proofs.PackedFacts.{packed_length, bit_of_whole, bit_of_last}
use Rattle.csn_bits.proofs.packed.PackedBits.get.Goals as goal

pub overflow_sub-behind : goal.overflow_sub-behind
overflow_sub-behind c =
    let long = packed_length c.self.inside.octets.items c.self.inside.held c.self.inside.last in
    omega (arith, long, ap length c.self.view_is, c.requires, c.self.invariant.part, c.if-octet-len.false, c.len.ensures)

pub overflow_sub-behind-2 : goal.overflow_sub-behind-2
overflow_sub-behind-2 c =
    let long = packed_length c.self.inside.octets.items c.self.inside.held c.self.inside.last in
    omega (arith, long, ap length c.self.view_is, c.requires, c.self.invariant.part, c.if-octet-len.false, c.len.ensures)

pub returns-then-octet-len-clause-value : goal.returns-then-octet-len-clause-value
returns-then-octet-len-clause-value c =
    bit_of_whole c.self.inside.octets.items (low_bits c.self.inside.held c.self.inside.last) c.args.at c.index-whole.result.now
    (omega (arith, c.if-octet-len.true, c.len.ensures)) (omega arith) c.index-whole.ensures
    ∙ ap (λ bits. slice_index bits c.args.at) c.self.view_is

pub returns-clause-value : goal.returns-clause-value
returns-clause-value c =
    let long = packed_length c.self.inside.octets.items c.self.inside.held c.self.inside.last in
    bit_of_last c.self.inside.octets.items c.self.inside.held c.self.inside.last c.args.at
    (omega (arith, long, ap length c.self.view_is, c.requires)) (omega (arith, c.if-octet-len.false, c.len.ensures)) c.self.invariant.part
    ∙ ap (λ bits. slice_index bits c.args.at) c.self.view_is
