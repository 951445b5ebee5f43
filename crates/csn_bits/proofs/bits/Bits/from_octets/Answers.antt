use Rattle.std.proofs.Common.{arith}
use Rattle.csn_bits.proofs.Packing.{packs_whole, packs_part}
use Rattle.csn_bits.proofs.bits.Bits.from_octets.Goals as goal

pub invariant_of-result : goal.invariant_of-result
invariant_of-result c =
    rw c.in_ok-octets.ensures.items
    (packs_whole c.args.octets.now c.args.bits (λ k. omega (arith, c.type_inv.octets k)) c.requires c.if-bits-gt-MOST_BITS.false c.if-used-eq0.true).0

pub returns-then-used-eq0-clause-ok : goal.returns-then-used-eq0-clause-ok
returns-then-used-eq0-clause-ok c =
    rw c.in_ok-octets.ensures.items
    (packs_whole c.args.octets.now c.args.bits (λ k. omega (arith, c.type_inv.octets k)) c.requires c.if-bits-gt-MOST_BITS.false c.if-used-eq0.true).1

pub invariant_of-result-2 : goal.invariant_of-result-2
invariant_of-result-2 c =
    let read = rw c.in_ok-packed.ensures.items at c.index.ensures in
    rw c.in_ok-packed.ensures.items
    (packs_part c.args.octets.now c.args.bits _ (λ k. omega (arith, c.type_inv.octets k)) c.requires c.if-bits-gt-MOST_BITS.false (omega arith) read).0

pub returns-clause-ok : goal.returns-clause-ok
returns-clause-ok c =
    let read = rw c.in_ok-packed.ensures.items at c.index.ensures in
    rw c.in_ok-packed.ensures.items
    (packs_part c.args.octets.now c.args.bits _ (λ k. omega (arith, c.type_inv.octets k)) c.requires c.if-bits-gt-MOST_BITS.false (omega arith) read).1
