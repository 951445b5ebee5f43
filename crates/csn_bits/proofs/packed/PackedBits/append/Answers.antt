use Rattle.std.proofs.Common.{◌≡◌, ◌<◌, ◌-◌, ◌/◌, ◌%◌, ◌^◌, ◌++◌, length, slice_index, refl, ap, sym, ◌∙◌, arith, take, append-nil, append_assoc}
use Rattle.csn_bits.specs.Octets.{bits_of_octets}
use Rattle.csn_bits.specs.Numbers.{low_bits}
use Rattle.csn_bits.proofs.PackedFacts.{small_octet, octet_next, whole_leaf, part_leaf}
use Rattle.csn_bits.proofs.packed.PackedBits.append.Goals as goal

pub loop-at-init : goal.loop-at-init
loop-at-init c = sym (append-nil c.args.self.now)

pub loop-at-preserved : goal.loop-at-preserved
loop-at-preserved c =
    let octets = c.octets-octets.result.now in
    let before = bits_of_octets (take c.loop-at.at octets) in
    let low : c.loop-at.at < length octets = omega (arith, c.octets-octets.ensures.count, c.len.ensures.count, c.loop-at-test.true) in
    c.in_ok-add.ensures.ok
    ∙ ap (λ l. l ++ low_bits 8 c.from.result) c.loop-at.invariant
    ∙ append_assoc c.args.self.now before (low_bits 8 c.from.result)
    ∙ ap (λ l. c.args.self.now ++ l) (octet_next octets c.loop-at.at c.from.result low
    (omega (arith, c.from.ensures, c.type_inv.octets c.loop-at.at)) c.from.ensures)

pub returns-in_ok-add-2 : goal.returns-in_ok-add-2
returns-in_ok-add-2 c =
    let octets = c.octets-octets.result.now in
    let last = slice_index octets (c.len.result / 8) in
    let at : c.loop-at.at ≡ c.len.result / 8 = omega (arith, c.loop-at-test.false) in
    let same : c.len-few.result ≡ c.len.result = c.len-few.ensures.count ∙ sym c.len.ensures.count in
    let whole : take c.len.result (bits_of_octets octets) ≡ c.args.leaf.now = ap (λ n. take n (bits_of_octets octets))
    c.len.ensures.count ∙ c.octets-octets.ensures.bits in
    let low : c.len.result / 8 < length octets = omega (arith, c.octets-octets.ensures.count, c.len.ensures.count, c.if-few-gt0.true, same) in
    c.in_ok-add-2.ensures.ok
    ∙ ap (λ n. c.loop-at.self ++ low_bits (c.len-few.result % 8) n) c.from-then-few-gt0.ensures
    ∙ ap (λ n. c.loop-at.self ++ low_bits (n % 8) (last / 2 ^ (8 - n % 8))) same
    ∙ ap (λ l. l ++ low_bits (c.len.result % 8) (last / 2 ^ (8 - c.len.result % 8))) c.loop-at.invariant
    ∙ append_assoc c.args.self.now (bits_of_octets (take c.loop-at.at octets)) (low_bits (c.len.result % 8) (last / 2 ^ (8 - c.len.result % 8)))
    ∙ ap (λ n. c.args.self.now ++ (bits_of_octets (take n octets) ++ low_bits (c.len.result % 8) (last / 2 ^ (8 - c.len.result % 8)))) at
    ∙ ap (λ l. c.args.self.now ++ l) (part_leaf octets c.args.leaf.now c.len.result last whole low
    (small_octet octets c.args.leaf.now (c.len.result / 8) c.octets-octets.ensures.exact c.len.ensures.bits) refl)

pub returns-else-few-gt0 : goal.returns-else-few-gt0
returns-else-few-gt0 c =
    let octets = c.octets-octets.result.now in
    let at : c.loop-at.at ≡ c.len.result / 8 = omega (arith, c.loop-at-test.false) in
    let same : c.len-few.result ≡ c.len.result = c.len-few.ensures.count ∙ sym c.len.ensures.count in
    let whole : take c.len.result (bits_of_octets octets) ≡ c.args.leaf.now = ap (λ n. take n (bits_of_octets octets))
    c.len.ensures.count ∙ c.octets-octets.ensures.bits in
    c.loop-at.invariant
    ∙ ap (λ n. c.args.self.now ++ bits_of_octets (take n octets)) at
    ∙ ap (λ l. c.args.self.now ++ l) (whole_leaf octets c.args.leaf.now c.len.result whole (omega (arith, c.if-few-gt0.false, same)))
