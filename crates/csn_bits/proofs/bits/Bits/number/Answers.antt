use Rattle.std.proofs.Common.{◌≡◌, ℕ, ◌-◌, ◌*◌, ◌/◌, ◌^◌, List, length, ap, subst, sym, ◌∙◌, arith}
use Rattle.csn_bits.specs.Octets.{IsBits, bits_of_octets}
use Rattle.csn_bits.specs.Numbers.{number_of}
use Rattle.csn_bits.proofs.OctetNumbers.{number_of-first}
use Rattle.csn_bits.proofs.Packing.{AreOctets, IsBits-bits_of_octets, length-bits_of_octets, length-packed, octets_of-small}
use Rattle.csn_bits.proofs.bits.Bits.number.Goals as goal

pub returns : goal.returns
returns c =
    let bits : List ℕ = c.args.self.now in
    let octets : List ℕ = c.octets-octets.result.now in
    let exact = c.octets-octets.ensures.exact in
    let are : IsBits bits = subst IsBits c.self.view_is c.self.invariant.bits in
    let small : AreOctets octets = λ k. rw exact (octets_of-small bits k are) in
    let count : length bits ≡ c.self.inside.len =
    ap (λ (l : List ℕ). length l) (sym c.self.view_is) ∙ length-packed c.self.inside.octets.items c.self.inside.len c.self.invariant in
    let all = length-bits_of_octets octets in
    let behind : 8 * length octets - c.self.inside.len ≡ length (bits_of_octets octets) - length bits = omega (arith, all, count) in
    let first = number_of-first (bits_of_octets octets) (length bits) (IsBits-bits_of_octets octets small)
    (omega (arith, all, c.octets-octets.ensures.count)) in
    ap (λ n. n / 2 ^ (8 * length octets - c.self.inside.len)) c.octets_number.ensures
    ∙ ap (λ k. number_of (bits_of_octets octets) / 2 ^ k) behind
    ∙ first
    ∙ ap (λ l. number_of l) c.octets-octets.ensures.bits
