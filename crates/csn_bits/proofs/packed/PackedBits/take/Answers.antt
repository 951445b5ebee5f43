use Rattle.std.proofs.Common.{◌≡◌, ◌+◌, ◌*◌, List, ℕ, length, take, arith, ap, ◌∙◌}
use Rattle.csn_bits.specs.Octets.{bits_of_octets}
use Rattle.csn_bits.proofs.PackedFacts.{handed_over}
use Rattle.csn_bits.proofs.packed.PackedBits.take.Goals as goal

pub returns-clause-bits : goal.returns-clause-bits
returns-clause-bits c =
    let octets : List ℕ = c.self.inside.octets.items in
    let held : ℕ = c.self.inside.held in
    let long : c.len.result ≡ length octets = omega (arith, c.len.ensures, c.self.inside.octets.ok) in
    let made = rw c.in-Ok.is at c.from_octets-bits.ensures.ok in
    made
    ∙ ap (λ l. take (8 * c.len.result + held) (bits_of_octets l)) (c.as_slice.ensures.value ∙ c.in_ok-push.ensures.items)
    ∙ rw (c.from.ensures, long) (handed_over octets held c.self.inside.last c.self.invariant.part)
    ∙ c.self.view_is
