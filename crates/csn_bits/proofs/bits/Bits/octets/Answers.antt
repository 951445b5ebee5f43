use Rattle.std.proofs.Common.{ℕ, List, length, ap, ◌∙◌}
use Rattle.csn_bits.specs.Octets.{octets_of}
use Rattle.csn_bits.proofs.Packing.{length-octets_of}
use Rattle.csn_bits.proofs.bits.Bits.octets.Goals as goal

pub returns-clause-count : goal.returns-clause-count
returns-clause-count c =
    ap (λ (l : List ℕ). length l) (c.deref.ensures.value ∙ c.self.invariant.exact)
    ∙ ap (λ (bits : List ℕ). length (octets_of bits)) c.self.view_is ∙ length-octets_of c.args.self.now
