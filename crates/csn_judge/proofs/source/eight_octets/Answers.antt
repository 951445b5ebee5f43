use Rattle.std.proofs.Common.{ℕ, ◌<◌, List, get_or, ap, ◌∙◌, arith}
use Rattle.csn_bits.specs.Numbers.{low_bits}
use Rattle.csn_bits.specs.Octets.{bits_of_octets}
use Rattle.csn_judge.proofs.Numbers.{next_eight}
use Rattle.csn_bits.proofs.NumberFacts.{low_bits-eight}
use Rattle.csn_judge.proofs.source.eight_octets.Goals as goal

pub returns : goal.returns
returns c =
    let p : List ℕ = c.args.piece.now in
    let small : (k : ℕ) → get_or p k 0 < 256 = λ k. omega (arith, c.type_inv.piece k) in
    ap (λ (n : ℕ). low_bits 64 n) c.from_be_bytes.ensures
    ∙ low_bits-eight _ _ _ _ _ _ _ _ (small _) (small _) (small _) (small _) (small _) (small _) (small _) (small _)
    ∙ ap (λ (l : List ℕ). bits_of_octets l) (next_eight p c.args.at c.requires)
