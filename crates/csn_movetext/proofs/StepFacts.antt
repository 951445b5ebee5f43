-- Steps that the bytes of a line pay for.
use Rattle.std.proofs.Common.{◌≡◌, ℕ, ◌+◌, ◌*◌, ◌≤◌, length, ◌∙◌, ap, subst, arith}
use Rattle.std.proofs.Math.Nat.{mul-add, mul-le-mul_left}
use Rattle.csn_movetext.specs.Blocks.{BlockV, credit}

-- those of some bytes, and of some more
pub steps_more :
    (n first between last at count : ℕ) → between ≤ first + n * (8 * at) → last ≤ between + n * (8 * count)
    → last ≤ first + n * (8 * (at + count))
steps_more n first between last at count paid more =
    let sum : n * (8 * (at + count)) ≡ n * (8 * at) + n * (8 * count) =
    ap (λ k. n * k) (mul-add 8 at count) ∙ mul-add n (8 * at) (8 * count) in
    omega (arith, paid, more, sum)

-- fewer octets than bytes
pub steps_fewer : (n before after few many : ℕ) → few ≤ many → after ≤ before + n * (8 * few) → after ≤ before + n * (8 * many)
steps_fewer n before after few many less paid =
    let more : n * (8 * few) ≤ n * (8 * many) = mul-le-mul_left n (mul-le-mul_left 8 less) in
    omega (arith, paid, more)

-- those of the bits of the last octet, and of the end of a block
pub steps_to_end :
    (old fed : BlockV) (first between last taken bits : ℕ) → taken ≡ bits → fed.desc ≡ old.desc
    → between + credit fed ≤ first + credit old + 8 * length old.desc.nodes * taken
    → last ≤ between + credit fed + 8 * length fed.desc.nodes
    → last ≤ first + credit old + 8 * length old.desc.nodes * bits + 8 * length old.desc.nodes
steps_to_end old fed first between last taken bits same desc feeding ending =
    let nodes : length fed.desc.nodes ≡ length old.desc.nodes = ap (λ d. length d.nodes) desc in
    let paid : between + credit fed ≤ first + credit old + 8 * length old.desc.nodes * bits =
    subst (λ k. between + credit fed ≤ first + credit old + 8 * length old.desc.nodes * k) same feeding in
    omega (arith, paid, ending, nodes)

pub steps_of_end : (n before after bits : ℕ) → bits ≤ 8 → after ≤ before + n * bits + n → after ≤ before + n * 9
steps_of_end n before after bits few paid =
    let more : n * bits ≤ n * 8 = mul-le-mul_left n few in
    omega (arith, paid, more)
