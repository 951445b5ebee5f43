use Rattle.std.proofs.Common.{◌≡◌, ◌*◌, List, length, take, ℕ, arith, subst, sym, ◌∙◌}
use Rattle.csn_bits.specs.Octets.{bits_of_octets}
use Rattle.csn_bits.specs.Line.{BlockLine}
use Rattle.csn_bits.proofs.Decoding.{halved, whole_line}
use Rattle.csn_bits.proofs.bits.Bits.from_whole_octets.Goals as goal

pub overflow_cast-len : goal.overflow_cast-len
overflow_cast-len c = omega (arith, halved c.args.line.now c.in-Ok.octets.items c.in-Ok.ensures.ok)

pub overflow_mul-len : goal.overflow_mul-len
overflow_mul-len c = omega (arith, halved c.args.line.now c.in-Ok.octets.items c.in-Ok.ensures.ok)

pub invariant_of-result : goal.invariant_of-result
invariant_of-result c =
    let count : c.len.result ≡ length c.in-Ok.octets.items = omega arith in
    let whole = whole_line c.args.line.now c.in-Ok.octets.items c.in-Ok.ensures.ok (grind (arith)) (grind (arith)) in
    rw count whole.0.0

pub returns-in-Ok-clause-ok : goal.returns-in-Ok-clause-ok
returns-in-Ok-clause-ok c x is =
    let count : c.len.result ≡ length c.in-Ok.octets.items = omega arith in
    let whole = whole_line c.args.line.now c.in-Ok.octets.items c.in-Ok.ensures.ok (grind (arith)) (grind (arith)) in
    let bits : take (8 * c.len.result) (bits_of_octets c.in-Ok.octets.items) ≡ bits_of_octets c.in-Ok.octets.items =
    rw count whole.0.1 in
    let same : take (8 * c.len.result) (bits_of_octets c.in-Ok.octets.items) ≡ x = cc in
    subst (λ (b : List ℕ). BlockLine c.args.line.now b) (sym bits ∙ same) whole.1
