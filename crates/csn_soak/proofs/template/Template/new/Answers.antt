use Rattle.std.proofs.Common.{◌≡◌, ℕ, ◌+◌, ◌-◌, ◌*◌, ◌≤◌, List, length, take, drop, ap, subst, ◌∙◌, arith}
use Rattle.std.proofs.lemmas.List.{length-take}
use Rattle.csn_bits.specs.Octets.{IsBits, bits_of_octets}
use Rattle.csn_bits.specs.Numbers.{number_of}
use Rattle.csn_bits.proofs.NumberFacts.{low_bits-masked, masked_small}
use Rattle.csn_bits.proofs.Packing.{length-bits_of_octets}
use Rattle.csn_soak.proofs.Templates.{bits_before, bits_behind}
use Rattle.csn_soak.proofs.template.Template.new.Goals as goal

pub invariant_of-result : goal.invariant_of-result
invariant_of-result c =
    let at : ℕ = c.args.sample.at in
    let width : ℕ = c.args.sample.width in
    let many : ℕ = c.div_ceil-many.result in
    let left : ℕ = 8 * many - at - width in
    let octets : List ℕ = c.args.sample.octets.now in
    let ends : at + width + left ≡ 8 * many = omega (arith, c.div_ceil-many.ensures) in
    let near : many ≤ 8 = omega (arith, c.div_ceil-many.ensures, c.requires.near) in
    let within : many ≤ length octets = omega (arith, c.div_ceil-many.ensures, c.requires.within) in
    let long : 8 * many ≤ length (bits_of_octets octets) = omega (arith, within, length-bits_of_octets octets) in
    let are : IsBits (take (8 * many) (bits_of_octets octets)) = subst IsBits (c.number.view_is ∙ c.in_ok-from_octets.ensures.ok) c.number.invariant.bits in
    let first : c.number-first.result ≡ number_of (take (8 * many) (bits_of_octets octets)) = c.number-first.ensures
    ∙ ap number_of c.in_ok-from_octets.ensures.ok in
    record {
      some = c.requires.some;
      narrow = c.requires.narrow;
      ends = ends;
      part = omega (arith, c.div_ceil-many.ensures);
      near = near;
      within = within;
      count = ap length c.in_ok-from_slice.ensures.items;
      octets = ap (drop many) c.in_ok-from_slice.ensures.items;
      before = bits_before (bits_of_octets octets) (8 * many) c.number-first.result are long first at (width + left) (omega (arith, ends));
      behind = low_bits-masked left c.number-first.result (omega (arith, c.div_ceil-many.ensures))
          ∙ bits_behind (bits_of_octets octets) (8 * many) c.number-first.result are long first (at + width) left ends;
      small = masked_small c.number-first.result left (omega (arith, c.div_ceil-many.ensures));
    }

pub overflow_add-sample : goal.overflow_add-sample
overflow_add-sample c = omega (arith, c.requires.near)

pub overflow_mul-many : goal.overflow_mul-many
overflow_mul-many c = omega (arith, c.div_ceil-many.ensures, c.requires.near)

pub overflow_mul-left : goal.overflow_mul-left
overflow_mul-left c = omega (arith, c.div_ceil-many.ensures, c.requires.near)

pub overflow_sub-left : goal.overflow_sub-left
overflow_sub-left c = omega (arith, c.div_ceil-many.ensures)

pub overflow_sub-left-2 : goal.overflow_sub-left-2
overflow_sub-left-2 c = omega (arith, c.div_ceil-many.ensures)

pub from_octets-requires : goal.from_octets-requires
from_octets-requires c = omega (arith, c.div_ceil-many.ensures, c.requires.within)

pub number-first-requires : goal.number-first-requires
number-first-requires c =
    let octets : List ℕ = c.args.sample.octets.now in
    omega (
      arith,
      c.div_ceil-many.ensures,
      c.requires.near,
      ap length c.in_ok-from_octets.ensures.ok,
      length-take
          (8 * c.div_ceil-many.result) (bits_of_octets octets),
    )

pub overflow_add-result : goal.overflow_add-result
overflow_add-result c = omega (arith, c.div_ceil-many.ensures, c.requires.near)

pub overflow_shr-result : goal.overflow_shr-result
overflow_shr-result c = omega (arith, c.div_ceil-many.ensures, c.requires.near, c.requires.narrow)

pub overflow_shl-result : goal.overflow_shl-result
overflow_shl-result c = omega (arith, c.div_ceil-many.ensures)
