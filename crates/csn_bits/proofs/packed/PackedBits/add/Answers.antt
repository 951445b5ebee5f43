use Rattle.std.proofs.Common.{ℕ, ◌-◌, ◌*◌, ◌%◌, ◌^◌, ◌++◌, length, ap, ◌∙◌, arith}
use Rattle.std.specs.Int.Bits.{bit_or}
use Rattle.csn_bits.specs.Octets.{bits_of_octets}
use Rattle.csn_bits.specs.Numbers.{low_bits}
use Rattle.csn_bits.proofs.PackedFacts.{packed_length, added, moved_octet, few_left}
use Rattle.csn_bits.proofs.packed.PackedBits.add.Goals as goal

pub loop-left-init : goal.loop-left-init
loop-left-init c = (
  omega (arith, packed_length c.self.inside.octets.items c.self.inside.held c.self.inside.last, ap length c.self.view_is, c.len.ensures.count),
  omega arith,
  rw c.from.ensures (added c.self.inside.octets.items c.self.inside.held c.self.inside.last c.args.count c.args.number c.self.invariant.part c.requires)
      ∙ ap (λ l. l ++ low_bits c.args.count c.args.number) c.self.view_is,
  c.self.invariant.part,
)

pub loop-left-preserved : goal.loop-left-preserved
loop-left-preserved c =
    let more = c.in_ok-push.ensures.items in
    let all : ℕ = bit_or (c.from.result * 2 ^ c.args.count % 2 ^ 64) (c.args.number % (1 * 2 ^ c.args.count % 2 ^ 64)) in (
      omega (arith, ap (λ l. length l) more, c.loop-left-test.true, c.loop-left.invariant.0),
      omega (arith, c.loop-left.invariant.1),
      ap (λ l. bits_of_octets l ++ low_bits (c.loop-left.left - 8) all) more
          ∙ moved_octet c.loop-left.self-inside.octets.items c.loop-left.left all (omega (arith, c.loop-left-test.true))
          ∙ c.loop-left.invariant.2,
      c.loop-left.invariant.3,
    )

pub invariant_of-self : goal.invariant_of-self
invariant_of-self c =
    record {
      few = omega (
        arith,
        ap (λ l. length l) (c.in_err-push.ensures).items,
        c.loop-left.invariant.0,
        c.loop-left-test.true,
      );
      part = c.loop-left.invariant.3;
    }

pub returns-clause-ok : goal.returns-clause-ok
returns-clause-ok c = ap (λ l. bits_of_octets c.loop-left.self-inside.octets.items ++ l)
    (few_left c.loop-left.left _ (omega (arith, c.loop-left-test.false))) ∙ c.loop-left.invariant.2
