use Rattle.std.proofs.Common.{◌≡◌, ℕ, ◌+◌, ◌*◌, ◌/◌, ◌%◌, ◌^◌, ◌<◌, List, ◌++◌, drop, slice_index, refl, ap, ◌∙◌, arith, length-set, length-drop}
use Rattle.std.proofs.lemmas.Nat.{shr-shr}
use Rattle.std.proofs.lemmas.List.{take_all}
use Rattle.hex.specs.Hex.{upper_digits, encode_upper}
use Rattle.csn_bits.specs.Octets.{octets_of}
use Rattle.csn_bits.specs.Numbers.{low_bits}
use Rattle.csn_movetext.proofs.Octets.{digits_before, no_digits}
use Rattle.csn_movetext.proofs.digits.push_octets.Goals as goal

pub loop-init : goal.loop-init
loop-init c = record { size = refl; place = refl; left = omega arith; written = no_digits }

pub loop-preserved : goal.loop-preserved
loop-preserved c =
    let few : c.loop.counter < 8 = omega (arith, c.loop-test.true, c.loop.auto.counter-end, c.requires.few) in
    record {
      size = length-set _ _ _ ∙ length-set _ _ _ ∙ c.loop.invariant.size;
      place = omega (arith, c.loop.invariant.place, few);
      left = ap (λ n. n / 256) c.loop.invariant.left ∙ shr-shr c.args.number (8 * c.loop.counter) 8 ∙ ap (λ k. c.args.number / 2 ^ k) (omega arith);
      written = digits_before c.args.number c.loop.counter c.loop.first (c.loop.rest % 256) _ _ c.loop.digits c.loop.invariant.size c.loop.invariant.place few
          (ap (λ n. n % 256) c.loop.invariant.left) (ap (λ n. slice_index upper_digits n) (omega (arith, c.from.ensures)))
          (ap (λ n. slice_index upper_digits n) (omega (arith, c.from-in-loop.ensures))) c.loop.invariant.written;
    }

pub returns-clause-digits : goal.returns-clause-digits
returns-clause-digits c =
    let all : c.loop.counter ≡ c.args.count = omega (arith, c.loop-test.false, c.loop.auto.counter-end) in
    let written : ℕ → List ℕ = λ k. c.args.out.now.items ++ encode_upper (octets_of (low_bits (8 * k) c.args.number)) in
    c.in_ok-extend_from_slice.ensures.items
    ∙ ap (λ l. c.args.out.now.items ++ l)
    (take_all _ (drop c.loop.first c.loop.digits) (omega (arith, c.loop.invariant.size, length-drop c.loop.first c.loop.digits)) ∙ c.loop.invariant.written)
    ∙ ap written all
