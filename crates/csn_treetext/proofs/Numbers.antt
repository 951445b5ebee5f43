-- Numbers and the bits that write them.
use Rattle.std.specs.Int.{byte_at, to_be_bytes, w64}
use Rattle.std.proofs.Common.{◌≡◌, ℕ, suc, ◌+◌, ◌-◌, ◌*◌, ◌/◌, ◌%◌, ◌^◌, ◌<◌, ◌≤◌, List, ◌++◌, length, sym, ap, ◌∙◌, arith}
use Rattle.std.proofs.Common.{take, slice_index}
use Rattle.std.proofs.Math.Seq.{take-suc, take-append_seam}
use Rattle.std.proofs.Math.Nat.{mul-div_cancel}
use Rattle.std.proofs.lemmas.Nat.{from_be_bytes-to_be_bytes_8, pow_pos, mod_below}
use Rattle.std.proofs.Math.Pow.{pow_mono}
use Rattle.std.proofs.lemmas.List.{length-take-le}
use Rattle.csn_treetext.specs.declared.bounds.TheConstants.{MOST_SHORT}
use Rattle.csn_bits.proofs.Packing.{IsBits-take}
use Rattle.csn_bits.proofs.NumberFacts.{number_of-push, number_of-lt, length-low_bits, low_bits-eight, low_bits-first, low_bits-mod, shl_parts}
use Rattle.csn_bits.specs.Octets.{IsBits, bits_of_octets}
use Rattle.csn_bits.specs.Numbers.{number_of, low_bits}

-- ---- the octets of a number

octets_bits : (v : ℕ) → v < 2 ^ 64 → bits_of_octets (to_be_bytes w64 v) ≡ low_bits 64 v
octets_bits v small =
    sym (low_bits-eight (byte_at 7 v) (byte_at 6 v) (byte_at 5 v) (byte_at 4 v) (byte_at 3 v) (byte_at 2 v) (byte_at 1 v) (byte_at 0 v)
    (omega arith) (omega arith) (omega arith) (omega arith) (omega arith) (omega arith) (omega arith) (omega arith))
    ∙ ap (low_bits 64) (from_be_bytes-to_be_bytes_8 v small)

-- the first bits of a number that was shifted up are its last ones
pub shifted_up : (width number : ℕ) → width ≤ 64 → take width (bits_of_octets (to_be_bytes w64 (number * 2 ^ (64 - width) % 2 ^ 64))) ≡ low_bits width number
shifted_up width number few =
    let n : ℕ = 64 - width in
    let v : ℕ = number * 2 ^ n % 2 ^ 64 in
    let cut : v ≡ number % 2 ^ width * 2 ^ n = shl_parts number n width (omega arith) in
    let back : v / 2 ^ n ≡ number % 2 ^ width = ap (λ k. k / 2 ^ n) cut ∙ mul-div_cancel (number % 2 ^ width) (pow_pos n) in
    let front : List ℕ = low_bits width (v / 2 ^ n) in
    let none : width ≡ 0 + width = omega arith in
    ap (take width) (octets_bits v (mod_below (number * 2 ^ n) (2 ^ 64) (pow_pos 64)) ∙ low_bits-first 64 v width few)
    ∙ ap (λ k. take k (front ++ low_bits n v)) (sym (length-low_bits width (v / 2 ^ n)))
    ∙ take-append_seam front (low_bits n v)
    ∙ ap (low_bits width) back
    ∙ ap (λ k. low_bits width (number % 2 ^ k)) none
    ∙ low_bits-mod width 0 number
