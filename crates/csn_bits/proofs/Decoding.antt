-- Lines of whole octets, as the crate hex decodes them.
use Rattle.std.proofs.Common.{◌≡◌, ℕ, ◌+◌, ◌*◌, ◌%◌, ◌≤◌, true, List, [], ◌∷◌, length, map, take, Option, Some, None}
use Rattle.std.proofs.Common.{is_some, unwrap_or, Result, Ok, Err, refl, sym, ap, ◌∙◌, arith, append-nil, subst}
use Rattle.std.specs.Prelude.{MatchResult}
use Rattle.std.specs.List.{AllPass}
use Rattle.std.proofs.lemmas.List.{length-take, length-take-le, take-take}
use Rattle.std.proofs.lemmas.List.Elements.{All-head, All-tail}
use Rattle.hex.specs.declared.error.FromHexError.{FromHexError}
use Rattle.hex.specs.Hex.{decode_of, decode_pairs, decode_sized, encode_upper, hex_digit_value, is_hex_digit, pair_value}
use Rattle.hex.proofs.HexLemmas.{decode_of-even, decode_of-ok, decode_of-same}
use Rattle.hex.proofs.Pairs.{cons_byte, decode_pairs-ok_pair}
use Rattle.csn_bits.specs.Octets.{bits_of_octets, octets_of}
use Rattle.csn_bits.specs.Line.{BlockLine, octets_of_digits, upper, value_of}
use Rattle.csn_bits.specs.Feed.{AreDigits, waiting_value}
use Rattle.csn_bits.proofs.Packing.{AreOctets, Packs, packs_from, IsBits-bits_of_octets, length-bits_of_octets}
use Rattle.csn_bits.proofs.Written.{AreOctets-octets_of_digits, encode_upper-octets_of_digits, octets_of-behind, written-some}

some_value : (value : Option ℕ) → is_some value ≡ true → value ≡ Some (unwrap_or value 0)
some_value (Some v) some = refl
some_value None some = absurd (cc)

-- digits by pairs decode to their octets
decodes : (i : ℕ) (line : List ℕ) → AreDigits line → waiting_value line ≡ None → decode_pairs i line ≡ Ok (octets_of_digits line)
unfolding decode_pairs
decodes i [] s even = refl
decodes i (a ∷ []) s even = absurd (cc)
decodes i (a ∷ b ∷ rest) (sa, (sb, s)) even =
    let high = some_value (hex_digit_value a) sa in
    let low = some_value (hex_digit_value b) sb in
    let pair : pair_value a b i ≡ Ok (value_of a * 16 + value_of b) = rw (high, low) refl in
    let same : value_of a * 16 + value_of b ≡ 16 * value_of a + value_of b = omega arith in
    decode_pairs-ok_pair i a b (value_of a * 16 + value_of b) rest pair
    ∙ ap (cons_byte (value_of a * 16 + value_of b)) (decodes (i + 2) rest s even)
    ∙ ap (λ (v : ℕ). Ok (v ∷ octets_of_digits rest)) same

are_digits : (line : List ℕ) → AllPass is_hex_digit line → AreDigits line
are_digits [] all = tt
are_digits (byte ∷ rest) all =
    (All-head (λ b. is_hex_digit b ≡ true) byte rest all, are_digits rest (All-tail (λ b. is_hex_digit b ≡ true) byte rest all))

pub none_waits : (line : List ℕ) → length line % 2 ≡ 0 → waiting_value line ≡ None
none_waits [] even = refl
none_waits (a ∷ []) even = absurd (omega arith)
none_waits (a ∷ b ∷ rest) even = none_waits rest (omega arith)

-- what the crate decodes of pairs of digits are their octets
decoded_pairs : (line octets : List ℕ) → decode_of line ≡ Ok octets → AreDigits line × (waiting_value line ≡ None) × (octets ≡ octets_of_digits line)
decoded_pairs line octets decoded =
    let (even, all, twice, bytes) = decode_of-ok line octets decoded in
    let digits = are_digits line all in
    let waits = none_waits line even in
    (digits, waits, decode_of-same line octets (octets_of_digits line) decoded (decode_of-even line even ∙ decodes 0 line digits waits))

-- what it decodes is half as long
pub halved : (line octets : List ℕ) → decode_of line ≡ Ok octets → length line ≡ 2 * length octets
halved line octets decoded = let (even, all, twice, bytes) = decode_of-ok line octets decoded in twice

-- so many pairs of digits that were decoded among the first bytes
pub pairs_taken : (bytes decoded : List ℕ) (count most : ℕ) → AreDigits (take (2 * count) (take most bytes))
    → take count decoded ≡ octets_of_digits (take (2 * count) (take most bytes)) → 2 * count ≤ length (take most bytes)
    → (length (take (2 * count) bytes) ≡ 2 * count) × AreDigits (take (2 * count) bytes) × (waiting_value (take (2 * count) bytes) ≡ None)
    × (take count decoded ≡ octets_of_digits (take (2 * count) bytes)) × (2 * count ≤ length bytes) × (2 * count ≤ most)
pairs_taken bytes decoded count most all octets within =
    let fits = length-take most bytes in
    let same : take (2 * count) (take most bytes) ≡ take (2 * count) bytes = take-take (2 * count) most bytes (omega (arith, fits, within)) in
    let n : length (take (2 * count) bytes) ≡ 2 * count = length-take-le (2 * count) bytes (omega (arith, fits, within)) in (
      n,
      subst AreDigits same all,
      none_waits (take (2 * count) bytes) (omega (arith, n)),
      octets ∙ ap octets_of_digits same,
      omega (arith, fits, within),
      omega (arith, fits, within),
    )

-- what the crate decodes of a line, where it is of a block and not empty, are the octets of the bits that it spells
pub whole_line : (line octets : List ℕ) → decode_of line ≡ Ok octets → 1 ≤ length line → length line ≤ 131072
    → Packs octets (8 * length octets) (bits_of_octets octets) × BlockLine line (bits_of_octets octets)
whole_line line octets decoded some few =
    let (even, all, twice, bytes) = decode_of-ok line octets decoded in
    let some_octets : 1 ≤ length octets = omega (arith, twice, some) in
    let few_octets : length octets ≤ 65536 = omega (arith, twice, few) in
    let (digits, waits, is) = decoded_pairs line octets decoded in
    let small : AreOctets octets = subst AreOctets (sym is) (AreOctets-octets_of_digits line) in
    let bits : List ℕ = bits_of_octets octets in
    let count = length-bits_of_octets octets in
    let zeros_and_ones = IsBits-bits_of_octets octets small in
    let back : octets_of bits ≡ octets =
    ap (λ (l : List ℕ). octets_of l) (sym (append-nil bits)) ∙ octets_of-behind octets [] ∙ append-nil octets in
    let whole : length bits % 8 ≡ 0 = omega arith in
    let upper_line : encode_upper octets ≡ map upper line =
    ap (λ (os : List ℕ). encode_upper os) is ∙ encode_upper-octets_of_digits line digits waits in (
      packs_from octets bits (8 * length octets) (sym back) (sym count) zeros_and_ones (omega arith),
      record {
        zeros_and_ones = zeros_and_ones;
        few = omega arith;
        spelled = sym (written-some bits (omega arith) ∙ (rw (back, whole, upper_line) (append-nil (map upper line))));
      },
    )
