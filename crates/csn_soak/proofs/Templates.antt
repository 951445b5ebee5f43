-- A number in the field of a sample, and the bits around it as numbers.
use Rattle.std.proofs.Common.{◌≡◌, ℕ, ◌+◌, ◌-◌, ◌*◌, ◌/◌, ◌%◌, ◌^◌, ◌<◌, ◌≤◌, List, ◌++◌, length, take, drop, sym, ap}
use Rattle.std.proofs.Common.{◌∙◌, arith, append_assoc, take-append-drop, length-append, length-drop}
use Rattle.std.specs.Int.{byte_at, to_be_bytes, w64}
use Rattle.std.specs.Int.Bits.{bit_or}
use Rattle.std.proofs.Math.Seq.{drop-append_seam}
use Rattle.std.proofs.lemmas.List.{take_at, take-append-le, drop-take, drop-drop, length-take-le}
use Rattle.std.proofs.Math.Pow.{pow_mono}
use Rattle.std.proofs.lemmas.Nat.{from_be_bytes-to_be_bytes_8, pow_pos, mod_below, shr_below, or_lt}
use Rattle.std.proofs.lemmas.Slice.{drop-append-drop}
use Rattle.csn_bits.specs.Octets.{IsBits, bits_of_octets}
use Rattle.csn_bits.specs.Numbers.{number_of, low_bits}
use Rattle.csn_bits.proofs.NumberFacts.{length-low_bits, low_bits-eight, low_bits-first, low_bits-shifted, low_bits-number_of}
use Rattle.csn_bits.proofs.Packing.{bits_of_octets-append, drop-bits_of_octets}
use Rattle.csn_soak.specs.declared.template.Template.TheInside.{Inside}
use Rattle.csn_soak.specs.Template.{IsTemplate}

-- ---- numbers and their octets

eight_octets : (v : ℕ) → v < 2 ^ 64 → bits_of_octets (to_be_bytes w64 v) ≡ low_bits 64 v
eight_octets v small =
    sym (low_bits-eight (byte_at 7 v) (byte_at 6 v) (byte_at 5 v) (byte_at 4 v) (byte_at 3 v) (byte_at 2 v) (byte_at 1 v) (byte_at 0 v)
    (omega arith) (omega arith) (omega arith) (omega arith) (omega arith) (omega arith) (omega arith) (omega arith))
    ∙ ap (low_bits 64) (from_be_bytes-to_be_bytes_8 v small)

first_of : (count v n : ℕ) → n ≤ count → take n (low_bits count v) ≡ low_bits n (v / 2 ^ (count - n))
first_of count v n few =
    ap (take n) (low_bits-first count v n few)
    ∙ take_at (low_bits n (v / 2 ^ (count - n))) (low_bits (count - n) v) n (length-low_bits n (v / 2 ^ (count - n)))

last_of : (count v n : ℕ) → n ≤ count → drop n (low_bits count v) ≡ low_bits (count - n) v
last_of count v n few =
    let front : List ℕ = low_bits n (v / 2 ^ (count - n)) in
    let back : List ℕ = low_bits (count - n) v in
    ap (drop n) (low_bits-first count v n few)
    ∙ ap (λ k. drop k (front ++ back)) (sym (length-low_bits n (v / 2 ^ (count - n))))
    ∙ drop-append_seam front back

-- the first bits of a number
pub field_bits : (width v : ℕ) → width ≤ 64 → v < 2 ^ 64 → low_bits width (v / 2 ^ (64 - width)) ≡ take width (bits_of_octets (to_be_bytes w64 v))
field_bits width v few small = sym (first_of 64 v width few) ∙ ap (take width) (sym (eight_octets v small))

-- the last octets of a number
pub last_octets : (v many : ℕ) → v < 2 ^ 64 → many ≤ 8 → bits_of_octets (drop (8 - many) (to_be_bytes w64 v)) ≡ low_bits (8 * many) v
last_octets v many small few =
    let n : ℕ = 8 * (8 - many) in
    let rest : 64 - n ≡ 8 * many = omega arith in
    sym (drop-bits_of_octets (8 - many) (to_be_bytes w64 v)) ∙ ap (drop n) (eight_octets v small) ∙ last_of 64 v n (omega arith) ∙ ap (λ k. low_bits k v) rest

-- ---- the first bits of some, written by a number

module _ (bits : List ℕ) (count first : ℕ) (are : IsBits (take count bits)) (within : count ≤ length bits) (is : first ≡ number_of (take count bits)) where
  written : low_bits count first ≡ take count bits
  written =
      ap (low_bits count) is
      ∙ ap (λ k. low_bits k (number_of (take count bits))) (sym (length-take-le count bits within))
      ∙ low_bits-number_of (take count bits) are

  pub bits_before : (at back : ℕ) → at + back ≡ count → low_bits at (first / 2 ^ back) ≡ take at bits
  bits_before at back all =
      let power : back ≡ count - at = omega (arith, all) in
      let low : at ≤ length (take count bits) = omega (arith, all, length-take-le count bits within) in
      ap (λ k. low_bits at (first / 2 ^ k)) power
      ∙ sym (first_of count first at (omega (arith, all)))
      ∙ ap (take at) written
      ∙ sym (take-append-le at (take count bits) (drop count bits) low)
      ∙ ap (take at) (take-append-drop count bits)

  pub bits_behind : (front left : ℕ) → front + left ≡ count → low_bits left first ≡ take left (drop front bits)
  bits_behind front left all =
      let rest : left ≡ count - front = omega (arith, all) in
      ap (λ k. low_bits k first) rest
      ∙ sym (last_of count first front (omega (arith, all)))
      ∙ ap (drop front) written
      ∙ ap (λ k. drop front (take k bits)) (sym all)
      ∙ drop-take front left bits

-- ---- the block

-- three numbers beside one another
three_parts : (at width left before field behind : ℕ) → at + width + left ≤ 64 → field < 2 ^ width → behind < 2 ^ left
    → low_bits (at + width + left) (bit_or (bit_or (before * 2 ^ width % 2 ^ 64) field * 2 ^ left % 2 ^ 64) behind)
    ≡ (low_bits at before ++ low_bits width field) ++ low_bits left behind
three_parts at width left before field behind few small less =
    low_bits-shifted (at + width) left (bit_or (before * 2 ^ width % 2 ^ 64) field) behind few less
    ∙ ap (λ l. l ++ low_bits left behind) (low_bits-shifted at width before field (omega (arith, few)) small)

-- some bits, of which the later ones are cut in two
joined : (a b bits : List ℕ) (front left : ℕ) → ((a ++ b) ++ take left (drop front bits)) ++ drop (front + left) bits ≡ (a ++ b) ++ drop front bits
joined a b bits front left =
    append_assoc (a ++ b) (take left (drop front bits)) (drop (front + left) bits)
    ∙ ap (λ l. (a ++ b) ++ (take left (drop front bits) ++ l)) (sym (drop-drop left front bits))
    ∙ ap (λ l. (a ++ b) ++ l) (take-append-drop left (drop front bits))

-- the first octets of a block are written anew
module _ (t : Inside) (is : IsTemplate t) (first : ℕ) (old new : List ℕ) (were : old ≡ t.octets.items)
    (written : new ≡ drop (8 - t.many) (to_be_bytes w64 first) ++ drop t.many old) where
  abbrev front : List ℕ
  front = drop (8 - t.many) (to_be_bytes w64 first)

  long : length front ≡ t.many
  long = omega (arith, length-drop (8 - t.many) (to_be_bytes w64 first), is.near)

  put : new ≡ front ++ drop t.many t.octets.items
  put = written ∙ ap (λ l. front ++ drop t.many l) were

  pub count : length new ≡ length t.sample.octets.now
  count =
      ap length put
      ∙ omega (arith, long, length-append front (drop t.many t.octets.items), length-drop t.many t.octets.items, is.count, is.within)

  pub later : drop t.many new ≡ drop t.many t.sample.octets.now
  later = ap (drop t.many) put ∙ drop-append-drop t.many t.octets.items front t.many (omega arith) long ∙ is.octets

  abbrev at : ℕ
  at = t.sample.at

  abbrev width : ℕ
  width = t.sample.width

  abbrev whole : List ℕ
  whole = bits_of_octets t.sample.octets.now

  pub bits_put : (number : ℕ) → number < 2 ^ 64
      → first ≡ bit_or (bit_or (t.before * 2 ^ t.sample.width % 2 ^ 64) (number / 2 ^ (64 - t.sample.width)) * 2 ^ t.left % 2 ^ 64) t.behind
      → bits_of_octets new ≡ take t.sample.at (bits_of_octets t.sample.octets.now) ++ take t.sample.width (bits_of_octets (to_be_bytes w64 number))
      ++ drop (t.sample.at + t.sample.width) (bits_of_octets t.sample.octets.now)
  bits_put number small made =
      let field : ℕ = number / 2 ^ (64 - width) in
      let begun : ℕ = bit_or (t.before * 2 ^ width % 2 ^ 64) field in
      let value : List ℕ = take width (bits_of_octets (to_be_bytes w64 number)) in
      let narrow : field < 2 ^ width =
      shr_below number width (64 - width) (let e : width + (64 - width) ≡ 64 = omega (arith, is.narrow) in rw e small) in
      let behind : t.behind < 2 ^ 64 =
      (let p = pow_mono {i = t.left} {j = 64} (omega (arith, is.part)) in omega (arith, p, is.small)) in
      let low : first < 2 ^ 64 =
      rw made (or_lt 64 (begun * 2 ^ t.left % 2 ^ 64) t.behind (mod_below (begun * 2 ^ t.left) (2 ^ 64) (pow_pos 64)) behind) in
      let parts : bits_of_octets front ≡ (take at whole ++ value) ++ take t.left (drop (at + width) whole) =
      last_octets first t.many low is.near
      ∙ ap (λ k. low_bits k first) (sym is.ends)
      ∙ ap (low_bits (at + width + t.left)) made
      ∙ three_parts at width t.left t.before field t.behind (omega (arith, is.ends, is.near)) narrow is.small
      ∙ ap (λ l. (l ++ low_bits width field) ++ low_bits t.left t.behind) is.before
      ∙ ap (λ l. (take at whole ++ l) ++ low_bits t.left t.behind) (field_bits width number (omega (arith, is.narrow)) small)
      ∙ ap (λ l. (take at whole ++ value) ++ l) is.behind in
      let back : bits_of_octets (drop t.many t.octets.items) ≡ drop (at + width + t.left) whole =
      ap bits_of_octets is.octets ∙ sym (drop-bits_of_octets t.many t.sample.octets.now) ∙ ap (λ k. drop k whole) (sym is.ends) in
      ap bits_of_octets put
      ∙ bits_of_octets-append front (drop t.many t.octets.items)
      ∙ ap (λ l. l ++ bits_of_octets (drop t.many t.octets.items)) parts
      ∙ ap (λ l. ((take at whole ++ value) ++ take t.left (drop (at + width) whole)) ++ l) back
      ∙ joined (take at whole) value whole (at + width) t.left
