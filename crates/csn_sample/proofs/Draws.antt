-- Bits that are drawn one behind another, and spans that are added up.
use Rattle.std.proofs.Common.{◌≡◌, ℕ, zero, suc, ◌+◌, ◌-◌, ◌*◌, ◌/◌, ◌%◌, ◌^◌, ◌<◌, ◌≤◌, List, map, [], ◌∷◌, ◌++◌, length, take, drop, get_or, refl}
use Rattle.std.proofs.Common.{sym, ◌∙◌, ap, arith, Some, slice_get, Result, Ok, Err}
use Rattle.std.specs.Prelude.{replicate, min, sum_by, OnOk}
use Rattle.std.proofs.Math.Nat.{pow-suc}
use Rattle.std.proofs.lemmas.List.{append_assoc, drop-take, length-append, length-drop, length-map, length-replicate, length-take-le, map-append}
use Rattle.std.proofs.lemmas.List.{replicate-append-replicate, take-append-drop, take-take, take_min, take_more}
use Rattle.std.proofs.lemmas.List.Sums.{sum_by-append}
use Rattle.std.proofs.lemmas.Option.{slice_get_within, get_or_from_slice_get}
use Rattle.csn_bits.specs.Octets.{IsBits, pattern}
use Rattle.csn_bits.specs.Numbers.{low_bits, number_of}
use Rattle.csn_bits.proofs.NumberFacts.{low_bits-next, low_bits-number_of, number_of-push}
use Rattle.csn_bits.proofs.Packing.{IsBits-append}
use Rattle.csn_desc.specs.declared.reading.Reading.{Reading}
use Rattle.csn_desc.specs.declared.reading.Reading.TheVariants.{Received, Sent}
use Rattle.csn_desc.specs.declared.symbol.Symbol.{Symbol}
use Rattle.csn_desc.specs.declared.symbol.Symbol.TheVariants.{Zero, One, Low, High}
use Rattle.csn_desc.specs.Spelled.{IsSpare, symbol_bit, spelled}
use Rattle.csn_desc.proofs.BitFacts.{IsBits-spelled, length-spelled}

-- one bit more behind those that were added
pub bit_added : (old middle new added : List ℕ) (bit : ℕ) → middle ≡ old ++ added → new ≡ middle ++ bit ∷ [] → new ≡ old ++ (added ++ bit ∷ [])
bit_added old middle new added bit before last = last ∙ ap (λ l. l ++ bit ∷ []) before ∙ append_assoc old added (bit ∷ [])

-- one element more
pub take_next : {A : Type 0} (l : List A) (k : ℕ) (s : A) → slice_get l k ≡ Some s → take (k + 1) l ≡ take k l ++ s ∷ []
take_next l k s at = take_more l k s (slice_get_within l k s at) ∙ ap (λ x. take k l ++ x ∷ []) (get_or_from_slice_get l k s s at)

spelled-push : (front : List Symbol) (s : Symbol) (place : ℕ)
    → spelled (front ++ s ∷ []) place ≡ spelled front place ++ symbol_bit s (place + length front) ∷ []
spelled-push [] s place = ap (λ k. symbol_bit s k ∷ []) (omega arith)
spelled-push (x ∷ front) s place =
    let e : suc place + length front ≡ place + length (x ∷ front) = omega arith in
    ap (λ l. symbol_bit x place ∷ l) (spelled-push front s (suc place) ∙ ap (λ k. spelled front (suc place) ++ symbol_bit s k ∷ []) e)

-- a symbol stands for the same bit at the octet position of a place
pub symbol_octet : (s : Symbol) (place : ℕ) → symbol_bit s (place % 8) ≡ symbol_bit s place
symbol_octet Zero place = refl
symbol_octet One place = refl
symbol_octet Low place =
    let same : place % 8 % 8 ≡ place % 8 = omega arith in
    ap (λ p. pattern p) same
symbol_octet High place =
    let same : place % 8 % 8 ≡ place % 8 = omega arith in
    ap (λ p. 1 - pattern p) same

-- one symbol more
pub spelled-next : (run : List Symbol) (old middle new : List ℕ) (at bit : ℕ) (s : Symbol)
    → slice_get run at ≡ Some s → middle ≡ old ++ spelled (take at run) (length old)
    → bit ≡ symbol_bit s (length middle) → new ≡ middle ++ bit ∷ []
    → new ≡ old ++ spelled (take (at + 1) run) (length old)
spelled-next run old middle new at bit s here before is last =
    let within = slice_get_within run at s here in
    let long : length (take at run) ≡ at = length-take-le at run (omega (arith, within)) in
    let place : length middle ≡ length old + length (take at run) =
    ap (λ l. length l) before ∙ length-append old (spelled (take at run) (length old)) ∙ ap (λ k. length old + k) (length-spelled (take at run) (length old)) in
    bit_added old middle new (spelled (take at run) (length old)) bit before last
    ∙ ap (λ l. old ++ l) (
    ap (λ b. spelled (take at run) (length old) ++ b ∷ []) is
    ∙ ap (λ k. spelled (take at run) (length old) ++ symbol_bit s k ∷ []) place
    ∙ sym (spelled-push (take at run) s (length old))
    ∙ ap (λ l. spelled l (length old)) (sym (take_next run at s here)))

-- a symbol once more
pub pattern-next : (s : Symbol) (old middle new : List ℕ) (at bit : ℕ)
    → middle ≡ old ++ spelled (replicate at s) (length old) → bit ≡ symbol_bit s (length middle) → new ≡ middle ++ bit ∷ []
    → new ≡ old ++ spelled (replicate (at + 1) s) (length old)
pattern-next s old middle new at bit before is last =
    let place : length middle ≡ length old + length (replicate at s) =
    ap (λ l. length l) before ∙ length-append old (spelled (replicate at s) (length old))
    ∙ ap (λ k. length old + k) (length-spelled (replicate at s) (length old)) in
    bit_added old middle new (spelled (replicate at s) (length old)) bit before last
    ∙ ap (λ l. old ++ l) (
    ap (λ b. spelled (replicate at s) (length old) ++ b ∷ []) is
    ∙ ap (λ k. spelled (replicate at s) (length old) ++ symbol_bit s k ∷ []) place
    ∙ sym (spelled-push (replicate at s) s (length old))
    ∙ ap (λ l. spelled l (length old)) (replicate-append-replicate at 1 s))

-- so many bits of the pattern are a spare part
pub pattern_is_spare : (r : Reading) (s : Symbol) (place count : ℕ) → IsSpare r s place (spelled (replicate count s) place)
pattern_is_spare Received s place count = IsBits-spelled (replicate count s) place
pattern_is_spare Sent s place count =
    ap (λ n. spelled (replicate n s) place) (sym (length-spelled (replicate count s) place ∙ length-replicate count s))

-- one bit more that is either one
pub any_bit_added : (old middle new : List ℕ) (count bit : ℕ)
    → ((added : List ℕ) × (middle ≡ old ++ added) × (length added ≡ count) × IsBits added)
    → bit ≤ 1 → new ≡ middle ++ bit ∷ []
    → (added : List ℕ) × (new ≡ old ++ added) × (length added ≡ count + 1) × IsBits added
any_bit_added old middle new count bit before is_bit last =
    let added = before.0 in (
      added ++ bit ∷ [],
      bit_added old middle new added bit before.1 last,
      length-append added (bit ∷ []) ∙ ap (λ n. n + 1) before.2,
      IsBits-append added (bit ∷ []) before.3 (is_bit, tt),
    )

pub same_bits : (count bit : ℕ) → bit ≤ 1 → IsBits (replicate count bit)
same_bits zero bit is_bit = tt
same_bits (suc count) bit is_bit = (is_bit, same_bits count bit is_bit)

-- the next lower bit of a number behind its higher ones
pub number_drawn : (old middle new : List ℕ) (number width at left bit : ℕ) → left + 1 ≡ at → at ≤ width
    → middle ≡ old ++ low_bits (width - at) (number / 2 ^ at) → bit ≡ number / 2 ^ left % 2 → new ≡ middle ++ bit ∷ []
    → new ≡ old ++ low_bits (width - left) (number / 2 ^ left)
number_drawn old middle new number width at left bit next within before is last =
    let higher : width - at ≡ width - suc left = omega (arith, next) in
    let one : suc (width - suc left) ≡ width - left = omega (arith, next, within) in
    let begun : middle ≡ old ++ low_bits (width - suc left) (number / 2 ^ suc left) =
    before ∙ ap (λ n. old ++ low_bits n (number / 2 ^ at)) higher
    ∙ ap (λ k. old ++ low_bits (width - suc left) (number / 2 ^ k)) (let same : at ≡ suc left = omega (arith, next) in same) in
    bit_added old middle new (low_bits (width - suc left) (number / 2 ^ suc left)) bit begun last
    ∙ ap (λ b. old ++ (low_bits (width - suc left) (number / 2 ^ suc left) ++ b ∷ [])) is
    ∙ ap (λ l. old ++ l) (low_bits-next number left (width - suc left))
    ∙ ap (λ n. old ++ low_bits n (number / 2 ^ left)) one

-- ---- a bit many times

pub on_ok : {A E P Q : Type 0} (r : Result A E) → (P → Q) → OnOk r P → OnOk r Q
on_ok (Ok x) more p = more p
on_ok (Err e) more p = tt

pub same_added : (old middle new : List ℕ) (count bit : ℕ) → bit ≤ 1 → middle ≡ old → new ≡ middle ++ replicate count bit
    → (added : List ℕ) × (new ≡ old ++ added) × (length added ≡ count) × IsBits added
same_added old middle new count bit is_bit kept last =
    (replicate count bit, last ∙ ap (λ l. l ++ replicate count bit) kept, length-replicate count bit, same_bits count bit is_bit)

-- ---- bits that are packed

-- the last bit of each number
abbrev last_bits : List ℕ → List ℕ
last_bits bits = map (λ bit. bit % 2) bits

IsBits-last : (bits : List ℕ) → IsBits (last_bits bits)
IsBits-last [] = tt
IsBits-last (bit ∷ rest) = (omega arith, IsBits-last rest)

-- one bit more of a number
pub number_next : (bits : List ℕ) (at old bit : ℕ) → at < length bits → old ≡ number_of (last_bits (take at bits))
    → bit ≡ get_or bits at 0 % 2 → 2 * old + bit ≡ number_of (last_bits (take (at + 1) bits))
number_next bits at old bit less before is =
    ap (λ n. 2 * n + bit) before ∙ ap (λ b. 2 * number_of (last_bits (take at bits)) + b) is
    ∙ sym (number_of-push (last_bits (take at bits)) (get_or bits at 0 % 2))
    ∙ ap (λ l. number_of l) (sym (map-append (λ b. b % 2) (take at bits) (get_or bits at 0 ∷ [])) ∙ ap (λ l. last_bits l) (sym (take_more bits at 0 less)))

pub below_next : (old at bit : ℕ) → old < 2 ^ at → bit ≤ 1 → 2 * old + bit < 2 ^ (at + 1)
below_next old at bit below is_bit =
    let next : at + 1 ≡ suc at = omega arith in
    let double : 2 ^ (at + 1) ≡ 2 ^ at * 2 = ap (λ k. 2 ^ k) next ∙ pow-suc 2 at in
    omega (arith, double, below, is_bit)

-- the first ones, and then some more
piece_joined : (at more : ℕ) (l : List ℕ) → take at l ++ take more (drop at l) ≡ take (at + more) l
piece_joined at more l =
    ap (λ front. front ++ take more (drop at l)) (sym (take-take at (at + more) l (omega arith)))
    ∙ ap (λ back. take at (take (at + more) l) ++ back) (sym (drop-take at more l))
    ∙ take-append-drop at (take (at + more) l)

-- the bits of one number more are packed
piece_packed : (bits old new : List ℕ) (from to number : ℕ) → from ≤ to → to ≤ length bits
    → old ≡ last_bits (take from bits) → number ≡ number_of (last_bits (take (to - from) (drop from bits)))
    → new ≡ old ++ low_bits (to - from) number → new ≡ last_bits (take to bits)
piece_packed bits old new from to number order within before is last =
    let piece : List ℕ = last_bits (take (to - from) (drop from bits)) in
    let sum : from + (to - from) ≡ to = omega (arith, order) in
    let long : length piece ≡ to - from =
    length-map (take (to - from) (drop from bits)) (λ b. b % 2)
    ∙ length-take-le (to - from) (drop from bits) (omega (arith, order, within, length-drop from bits)) in
    let written : low_bits (to - from) number ≡ piece =
    ap (λ n. low_bits n number) (sym long) ∙ ap (λ n. low_bits (length piece) n) is
    ∙ low_bits-number_of piece (IsBits-last (take (to - from) (drop from bits))) in
    last ∙ ap (λ l. l ++ low_bits (to - from) number) before ∙ ap (λ l. last_bits (take from bits) ++ l) written
    ∙ sym (map-append (λ b. b % 2) (take from bits) (take (to - from) (drop from bits)))
    ∙ ap (λ l. last_bits l) (piece_joined from (to - from) bits) ∙ ap (λ n. last_bits (take n bits)) sum

-- the same where as many bits are packed as are there, and at most 32
pub next_packed : (bits old new : List ℕ) (piece to number : ℕ) → 32 * piece ≤ length bits → to ≡ min (32 * piece + 32) (length bits)
    → old ≡ last_bits (take (32 * piece) bits) → number ≡ number_of (last_bits (take (to - 32 * piece) (drop (32 * piece) bits)))
    → new ≡ old ++ low_bits (to - 32 * piece) number → new ≡ last_bits (take (32 * (piece + 1)) bits)
next_packed bits old new piece to number some end before is last =
    let next : 32 * piece + 32 ≡ 32 * (piece + 1) = omega arith in
    piece_packed bits old new (32 * piece) to number (omega (arith, some, end)) (omega (arith, end)) before is last
    ∙ ap (λ n. last_bits (take n bits)) end ∙ ap (λ l. last_bits l) (take_min (32 * piece + 32) bits)
    ∙ ap (λ n. last_bits (take n bits)) next

-- ---- spans

-- one part more
pub summed_next : (f : ℕ → ℕ) (parts : List ℕ) (at part old new : ℕ) → slice_get parts at ≡ Some part
    → old ≡ min (sum_by f (take at parts)) (2 ^ 64 - 1) → new ≡ min (old + f part) (2 ^ 64 - 1)
    → new ≡ min (sum_by f (take (at + 1) parts)) (2 ^ 64 - 1)
summed_next f parts at part old new here before next =
    let more : sum_by f (take (at + 1) parts) ≡ sum_by f (take at parts) + (0 + f part) =
    ap (λ l. sum_by f l) (take_next parts at part here) ∙ sum_by-append f (take at parts) (part ∷ []) in
    omega (arith, more, before, next)
