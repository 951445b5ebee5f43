-- What is kept of a block between two of its moves.
use Rattle.std.proofs.Common.{◌≡◌, ℕ, zero, suc, ◌+◌, ◌*◌, ◌/◌, ◌%◌, ◌^◌, ◌<◌, true, false, if◌then◌else◌}
use Rattle.std.proofs.Common.{List, [], ◌∷◌, ◌++◌, length, reverse}
use Rattle.std.proofs.Common.{refl, sym, ap, ◌∙◌, arith, Option}
use Rattle.std.specs.Prelude.{nat_lt}
use Rattle.std.proofs.Math.Nat.{pow-suc, mod-add-div, mod-add-mod, add-mul-mod_self_left}
use Rattle.std.proofs.lemmas.Nat.{one_shl}
use Rattle.std.proofs.lemmas.Bool.{lt-ltb, le-ltb}
use Rattle.std.proofs.lemmas.List.{length-reverse, reverse-append}
use Rattle.csn_bits.specs.Numbers.{number_of, low_bits}
use Rattle.csn_bits.proofs.NumberFacts.{number_of-low_bits, length-low_bits}
use Rattle.csn_fields.specs.declared.places.Begun.{Begun}
use Rattle.csn_fields.specs.Places.{PlacesV, took_bits, opened_with, next_inside, advanced}

-- ---- bits that are taken

scaled : (r w q c e : ℕ) → (r + w * q) * c + e ≡ (r * c + e) + w * (q * c)
scaled r w q c e = omega arith

mod_times : (a c e w : ℕ) → (a % w * c + e) % w ≡ (a * c + e) % w
mod_times a c e w =
    sym (add-mul-mod_self_left (a % w * c + e) w (a / w * c))
    ∙ ap (λ k. k % w) (sym (scaled (a % w) w (a / w) c e))
    ∙ ap (λ k. (k * c + e) % w) (mod-add-div a w)

abbrev pub at_place : List (Option ℕ) → List Begun → ℕ → ℕ → PlacesV
at_place numbers nodes place number = record { numbers = numbers; nodes = nodes; place = place; number = number }

abbrev behind_bits : List (Option ℕ) → List Begun → ℕ → ℕ → List ℕ → PlacesV
behind_bits numbers nodes p k b =
    at_place numbers nodes ((p + length b) % 4294967296) ((k * 2 ^ length b + number_of b) % 18446744073709551616)

doubled : (k x p n : ℕ) → (2 * k + x) * p + n ≡ k * (p * 2) + (x * p + n)
doubled k x p n = omega arith

-- some bits, one at least
pub took_bits_are : (numbers : List (Option ℕ)) (nodes : List Begun) (x : ℕ) (b : List ℕ) (p k : ℕ)
    → took_bits (x ∷ b) (at_place numbers nodes p k) ≡ behind_bits numbers nodes p k (x ∷ b)
took_bits_are numbers nodes x [] p k =
    let one : 2 ^ 1 ≡ 2 = refl in
    let none : 2 ^ 0 ≡ 1 = refl in
    let same : 2 * k + x ≡ k * 2 ^ 1 + (x * 2 ^ 0 + 0) = omega (arith, one, none) in
    ap (λ n. at_place numbers nodes ((p + 1) % 4294967296) (n % 18446744073709551616)) same
took_bits_are numbers nodes x (y ∷ b) p k =
    let l : ℕ = length (y ∷ b) in
    let n : ℕ = number_of (y ∷ b) in
    let on : (p + 1) + l ≡ p + suc l = omega arith in
    let place : ((p + 1) % 4294967296 + l) % 4294967296 ≡ (p + suc l) % 4294967296 =
    mod-add-mod (p + 1) 4294967296 l ∙ ap (λ m. m % 4294967296) on in
    let number : ((2 * k + x) % 18446744073709551616 * 2 ^ l + n) % 18446744073709551616 ≡ (k * 2 ^ suc l + (x * 2 ^ l + n)) % 18446744073709551616 =
    mod_times (2 * k + x) (2 ^ l) n 18446744073709551616
    ∙ ap (λ m. m % 18446744073709551616) (doubled k x (2 ^ l) n ∙ ap (λ m. k * m + (x * 2 ^ l + n)) (sym (pow-suc 2 l))) in
    took_bits_are numbers nodes y b ((p + 1) % 4294967296) ((2 * k + x) % 18446744073709551616)
    ∙ ap (λ m. at_place numbers nodes m (((2 * k + x) % 18446744073709551616 * 2 ^ l + n) % 18446744073709551616)) place
    ∙ ap (λ m. at_place numbers nodes ((p + suc l) % 4294967296) m) number

-- the last bits of a number, one at least and 56 at most, as they are taken at once
pub took_number : (numbers : List (Option ℕ)) (nodes : List Begun) (count n p k : ℕ) → 0 < count → count < 57
    → at_place numbers nodes ((p + count) % 4294967296)
    ((k * 2 ^ count % 18446744073709551616 + n % (1 * 2 ^ count % 18446744073709551616)) % 18446744073709551616)
    ≡ took_bits (low_bits count n) (at_place numbers nodes p k)
took_number numbers nodes zero n p k some few = absurd (omega (arith, some))
took_number numbers nodes (suc c) n p k some few =
    let count : ℕ = suc c in
    let b : List ℕ = low_bits count n in
    let long : length b ≡ count = length-low_bits count n in
    let value : number_of b ≡ n % 2 ^ count = number_of-low_bits count n in
    let mask : 1 * 2 ^ count % 18446744073709551616 ≡ 2 ^ count = one_shl count 64 (omega (arith, few)) in
    let number : (k * 2 ^ count % 18446744073709551616 + n % (1 * 2 ^ count % 18446744073709551616)) % 18446744073709551616
    ≡ (k * 2 ^ length b + number_of b) % 18446744073709551616 =
    ap (λ m. (k * 2 ^ count % 18446744073709551616 + n % m) % 18446744073709551616) mask
    ∙ mod-add-mod (k * 2 ^ count) 18446744073709551616 (n % 2 ^ count)
    ∙ ap (λ m. (k * 2 ^ count + m) % 18446744073709551616) (sym value)
    ∙ ap (λ m. (k * 2 ^ m + number_of b) % 18446744073709551616) (sym long) in
    ap (λ m. at_place numbers nodes ((p + m) % 4294967296)
    ((k * 2 ^ count % 18446744073709551616 + n % (1 * 2 ^ count % 18446744073709551616)) % 18446744073709551616)) (sym long)
    ∙ ap (λ m. at_place numbers nodes ((p + length b) % 4294967296) m) number
    ∙ sym (took_bits_are numbers nodes (n / 2 ^ c % 2) (low_bits c n) p k)

-- ---- open nodes

-- one more, where there is room
pub put_on : (items new : List Begun) (begun : Begun) → length items < 64 → new ≡ items ++ begun ∷ []
    → reverse new ≡ opened_with begun (reverse items)
put_on items new begun room is =
    let small : nat_lt (length (reverse items)) 64 ≡ true =
    ap (λ n. nat_lt n 64) (length-reverse items) ∙ lt-ltb (length items) 64 room in
    ap (λ l. reverse l) is ∙ reverse-append items (begun ∷ [])
    ∙ sym (ap (λ b. if b then begun ∷ reverse items else reverse items) small)

-- and where there is none
pub put_off : (items : List Begun) (begun : Begun) → ¬ (length items < 64) → reverse items ≡ opened_with begun (reverse items)
put_off items begun full =
    let large : nat_lt (length (reverse items)) 64 ≡ false =
    ap (λ n. nat_lt n 64) (length-reverse items) ∙ le-ltb (length items) 64 (omega (arith, full)) in
    sym (ap (λ b. if b then begun ∷ reverse items else reverse items) large)

pub last_is : (old rest : List Begun) (last : Begun) → old ≡ rest ++ last ∷ [] → reverse old ≡ last ∷ reverse rest
last_is old rest last is = ap (λ l. reverse l) is ∙ reverse-append rest (last ∷ [])

-- the innermost node goes on behind the part that begins
pub advanced_is : (old rest new : List Begun) (around : Begun) → old ≡ rest ++ around ∷ [] → length rest < 64
    → reverse new ≡ opened_with (record { node = around.node; inside = next_inside around.inside }) (reverse rest)
    → reverse new ≡ advanced (reverse old)
advanced_is old rest new around is room put =
    let next : Begun = record { node = around.node; inside = next_inside around.inside } in
    let small : nat_lt (length (reverse rest)) 64 ≡ true =
    ap (λ n. nat_lt n 64) (length-reverse rest) ∙ lt-ltb (length rest) 64 room in
    put ∙ ap (λ b. if b then next ∷ reverse rest else reverse rest) small ∙ sym (ap (λ l. advanced l) (last_is old rest around is))
