-- Bits as digits, and the pieces of a line.
use Rattle.std.proofs.Common.{◌≡◌, ℕ, ◌+◌, ◌-◌, ◌*◌, ◌/◌, ◌%◌, ◌<◌, ◌≤◌, List, [], ◌∷◌, ◌++◌, length, take, drop, get_or, refl, arith, ap, sym, ◌∙◌, length-drop, append_assoc, inl, inr, take_all}
use Rattle.std.proofs.lemmas.Bool.{cases_lt}
use Rattle.std.proofs.Math.Seq.{take-add}
use Rattle.std.proofs.lemmas.List.{drop-drop, drop-take, drop_more, map-append, take-take, take_at}
use Rattle.csn_bits.specs.Octets.{bits_of_octet, bits_of_octets}
use Rattle.csn_bits.proofs.Packing.{drop-bits_of_octets}
use Rattle.csn_explaining.specs.LeafLine.{digits_of}

-- the digits up to a place, and those of the bits behind it
pub more_digits :
    (old now new block : List ℕ) (place at count : ℕ) → place ≤ at
    → now ≡ old ++ digits_of (take (at - place) (drop place block)) → new ≡ now ++ digits_of (take count (drop at block))
    → new ≡ old ++ digits_of (take (at + count - place) (drop place block))
more_digits old now new block place at count from stood wrote =
    let here : at + count - place ≡ at - place + count = omega arith in
    let there : place + (at - place) ≡ at = omega arith in
    let front : List ℕ = take (at - place) (drop place block) in
    let back : List ℕ = take count (drop at block) in
    let whole : take (at + count - place) (drop place block) ≡ front ++ back =
    ap (λ n. take n (drop place block)) here
    ∙ take-add (at - place) count (drop place block)
    ∙ ap (λ l. front ++ take count l) (drop-drop (at - place) place block)
    ∙ ap (λ n. front ++ take count (drop n block)) there in
    wrote
    ∙ ap (λ l. l ++ digits_of back) stood
    ∙ append_assoc old (digits_of front) (digits_of back)
    ∙ ap (λ l. old ++ l) (sym (map-append (λ bit. 48 + bit) front back))
    ∙ ap (λ l. old ++ digits_of l) (sym whole)

-- one bit
pub one_digit : (block : List ℕ) (at bit : ℕ) → at < length block → bit ≡ get_or block at 0
    → digits_of (take 1 (drop at block)) ≡ (48 + bit) ∷ []
one_digit block at bit within is =
    ap (λ l. digits_of (take 1 l)) (drop_more block at 0 within) ∙ ap (λ b. (48 + b) ∷ []) (sym is)

-- the bits of an octet of a block
pub octet_bits : (octets block : List ℕ) (at : ℕ) → take (length block) (bits_of_octets octets) ≡ block
    → at % 8 ≡ 0 → at + 8 ≤ length block → at / 8 < length octets
    → take 8 (drop at block) ≡ bits_of_octet (get_or octets (at / 8) 0)
octet_bits octets block at is whole within inside =
    let k : ℕ = at / 8 in
    let all : List ℕ = bits_of_octets octets in
    let here : at ≡ 8 * k = omega arith in
    let left : length block ≡ at + (length block - at) = omega arith in
    let eight : 8 ≤ length block - at = omega arith in
    ap (λ l. take 8 (drop at l)) (sym is)
    ∙ ap (λ n. take 8 (drop at (take n all))) left
    ∙ ap (λ l. take 8 l) (drop-take at (length block - at) all)
    ∙ take-take 8 (length block - at) (drop at all) eight
    ∙ ap (λ n. take 8 (drop n all)) here
    ∙ ap (λ l. take 8 l) (drop-bits_of_octets k octets)
    ∙ ap (λ l. take 8 (bits_of_octets l)) (drop_more octets k 0 inside)
    ∙ take_at (bits_of_octet (get_or octets k 0)) (bits_of_octets (drop (k + 1) octets)) 8 refl

-- all digits that there are, up to the end of the block
pub all_digits :
    (block : List ℕ) (place bits at end : ℕ) → place ≤ at → end ≤ at → (place ≤ end → at ≤ end)
    → (place + bits < length block → end ≡ place + bits) → (length block ≤ place + bits → end ≡ length block)
    → digits_of (take (at - place) (drop place block)) ≡ digits_of (take bits (drop place block))
all_digits block place bits at end from past until short long =
    elim (cases_lt (place + bits) (length block)) [
      | inl inside ↦ (
          let is : end ≡ place + bits = short inside in
          let most : at ≤ end = until (omega arith) in
          let same : at - place ≡ bits = omega arith in
          ap (λ n. digits_of (take n (drop place block))) same)
      | inr outside ↦ (
          let is : end ≡ length block = long outside in
          let few : length (drop place block) ≤ at - place = omega (arith, length-drop place block) in
          let fit : length (drop place block) ≤ bits = omega (arith, length-drop place block) in
          ap (λ l. digits_of l) (take_all (at - place) (drop place block) few ∙ sym (take_all bits (drop place block) fit)))
    ]

-- the pieces of a line with tabs between, each pushed behind a text
pub pieces_joined :
    (old n1 n2 n3 n4 n5 n6 n7 n8 a b c d e : List ℕ)
    → n1 ≡ old ++ a → n2 ≡ n1 ++ 9 ∷ [] → n3 ≡ n2 ++ b → n4 ≡ n3 ++ (9 ∷ (c ++ 9 ∷ []))
    → n5 ≡ n4 ++ d → n6 ≡ n5 ++ 9 ∷ [] → n7 ≡ n6 ++ e → n8 ≡ n7 ++ 10 ∷ []
    → n8 ≡ old ++ (a ++ 9 ∷ (b ++ 9 ∷ (c ++ 9 ∷ (d ++ 9 ∷ (e ++ 10 ∷ [])))))
pieces_joined old n1 n2 n3 n4 n5 n6 n7 n8 a b c d e e1 e2 e3 e4 e5 e6 e7 e8 =
    rw (e8, e7, e6, e5, e4, e3, e2, e1) (simp append_assoc)
