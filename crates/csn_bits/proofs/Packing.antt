-- Bits into octets and back. Other crates cite this.
use Rattle.std.proofs.Common.{◌≡◌, ℕ, zero, suc, ◌+◌, ◌-◌, ◌*◌, ◌/◌, ◌%◌, ◌^◌, ◌<◌, ◌≤◌, List, [], ◌∷◌, ◌++◌, length}
use Rattle.std.proofs.Common.{take, drop, set, get_or, slice_index, refl, sym, ap, ◌∙◌, arith, length-append}
use Rattle.std.proofs.Common.{append_assoc}
use Rattle.std.specs.Prelude.{replicate}
use Rattle.std.proofs.Math.Nat.{div-mul-le_self, pow-le-pow_right}
use Rattle.std.proofs.lemmas.List.{length-take-le, get_or-take, get_or_read, get_or-set_same, set_split, take-take, drop_all}
use Rattle.std.proofs.Math.Seq.{drop-append-add}
use Rattle.csn_bits.specs.Octets.{IsBits, IsPacked, bits_of_octet, bits_of_octets, octet_of, octets_of}

-- an octet of eight bits has these bits
pub bits_of_octet-eight : (a b c d e f g h : ℕ) → IsBits (a ∷ b ∷ c ∷ d ∷ e ∷ f ∷ g ∷ h ∷ [])
    → bits_of_octet (octet_of (a ∷ b ∷ c ∷ d ∷ e ∷ f ∷ g ∷ h ∷ [])) ≡ a ∷ b ∷ c ∷ d ∷ e ∷ f ∷ g ∷ h ∷ []
bits_of_octet-eight a b c d e f g h (pa, (pb, (pc, (pd, (pe, (pf, (pg, (ph, _)))))))) =
    let n : ℕ = 128 * a + 64 * b + 32 * c + 16 * d + 8 * e + 4 * f + 2 * g + h in
    let q0 : n / 128 ≡ a = omega arith in
    let q1 : n / 64 % 2 ≡ b = omega arith in
    let q2 : n / 32 % 2 ≡ c = omega arith in
    let q3 : n / 16 % 2 ≡ d = omega arith in
    let q4 : n / 8 % 2 ≡ e = omega arith in
    let q5 : n / 4 % 2 ≡ f = omega arith in
    let q6 : n / 2 % 2 ≡ g = omega arith in
    let q7 : n % 2 ≡ h = omega arith in
    rw (q0, q1, q2, q3, q4, q5, q6, q7) refl

zero_bit : 0 ≤ 1
zero_bit = omega arith

-- the first bits of an octet that begins with these bits are these
take-octet_of : (few : List ℕ) → length few ≤ 8 → IsBits few → take (length few) (bits_of_octet (octet_of few)) ≡ few
take-octet_of [] short s = refl
take-octet_of (a ∷ []) short (pa, _) =
    let z = zero_bit in
    ap (take 1) (bits_of_octet-eight a 0 0 0 0 0 0 0 (pa, (z, (z, (z, (z, (z, (z, (z, tt)))))))))
take-octet_of (a ∷ b ∷ []) short (pa, (pb, _)) =
    let z = zero_bit in
    ap (take 2) (bits_of_octet-eight a b 0 0 0 0 0 0 (pa, (pb, (z, (z, (z, (z, (z, (z, tt)))))))))
take-octet_of (a ∷ b ∷ c ∷ []) short (pa, (pb, (pc, _))) =
    let z = zero_bit in
    ap (take 3) (bits_of_octet-eight a b c 0 0 0 0 0 (pa, (pb, (pc, (z, (z, (z, (z, (z, tt)))))))))
take-octet_of (a ∷ b ∷ c ∷ d ∷ []) short (pa, (pb, (pc, (pd, _)))) =
    let z = zero_bit in
    ap (take 4) (bits_of_octet-eight a b c d 0 0 0 0 (pa, (pb, (pc, (pd, (z, (z, (z, (z, tt)))))))))
take-octet_of (a ∷ b ∷ c ∷ d ∷ e ∷ []) short (pa, (pb, (pc, (pd, (pe, _))))) =
    let z = zero_bit in
    ap (take 5) (bits_of_octet-eight a b c d e 0 0 0 (pa, (pb, (pc, (pd, (pe, (z, (z, (z, tt)))))))))
take-octet_of (a ∷ b ∷ c ∷ d ∷ e ∷ f ∷ []) short (pa, (pb, (pc, (pd, (pe, (pf, _)))))) =
    let z = zero_bit in
    ap (take 6) (bits_of_octet-eight a b c d e f 0 0 (pa, (pb, (pc, (pd, (pe, (pf, (z, (z, tt)))))))))
take-octet_of (a ∷ b ∷ c ∷ d ∷ e ∷ f ∷ g ∷ []) short (pa, (pb, (pc, (pd, (pe, (pf, (pg, _))))))) =
    let z = zero_bit in
    ap (take 7) (bits_of_octet-eight a b c d e f g 0 (pa, (pb, (pc, (pd, (pe, (pf, (pg, (z, tt)))))))))
take-octet_of (a ∷ b ∷ c ∷ d ∷ e ∷ f ∷ g ∷ h ∷ []) short s = ap (take 8) (bits_of_octet-eight a b c d e f g h s)
take-octet_of (a ∷ b ∷ c ∷ d ∷ e ∷ f ∷ g ∷ h ∷ i ∷ rest) short s = absurd (omega arith)

-- the octets of some bits have these bits, as many as there are
pub take-bits_of_octets-octets_of : (bits : List ℕ) → IsBits bits → take (length bits) (bits_of_octets (octets_of bits)) ≡ bits
take-bits_of_octets-octets_of [] s = refl
take-bits_of_octets-octets_of (a ∷ b ∷ c ∷ d ∷ e ∷ f ∷ g ∷ h ∷ rest) (pa, (pb, (pc, (pd, (pe, (pf, (pg, (ph, s)))))))) =
    let eight = bits_of_octet-eight a b c d e f g h (pa, (pb, (pc, (pd, (pe, (pf, (pg, (ph, tt)))))))) in
    let later = take-bits_of_octets-octets_of rest s in
    ap (λ (l : List ℕ). take (length (a ∷ b ∷ c ∷ d ∷ e ∷ f ∷ g ∷ h ∷ rest)) (l ++ bits_of_octets (octets_of rest))) eight
    ∙ ap (λ (l : List ℕ). a ∷ b ∷ c ∷ d ∷ e ∷ f ∷ g ∷ h ∷ l) later
take-bits_of_octets-octets_of few s = take-octet_of few (omega arith) s

-- eight bits to an octet
pub length-octets_of : (bits : List ℕ) → length (octets_of bits) ≡ (length bits + 7) / 8
length-octets_of [] = refl
length-octets_of (a ∷ b ∷ c ∷ d ∷ e ∷ f ∷ g ∷ h ∷ rest) = let later = length-octets_of rest in omega (arith, later)
length-octets_of few = refl

-- a bit more, where it begins an octet
pub octets_of-push_first : (bits : List ℕ) (bit : ℕ) → length bits % 8 ≡ 0
    → octets_of (bits ++ bit ∷ []) ≡ octets_of bits ++ 128 * bit ∷ []
octets_of-push_first [] bit whole = ap (λ (n : ℕ). n ∷ []) (omega arith)
octets_of-push_first (a ∷ b ∷ c ∷ d ∷ e ∷ f ∷ g ∷ h ∷ rest) bit whole =
    ap (λ (l : List ℕ). octet_of (a ∷ b ∷ c ∷ d ∷ e ∷ f ∷ g ∷ h ∷ []) ∷ l)
    (octets_of-push_first rest bit (omega arith))
octets_of-push_first few bit whole = absurd (omega arith)

-- a bit more, where an octet has room for it
pub octets_of-push_later : (bits : List ℕ) (bit : ℕ) → 0 < length bits % 8
    → octets_of (bits ++ bit ∷ [])
    ≡ set (octets_of bits) (length bits / 8)
    (get_or (octets_of bits) (length bits / 8) 0 + bit * 2 ^ (7 - length bits % 8))
octets_of-push_later [] bit room = absurd (omega arith)
octets_of-push_later (a ∷ b ∷ c ∷ d ∷ e ∷ f ∷ g ∷ h ∷ rest) bit room =
    let n : ℕ = length rest in
    let q : suc (suc (suc (suc (suc (suc (suc (suc n))))))) / 8 ≡ suc (n / 8) = omega arith in
    let r : suc (suc (suc (suc (suc (suc (suc (suc n))))))) % 8 ≡ n % 8 = omega arith in
    rw (q, r) (ap (λ (l : List ℕ). octet_of (a ∷ b ∷ c ∷ d ∷ e ∷ f ∷ g ∷ h ∷ []) ∷ l)
    (octets_of-push_later rest bit (omega arith)))
octets_of-push_later few bit room = ap (λ (n : ℕ). n ∷ []) (omega arith)

-- each bit is 0 or 1, and so is what stands for one past the end
pub IsBits-at : (bits : List ℕ) (at : ℕ) → IsBits bits → slice_index bits at ≤ 1
IsBits-at [] at s = zero_bit
IsBits-at (bit ∷ rest) zero s = s.0
IsBits-at (bit ∷ rest) (suc at) s = IsBits-at rest at s.1

-- an octet of bits is below 256
octet_of-small : (few : List ℕ) → IsBits few → octet_of few < 256
octet_of-small few s =
    let a : slice_index few 0 ≤ 1 = IsBits-at few 0 s in
    let b : slice_index few 1 ≤ 1 = IsBits-at few 1 s in
    let c : slice_index few 2 ≤ 1 = IsBits-at few 2 s in
    let d : slice_index few 3 ≤ 1 = IsBits-at few 3 s in
    let e : slice_index few 4 ≤ 1 = IsBits-at few 4 s in
    let f : slice_index few 5 ≤ 1 = IsBits-at few 5 s in
    let g : slice_index few 6 ≤ 1 = IsBits-at few 6 s in
    let h : slice_index few 7 ≤ 1 = IsBits-at few 7 s in
    omega arith

-- octets of bits are below 256
pub octets_of-small : (bits : List ℕ) (k : ℕ) → IsBits bits → get_or (octets_of bits) k 0 < 256
octets_of-small [] k s = omega arith
octets_of-small (a ∷ b ∷ c ∷ d ∷ e ∷ f ∷ g ∷ h ∷ rest) zero (pa, (pb, (pc, (pd, (pe, (pf, (pg, (ph, s)))))))) =
    octet_of-small (a ∷ b ∷ c ∷ d ∷ e ∷ f ∷ g ∷ h ∷ []) (pa, (pb, (pc, (pd, (pe, (pf, (pg, (ph, tt))))))))
octets_of-small (a ∷ b ∷ c ∷ d ∷ e ∷ f ∷ g ∷ h ∷ rest) (suc k) (pa, (pb, (pc, (pd, (pe, (pf, (pg, (ph, s)))))))) =
    octets_of-small rest k s
octets_of-small few zero s = octet_of-small few s
octets_of-small few (suc k) s = omega arith

-- bits before and after one another
pub IsBits-append : (front back : List ℕ) → IsBits front → IsBits back → IsBits (front ++ back)
IsBits-append [] back s t = t
IsBits-append (bit ∷ front) back s t = (s.0, IsBits-append front back s.1 t)

pub IsBits-zeros : (n : ℕ) → IsBits (replicate n 0)
IsBits-zeros zero = tt
IsBits-zeros (suc n) = (omega arith, IsBits-zeros n)

pub IsBits-take : (n : ℕ) (bits : List ℕ) → IsBits bits → IsBits (take n bits)
IsBits-take zero bits s = tt
IsBits-take (suc n) [] s = tt
IsBits-take (suc n) (bit ∷ rest) s = (s.0, IsBits-take n rest s.1)

pub IsBits-drop : (n : ℕ) (bits : List ℕ) → IsBits bits → IsBits (drop n bits)
IsBits-drop zero bits s = s
IsBits-drop (suc n) [] s = tt
IsBits-drop (suc n) (bit ∷ rest) s = IsBits-drop n rest s.1

-- each of them is a byte
abbrev pub AreOctets : List ℕ → Type 0
AreOctets octets = (k : ℕ) → get_or octets k 0 < 256

pub IsBits-bits_of_octet : (n : ℕ) → n < 256 → IsBits (bits_of_octet n)
IsBits-bits_of_octet n small =
    (omega arith, (omega arith, (omega arith, (omega arith, (omega arith, (omega arith, (omega arith, (omega arith, tt))))))))

pub IsBits-bits_of_octets : (octets : List ℕ) → AreOctets octets → IsBits (bits_of_octets octets)
IsBits-bits_of_octets [] small = tt
IsBits-bits_of_octets (n ∷ rest) small =
    IsBits-append (bits_of_octet n) (bits_of_octets rest) (IsBits-bits_of_octet n (small 0))
    (IsBits-bits_of_octets rest (λ k. small (suc k)))

pub length-bits_of_octets : (octets : List ℕ) → length (bits_of_octets octets) ≡ 8 * length octets
length-bits_of_octets [] = refl
length-bits_of_octets (n ∷ rest) = let later = length-bits_of_octets rest in omega (arith, later)

-- some octets and then others
pub bits_of_octets-append : (front back : List ℕ) → bits_of_octets (front ++ back) ≡ bits_of_octets front ++ bits_of_octets back
bits_of_octets-append [] back = refl
bits_of_octets-append (o ∷ front) back =
    ap (λ (l : List ℕ). bits_of_octet o ++ l) (bits_of_octets-append front back)
    ∙ sym (append_assoc (bits_of_octet o) (bits_of_octets front) (bits_of_octets back))

-- the bits behind the first octets
pub drop-bits_of_octets : (k : ℕ) (octets : List ℕ) → drop (8 * k) (bits_of_octets octets) ≡ bits_of_octets (drop k octets)
drop-bits_of_octets zero octets = refl
drop-bits_of_octets (suc k) [] = drop_all (8 * suc k) [] (omega arith)
drop-bits_of_octets (suc k) (o ∷ rest) =
    let eight : 8 * suc k ≡ 8 + 8 * k = omega arith in
    rw eight (drop-append-add (bits_of_octet o) (bits_of_octets rest) (8 * k) ∙ drop-bits_of_octets k rest)

-- bits that fill octets, and then others
pub octets_of-append : (front back : List ℕ) → length front % 8 ≡ 0 → octets_of (front ++ back) ≡ octets_of front ++ octets_of back
octets_of-append [] back whole = refl
octets_of-append (a ∷ b ∷ c ∷ d ∷ e ∷ f ∷ g ∷ h ∷ rest) back whole =
    ap (λ (l : List ℕ). octet_of (a ∷ b ∷ c ∷ d ∷ e ∷ f ∷ g ∷ h ∷ []) ∷ l) (octets_of-append rest back (omega arith))
octets_of-append few back whole = absurd (omega arith)

-- the octet that has all bits of an octet, or all but the last of them as zeros
pub octet_of-bits_of_octet : (n : ℕ) → octet_of (bits_of_octet n) ≡ n
octet_of-bits_of_octet n = omega arith

octet_of-take : (n r : ℕ) → 0 < r → r < 8 → octet_of (take r (bits_of_octet n)) ≡ n / 2 ^ (8 - r) * 2 ^ (8 - r)
octet_of-take n zero some few = absurd (omega arith)
octet_of-take n (suc zero) some few = omega arith
octet_of-take n (suc (suc zero)) some few = omega arith
octet_of-take n (suc (suc (suc zero))) some few = omega arith
octet_of-take n (suc (suc (suc (suc zero)))) some few = omega arith
octet_of-take n (suc (suc (suc (suc (suc zero))))) some few = omega arith
octet_of-take n (suc (suc (suc (suc (suc (suc zero)))))) some few = omega arith
octet_of-take n (suc (suc (suc (suc (suc (suc (suc zero))))))) some few = omega arith
octet_of-take n (suc (suc (suc (suc (suc (suc (suc (suc r)))))))) some few = absurd (omega arith)

-- the bit at a place of some octets
pub slice_index-bits_of_octets : (octets : List ℕ) (at : ℕ) → at < 8 * length octets → slice_index octets (at / 8) < 256
    → slice_index (bits_of_octets octets) at ≡ slice_index octets (at / 8) / 2 ^ (7 - at % 8) % 2
slice_index-bits_of_octets [] at within small = absurd (omega arith)
slice_index-bits_of_octets (o ∷ rest) zero within small = omega arith
slice_index-bits_of_octets (o ∷ rest) (suc zero) within small = refl
slice_index-bits_of_octets (o ∷ rest) (suc (suc zero)) within small = refl
slice_index-bits_of_octets (o ∷ rest) (suc (suc (suc zero))) within small = refl
slice_index-bits_of_octets (o ∷ rest) (suc (suc (suc (suc zero)))) within small = refl
slice_index-bits_of_octets (o ∷ rest) (suc (suc (suc (suc (suc zero))))) within small = refl
slice_index-bits_of_octets (o ∷ rest) (suc (suc (suc (suc (suc (suc zero)))))) within small = refl
slice_index-bits_of_octets (o ∷ rest) (suc (suc (suc (suc (suc (suc (suc zero))))))) within small = omega arith
slice_index-bits_of_octets (o ∷ rest) (suc (suc (suc (suc (suc (suc (suc (suc n)))))))) within small =
    let q : suc (suc (suc (suc (suc (suc (suc (suc n))))))) / 8 ≡ suc (n / 8) = omega arith in
    let r : suc (suc (suc (suc (suc (suc (suc (suc n))))))) % 8 ≡ n % 8 = omega arith in
    rw (q, r) (slice_index-bits_of_octets rest n (omega arith) (rw q at small))

-- the octets of the first bits of some octets, where these are whole octets
pub octets_of-take_whole : (octets : List ℕ) (n : ℕ) → n ≤ 8 * length octets → n % 8 ≡ 0
    → octets_of (take n (bits_of_octets octets)) ≡ take (n / 8) octets
octets_of-take_whole octets zero within whole = refl
octets_of-take_whole [] (suc n) within whole = absurd (omega arith)
octets_of-take_whole (o ∷ rest) (suc (suc (suc (suc (suc (suc (suc (suc n)))))))) within whole =
    let q : suc (suc (suc (suc (suc (suc (suc (suc n))))))) / 8 ≡ suc (n / 8) = omega arith in
    rw q (
    ap (λ (m : ℕ). m ∷ octets_of (take n (bits_of_octets rest))) (octet_of-bits_of_octet o)
    ∙ ap (λ (l : List ℕ). o ∷ l) (octets_of-take_whole rest n (omega arith) (omega arith)))
octets_of-take_whole (o ∷ rest) n within whole = absurd (omega arith)

-- and where the last of them is not whole
pub octets_of-take_part : (octets : List ℕ) (n : ℕ) → n ≤ 8 * length octets → 0 < n % 8
    → octets_of (take n (bits_of_octets octets))
    ≡ take (n / 8) octets ++ slice_index octets (n / 8) / 2 ^ (8 - n % 8) * 2 ^ (8 - n % 8) ∷ []
octets_of-take_part octets zero within part = absurd (omega arith)
octets_of-take_part [] (suc n) within part = absurd (omega arith)
octets_of-take_part (o ∷ rest) (suc (suc (suc (suc (suc (suc (suc (suc n)))))))) within part =
    let q : suc (suc (suc (suc (suc (suc (suc (suc n))))))) / 8 ≡ suc (n / 8) = omega arith in
    let r : suc (suc (suc (suc (suc (suc (suc (suc n))))))) % 8 ≡ n % 8 = omega arith in
    rw (q, r) (
    ap (λ (m : ℕ). m ∷ octets_of (take n (bits_of_octets rest))) (octet_of-bits_of_octet o)
    ∙ ap (λ (l : List ℕ). o ∷ l) (octets_of-take_part rest n (omega arith) (omega arith)))
octets_of-take_part (o ∷ rest) n within part = ap (λ (m : ℕ). m ∷ []) (octet_of-take o n (omega arith) (omega arith))

-- ---- what the fields of a bit string are

-- the bits that are seen where these octets were packed
pub take_packed : (octets bits : List ℕ) (len : ℕ) → octets ≡ octets_of bits → len ≡ length bits → IsBits bits
    → take len (bits_of_octets octets) ≡ bits
take_packed octets bits len exact count s = rw (exact, count) (take-bits_of_octets-octets_of bits s)

-- the fields that stand for some bits
pub is_packed_from : (octets bits : List ℕ) (len : ℕ) → octets ≡ octets_of bits → len ≡ length bits → IsBits bits → len ≤ 524288
    → IsPacked octets len
is_packed_from octets bits len exact count s few =
    let same = take_packed octets bits len exact count s in
    record {
      few = few;
      bits = rw same s;
      within = (let n = length-octets_of bits in rw exact (omega arith));
      exact = rw same exact;
    }

-- as many bits as the field counts
pub length-packed : (octets : List ℕ) (len : ℕ) → IsPacked octets len → length (take len (bits_of_octets octets)) ≡ len
length-packed octets len p =
    let all = length-bits_of_octets octets in
    let h = p.within in
    length-take-le len (bits_of_octets octets) (omega arith)

-- the octet that has the bit at a place
pub in_octets : (octets : List ℕ) (len at : ℕ) → IsPacked octets len → at < len → at / 8 < length octets
in_octets octets len at p below = let h = p.within in omega arith

-- the octets are bytes
octet_small : (octets : List ℕ) (len k : ℕ) → IsPacked octets len → get_or octets k 0 < 256
octet_small octets len k p = rw p.exact (octets_of-small (take len (bits_of_octets octets)) k p.bits)

-- the bit at a place
pub bit_of_octet : (octets : List ℕ) (len at octet : ℕ) → IsPacked octets len → at < len
    → octet ≡ get_or octets (at / 8) octet
    → octet / 2 ^ (7 - at % 8) % 2 ≡ slice_index (take len (bits_of_octets octets)) at
bit_of_octet octets len at octet p below read =
    let h = p.within in
    let here = octet_small octets len (at / 8) p in
    let is = get_or_read octets (at / 8) octet (in_octets octets len at p below) read 0 in
    rw is (
    sym (slice_index-bits_of_octets octets at (omega arith) here)
    ∙ sym (get_or-take len (bits_of_octets octets) at 0 below))

-- the fields hold these bits
abbrev pub Packs : List ℕ → ℕ → List ℕ → Type 0
Packs octets len bits = IsPacked octets len × (take len (bits_of_octets octets) ≡ bits)

pub packs_from : (octets bits : List ℕ) (len : ℕ) → octets ≡ octets_of bits → len ≡ length bits → IsBits bits → len ≤ 524288
    → Packs octets len bits
packs_from octets bits len exact count s few =
    (is_packed_from octets bits len exact count s few, take_packed octets bits len exact count s)

-- the fields after a bit was added at the start of an octet
pub packs_first : (octets : List ℕ) (len bit : ℕ) → IsPacked octets len → len < 524288 → bit ≤ 1 → len % 8 ≡ 0
    → Packs (octets ++ 128 * bit ∷ []) (len + 1) (take len (bits_of_octets octets) ++ bit ∷ [])
packs_first octets len bit p room small whole =
    let old : List ℕ = take len (bits_of_octets octets) in
    let count : length old ≡ len = length-packed octets len p in
    let exact : octets ++ 128 * bit ∷ [] ≡ octets_of (old ++ bit ∷ []) =
    ap (λ (l : List ℕ). l ++ 128 * bit ∷ []) p.exact ∙ sym (octets_of-push_first old bit (rw count whole)) in
    packs_from _ _ _ exact (omega (arith, length-append old (bit ∷ [])))
    (IsBits-append old (bit ∷ []) p.bits (small, tt)) (omega arith)

pub power_small : (k : ℕ) → k ≤ 7 → 2 ^ k ≤ 128
power_small k h = pow-le-pow_right (omega arith) h

-- a bit in its place fits an octet
weighed : (bit used : ℕ) → bit ≤ 1 → bit * 2 ^ (7 - used) % 256 ≡ bit * 2 ^ (7 - used)
weighed zero used small = let p = power_small (7 - used) (omega arith) in omega arith
weighed (suc zero) used small = let p = power_small (7 - used) (omega arith) in omega arith
weighed (suc (suc bit)) used small = absurd (omega arith)

-- the octets after a bit was added in an octet
octets_more : (octets : List ℕ) (len bit octet : ℕ) → IsPacked octets len → bit ≤ 1 → 0 < len % 8
    → octet ≡ get_or octets (len / 8) octet
    → set octets (len / 8) (octet + bit * 2 ^ (7 - len % 8) % 256) ≡ octets_of (take len (bits_of_octets octets) ++ bit ∷ [])
octets_more octets len bit octet p small part read =
    let old : List ℕ = take len (bits_of_octets octets) in
    let count : length old ≡ len = length-packed octets len p in
    let within = p.within in
    let in_range : len / 8 < length octets = omega arith in
    let is = get_or_read octets (len / 8) octet in_range read 0 in
    let more = octets_of-push_later old bit (rw count part) in
    let counted = rw count at more in
    let folded = rw (← p.exact) at counted in
    rw (weighed bit (len % 8) small, is) (sym folded)

-- the octet that has a bit more
pub octet_more : (octets : List ℕ) (len bit octet : ℕ) → IsPacked octets len → bit ≤ 1 → 0 < len % 8
    → octet ≡ get_or octets (len / 8) octet
    → octet + bit * 2 ^ (7 - len % 8) % 256 < 256
octet_more octets len bit octet p small part read =
    let old : List ℕ = take len (bits_of_octets octets) in
    let within = p.within in
    let in_range : len / 8 < length octets = omega arith in
    let new : ℕ = octet + bit * 2 ^ (7 - len % 8) % 256 in
    let e = octets_more octets len bit octet p small part read in
    let fits = octets_of-small (old ++ bit ∷ []) (len / 8) (IsBits-append old (bit ∷ []) p.bits (small, tt)) in
    let here = rw (← e) at fits in
    rw (get_or-set_same octets (len / 8) new 0 in_range) at here

-- the fields after a bit was added in an octet
pub packs_later : (octets : List ℕ) (len bit octet : ℕ) → IsPacked octets len → len < 524288 → bit ≤ 1 → 0 < len % 8
    → octet ≡ get_or octets (len / 8) octet
    → Packs (set octets (len / 8) (octet + bit * 2 ^ (7 - len % 8) % 256)) (len + 1) (take len (bits_of_octets octets) ++ bit ∷ [])
packs_later octets len bit octet p room small part read =
    let old : List ℕ = take len (bits_of_octets octets) in
    let count : length old ≡ len = length-packed octets len p in
    let exact : set octets (len / 8) (octet + bit * 2 ^ (7 - len % 8) % 256) ≡ octets_of (old ++ bit ∷ []) =
    octets_more octets len bit octet p small part read in
    packs_from _ _ _ exact (omega (arith, length-append old (bit ∷ [])))
    (IsBits-append old (bit ∷ []) p.bits (small, tt)) (omega arith)

-- the fields for the first bits of some octets, where these are whole octets
pub packs_whole : (octets : List ℕ) (n : ℕ) → AreOctets octets → n ≤ 8 * length octets → n ≤ 524288 → n % 8 ≡ 0
    → Packs (take (n / 8) octets) n (take n (bits_of_octets octets))
packs_whole octets n bytes within few whole =
    packs_from _ _ _ (sym (octets_of-take_whole octets n within whole))
    (sym (length-take-le n (bits_of_octets octets) (omega (arith, length-bits_of_octets octets))))
    (IsBits-take n (bits_of_octets octets) (IsBits-bits_of_octets octets bytes)) few

-- an octet without its last bits is an octet
cleared_small : (octet used : ℕ) → octet < 256
    → octet / 2 ^ (8 - used) * 2 ^ (8 - used) % 256 ≡ octet / 2 ^ (8 - used) * 2 ^ (8 - used)
cleared_small octet used small =
    mod_small (octet / 2 ^ (8 - used) * 2 ^ (8 - used)) (omega (arith, div-mul-le_self octet (2 ^ (8 - used))))
  where
    mod_small : (n : ℕ) → n < 256 → n % 256 ≡ n
    mod_small n few = omega arith

-- the octets where the last of them is not whole
octets_part : (octets : List ℕ) (n octet : ℕ) → AreOctets octets → n ≤ 8 * length octets → 0 < n % 8
    → octet ≡ get_or (take (n / 8 + 1) octets) (n / 8) octet
    → set (take (n / 8 + 1) octets) (n / 8) (octet / 2 ^ (8 - n % 8) * 2 ^ (8 - n % 8) % 256)
    ≡ octets_of (take n (bits_of_octets octets))
octets_part octets n octet bytes within part read =
    let q : ℕ = n / 8 in
    let front : List ℕ = take (q + 1) octets in
    let long : length front ≡ q + 1 = length-take-le (q + 1) octets (omega arith) in
    let is : octet ≡ get_or octets q 0 =
    get_or_read front q octet (omega (arith, long)) read 0 ∙ get_or-take (q + 1) octets q 0 (omega arith) in
    let small : octet < 256 = rw is (bytes q) in
    let new : ℕ = octet / 2 ^ (8 - n % 8) * 2 ^ (8 - n % 8) in
    let mended = cleared_small octet (n % 8) small in
    let split : set front q new ≡ take q front ++ new ∷ drop (suc q) front = set_split front q new (omega (arith, long)) in
    let before : take q front ≡ take q octets = take-take q (q + 1) octets (omega arith) in
    let after : drop (suc q) front ≡ [] = drop_all (suc q) front (omega (arith, long)) in
    let cut = octets_of-take_part octets n within part in
    rw mended (split ∙ (rw (before, after, cut, ← is) refl))

-- and where the last of them is not whole
pub packs_part : (octets : List ℕ) (n octet : ℕ) → AreOctets octets → n ≤ 8 * length octets → n ≤ 524288 → 0 < n % 8
    → octet ≡ get_or (take (n / 8 + 1) octets) (n / 8) octet
    → Packs (set (take (n / 8 + 1) octets) (n / 8) (octet / 2 ^ (8 - n % 8) * 2 ^ (8 - n % 8) % 256)) n (take n (bits_of_octets octets))
packs_part octets n octet bytes within few part read =
    packs_from _ _ _ (octets_part octets n octet bytes within part read)
    (sym (length-take-le n (bits_of_octets octets) (omega (arith, length-bits_of_octets octets))))
    (IsBits-take n (bits_of_octets octets) (IsBits-bits_of_octets octets bytes)) few
