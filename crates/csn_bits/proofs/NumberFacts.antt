-- Numbers and the bits that write them. Other crates cite this.
use Rattle.std.proofs.Common.{◌≡◌, ℕ, zero, suc, ◌+◌, ◌-◌, ◌*◌, ◌/◌, ◌%◌, ◌^◌, ◌<◌, ◌≤◌, List, [], ◌∷◌, ◌++◌, length, refl, sym, ap, ◌∙◌, arith, length-append}
use Rattle.std.specs.Int.Bits.{bit_or}
use Rattle.std.specs.Int.{from_be_bytes, w64}
use Rattle.std.proofs.Math.Nat.{pow-succ', pow-suc, mul_assoc, mul-add-div_right, add-mul, mod-eq_of_lt, div-div-eq-div-mul}
use Rattle.std.proofs.lemmas.Nat.{pow-add, pow_pos, shr-shr, shr_split, mod-pow-add, shr_high, or_shifted, mod_below, mod-mul-add, shl_below, one_shl}
use Rattle.csn_bits.specs.Octets.{IsBits, bits_of_octet, bits_of_octets, octet_of}
use Rattle.csn_bits.specs.Numbers.{number_of, low_bits}

-- ---- the number that bits write

doubled : (y p n x : ℕ) → y * (p * 2) + (2 * n + x) ≡ 2 * (y * p + n) + x
doubled y p n x = omega arith

-- one more bit at the end
pub number_of-push : (b : List ℕ) (x : ℕ) → number_of (b ++ x ∷ []) ≡ 2 * number_of b + x
number_of-push [] x = omega arith
number_of-push (y ∷ b) x =
    let longer : length (b ++ x ∷ []) ≡ suc (length b) = omega (arith, length-append b (x ∷ [])) in
    ap (λ n. y * 2 ^ n + number_of (b ++ x ∷ [])) longer
    ∙ ap (λ p. y * p + number_of (b ++ x ∷ [])) (pow-suc 2 (length b))
    ∙ ap (λ n. y * (2 ^ length b * 2) + n) (number_of-push b x)
    ∙ doubled y (2 ^ length b) (number_of b) x

-- some bits and then others
pub number_of-append : (a b : List ℕ) → number_of (a ++ b) ≡ number_of a * 2 ^ length b + number_of b
number_of-append [] b = omega arith
number_of-append (x ∷ a) b =
    let powers : 2 ^ length (a ++ b) ≡ 2 ^ length a * 2 ^ length b = ap (λ n. 2 ^ n) (length-append a b) ∙ pow-add 2 (length a) (length b) in
    rw (powers, number_of-append a b) (product x (2 ^ length a) (2 ^ length b) (number_of a) (number_of b))
  where
    product : (x p q m n : ℕ) → x * (p * q) + (m * q + n) ≡ (x * p + m) * q + n
    product x p q m n = omega arith

-- it is less than the power of two with as many zeros as there are bits
pub number_of-lt : (b : List ℕ) → IsBits b → number_of b < 2 ^ length b
number_of-lt [] h = omega arith
number_of-lt (zero ∷ b) h = rw (pow-suc 2 (length b)) (omega (arith, number_of-lt b h.1))
number_of-lt (suc zero ∷ b) h = rw (pow-suc 2 (length b)) (omega (arith, number_of-lt b h.1))
number_of-lt (suc (suc x) ∷ b) h = absurd (omega (arith, h.0))

-- the number of eight bits is their octet
pub number_of-octet : (a b c d e f g h : ℕ) → number_of (a ∷ b ∷ c ∷ d ∷ e ∷ f ∷ g ∷ h ∷ []) ≡ octet_of (a ∷ b ∷ c ∷ d ∷ e ∷ f ∷ g ∷ h ∷ [])
number_of-octet a b c d e f g h = omega arith

-- ---- the bits of a number

pub length-low_bits : (n v : ℕ) → length (low_bits n v) ≡ n
length-low_bits zero v = refl
length-low_bits (suc n) v = ap suc (length-low_bits n v)

pub IsBits-low_bits : (n v : ℕ) → IsBits (low_bits n v)
IsBits-low_bits zero v = tt
IsBits-low_bits (suc n) v = (omega arith, IsBits-low_bits n v)

-- the bits write the number
pub number_of-low_bits : (n v : ℕ) → number_of (low_bits n v) ≡ v % 2 ^ n
number_of-low_bits zero v = (let one : 2 ^ 0 ≡ 1 = refl in omega arith)
number_of-low_bits (suc n) v =
    let e : 1 + n ≡ suc n = omega arith in
    rw (length-low_bits n v, number_of-low_bits n v) (sym (mod-pow-add v 1 n) ∙ ap (λ (k : ℕ). v % 2 ^ k) e)

pub number_of-low_bits_small : (n v : ℕ) → v < 2 ^ n → number_of (low_bits n v) ≡ v
number_of-low_bits_small n v small = number_of-low_bits n v ∙ mod-eq_of_lt small

-- the first bits of a number and the others
pub low_bits-split : (m n v : ℕ) → low_bits (m + n) v ≡ low_bits m (v / 2 ^ n) ++ low_bits n v
low_bits-split zero n v = (let e : 0 + n ≡ n = omega arith in ap (λ (k : ℕ). low_bits k v) e)
low_bits-split (suc m) n v =
    let higher : v / 2 ^ (m + n) ≡ v / 2 ^ n / 2 ^ m = ap (λ (k : ℕ). v / 2 ^ k) (omega arith) ∙ sym (shr-shr v n m) in
    let e : suc m + n ≡ suc (m + n) = omega arith in
    ap (λ (k : ℕ). low_bits k v) e ∙ ap (λ (h : ℕ). h % 2 ∷ low_bits (m + n) v) higher ∙ ap (λ (l : List ℕ). v / 2 ^ n / 2 ^ m % 2 ∷ l) (low_bits-split m n v)

-- what stands above them does not matter
pub low_bits-above : (n c b : ℕ) → low_bits n (c * 2 ^ n + b) ≡ low_bits n b
low_bits-above zero c b = refl
low_bits-above (suc n) c b =
    let p : ℕ = 2 ^ n in
    let double : c * 2 ^ suc n ≡ c * 2 * p = ap (λ (k : ℕ). c * k) (pow-succ' 2 n) ∙ sym (mul_assoc c 2 p) in
    let higher : (c * 2 * p + b) / p ≡ c * 2 + b / p = mul-add-div_right (pow_pos n) (c * 2) b in
    let first : (c * 2 * p + b) / p % 2 ≡ b / p % 2 = omega (arith, higher) in
    rw double (ap (λ (h : ℕ). h ∷ low_bits n (c * 2 * p + b)) first ∙ ap (λ (l : List ℕ). b / p % 2 ∷ l) (low_bits-above n (c * 2) b))

-- nor does a remainder by a power of two that is not too small
pub low_bits-mod : (n j v : ℕ) → low_bits n (v % 2 ^ (j + n)) ≡ low_bits n v
low_bits-mod n j v =
    let q : ℕ = v / 2 ^ (j + n) in
    let r : ℕ = v % 2 ^ (j + n) in
    let parts : q * 2 ^ j * 2 ^ n + r ≡ v =
    ap (λ (k : ℕ). k + r) (mul_assoc q (2 ^ j) (2 ^ n) ∙ ap (λ (k : ℕ). q * k) (sym (pow-add 2 j n))) ∙ shr_split v (j + n) in
    sym (low_bits-above n (q * 2 ^ j) r) ∙ ap (λ (k : ℕ). low_bits n k) parts

-- the last bits of a number, taken as a remainder by a power of two that was made by a shift
pub low_bits-masked : (n v : ℕ) → n < 64 → low_bits n (v % (1 * 2 ^ n % 2 ^ 64)) ≡ low_bits n v
low_bits-masked n v short =
    let one : 1 * 2 ^ n % 2 ^ 64 ≡ 2 ^ (0 + n) = (let e : 0 + n ≡ n = omega arith in rw e (one_shl n 64 short)) in
    ap (λ k. low_bits n (v % k)) one ∙ low_bits-mod n 0 v

-- and the remainder has no more bits
pub masked_small : (v n : ℕ) → n < 64 → v % (1 * 2 ^ n % 2 ^ 64) < 2 ^ n
masked_small v n short = rw (one_shl n 64 short) (mod_below v (2 ^ n) (pow_pos n))

-- two numbers beside one another
pub low_bits-join : (m n a b : ℕ) → b < 2 ^ n → low_bits (m + n) (a * 2 ^ n + b) ≡ low_bits m a ++ low_bits n b
low_bits-join m n a b small =
    low_bits-split m n (a * 2 ^ n + b) ∙ ap (λ (h : ℕ). low_bits m h ++ low_bits n (a * 2 ^ n + b)) (shr_high a n b small)
    ∙ ap (λ (l : List ℕ). low_bits m a ++ l) (low_bits-above n a b)

-- one bit more, behind those of its half
pub low_bits-push : (n v : ℕ) → low_bits (suc n) v ≡ low_bits n (v / 2) ++ v % 2 ∷ []
low_bits-push n v =
    let more : n + 1 ≡ suc n = omega arith in
    let last : v / 2 ^ 0 % 2 ≡ v % 2 = (let one : 2 ^ 0 ≡ 1 = refl in omega arith) in
    ap (λ (k : ℕ). low_bits k v) (sym more) ∙ low_bits-split n 1 v ∙ ap (λ (l : ℕ). low_bits n (v / 2) ++ l ∷ []) last

-- one bit more of a number, from the front
pub low_bits-next : (number left done : ℕ) → low_bits done (number / 2 ^ suc left) ++ number / 2 ^ left % 2 ∷ [] ≡ low_bits (suc done) (number / 2 ^ left)
low_bits-next number left done =
    let halves : number / 2 ^ suc left ≡ number / 2 ^ left / 2 = ap (λ p. number / p) (pow-suc 2 left) ∙ sym (div-div-eq-div-mul number (2 ^ left) 2) in
    ap (λ k. low_bits done k ++ number / 2 ^ left % 2 ∷ []) halves ∙ sym (low_bits-push done (number / 2 ^ left))

-- bits are those of the number that they write
pub low_bits-number_of : (bits : List ℕ) → IsBits bits → low_bits (length bits) (number_of bits) ≡ bits
low_bits-number_of [] s = refl
low_bits-number_of (b ∷ rest) s =
    let n : ℕ = length rest in
    let r : ℕ = number_of rest in
    let first : (b * 2 ^ n + r) / 2 ^ n % 2 ≡ b =
    (let q = shr_high b n r (number_of-lt rest s.1) in let small = s.0 in omega (arith, q)) in
    ap (λ (k : ℕ). k ∷ low_bits n (b * 2 ^ n + r)) first
    ∙ ap (λ (l : List ℕ). b ∷ l) (low_bits-above n b r ∙ low_bits-number_of rest s.1)

-- bits of one length with one number are the same
pub number_of-same : (a b : List ℕ) → IsBits a → IsBits b → length a ≡ length b → number_of a ≡ number_of b → a ≡ b
number_of-same a b h k long same =
    sym (low_bits-number_of a h) ∙ ap (λ (n : ℕ). low_bits n (number_of a)) long ∙ ap (λ (v : ℕ). low_bits (length b) v) same ∙ low_bits-number_of b k

-- the first bits of some, and the others
pub low_bits-first : (count v n : ℕ) → n ≤ count → low_bits count v ≡ low_bits n (v / 2 ^ (count - n)) ++ low_bits (count - n) v
low_bits-first count v n few =
    let parts : count ≡ n + (count - n) = omega arith in
    ap (λ (k : ℕ). low_bits k v) parts ∙ low_bits-split n (count - n) v

-- ---- numbers that are shifted

-- a shift to the left loses the high bits
pub shl_parts : (a n j : ℕ) → j + n ≡ 64 → a * 2 ^ n % 2 ^ 64 ≡ a % 2 ^ j * 2 ^ n
shl_parts a n j is =
    let q : ℕ = a / 2 ^ j in
    let r : ℕ = a % 2 ^ j in
    let width : 2 ^ j * 2 ^ n ≡ 2 ^ 64 = sym (pow-add 2 j n) ∙ ap (λ (k : ℕ). 2 ^ k) is in
    let parts : q * 2 ^ 64 + r * 2 ^ n ≡ a * 2 ^ n =
    ap (λ (k : ℕ). k + r * 2 ^ n) (ap (λ (k : ℕ). q * k) (sym width) ∙ sym (mul_assoc q (2 ^ j) (2 ^ n)))
    ∙ sym (add-mul (q * 2 ^ j) r (2 ^ n)) ∙ ap (λ (k : ℕ). k * 2 ^ n) (shr_split a j) in
    let below : r * 2 ^ n < 2 ^ 64 =
    (let l : r * 2 ^ n < 2 ^ (j + n) = shl_below r j n (mod_below a (2 ^ j) (pow_pos j)) in rw is at l) in
    ap (λ (k : ℕ). k % 2 ^ 64) (sym parts) ∙ mod-mul-add q (2 ^ 64) (r * 2 ^ n) below

-- bits put behind those of a number of 64 bits
pub low_bits-shifted : (count n v b : ℕ) → count + n ≤ 64 → b < 2 ^ n
    → low_bits (count + n) (bit_or (v * 2 ^ n % 2 ^ 64) b) ≡ low_bits count v ++ low_bits n b
low_bits-shifted count n v b room small =
    let j : ℕ = 64 - n in
    let cut : v * 2 ^ n % 2 ^ 64 ≡ v % 2 ^ j * 2 ^ n = shl_parts v n j (omega arith) in
    let here : bit_or (v * 2 ^ n % 2 ^ 64) b ≡ v % 2 ^ j * 2 ^ n + b =
    ap (λ (k : ℕ). bit_or k b) cut ∙ or_shifted (v % 2 ^ j) n b small in
    let wide : j ≡ (j - count) + count = omega arith in
    let kept : low_bits count (v % 2 ^ j) ≡ low_bits count v =
    ap (λ (k : ℕ). low_bits count (v % 2 ^ k)) wide ∙ low_bits-mod count (j - count) v in
    ap (λ (k : ℕ). low_bits (count + n) k) here ∙ low_bits-join count n (v % 2 ^ j) b small ∙ ap (λ (l : List ℕ). l ++ low_bits n b) kept

-- ---- octets

pub low_bits-octet : (o : ℕ) → o < 256 → low_bits 8 o ≡ bits_of_octet o
low_bits-octet o small =
    let first : o / 128 % 2 ≡ o / 128 = omega arith in
    let last : o / 1 % 2 ≡ o % 2 = omega arith in
    let list : ℕ → ℕ → List ℕ =
    λ (k l : ℕ). k ∷ o / 64 % 2 ∷ o / 32 % 2 ∷ o / 16 % 2 ∷ o / 8 % 2 ∷ o / 4 % 2 ∷ o / 2 % 2 ∷ l ∷ [] in
    ap (λ (k : ℕ). list k (o / 1 % 2)) first ∙ ap (λ (l : ℕ). list (o / 128) l) last

-- one octet before others
octet_before : (n o rest : ℕ) → o < 256 → rest < 2 ^ n → low_bits (8 + n) (o * 2 ^ n + rest) ≡ bits_of_octet o ++ low_bits n rest
octet_before n o rest small below =
    low_bits-join 8 n o rest below ∙ ap (λ (l : List ℕ). l ++ low_bits n rest) (low_bits-octet o small)

-- eight octets and the number that they write
pub low_bits-eight : (a b c d e f g h : ℕ) → a < 256 → b < 256 → c < 256 → d < 256 → e < 256 → f < 256 → g < 256 → h < 256
    → low_bits 64 (from_be_bytes w64 (a ∷ b ∷ c ∷ d ∷ e ∷ f ∷ g ∷ h ∷ []))
    ≡ bits_of_octets (a ∷ b ∷ c ∷ d ∷ e ∷ f ∷ g ∷ h ∷ [])
low_bits-eight a b c d e f g h pa pb pc pd pe pf pg ph =
    let n1 : ℕ = h in
    let n2 : ℕ = g * 2 ^ 8 + n1 in
    let n3 : ℕ = f * 2 ^ 16 + n2 in
    let n4 : ℕ = e * 2 ^ 24 + n3 in
    let n5 : ℕ = d * 2 ^ 32 + n4 in
    let n6 : ℕ = c * 2 ^ 40 + n5 in
    let n7 : ℕ = b * 2 ^ 48 + n6 in
    let n8 : ℕ = a * 2 ^ 56 + n7 in
    let same : from_be_bytes w64 (a ∷ b ∷ c ∷ d ∷ e ∷ f ∷ g ∷ h ∷ []) ≡ n8 = omega arith in
    let e1 : low_bits 8 n1 ≡ bits_of_octets (h ∷ []) = low_bits-octet h ph in
    let e2 : low_bits 16 n2 ≡ bits_of_octets (g ∷ h ∷ []) =
    octet_before 8 g n1 pg (omega arith) ∙ ap (λ (l : List ℕ). bits_of_octet g ++ l) e1 in
    let e3 : low_bits 24 n3 ≡ bits_of_octets (f ∷ g ∷ h ∷ []) =
    octet_before 16 f n2 pf (omega arith) ∙ ap (λ (l : List ℕ). bits_of_octet f ++ l) e2 in
    let e4 : low_bits 32 n4 ≡ bits_of_octets (e ∷ f ∷ g ∷ h ∷ []) =
    octet_before 24 e n3 pe (omega arith) ∙ ap (λ (l : List ℕ). bits_of_octet e ++ l) e3 in
    let e5 : low_bits 40 n5 ≡ bits_of_octets (d ∷ e ∷ f ∷ g ∷ h ∷ []) =
    octet_before 32 d n4 pd (omega arith) ∙ ap (λ (l : List ℕ). bits_of_octet d ++ l) e4 in
    let e6 : low_bits 48 n6 ≡ bits_of_octets (c ∷ d ∷ e ∷ f ∷ g ∷ h ∷ []) =
    octet_before 40 c n5 pc (omega arith) ∙ ap (λ (l : List ℕ). bits_of_octet c ++ l) e5 in
    let e7 : low_bits 56 n7 ≡ bits_of_octets (b ∷ c ∷ d ∷ e ∷ f ∷ g ∷ h ∷ []) =
    octet_before 48 b n6 pb (omega arith) ∙ ap (λ (l : List ℕ). bits_of_octet b ++ l) e6 in
    let e8 : low_bits 64 n8 ≡ bits_of_octets (a ∷ b ∷ c ∷ d ∷ e ∷ f ∷ g ∷ h ∷ []) =
    octet_before 56 a n7 pa (omega arith) ∙ ap (λ (l : List ℕ). bits_of_octet a ++ l) e7 in
    ap (λ (k : ℕ). low_bits 64 k) same ∙ e8
