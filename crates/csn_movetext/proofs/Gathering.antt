-- What is kept of an open leaf, move by move.
use Rattle.std.proofs.Common.{◌≡◌, ℕ, ◌+◌, ◌-◌, ◌*◌, ◌%◌, ◌^◌, ◌<◌, ◌≤◌, Bool, true, false, List, [], ◌∷◌, ◌++◌}
use Rattle.std.proofs.Common.{length, refl, sym, ap, subst, ◌∙◌, arith, append_assoc, append-nil, length-append}
use Rattle.std.proofs.Common.{bit_or}
use Rattle.std.proofs.lemmas.Nat.{mul-le, one_shl, or_shifted, pow-add, pow_pos}
use Rattle.std.proofs.Math.Pow.{pow_mono}
use Rattle.hex.specs.Hex.{encode_upper, encode_with}
use Rattle.csn_bits.specs.Octets.{IsBits, octets_of}
use Rattle.csn_bits.specs.Numbers.{number_of, low_bits}
use Rattle.csn_bits.specs.Line.{tail_written, written}
use Rattle.csn_bits.proofs.HexDigits.{encode_upper-append}
use Rattle.csn_bits.proofs.Packing.{IsBits-append, octets_of-append}
use Rattle.csn_bits.proofs.NumberFacts.{number_of-append, number_of-lt, length-low_bits, IsBits-low_bits, number_of-low_bits}
use Rattle.csn_bits.proofs.Written.{written-some, tail_written-some}
use Rattle.csn_json.specs.declared.form.TreeForm.{TreeForm}
use Rattle.csn_json.specs.Forms.{octets_sign}
use Rattle.csn_movetext.specs.Writing.{WritingV, gathering}
use Rattle.csn_movetext.specs.Kept.{KeptV, begun, sign, IsFront, Shows, Flushed}
use Rattle.csn_movetext.proofs.Octets.{low_octet}

-- bits that are shifted lose none
pub shifted : (bits held count value : ℕ) → bits < 2 ^ held → held + count ≤ 64 → value < 2 ^ count
    → bit_or (bits * 2 ^ count % 18446744073709551616) value ≡ bits * 2 ^ count + value
shifted bits held count value small room value_small =
    let power : 2 ^ (held + count) ≡ 2 ^ held * 2 ^ count = pow-add 2 held count in
    let most : 2 ^ (held + count) ≤ 2 ^ 64 = pow_mono {i = held + count} {j = 64} room in
    let product : (bits + 1) * 2 ^ count ≤ 2 ^ held * 2 ^ count = mul-le (bits + 1) (2 ^ count) (2 ^ held) (2 ^ count) (omega (arith, small)) (omega arith) in
    let some = pow_pos count in
    let below : bits * 2 ^ count % 18446744073709551616 ≡ bits * 2 ^ count = omega (arith, power, most, product, some) in
    ap (λ n. bit_or n value) below ∙ or_shifted bits count value value_small

-- what is written ahead, with more octets
pub ahead :
    (form : TreeForm) (long : Bool) (text front back : List ℕ) {out out2 : List ℕ} (f : List ℕ) → IsFront long front back → length front % 8 ≡ 0
    → out ≡ text ++ begun form long front
    → out2 ≡ (out ++ sign form long) ++ encode_upper (octets_of f)
    → out2 ≡ text ++ begun form true (front ++ f)
ahead form false text front back {out} f none whole is wrote =
    let first : out ≡ text = is ∙ append-nil text in
    wrote ∙ ap (λ o. (o ++ octets_sign form) ++ encode_upper (octets_of f)) first
    ∙ append_assoc text (octets_sign form) (encode_upper (octets_of f))
    ∙ ap (λ l. text ++ (octets_sign form ++ encode_upper (octets_of (l ++ f)))) (sym none)
ahead form true text front back {out} f many whole is wrote =
    wrote ∙ ap (λ o. o ++ encode_upper (octets_of f)) (append-nil out ∙ is)
    ∙ append_assoc text (octets_sign form ++ encode_upper (octets_of front)) (encode_upper (octets_of f))
    ∙ ap (λ l. text ++ l) (append_assoc (octets_sign form) (encode_upper (octets_of front)) (encode_upper (octets_of f)))
    ∙ ap (λ l. text ++ (octets_sign form ++ l)) (sym (encode_upper-append (octets_of front) (octets_of f))
    ∙ ap encode_upper (sym (octets_of-append front f whole)))

front_more : (long : Bool) (front back low : List ℕ) → IsFront long front back → IsFront long front (back ++ low)
front_more false front back low h = h
front_more true front back low h = omega (arith, h, length-append back low)

held_number : (back : List ℕ) (bits count number : ℕ)
    → bits ≡ number_of back → bits * 2 ^ count + number % 2 ^ count ≡ number_of (back ++ low_bits count number)
held_number back bits count number is =
    ap (λ n. n * 2 ^ count + number % 2 ^ count) is
    ∙ ap (λ n. number_of back * 2 ^ count + n) (sym (number_of-low_bits count number))
    ∙ ap (λ k. number_of back * 2 ^ k + number_of (low_bits count number)) (sym (length-low_bits count number))
    ∙ sym (number_of-append back (low_bits count number))

-- held bits are those of a number of so many bits
pub bits_small : (back : List ℕ) (held bits : ℕ) → held ≡ length back → bits ≡ number_of back → IsBits back → bits < 2 ^ held
bits_small back held bits count number are = subst (λ n. n < 2 ^ held) (sym number) (subst (λ k. number_of back < 2 ^ k) (sym count) (number_of-lt back are))

-- the bits of a number are held behind the others
pub took_shows :
    (form : TreeForm) (old new : KeptV) (w : WritingV) (number count : ℕ)
    → new.held ≡ old.held + count → (old.bits < 2 ^ old.held → new.bits ≡ old.bits * 2 ^ count + number % 2 ^ count)
    → new.text ≡ old.text → new.left ≡ old.left → new.long ≡ old.long
    → Shows form old w → Shows form new (gathering w (low_bits count number))
took_shows form old new w number count held_is bits_is text_is left_same long_same s =
    let low : List ℕ = low_bits count number in
    let wide : length low ≡ count = length-low_bits count number in
    record {
      front = s.front;
      back = s.back ++ low;
      cut = ap (λ l. l ++ low) s.cut ∙ append_assoc s.front s.back low;
      octets = s.octets;
      written_ahead = subst (λ b. IsFront b s.front (s.back ++ low)) (sym long_same) (front_more old.long s.front s.back low s.written_ahead);
      written = text_is ∙ s.written ∙ ap (λ b. w.text ++ begun form b s.front) (sym long_same);
      count = omega (arith, held_is, s.count, wide, length-append s.back low);
      number = bits_is (bits_small s.back old.held old.bits s.count s.number s.back_bits) ∙ held_number s.back old.bits count number s.number;
      front_bits = s.front_bits;
      back_bits = IsBits-append s.back low s.back_bits (IsBits-low_bits count number);
      left_is = left_same ∙ s.left_is;
    }

-- what the held bits of a text come to, where their whole octets are written
abbrev pub Flushes : TreeForm → KeptV → KeptV → Type 0
Flushes form old new = (b : List ℕ) → IsBits b → length b ≡ old.held → number_of b ≡ old.bits
    → Flushed (old.text ++ sign form old.long) new.text b new.held new.bits

-- the same where the whole octets are written first
pub flushed_shows :
    (form : TreeForm) (old mid new : KeptV) (w : WritingV) (number count : ℕ)
    → 64 < old.held + count → Flushes form old mid → mid.long ≡ true → mid.left ≡ old.left
    → new.held ≡ mid.held + count → (mid.bits < 2 ^ mid.held → new.bits ≡ mid.bits * 2 ^ count + number % 2 ^ count)
    → new.text ≡ mid.text → new.left ≡ mid.left → new.long ≡ mid.long
    → Shows form old w → Shows form new (gathering w (low_bits count number))
flushed_shows form old mid new w number count many flush long_is left_same held_is bits_is text_is left_next long_next s =
    let low : List ℕ = low_bits count number in
    let wide : length low ≡ count = length-low_bits count number in
    let f = flush s.back s.back_bits (sym s.count) (sym s.number) in
    let lengths = length-append f.front f.back in
    let fronts = length-append s.front f.front in
    let backs = length-append f.back low in
    let whole : length s.back ≡ length f.front + length f.back = ap length f.cut ∙ lengths in
    let always : new.long ≡ true = long_next ∙ long_is in
    record {
      front = s.front ++ f.front;
      back = f.back ++ low;
      cut =
          ap (λ l. l ++ low) (s.cut ∙ ap (λ l. s.front ++ l) f.cut ∙ sym (append_assoc s.front f.front f.back))
          ∙ append_assoc (s.front ++ f.front) f.back low;
      octets = omega (arith, fronts, s.octets, f.octets);
      written_ahead = subst (λ b. IsFront b (s.front ++ f.front) (f.back ++ low)) (sym always) (omega (arith, many, s.count, whole, fronts, backs, wide));
      written = text_is ∙ ahead form old.long w.text s.front s.back f.front s.written_ahead s.octets s.written
          f.written ∙ ap (λ b. w.text ++ begun form b (s.front ++ f.front)) (sym always);
      count = omega (arith, held_is, f.count, wide, backs);
      number = bits_is (bits_small f.back mid.held mid.bits f.count f.number f.back_bits) ∙ held_number f.back mid.bits count number f.number;
      front_bits = IsBits-append s.front f.front s.front_bits f.front_bits;
      back_bits = IsBits-append f.back low f.back_bits (IsBits-low_bits count number);
      left_is = left_next ∙ left_same ∙ s.left_is;
    }

-- ---- the end of a leaf that is written as octets

-- what some bits that fill no octet write
tail_octet : (back : List ℕ) → 0 < length back → length back < 8 → IsBits back → octets_of back ≡ number_of back * 2 ^
    (8 - length back) % 18446744073709551616 % 256 ∷ []
tail_octet [] some few are = absurd (omega arith)
tail_octet (a ∷ []) some few (pa, _) = ap (λ n. n ∷ []) (omega arith)
tail_octet (a ∷ b ∷ []) some few (pa, (pb, _)) = ap (λ n. n ∷ []) (omega arith)
tail_octet (a ∷ b ∷ c ∷ []) some few (pa, (pb, (pc, _))) = ap (λ n. n ∷ []) (omega arith)
tail_octet (a ∷ b ∷ c ∷ d ∷ []) some few (pa, (pb, (pc, (pd, _)))) = ap (λ n. n ∷ []) (omega arith)
tail_octet (a ∷ b ∷ c ∷ d ∷ e ∷ []) some few (pa, (pb, (pc, (pd, (pe, _))))) = ap (λ n. n ∷ []) (omega arith)
tail_octet (a ∷ b ∷ c ∷ d ∷ e ∷ f ∷ []) some few (pa, (pb, (pc, (pd, (pe, (pf, _)))))) = ap (λ n. n ∷ []) (omega arith)
tail_octet (a ∷ b ∷ c ∷ d ∷ e ∷ f ∷ g ∷ []) some few (pa, (pb, (pc, (pd, (pe, (pf, (pg, _))))))) = ap (λ n. n ∷ []) (omega arith)
tail_octet (a ∷ b ∷ c ∷ d ∷ e ∷ f ∷ g ∷ h ∷ back) some few are = absurd (omega arith)

-- a leaf whose whole octets are written
pub record Ended (form : TreeForm) (text gathered out : List ℕ) (held bits : ℕ) : Type 0 where
  front : List ℕ
  back : List ℕ
  cut : gathered ≡ front ++ back
  whole : length front % 8 ≡ 0
  ahead_is : out ≡ text ++ begun form true front
  count : held ≡ length back
  number : bits ≡ number_of back
  back_bits : IsBits back

pub ended : (form : TreeForm) (old mid : KeptV) (w : WritingV) → Flushes form old mid → Shows form old w
    → Ended form w.text w.gathered mid.text mid.held mid.bits
ended form old mid w flush s =
    let f = flush s.back s.back_bits (sym s.count) (sym s.number) in
    let fronts = length-append s.front f.front in
    record {
      front = s.front ++ f.front;
      back = f.back;
      cut = s.cut ∙ ap (λ l. s.front ++ l) f.cut ∙ sym (append_assoc s.front f.front f.back);
      whole = omega (arith, fronts, s.octets, f.octets);
      ahead_is = ahead form old.long w.text s.front s.back f.front s.written_ahead s.octets s.written f.written;
      count = f.count;
      number = f.number;
      back_bits = f.back_bits;
    }

nothing_behind : (back : List ℕ) → length back ≡ 0 → encode_upper (octets_of back) ≡ []
unfolding encode_with
nothing_behind [] none = refl
nothing_behind (x ∷ back) none = absurd (omega arith)

line_is : {form : TreeForm} {text gathered out : List ℕ} {held bits : ℕ} → 1 ≤ length gathered → (e : Ended form text gathered out held bits)
    → written gathered ≡ (encode_upper (octets_of e.front) ++ encode_upper (octets_of e.back)) ++ tail_written (length gathered % 8)
line_is {gathered = gathered} some e =
    written-some gathered some
    ∙ ap (λ l. encode_upper (octets_of l) ++ tail_written (length gathered % 8)) e.cut
    ∙ ap (λ l. encode_upper l ++ tail_written (length gathered % 8)) (octets_of-append e.front e.back e.whole)
    ∙ ap (λ l. l ++ tail_written (length gathered % 8)) (encode_upper-append (octets_of e.front) (octets_of e.back))

left_over : {form : TreeForm} {text gathered out : List ℕ} {held bits : ℕ}
    → held < 8 → (e : Ended form text gathered out held bits) → length gathered % 8 ≡ held
left_over few e = omega (arith, few, ap length e.cut, length-append e.front e.back, e.whole, e.count)

pub end_whole : {form : TreeForm} {text gathered out : List ℕ} {held bits : ℕ} → 1 ≤ length gathered → held < 8
    → held ≤ 0 → Ended form text gathered out held bits
    → out ≡ text ++ (octets_sign form ++ written gathered)
end_whole {form} {text} {gathered} {out} {held} any few none e =
    let zero_left : held ≡ 0 = omega (arith, none) in
    let line : List ℕ → List ℕ = λ l. text ++ (octets_sign form ++ l) in
    e.ahead_is
    ∙ ap line (sym (append-nil (encode_upper (octets_of e.front))) ∙ sym (append-nil (encode_upper (octets_of e.front) ++ [])))
    ∙ ap (λ n. line ((encode_upper (octets_of e.front) ++ []) ++ tail_written n)) (sym (left_over few e ∙ zero_left))
    ∙ ap (λ l. line ((encode_upper (octets_of e.front) ++ l) ++ tail_written (length gathered % 8))) (sym (nothing_behind e.back (sym e.count ∙ zero_left)))
    ∙ ap line (sym (line_is any e))

pub end_part :
    {form : TreeForm} {text gathered out out2 : List ℕ} {held bits : ℕ} (v : ℕ) → 1 ≤ length gathered → held < 8 → 0 < held
    → v ≡ bits * 2 ^ (8 - held) % 18446744073709551616
    → out2 ≡ ((out ++ encode_upper (octets_of (low_bits 8 v))) ++ 47 ∷ []) ++ (48 + held) ∷ []
    → Ended form text gathered out held bits → out2 ≡ text ++ (octets_sign form ++ written gathered)
end_part {form} {text} {gathered} {out} {out2} {held} {bits} v any few some is wrote e =
    let pair : List ℕ = encode_upper (octets_of (low_bits 8 v)) in
    let S : List ℕ = octets_sign form in
    let E : List ℕ = encode_upper (octets_of e.front) in
    let octets : octets_of e.back ≡ octets_of (low_bits 8 v) =
    tail_octet e.back (omega (arith, some, e.count)) (omega (arith, few, e.count)) e.back_bits
    ∙ ap (λ n. n * 2 ^ (8 - length e.back) % 18446744073709551616 % 256 ∷ []) (sym e.number)
    ∙ ap (λ k. bits * 2 ^ (8 - k) % 18446744073709551616 % 256 ∷ []) (sym e.count)
    ∙ ap (λ n. n % 256 ∷ []) (sym is)
    ∙ sym (low_octet v) in
    let digits : encode_upper (octets_of e.back) ≡ pair = ap encode_upper octets in
    let tail : tail_written (length gathered % 8) ≡ 47 ∷ (48 + held) ∷ [] = ap tail_written (left_over few e) ∙ tail_written-some held (omega (arith, some)) in
    wrote
    ∙ ap (λ o. ((o ++ pair) ++ 47 ∷ []) ++ (48 + held) ∷ []) e.ahead_is
    ∙ append_assoc ((text ++ (S ++ E)) ++ pair) (47 ∷ []) ((48 + held) ∷ [])
    ∙ ap (λ l. l ++ 47 ∷ (48 + held) ∷ []) (append_assoc text (S ++ E) pair ∙ ap (λ l. text ++ l) (append_assoc S E pair))
    ∙ append_assoc text (S ++ (E ++ pair)) (47 ∷ (48 + held) ∷ [])
    ∙ ap (λ l. text ++ l) (append_assoc S (E ++ pair) (47 ∷ (48 + held) ∷ []))
    ∙ ap (λ l. text ++ (S ++ ((E ++ pair) ++ l))) (sym tail)
    ∙ ap (λ l. text ++ (S ++ ((E ++ l) ++ tail_written (length gathered % 8)))) (sym digits)
    ∙ ap (λ l. text ++ (S ++ l)) (sym (line_is any e))

-- the remainder that a machine takes is that of the power
pub last_bits : (number count : ℕ) (rest : ℕ) {bits : ℕ}
    → count ≤ 56 → bits ≡ rest + number % (1 * 2 ^ count % 18446744073709551616) → bits ≡ rest + number % 2 ^ count
last_bits number count rest few is = is ∙ ap (λ m. rest + number % m) (one_shl count 64 (omega (arith, few)))
