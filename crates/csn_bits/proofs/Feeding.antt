-- What a feed keeps of a line, one byte on.
use Rattle.std.proofs.Common.{◌≡◌, ℕ, ◌+◌, ◌*◌, ◌<◌, ◌≤◌, ◌==◌, Bool, true, false, ◌&&◌, List, [], ◌∷◌, ◌++◌, length}
use Rattle.std.proofs.Common.{take, Option, Some, None, is_some, unwrap_or, refl, sym, ap, subst, ◌∙◌, arith}
use Rattle.std.proofs.Common.{append_assoc, append-nil, eqb-true, inl, inr}
use Rattle.std.proofs.lemmas.Bool.{cases_Bool, and_parts}
use Rattle.std.proofs.lemmas.List.{nil_from_length}
use Rattle.hex.specs.Hex.{hex_digit_value, is_hex_digit}
use Rattle.csn_bits.specs.Line.{fault_of, is_dot, last_of, octets_of_digits, value_of}
use Rattle.csn_bits.specs.Feed.{AreDigits, Holds, dot, bad, read, all_but_last, leading_digits, octets_given, stage_after, stage_of_tail, waiting_value}
use Rattle.csn_bits.specs.declared.fault.LineWhy.TheVariants.{BadDigit, BadLength}
use Rattle.csn_bits.specs.declared.feed.Stage.{Stage}
use Rattle.csn_bits.specs.declared.feed.Stage.TheVariants as stage
use Rattle.csn_bits.proofs.Digits.{AreDigits-append, AreDigits-push, given-append, given-behind, given-push}
use Rattle.csn_bits.proofs.Digits.{given-push_full, last_none, last_of-append, last_of-push, length-octets_even}
use Rattle.csn_bits.proofs.Digits.{length-octets_odd, leading-all, leading-stop, octets-append, octets-push_first}
use Rattle.csn_bits.proofs.Digits.{octets-push_second, waiting-append, waiting-push_first, waiting-push_second}
use Rattle.csn_bits.proofs.Faults.{fault-bad_digit, fault-tail}

-- nothing yet
pub holds-nil : Holds stage.Digits None None []
holds-nil = read [] None refl tt refl refl refl

-- ---- a digit more, while only digits were read

-- the line that a feed at this stage was given
pub holds_digits : (at : Stage) (waiting last : Option ℕ) (line : List ℕ) → Holds at waiting last line → at ≡ stage.Digits
    → AreDigits line × (waiting ≡ waiting_value line) × (last ≡ last_of (octets_of_digits line))
holds_digits at waiting last line (dot e l) is = absurd (cc)
holds_digits at waiting last line (bad front byte back l s fails other dotless e) is = absurd (cc)
holds_digits at waiting last line (read digits None l s w o e) is =
    let all : line ≡ digits = l ∙ append-nil digits in
    rw all (s, w, o)
holds_digits at waiting last line (read digits (Some []) l s w o e) is = absurd (cc)
holds_digits at waiting last line (read digits (Some (b ∷ [])) l s w o e) is = absurd (cc)
holds_digits at waiting last line (read digits (Some (b ∷ c ∷ tail)) l s w o e) is = absurd (cc)

-- the feed was given these digits
holds_from : (line : List ℕ) (waiting last : Option ℕ) → AreDigits line → waiting ≡ waiting_value line → last ≡ last_of (octets_of_digits line)
    → Holds stage.Digits waiting last line
holds_from line waiting last s w o = read line None (sym (append-nil line)) s w o refl

given_of_digits : (line : List ℕ) → AreDigits line → octets_given line ≡ take 65536 (all_but_last (octets_of_digits line))
given_of_digits line s = ap (λ (l : List ℕ). take 65536 (all_but_last (octets_of_digits l))) (leading-all line s)

-- so many pairs of so many digits
pairs_fit : (digits pairs : ℕ) → digits ≡ 2 * pairs + 1 → digits + 1 ≤ 131074 → pairs ≤ 65536
pairs_fit digits pairs odd room = omega arith

pairs_fill : (digits pairs : ℕ) → digits ≡ 2 * pairs + 1 → 131074 < digits + 1 → 65536 < pairs
pairs_fill digits pairs odd full = omega arith

half_fits : (digits more pairs : ℕ) → digits ≡ 2 * pairs → digits + more ≤ 131072 → pairs ≤ 65536
half_fits digits more pairs even fits = omega arith

halves_fit : (digits more pairs others : ℕ) → digits ≡ 2 * pairs → more ≡ 2 * others → 1 ≤ more
    → digits + more ≤ 131072 → (1 ≤ others) × (pairs + others ≤ 65536)
halves_fit digits more pairs others even also some fits = (omega arith, omega arith)

-- a digit more is taken by a feed that kept this much
module _ (line : List ℕ) (at : Stage) (waiting last : Option ℕ) (digit value : ℕ) (h : Holds at waiting last line) (is : at ≡ stage.Digits)
    (v : hex_digit_value digit ≡ Some value) where
  d : is_hex_digit digit ≡ true
  d = ap (λ (o : Option ℕ). is_some o) v

  valued : value_of digit ≡ value
  valued = ap (λ (o : Option ℕ). unwrap_or o 0) v

  -- a digit that waits
  pub holds_first : waiting ≡ None → Holds at (Some value) last (line ++ digit ∷ [])
  holds_first none =
      let (s, w, o) = holds_digits at waiting last line h is in
      let even : waiting_value line ≡ None = sym w ∙ none in
      subst (λ (a : Stage). Holds a (Some value) last (line ++ digit ∷ [])) (sym is)
      (holds_from (line ++ digit ∷ []) (Some value) last (AreDigits-push line digit s d)
      (sym (waiting-push_first line digit even ∙ ap (λ (n : ℕ). Some n) valued))
      (o ∙ ap last_of (sym (octets-push_first line digit even))))

  pub given_first : waiting ≡ None → octets_given (line ++ digit ∷ []) ≡ octets_given line ++ []
  given_first none =
      let (s, w, o) = holds_digits at waiting last line h is in
      given_of_digits (line ++ digit ∷ []) (AreDigits-push line digit s d)
      ∙ ap (λ (l : List ℕ). take 65536 (all_but_last l)) (octets-push_first line digit (sym w ∙ none))
      ∙ sym (given_of_digits line s) ∙ sym (append-nil (octets_given line))

  -- a digit that ends a pair
  pub holds_second : (high : ℕ) → waiting ≡ Some high → Holds at None (Some (16 * high + value)) (line ++ digit ∷ [])
  holds_second high some =
      let (s, w, o) = holds_digits at waiting last line h is in
      let odd : waiting_value line ≡ Some high = sym w ∙ some in
      let more : octets_of_digits (line ++ digit ∷ []) ≡ octets_of_digits line ++ (16 * high + value) ∷ [] =
      octets-push_second line high digit odd ∙ ap (λ (n : ℕ). octets_of_digits line ++ (16 * high + n) ∷ []) valued in
      subst (λ (a : Stage). Holds a None (Some (16 * high + value)) (line ++ digit ∷ [])) (sym is)
      (holds_from (line ++ digit ∷ []) None (Some (16 * high + value)) (AreDigits-push line digit s d) (sym (waiting-push_second line high digit odd))
      (sym (ap last_of more ∙ last_of-push (octets_of_digits line) (16 * high + value))))

  -- what is given then
  given_pair : (high : ℕ) → waiting ≡ Some high
      → octets_given (line ++ digit ∷ []) ≡ take 65536 (all_but_last (octets_of_digits line ++ (16 * high + value_of digit) ∷ []))
  given_pair high some =
      let (s, w, o) = holds_digits at waiting last line h is in
      given_of_digits (line ++ digit ∷ []) (AreDigits-push line digit s d)
      ∙ ap (λ (l : List ℕ). take 65536 (all_but_last l)) (octets-push_second line high digit (sym w ∙ some))

  -- the octet that it gives
  pub given_second : (high octet : ℕ) → waiting ≡ Some high → last ≡ Some octet → length line + 1 ≤ 131074
      → octets_given (line ++ digit ∷ []) ≡ octets_given line ++ octet ∷ []
  given_second high octet some before room =
      let (s, w, o) = holds_digits at waiting last line h is in
      let fits = pairs_fit (length line) (length (octets_of_digits line)) (length-octets_odd line high (sym w ∙ some)) room in
      given_pair high some
      ∙ given-push (octets_of_digits line) (16 * high + value_of digit) octet (sym o ∙ before) fits
      ∙ ap (λ (os : List ℕ). os ++ octet ∷ []) (sym (given_of_digits line s))

  pub given_second_full : (high octet : ℕ) → waiting ≡ Some high → last ≡ Some octet → 131074 < length line + 1
      → octets_given (line ++ digit ∷ []) ≡ octets_given line ++ []
  given_second_full high octet some before full =
      let (s, w, o) = holds_digits at waiting last line h is in
      let many = pairs_fill (length line) (length (octets_of_digits line)) (length-octets_odd line high (sym w ∙ some)) full in
      given_pair high some
      ∙ given-push_full (octets_of_digits line) (16 * high + value_of digit) octet (sym o ∙ before) many
      ∙ sym (given_of_digits line s) ∙ sym (append-nil (octets_given line))

  pub given_second_none : (high : ℕ) → waiting ≡ Some high → last ≡ None → octets_given (line ++ digit ∷ []) ≡ octets_given line ++ []
  given_second_none high some before =
      let (s, w, o) = holds_digits at waiting last line h is in
      let empty = last_none (octets_of_digits line) (sym o ∙ before) in
      given_pair high some ∙ ap (λ (os : List ℕ). take 65536 (all_but_last (os ++ (16 * high + value_of digit) ∷ []))) empty
      ∙ sym (given_of_digits line s ∙ ap (λ (os : List ℕ). take 65536 (all_but_last os)) empty) ∙ sym (append-nil (octets_given line))

-- ---- whole pairs of digits at once

module _ (line digits : List ℕ) (at : Stage) (waiting last : Option ℕ) (h : Holds at waiting last line) (is : at ≡ stage.Digits)
    (even : waiting ≡ None) (all : AreDigits digits) (pairs : waiting_value digits ≡ None) where
  pub holds_pairs : (octet : ℕ) → last_of (octets_of_digits digits) ≡ Some octet → Holds at waiting (Some octet) (line ++ digits)
  holds_pairs octet some =
      let (s, w, o) = holds_digits at waiting last line h is in
      let none : waiting_value line ≡ None = sym w ∙ even in
      subst (λ (a : Stage). Holds a waiting (Some octet) (line ++ digits)) (sym is)
      (holds_from (line ++ digits) waiting (Some octet) (AreDigits-append line digits s all)
      (even ∙ sym (waiting-append line digits none ∙ pairs))
      (sym (ap last_of (octets-append line digits none) ∙ last_of-append (octets_of_digits line) (octets_of_digits digits) octet some)))

  given_pairs : 1 ≤ length digits → length line + length digits ≤ 131072
      → octets_given (line ++ digits) ≡ octets_of_digits line ++ all_but_last (octets_of_digits digits)
  given_pairs some fits =
      let (s, w, o) = holds_digits at waiting last line h is in
      let none : waiting_value line ≡ None = sym w ∙ even in
      let fits = halves_fit (length line) (length digits) (length (octets_of_digits line))
      (length (octets_of_digits digits)) (length-octets_even line none) (length-octets_even digits pairs)
      some fits in
      given_of_digits (line ++ digits) (AreDigits-append line digits s all)
      ∙ ap (λ (os : List ℕ). take 65536 (all_but_last os)) (octets-append line digits none)
      ∙ given-append (octets_of_digits line) (octets_of_digits digits) fits.0 fits.1

  -- the first ones
  pub given_first_pairs : last ≡ None → 1 ≤ length digits → length line + length digits ≤ 131072
      → octets_given (line ++ digits) ≡ octets_given line ++ all_but_last (octets_of_digits digits)
  given_first_pairs first some fits =
      let (s, w, o) = holds_digits at waiting last line h is in
      let empty = last_none (octets_of_digits line) (sym o ∙ first) in
      let nothing : octets_given line ≡ [] = given_of_digits line s ∙ ap (λ (os : List ℕ). take 65536 (all_but_last os)) empty in
      given_pairs some fits ∙ ap (λ (os : List ℕ). os ++ all_but_last (octets_of_digits digits)) (empty ∙ sym nothing)

  -- others: they give the octet that was held back
  pub given_more_pairs : (octet : ℕ) → last ≡ Some octet → 1 ≤ length digits → length line + length digits ≤ 131072
      → octets_given (line ++ digits) ≡ octets_given line ++ octet ∷ all_but_last (octets_of_digits digits)
  given_more_pairs octet held some fits =
      let (s, w, o) = holds_digits at waiting last line h is in
      let short = half_fits (length line) (length digits) (length (octets_of_digits line)) (length-octets_even line (sym w ∙ even)) fits in
      let back : List ℕ = all_but_last (octets_of_digits digits) in
      given_pairs some fits
      ∙ given-behind (octets_of_digits line) octet back (sym o ∙ held) short
      ∙ ap (λ (os : List ℕ). os ++ octet ∷ back) (sym (given_of_digits line s))

-- ---- any other byte

long_no_dot : (front : List ℕ) (a b : ℕ) (back : List ℕ) → is_dot (front ++ a ∷ (back ++ b ∷ [])) ≡ false
long_no_dot [] a b [] = refl
long_no_dot [] a b (c ∷ back) = refl
long_no_dot (d ∷ []) a b back = refl
long_no_dot (d ∷ e ∷ front) a b back = refl

-- a tail grows
stage_of_tail-push : (n : ℕ) (tail : List ℕ) (byte column : ℕ)
    → stage_after (stage_of_tail n (Some tail)) byte column ≡ stage_of_tail n (Some (tail ++ byte ∷ []))
stage_of_tail-push n [] byte column = refl
stage_of_tail-push n (a ∷ []) byte column = refl
stage_of_tail-push n (a ∷ b ∷ rest) byte column = refl

-- a byte after digits, where it is not a lone `.`
no_dot : (line : List ℕ) (byte : ℕ) → (byte == 46 && length line == 0) ≡ false → is_dot (line ++ byte ∷ []) ≡ false
no_dot [] byte more = elim (cases_Bool (byte == 46)) [
  | inl point ↦ (let wrong = rw point at more in absurd (cc))
  | inr other ↦ other
]
no_dot (d ∷ []) byte more = refl
no_dot (d ∷ e ∷ rest) byte more = refl

-- the first byte that is no digit
holds_end_of_digits : (line : List ℕ) (waiting last : Option ℕ) (byte : ℕ)
    → AreDigits line → waiting ≡ waiting_value line → last ≡ last_of (octets_of_digits line)
    → is_hex_digit byte ≡ false → Holds (stage_after stage.Digits byte (length line)) waiting last (line ++ byte ∷ [])
holds_end_of_digits line waiting last byte s w o fails =
    elim (cases_Bool (byte == 47)) [
      | inl slash ↦
          rw slash (read line (Some []) (ap (λ (b : ℕ). line ++ b ∷ []) (eqb-true byte 47 slash)) s w o refl)
      | inr other ↦ rw other (elim (cases_Bool (byte == 46 && length line == 0)) [
        | inl alone ↦ (
            let (is_dot_byte, first) = and_parts (byte == 46) (length line == 0) alone in
            let empty : line ≡ [] = nil_from_length line (eqb-true (length line) 0 first) in
            rw alone (dot refl (rw (empty, eqb-true byte 46 is_dot_byte) refl)))
        | inr more ↦
            rw more (bad line byte [] refl s fails other (no_dot line byte more) refl)
      ])
    ]

pub holds_after : (line : List ℕ) (at : Stage) (waiting last : Option ℕ) (byte column : ℕ) → Holds at waiting last line → column ≡ length line
    → (at ≡ stage.Digits → is_hex_digit byte ≡ false) → Holds (stage_after at byte column) waiting last (line ++ byte ∷ [])
holds_after line at waiting last byte column (dot e l) c fails =
    rw (e, l) (bad [] 46 (byte ∷ []) refl tt refl refl refl refl)
holds_after line at waiting last byte column (bad front b back l s f other dotless e) c fails =
    rw e (bad front b (back ++ byte ∷ []) (rw l (append_assoc front (b ∷ back) (byte ∷ []))) s f other
    (rw (l, append_assoc front (b ∷ back) (byte ∷ [])) (long_no_dot front b byte back)) refl)
holds_after line at waiting last byte column (read digits None l s w o e) c fails =
    let all : line ≡ digits = l ∙ append-nil digits in
    rw (e, c, all) (holds_end_of_digits digits waiting last byte s w o (fails e))
holds_after line at waiting last byte column (read digits (Some tail) l s w o e) c fails =
    rw (e, l) (read digits (Some (tail ++ byte ∷ [])) (append_assoc digits (47 ∷ tail) (byte ∷ [])) s w o
    (stage_of_tail-push (length digits) tail byte column))

leading_after : (line : List ℕ) (at : Stage) (waiting last : Option ℕ) (byte : ℕ) → Holds at waiting last line
    → (at ≡ stage.Digits → is_hex_digit byte ≡ false) → leading_digits (line ++ byte ∷ []) ≡ leading_digits line
leading_after line at waiting last byte (dot e l) fails = rw l refl
leading_after line at waiting last byte (bad front b back l s f other dotless e) fails =
    rw (l, append_assoc front (b ∷ back) (byte ∷ []))
    (leading-stop front b (back ++ byte ∷ []) s f ∙ sym (leading-stop front b back s f))
leading_after line at waiting last byte (read digits None l s w o e) fails =
    let all : line ≡ digits = l ∙ append-nil digits in
    rw all (leading-stop digits byte [] s (fails e) ∙ sym (leading-all digits s))
leading_after line at waiting last byte (read digits (Some tail) l s w o e) fails =
    rw (l, append_assoc digits (47 ∷ tail) (byte ∷ []))
    (leading-stop digits 47 (tail ++ byte ∷ []) s refl ∙ sym (leading-stop digits 47 tail s refl))

pub given_after : (line : List ℕ) (at : Stage) (waiting last : Option ℕ) (byte : ℕ) → Holds at waiting last line
    → (at ≡ stage.Digits → is_hex_digit byte ≡ false) → octets_given (line ++ byte ∷ []) ≡ octets_given line ++ []
given_after line at waiting last byte h fails =
    ap (λ (l : List ℕ). take 65536 (all_but_last (octets_of_digits l))) (leading_after line at waiting last byte h fails)
    ∙ sym (append-nil (octets_given line))

-- ---- the end of a line

pub fault-stage_bad : (line : List ℕ) (at : Stage) (waiting last : Option ℕ) (column : ℕ) → Holds at waiting last line → at ≡ stage.BadDigit column
    → fault_of line ≡ Some (BadDigit column)
fault-stage_bad line at waiting last column (dot e l) is = absurd (cc)
fault-stage_bad line at waiting last column (bad front byte back l s f other dotless e) is =
    let n : length front ≡ column = cc in
    rw (l, ← n) (fault-bad_digit front byte back s f other (rw l at dotless))
fault-stage_bad line at waiting last column (read digits None l s w o e) is = absurd (cc)
fault-stage_bad line at waiting last column (read digits (Some []) l s w o e) is = absurd (cc)
fault-stage_bad line at waiting last column (read digits (Some (a ∷ [])) l s w o e) is = absurd (cc)
fault-stage_bad line at waiting last column (read digits (Some (a ∷ b ∷ tail)) l s w o e) is = absurd (cc)

-- a tail that is not one byte
abbrev pub no_tail : Stage → Bool
no_tail stage.Digits = false
no_tail stage.Dot = false
no_tail (stage.BadDigit column) = false
no_tail (stage.Slash digits) = true
no_tail (stage.Tail digits byte) = false
no_tail stage.LongTail = true

pub fault-stage_tail : (line : List ℕ) (at : Stage) (waiting last : Option ℕ) → Holds at waiting last line → no_tail at ≡ true
    → fault_of line ≡ Some BadLength
fault-stage_tail line at waiting last (dot e l) is = absurd (cc)
fault-stage_tail line at waiting last (bad front byte back l s f other dotless e) is = absurd (cc)
fault-stage_tail line at waiting last (read digits None l s w o e) is = absurd (cc)
fault-stage_tail line at waiting last (read digits (Some []) l s w o e) is = rw l (fault-tail digits (Some []) s refl)
fault-stage_tail line at waiting last (read digits (Some (a ∷ [])) l s w o e) is = absurd (cc)
fault-stage_tail line at waiting last (read digits (Some (a ∷ b ∷ tail)) l s w o e) is =
    rw l (fault-tail digits (Some (a ∷ b ∷ tail)) s refl)
