-- A step in a leaf, a number or a label adds its byte to the bytes that the state stands for.
use Rattle.std.specs.Prelude.{nat_lt, nat_le, slice_index, option_map}
use Rattle.std.proofs.Common.{◌≡◌, ℕ, zero, suc, ◌+◌, ◌-◌, ◌*◌, ◌/◌, ◌%◌, ◌^◌, ◌<◌, ◌≤◌, ◌==◌, ◌&&◌, List, [], ◌∷◌}
use Rattle.std.proofs.Common.{◌++◌, length, Option, Some, None, refl, sym, ap, ◌∙◌, subst, arith, append_assoc}
use Rattle.std.proofs.Common.{append-nil, eqb-true}
use Rattle.std.specs.Fmt.{decimal}
use Rattle.std.proofs.lemmas.Bool.{ltb-true, leb-true, and_parts}
use Rattle.std.proofs.lemmas.Nat.{pow_pos}
use Rattle.std.proofs.lemmas.List.{length_push, map-append}
use Rattle.std.proofs.Math.Pow.{pow_mono}
use Rattle.csn_treetext.specs.declared.stack.TheConstants.{MOST_ROUND}
use Rattle.csn_treetext.specs.declared.bounds.TheConstants.{GREATEST_ALTERNATIVE, MOST_SHORT, MOST_OCTETS}
use Rattle.csn_bits.specs.declared.bits.TheConstants.{MOST_BITS}
use Rattle.hex.specs.Hex.{encode_upper, upper_digits}
use Rattle.csn_bits.specs.Line.{tail_written}
use Rattle.csn_bits.proofs.Packing.{IsBits-append}
use Rattle.csn_bits.proofs.Written.{tail_written-some}
use Rattle.csn_desc.specs.TreeV.{bits}
use Rattle.csn_treetext.specs.declared.version.Version.{Version}
use Rattle.csn_treetext.specs.declared.version.Version.TheVariants.{First, Second}
use Rattle.csn_treetext.specs.declared.stack.Frame.{Frame}
use Rattle.csn_treetext.specs.declared.name.NameAt.{NameAt}
use Rattle.csn_treetext.specs.declared.name.NameAt.TheVariants.{Front}
use Rattle.csn_treetext.specs.reader.Mode.{Mode}
use Rattle.csn_treetext.specs.reader.Mode.{Width, Quote, Value, Hash, Number, Name, NameEnd, Octets, Slash, Bare}
use Rattle.csn_treetext.specs.Text.{text_of, bit_digits, is_short}
use Rattle.csn_bits.specs.Numbers.{low_bits}
use Rattle.csn_treetext.specs.reader.Numeral.{grown, greatest_of}
use Rattle.csn_treetext.specs.reader.Machine.{State, state, with_stack, IsMode, AreOctets, name_after, name_from}
use Rattle.csn_treetext.specs.reader.Machine.{may_end, after_name, after_width, after_quote, after_hash, after_number}
use Rattle.csn_treetext.specs.reader.Machine.{after_octets, after_high, after_slash, after_bits, is_bit_digit}
use Rattle.csn_treetext.specs.reader.Machine.{are_many, last_octet, upper_value, cut_octets}
use Rattle.csn_treetext.proofs.Numerals.{grew_first, grew_next}
use Rattle.csn_treetext.proofs.Names.{label_of_run, run-append}
use Rattle.csn_treetext.proofs.OctetLeaves.{encode_upper-push, digit-upper_value, cut_text}
use Rattle.csn_treetext.proofs.Spelled.{before, spelled, IsStack, StandsFor, level_low, tree_stands}
use Rattle.csn_treetext.proofs.WholeTrees.{if_gave, given, nothing_given, spelled_as, with_byte, number_text, number_is_tree, cut_is_tree, closed_stands}

-- ---- one byte more in a leaf, a number or a label

-- a mode more, where the bytes before it grew
pub with_stands : (version : Version) (stack : List Frame) (text : List ℕ) (o : Option Mode) (s : State)
    → ((mode : Mode) → o ≡ Some mode → StandsFor version text (state mode stack))
    → with_stack stack o ≡ Some s → StandsFor version text s
with_stands version stack text None s is e = nothing_given s e
with_stands version stack text (Some mode) s is e = given _ s e (is mode refl)

pub mapped : {A P : Type 0} (f : A → Mode) (o : Option A) (mode : Mode) → option_map f o ≡ Some mode → ((x : A) → o ≡ Some x → f x ≡ mode → P) → P
mapped f None mode e is = absurd (let z : None ≡ Some mode = e in cc)
mapped f (Some x) mode e is = is x refl (cc)

pub as_mode : {version : Version} {text : List ℕ} {stack : List Frame} (a b : Mode)
    → a ≡ b → StandsFor version text (state a stack) → StandsFor version text (state b stack)
as_mode {version} {text} {stack} a b same is = subst (λ m. StandsFor version text (state m stack)) same is

-- the byte behind a front and what grew behind it
pub behind_front : (front a b : List ℕ) (byte : ℕ) → b ≡ a ++ byte ∷ [] → front ++ b ≡ (front ++ a) ++ byte ∷ []
behind_front front a b byte same = ap (λ l. front ++ l) same ∙ sym (append_assoc front a (byte ∷ []))

pub width_stands : (version : Version) (width : ℕ) (stack : List Frame) (byte : ℕ) (mode : Mode)
    → IsStack stack → IsMode (Width width) → after_width width byte ≡ Some mode
    → StandsFor version (spelled version (Width width) stack ++ byte ∷ []) (state mode stack)
width_stands version width stack byte mode h m e =
    if_gave (byte == 39) _ _ _ e
    (λ is e1. as_mode (Quote width) mode (cc) (with_byte (before version stack ++ decimal width) byte 39 is (record {
      stack = h;
      mode = m;
      placed = tt;
      bytes = sym (append_assoc (before version stack) (decimal width) (39 ∷ []));
    })))
    (λ _ e1. mapped Width (grown MOST_SHORT (Some width) byte) mode e1 (λ n grew same. as_mode (Width n) mode same (
    let g = grew_next MOST_SHORT width n byte (omega arith) grew in
    record {
      stack = h;
      mode = (omega (arith, g.0), g.1.few);
      placed = tt;
      bytes = behind_front (before version stack)
          (decimal width) (decimal n) byte g.1.digits;
    })))

-- the greatest number of bits that a leaf has as one
pub greatest_small : (width : ℕ) → width ≤ MOST_SHORT → greatest_of width < 2 ^ 64
greatest_small width few =
    let some : 0 < 2 ^ width = pow_pos width in
    let power : 2 ^ width ≤ 2 ^ 64 = pow_mono {i = width} {j = 64} few in
    omega arith

pub quote_stands : (version : Version) (width : ℕ) (stack : List Frame) (byte : ℕ) (mode : Mode)
    → IsStack stack → IsMode (Quote width) → after_quote width byte ≡ Some mode
    → StandsFor version (spelled version (Quote width) stack ++ byte ∷ []) (state mode stack)
quote_stands version width stack byte mode h m e =
    mapped (Value width) (grown (greatest_of width) None byte) mode e (λ n grew same. as_mode (Value width n) mode same (
    let g = grew_first (greatest_of width) n byte grew in
    record {
      stack = h;
      mode = (m.0, m.1, g.few);
      placed = tt;
      bytes =
          ap (λ l. before version stack ++ (decimal width ++ 39 ∷ l)) g.digits
          ∙ ap (λ l. before version stack ++ l) (sym (append_assoc (decimal width) (39 ∷ []) (byte ∷ [])))
          ∙ sym (append_assoc (before version stack) (decimal width ++ 39 ∷ []) (byte ∷ []));
    }))

pub value_stands : (version : Version) (width number : ℕ) (stack : List Frame) (byte : ℕ) (s : State)
    → IsStack stack → IsMode (Value width number) → after_number (grown (greatest_of width) (Some number) byte)
    width number stack byte ≡ Some s → StandsFor version (spelled version (Value width number) stack ++ byte ∷ []) s
value_stands version width number stack byte s h m e = by_number (grown (greatest_of width) (Some number) byte) refl
  where
    by_number : (o : Option ℕ) → grown (greatest_of width) (Some number) byte ≡ o
        → StandsFor version (spelled version (Value width number) stack ++ byte ∷ []) s
    by_number None grew =
        spelled_as s (ap (λ l. (before version stack ++ l) ++ byte ∷ []) (number_text version width number m.0 m.1 m.2))
        (closed_stands version stack (bits (low_bits width number)) byte s h
        (number_is_tree (length stack) width number (level_low stack h) m.1) (rw grew at e))
    by_number (Some n) grew =
        let g = (grew_next (greatest_of width) number n byte (greatest_small width m.1) grew).1 in
        given _ s (rw grew at e) (record {
          stack = h;
          mode = (m.0, m.1, g.few);
          placed = tt;
          bytes =
              ap (λ l. before version stack ++ (decimal width ++ 39 ∷ l)) g.digits
              ∙ ap (λ l. before version stack ++ l) (sym (append_assoc (decimal width) (39 ∷ decimal number) (byte ∷ [])))
              ∙ sym (append_assoc (before version stack) (decimal width ++ 39 ∷ decimal number) (byte ∷ []));
        })

pub hash_stands : (version : Version) (stack : List Frame) (byte : ℕ) (mode : Mode)
    → IsStack stack → length stack < MOST_ROUND → after_hash None byte ≡ Some mode
    → StandsFor version (spelled version Hash stack ++ byte ∷ []) (state mode stack)
hash_stands version stack byte mode h low e =
    mapped Number (grown GREATEST_ALTERNATIVE None byte) mode e (λ n grew same. as_mode (Number n) mode same (
    let g = grew_first GREATEST_ALTERNATIVE n byte grew in
    record {
      stack = h;
      mode = g.few;
      placed = low;
      bytes = ap (λ l. before version stack ++ 35 ∷ l) g.digits ∙ sym (append_assoc (before version stack) (35 ∷ []) (byte ∷ []));
    }))

pub number_stands : (version : Version) (number : ℕ) (stack : List Frame) (byte : ℕ) (mode : Mode)
    → IsStack stack → length stack < MOST_ROUND → after_hash (Some number) byte ≡ Some mode
    → StandsFor version (spelled version (Number number) stack ++ byte ∷ []) (state mode stack)
number_stands version number stack byte mode h low e =
    mapped Number (grown GREATEST_ALTERNATIVE (Some number) byte) mode e (λ n grew same. as_mode (Number n) mode same (
    let g = (grew_next GREATEST_ALTERNATIVE number n byte (omega arith) grew).1 in
    record {
      stack = h;
      mode = g.few;
      placed = low;
      bytes = behind_front (before version stack) (35 ∷ decimal number) (35 ∷ decimal n) byte (ap (λ l. 35 ∷ l) g.digits);
    }))

pub name_stands : (version : Version) (name : List ℕ) (at : NameAt) (stack : List Frame) (byte : ℕ) (mode : Mode)
    → IsStack stack → IsMode (Name name at) → length stack < MOST_ROUND → after_name name at byte ≡ Some mode
    → StandsFor version (spelled version (Name name at) stack ++ byte ∷ []) (state mode stack)
name_stands version name at stack byte mode h m low e =
    if_gave (byte == 62 && may_end at) _ _ _ e
    (λ both e1.
    let (is, ends) = and_parts (byte == 62) (may_end at) both in
    as_mode (NameEnd name) mode (cc) (with_byte (before version stack ++ 60 ∷ name) byte 62 is (record {
      stack = h;
      mode = label_of_run name at m ends;
      placed = low;
      bytes = sym (append_assoc (before version stack) (60 ∷ name) (62 ∷ []));
    })))
    (λ _ e1. mapped (Name (name ++ byte ∷ [])) (name_after at byte) mode e1 (λ next after same. as_mode (Name (name ++ byte ∷ []) next) mode same (record {
      stack = h;
      mode = run-append (Some Front) name (byte ∷ []) ∙ ap (λ o. name_from o byte) m ∙ after;
      placed = low;
      bytes = sym (append_assoc (before version stack) (60 ∷ name) (byte ∷ []));
    })))

-- ---- one byte more in a long leaf

pub AreOctets-push : (octets : List ℕ) (octet : ℕ) → AreOctets octets → octet < 256 → AreOctets (octets ++ octet ∷ [])
AreOctets-push [] octet are small zero = small
AreOctets-push [] octet are small (suc k) = omega arith
AreOctets-push (o ∷ octets) octet are small zero = are 0
AreOctets-push (o ∷ octets) octet are small (suc k) = AreOctets-push octets octet (λ i. are (suc i)) small k

pub high_stands : (version : Version) (octets : List ℕ) (high : ℕ) (stack : List Frame) (byte : ℕ) (mode : Mode)
    → IsStack stack → IsMode (Octets octets (Some high))
    → version ≡ Second → after_high octets high (upper_value byte) ≡ Some mode
    → StandsFor version (spelled version (Octets octets (Some high)) stack ++ byte ∷ []) (state mode stack)
high_stands version octets high stack byte mode h m second e = by_value (upper_value byte) refl
  where
    by_value : (o : Option ℕ) → upper_value byte ≡ o → StandsFor version (spelled version (Octets octets (Some high)) stack ++ byte ∷ []) (state mode stack)
    by_value None is = absurd (let z : None ≡ Some mode = (rw is at e) in cc)
    by_value (Some low) is =
        let (small, digit) = digit-upper_value byte low is in
        let small_high : high < 16 = m.1.1 in
        let front : (16 * high + low) / 16 ≡ high = omega arith in
        let last : (16 * high + low) % 16 ≡ low = omega arith in
        let gave = rw is at e in
        as_mode (Octets (octets ++ (16 * high + low) ∷ []) None) mode (cc) (record {
          stack = h;
          mode = (AreOctets-push octets (16 * high + low) m.0 (omega arith), (let few = m.1.0 in omega (arith, length_push octets (16 * high + low))));
          placed = second;
          bytes =
              ap (λ l. before version stack ++ 120 ∷ l)
              (append-nil (encode_upper (octets ++ (16 * high + low) ∷ [])) ∙ encode_upper-push octets (16 * high + low)
              ∙ (rw (front, last, digit) (sym (append_assoc (encode_upper octets) (slice_index upper_digits high ∷ []) (byte ∷ [])))))
              ∙ sym (append_assoc (before version stack) (120 ∷ (encode_upper octets ++ slice_index upper_digits high ∷ [])) (byte ∷ []));
        })

-- a leaf of whole octets
pub many_text : (octets : List ℕ) → AreOctets octets → 9 ≤ length octets → length octets ≤ MOST_OCTETS
    → text_of Second (cut_octets octets 8) ≡ 120 ∷ (encode_upper octets ++ [])
many_text octets are many few = cut_text octets 8 are many few (omega arith) (omega arith) (omega arith)

pub octets_stand : (octets : List ℕ) (stack : List Frame) (byte : ℕ) (s : State)
    → IsStack stack → IsMode (Octets octets None) → after_octets octets (upper_value byte) stack byte ≡ Some s
    → StandsFor Second (spelled Second (Octets octets None) stack ++ byte ∷ []) s
octets_stand octets stack byte s h m e = by_value (upper_value byte) refl
  where
    by_value : (o : Option ℕ) → upper_value byte ≡ o → StandsFor Second (spelled Second (Octets octets None) stack ++ byte ∷ []) s
    by_value (Some high) is =
        let (small, digit) = digit-upper_value byte high is in
        if_gave (nat_lt (length octets) MOST_OCTETS) _ _ _ (rw is at e)
        (λ low e1. given _ s e1 (record {
          stack = h;
          mode = (m.0, (ltb-true _ _ low, small));
          placed = refl;
          bytes =
              ap (λ l. before Second stack ++ 120 ∷ l)
              (ap (λ c. encode_upper octets ++ c ∷ []) digit ∙ ap (λ l. l ++ byte ∷ []) (sym (append-nil (encode_upper octets))))
              ∙ sym (append_assoc (before Second stack) (120 ∷ (encode_upper octets ++ [])) (byte ∷ []));
        }))
        (λ _ e1. nothing_given s e1)
    by_value None is =
        if_gave (are_many octets) _ _ _ (rw is at e)
        (λ many e1.
        let count = leb-true _ _ many in
        if_gave (byte == 47) _ _ _ e1
        (λ slash e2. if_gave (last_octet octets % 2 == 0) _ _ _ e2
        (λ even e3. given _ s e3 (with_byte (before Second stack ++ 120 ∷ (encode_upper octets ++ [])) byte 47 slash (record {
          stack = h;
          mode = (m.0, count, m.1, eqb-true _ _ even);
          placed = refl;
          bytes =
              ap (λ l. before Second stack ++ 120 ∷ (l ++ 47 ∷ [])) (sym (append-nil (encode_upper octets)))
              ∙ sym (append_assoc (before Second stack) (120 ∷ (encode_upper octets ++ [])) (47 ∷ []));
        })))
        (λ _ e3. nothing_given s e3))
        (λ _ e2. spelled_as s (ap (λ l. (before Second stack ++ l) ++ byte ∷ []) (many_text octets m.0 count m.1))
        (closed_stands Second stack (cut_octets octets 8) byte s h
        (cut_is_tree (length stack) octets 8 (level_low stack h) m.0 (omega arith) m.1 (omega arith)) e2)))
        (λ _ e1. nothing_given s e1)

pub slash_stands : (octets : List ℕ) (stack : List Frame) (byte : ℕ) (s : State)
    → IsStack stack → IsMode (Slash octets) → after_slash octets stack byte ≡ Some s
    → StandsFor Second (spelled Second (Slash octets) stack ++ byte ∷ []) s
slash_stands octets stack byte s h m e =
    if_gave ((nat_le 49 byte && nat_le byte 55) && last_octet octets % 2 ^ (56 - byte) == 0) _ _ _ e
    (λ all e1.
    let (within, zeros) = and_parts (nat_le 49 byte && nat_le byte 55) (last_octet octets % 2 ^ (56 - byte) == 0) all in
    let (low_end, high_end) = and_parts (nat_le 49 byte) (nat_le byte 55) within in
    let least = leb-true _ _ low_end in
    let most = leb-true _ _ high_end in
    let same : 56 - byte ≡ 8 - (byte - 48) = omega arith in
    let unused : last_octet octets % 2 ^ (8 - (byte - 48)) ≡ 0 = (rw same at (eqb-true _ _ zeros)) in
    let many = m.1 in
    let few = m.2 in
    let text = cut_text octets (byte - 48) m.0 m.1 m.2 (omega arith) (omega arith) unused in
    given _ s e1 (spelled_as _
    (ap (λ l. before Second stack ++ l) (text ∙ ap (λ l. 120 ∷ (encode_upper octets ++ l)) (tail_is byte least most)
    ∙ ap (λ l. 120 ∷ l) (sym (append_assoc (encode_upper octets) (47 ∷ []) (byte ∷ []))))
    ∙ sym (append_assoc (before Second stack) (120 ∷ (encode_upper octets ++ 47 ∷ [])) (byte ∷ [])))
    (tree_stands Second stack (cut_octets octets (byte - 48)) h (cut_is_tree (length stack) octets (byte - 48)
    (level_low stack h) m.0 (omega arith) m.2 (omega arith)))))
    (λ _ e1. nothing_given s e1)
  where
    tail_is : (byte : ℕ) → 49 ≤ byte → byte ≤ 55 → tail_written ((byte - 48) % 8) ≡ 47 ∷ byte ∷ []
    tail_is byte least most =
        let small : (byte - 48) % 8 ≡ byte - 48 = omega arith in
        let is : 48 + (byte - 48) ≡ byte = omega arith in
        ap tail_written small ∙ tail_written-some (byte - 48) (omega arith) ∙ ap (λ c. 47 ∷ c ∷ []) is

pub bits_stand : (b : List ℕ) (stack : List Frame) (byte : ℕ) (s : State) → IsStack stack → IsMode (Bare b)
    → after_bits b stack byte ≡ Some s → StandsFor First (spelled First (Bare b) stack ++ byte ∷ []) s
bits_stand b stack byte s h m e =
    if_gave (is_bit_digit byte) _ _ _ e
    (λ digit e1. if_gave (nat_lt (length b) MOST_BITS) _ _ _ e1
    (λ few e2.
    let (low_end, high_end) = and_parts (nat_le 48 byte) (nat_le byte 49) digit in
    let least = leb-true _ _ low_end in
    let most = leb-true _ _ high_end in
    let room = ltb-true _ _ few in
    let is : 48 + (byte - 48) ≡ byte = omega arith in
    given _ s e2 (record {
      stack = h;
      mode = (IsBits-append b ((byte - 48) ∷ []) m.0 (omega arith, tt), omega (arith, length_push b (byte - 48)));
      placed = refl;
      bytes =
          ap (λ l. before First stack ++ 98 ∷ l) (map-append (λ bit. 48 + bit) b ((byte - 48) ∷ []) ∙ ap (λ c. bit_digits b ++ c ∷ []) is)
          ∙ sym (append_assoc (before First stack) (98 ∷ bit_digits b) (byte ∷ []));
    }))
    (λ _ e2. nothing_given s e2))
    (λ _ e1. if_gave (is_short b) _ _ _ e1
    (λ _ e2. nothing_given s e2)
    (λ other e2. spelled_as s (ap (λ l. (before First stack ++ l) ++ byte ∷ []) (rw other refl))
    (closed_stands First stack (bits b) byte s h (record { fits = level_low stack h; parts = m }) e2)))
