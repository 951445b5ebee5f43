-- The reader goes through the texts of leaves, numbers and labels.
use Rattle.std.specs.Prelude.{option_map, nat_lt, nat_le, slice_index}
use Rattle.std.proofs.Common.{◌≡◌, ℕ, zero, suc, ◌+◌, ◌-◌, ◌*◌, ◌/◌, ◌%◌, ◌^◌, ◌<◌, ◌≤◌, ◌==◌, true, false, List, []}
use Rattle.std.proofs.Common.{◌∷◌, ◌++◌, length, Option, Some, None, refl, sym, ap, ◌∙◌, arith, inl, inr}
use Rattle.std.proofs.Common.{append_assoc, append-nil}
use Rattle.std.specs.Fmt.{decimal}
use Rattle.std.proofs.lemmas.Fmt.{decimal_by_steps}
use Rattle.std.proofs.lemmas.Bool.{eqb-false, eqb-true}
use Rattle.std.proofs.lemmas.Bool.{cases_Bool, cases_lt, le-leb, lt-ltb, leb-true, and_parts}
use Rattle.std.proofs.lemmas.List.{length_push}
use Rattle.csn_treetext.specs.declared.stack.TheConstants.{MOST_ROUND}
use Rattle.csn_treetext.specs.declared.bounds.TheConstants.{GREATEST_ALTERNATIVE, MOST_SHORT, MOST_OCTETS}
use Rattle.csn_bits.specs.declared.bits.TheConstants.{MOST_BITS}
use Rattle.hex.specs.Hex.{encode_upper, encode_with, upper_digits}
use Rattle.csn_bits.specs.Octets.{IsBits, octets_of}
use Rattle.csn_bits.specs.Line.{tail_written}
use Rattle.csn_bits.proofs.Packing.{length-octets_of}
use Rattle.csn_desc.specs.Label.{IsLabel}
use Rattle.csn_bits.specs.Numbers.{number_of}
use Rattle.csn_desc.specs.TreeV.{TreeV, bits, alt, named}
use Rattle.csn_treetext.specs.declared.version.Version.{Version}
use Rattle.csn_treetext.specs.declared.version.Version.TheVariants.{First, Second}
use Rattle.csn_treetext.specs.declared.stack.Frame.{Frame}
use Rattle.csn_treetext.specs.declared.stack.Frame.TheVariants.{Row, Alt, Named}
use Rattle.csn_treetext.specs.declared.name.NameAt.{NameAt}
use Rattle.csn_treetext.specs.declared.name.NameAt.TheVariants.{Front, Within}
use Rattle.csn_treetext.specs.reader.Mode.{Mode}
use Rattle.csn_treetext.specs.reader.Mode.{Start, Width, Quote, Value, Hash, Number, Name, Octets, Slash, Bare}
use Rattle.csn_treetext.specs.Text.{bit_digits, leaf_text, is_short, short_text, other_text}
use Rattle.csn_treetext.specs.reader.Numeral.{greatest_of}
use Rattle.csn_treetext.specs.reader.Machine.{State, state, AreOctets, with_tree, closed, name_after, name_run}
use Rattle.csn_treetext.specs.reader.Machine.{are_many, last_octet, upper_value, step, steps, root_of, ended}
use Rattle.csn_treetext.proofs.Numerals.{grown_first, grown_next}
use Rattle.csn_bits.proofs.NumberFacts.{number_of-lt, low_bits-number_of}
use Rattle.csn_treetext.proofs.Names.{run_of_label, run_none, not_greater}
use Rattle.csn_treetext.proofs.OctetLeaves.{upper_value-digit, cut_bits, cut-octets_of, last_unused, used_of, AreOctets-octets_of}
use Rattle.csn_treetext.proofs.WholeTrees.{short_is, eqb-lt, eqb-below}
use Rattle.csn_treetext.proofs.LeafSteps.{greatest_small}

-- ---- runs

-- the tree at the end
abbrev pub end_of : Option State → Option TreeV
end_of None = None
end_of (Some s) = ended s.mode s.stack

abbrev pub run : Version → Option State → List ℕ → Option TreeV
run version o text = end_of (steps version o text)

-- the bytes before a tree ends have the same future as these
abbrev pub At : Mode → List Frame → Option State
At mode stack = Some (state mode stack)

-- what stands behind a tree: nothing, a space or `]`
pub data Stops : List ℕ → Type 0 where
  stops_end : Stops []
  stops_space : {rest : List ℕ} → Stops (32 ∷ rest)
  stops_bracket : {rest : List ℕ} → Stops (93 ∷ rest)

-- ---- a whole tree

pub tree_ended : (stack : List Frame) (t : TreeV) → ended (with_tree stack t).mode (with_tree stack t).stack ≡ root_of (with_tree stack t)
tree_ended [] t = refl
tree_ended (Row ts ∷ stack) t = refl
tree_ended (Alt j ∷ stack) t = tree_ended stack (alt j t)
tree_ended (Named l ∷ stack) t = tree_ended stack (named l t)

pub tree_closed : (version : Version) (stack : List Frame) (t : TreeV) (byte : ℕ)
    → step version (with_tree stack t).mode (with_tree stack t).stack byte ≡ closed stack t byte
tree_closed version [] t byte = refl
tree_closed version (Row ts ∷ stack) t byte = refl
tree_closed version (Alt j ∷ stack) t byte = tree_closed version stack (alt j t) byte
tree_closed version (Named l ∷ stack) t byte = tree_closed version stack (named l t) byte

-- a leaf that only what follows ends
pub leaf_ends : (version : Version) (mode : Mode) (stack : List Frame) (t : TreeV) (rest : List ℕ)
    → Stops rest → ended mode stack ≡ root_of (with_tree stack t) → step version mode stack 32 ≡ closed stack t 32
    → step version mode stack 93 ≡ closed stack t 93
    → run version (At mode stack) rest ≡ run version (Some (with_tree stack t)) rest
leaf_ends version mode stack t rest stops_end at_end at_space at_bracket = at_end ∙ sym (tree_ended stack t)
leaf_ends version mode stack t rest (stops_space {rest = back}) at_end at_space at_bracket =
    ap (λ o. run version o back) (at_space ∙ sym (tree_closed version stack t 32))
leaf_ends version mode stack t rest (stops_bracket {rest = back}) at_end at_space at_bracket =
    ap (λ o. run version o back) (at_bracket ∙ sym (tree_closed version stack t 93))

-- ---- numbers

-- behind the digits of a number that grows byte by byte
pub digits_run : (version : Version) (from : Mode) (to : ℕ → Mode) (stack : List Frame) (most : ℕ) (low : ℕ)
    → ((n : ℕ) → n < 10 → low ≤ n → n ≤ most → step version from stack (48 + n) ≡ At (to n) stack)
    → ((n : ℕ) → 10 ≤ n → n ≤ most → step version (to (n / 10)) stack (48 + n % 10) ≡ At (to n) stack)
    → low ≤ 1 → (n : ℕ) → low ≤ n → n ≤ most → n < 2 ^ 64 → (rest : List ℕ)
    → run version (At from stack) (decimal n ++ rest) ≡ run version (At (to n) stack) rest
digits_run version from to stack most low first next small n least few fits rest =
    decimal_by_steps (λ m ds. low ≤ m → m ≤ most → (rest : List ℕ) → run version (At from stack) (ds ++ rest) ≡ run version (At (to m) stack) rest)
    (λ m one least few rest. ap (λ o. run version o rest) (first m one least few))
    (λ m ds many before least few rest.
    ap (λ l. run version (At from stack) l) (append_assoc ds ((48 + m % 10) ∷ []) rest)
    ∙ before (omega arith) (omega arith) ((48 + m % 10) ∷ rest)
    ∙ ap (λ o. run version o rest) (next m many few))
    n fits least few rest

pub width_first : (version : Version) (stack : List Frame) (n : ℕ) → n < 10 → 1 ≤ n → step version Start stack (48 + n) ≡ At (Width n) stack
width_first version stack zero low some = absurd (omega arith)
width_first version stack (suc zero) low some = refl
width_first version stack (suc (suc zero)) low some = refl
width_first version stack (suc (suc (suc zero))) low some = refl
width_first version stack (suc (suc (suc (suc zero)))) low some = refl
width_first version stack (suc (suc (suc (suc (suc zero))))) low some = refl
width_first version stack (suc (suc (suc (suc (suc (suc zero)))))) low some = refl
width_first version stack (suc (suc (suc (suc (suc (suc (suc zero))))))) low some = refl
width_first version stack (suc (suc (suc (suc (suc (suc (suc (suc zero)))))))) low some = refl
width_first version stack (suc (suc (suc (suc (suc (suc (suc (suc (suc zero))))))))) low some = refl
width_first version stack n low some = absurd (omega arith)

-- a number that has grown
pub none_of : {A B : Type 0} (f : A → B) (o : Option A) (x : A) → o ≡ Some x → option_map f o ≡ Some (f x)
none_of f o x h = ap (option_map f) h

pub width_run : (version : Version) (stack : List Frame) (width : ℕ) → 1 ≤ width → width ≤ MOST_SHORT
    → (rest : List ℕ) → run version (At Start stack) (decimal width ++ rest) ≡ run version (At (Width width) stack)
    rest
width_run version stack width some few rest =
    digits_run version Start Width stack MOST_SHORT 1 (λ n low least _. width_first version stack n low least)
    (λ n many few. digit_more n many few)
    (omega arith) width some few (omega arith) rest
  where
    digit_more : (n : ℕ) → 10 ≤ n → n ≤ MOST_SHORT → step version (Width (n / 10)) stack (48 + n % 10) ≡ At (Width n) stack
    digit_more n many few =
        let other : (48 + n % 10 == 39) ≡ false = eqb-lt (48 + n % 10) 39 (omega arith) in
        rw (other, grown_next MOST_SHORT n many few) refl

pub number_run : (version : Version) (stack : List Frame) (number : ℕ) → number ≤ GREATEST_ALTERNATIVE
    → (rest : List ℕ) → run version (At Hash stack) (decimal number ++ rest) ≡ run version (At (Number number) stack)
    rest
number_run version stack number few rest =
    digits_run version Hash Number stack GREATEST_ALTERNATIVE 0 (λ n low least small. digit_first n low small)
    (λ n many few. digit_more n many few)
    (omega arith) number (omega arith) few (omega arith) rest
  where
    digit_first : (n : ℕ) → n < 10 → n ≤ GREATEST_ALTERNATIVE → step version Hash stack (48 + n) ≡ At (Number n) stack
    digit_first n low few = rw (grown_first GREATEST_ALTERNATIVE n low few) refl

    digit_more : (n : ℕ) → 10 ≤ n → n ≤ GREATEST_ALTERNATIVE → step version (Number (n / 10)) stack (48 + n % 10) ≡ At (Number n) stack
    digit_more n many few =
        let other : (48 + n % 10 == 58) ≡ false = eqb-below (48 + n % 10) 58 (omega arith) in
        rw (other, grown_next GREATEST_ALTERNATIVE n many few) refl

pub value_run : (version : Version) (stack : List Frame) (width number : ℕ)
    → width ≤ MOST_SHORT → number ≤ greatest_of width → (rest : List ℕ)
    → run version (At (Quote width) stack) (decimal number ++ rest) ≡ run version (At (Value width number) stack) rest
value_run version stack width number few small rest =
    let fits = greatest_small width few in
    digits_run version (Quote width) (Value width) stack (greatest_of width) 0 (λ n low least few. digit_first n low few)
    (λ n many few. digit_more n many few)
    (omega arith) number (omega arith) small (omega arith) rest
  where
    digit_first : (n : ℕ) → n < 10 → n ≤ greatest_of width → step version (Quote width) stack (48 + n) ≡ At (Value width n) stack
    digit_first n low few = rw (grown_first (greatest_of width) n low few) refl

    digit_more : (n : ℕ) → 10 ≤ n → n ≤ greatest_of width → step version (Value width (n / 10)) stack (48 + n % 10) ≡ At (Value width n) stack
    digit_more n many few = rw (grown_next (greatest_of width) n many few) refl

pub short_run : (version : Version) (stack : List Frame) (b : List ℕ)
    → IsBits b → 1 ≤ length b → length b ≤ MOST_SHORT → (rest : List ℕ)
    → Stops rest → run version (At Start stack) (short_text b ++ rest) ≡ run version (Some (with_tree stack (bits b)))
    rest
short_run version stack b are some few rest stops =
    let width : ℕ = length b in
    let number : ℕ = number_of b in
    let small = number_of-lt b are in
    let same = low_bits-number_of b are in
    ap (λ l. run version (At Start stack) l) (append_assoc (decimal width) (39 ∷ decimal number) rest)
    ∙ width_run version stack width some few (39 ∷ (decimal number ++ rest))
    ∙ value_run version stack width number few (omega arith) rest
    ∙ leaf_ends version (Value width number) stack (bits b) rest stops
    (ap (λ l. root_of (with_tree stack (bits l))) same)
    (ap (λ l. closed stack (bits l) 32) same)
    (ap (λ l. closed stack (bits l) 93) same)

-- ---- long leaves

pub bits_run : (stack : List Frame) (front b : List ℕ) → IsBits b → length front + length b ≤ MOST_BITS
    → (rest : List ℕ) → run First (At (Bare front) stack) (bit_digits b ++ rest) ≡ run First
    (At (Bare (front ++ b)) stack) rest
bits_run stack front [] are few rest = ap (λ l. run First (At (Bare l) stack) rest) (sym (append-nil front))
bits_run stack front (x ∷ b) are few rest =
    let low_end : nat_le 48 (48 + x) ≡ true = le-leb 48 (48 + x) (omega arith) in
    let high_end : nat_le (48 + x) 49 ≡ true = le-leb (48 + x) 49 (let small = are.0 in omega arith) in
    let room : nat_lt (length front) MOST_BITS ≡ true = lt-ltb (length front) MOST_BITS (omega arith) in
    let is : 48 + x - 48 ≡ x = omega arith in
    let one : step First (Bare front) stack (48 + x) ≡ At (Bare (front ++ x ∷ [])) stack = rw (low_end, high_end, room, is) refl in
    ap (λ o. run First o (bit_digits b ++ rest)) one
    ∙ bits_run stack (front ++ x ∷ []) b are.1 (omega (arith, length_push front x)) rest
    ∙ ap (λ l. run First (At (Bare l) stack) rest) (append_assoc front (x ∷ []) b)

pub octets_run : (stack : List Frame) (front octets : List ℕ)
    → AreOctets octets → length front + length octets ≤ MOST_OCTETS → (rest : List ℕ)
    → run Second (At (Octets front None) stack) (encode_upper octets ++ rest) ≡ run Second
    (At (Octets (front ++ octets) None) stack) rest
unfolding encode_with
octets_run stack front [] are few rest = ap (λ l. run Second (At (Octets l None) stack) rest) (sym (append-nil front))
octets_run stack front (o ∷ octets) are few rest =
    let small : o < 256 = are 0 in
    let high : upper_value (slice_index upper_digits (o / 16)) ≡ Some (o / 16) = upper_value-digit (o / 16) (omega arith) in
    let low : upper_value (slice_index upper_digits (o % 16)) ≡ Some (o % 16) = upper_value-digit (o % 16) (omega arith) in
    let room : nat_lt (length front) MOST_OCTETS ≡ true = lt-ltb (length front) MOST_OCTETS (omega arith) in
    let is : 16 * (o / 16) + o % 16 ≡ o = omega arith in
    let one : step Second (Octets front None) stack (slice_index upper_digits (o / 16)) ≡ At (Octets front (Some (o / 16))) stack = rw (high, room) refl in
    let two : step Second (Octets front (Some (o / 16))) stack (slice_index upper_digits (o % 16)) ≡ At
    (Octets (front ++ o ∷ []) None) stack = rw (low, is) refl in
    ap (λ s. run Second s (slice_index upper_digits (o % 16) ∷ (encode_upper octets ++ rest))) one
    ∙ ap (λ s. run Second s (encode_upper octets ++ rest)) two
    ∙ octets_run stack (front ++ o ∷ []) octets (λ k. are (suc k)) (omega (arith, length_push front o)) rest
    ∙ ap (λ l. run Second (At (Octets l None) stack) rest) (append_assoc front (o ∷ []) octets)

pub even_of : (octet used : ℕ) → 1 ≤ used → used ≤ 7 → octet % 2 ^ (8 - used) ≡ 0 → octet % 2 ≡ 0
even_of octet zero some few h = absurd (omega arith)
even_of octet (suc (suc (suc (suc (suc (suc (suc (suc n)))))))) some few h = absurd (omega arith)
even_of octet used some few h = omega arith

pub eqb-is : (a b : ℕ) → a ≡ b → (a == b) ≡ true
eqb-is a b same = elim (cases_Bool (a == b)) [
  | inl is ↦ is
  | inr other ↦ absurd (eqb-false a b other same)
]

-- a number that is not another one
pub eqb-isnt : (a b : ℕ) → (a ≡ b → ⊥) → (a == b) ≡ false
eqb-isnt a b differs = elim (cases_Bool (a == b)) [
  | inl is ↦ absurd (differs (eqb-true a b is))
  | inr other ↦ other
]

pub octets_end : (stack : List Frame) (octets b : List ℕ) → 9 ≤ length octets → cut_bits octets 8 ≡ b
    → (rest : List ℕ) → Stops rest → run Second (At (Octets octets None) stack) rest ≡ run Second
    (Some (with_tree stack (bits b))) rest
octets_end stack octets b many same rest stops =
    let count : are_many octets ≡ true = le-leb 9 (length octets) many in
    leaf_ends Second (Octets octets None) stack (bits b) rest stops
    (rw count (ap (λ l. root_of (with_tree stack (bits l))) same))
    (rw count (ap (λ l. closed stack (bits l) 32) same))
    (rw count (ap (λ l. closed stack (bits l) 93) same))

pub tail_run : (stack : List Frame) (octets b : List ℕ) (used : ℕ) → 9 ≤ length octets → 1 ≤ used → used ≤ 7
    → last_octet octets % 2 ^ (8 - used) ≡ 0 → cut_bits octets used ≡ b → (rest : List ℕ)
    → run Second (At (Octets octets None) stack) (47 ∷ (48 + used) ∷ rest) ≡ run Second
    (Some (with_tree stack (bits b))) rest
tail_run stack octets b used many some few zeros same rest =
    let count : are_many octets ≡ true = le-leb 9 (length octets) many in
    let even : (last_octet octets % 2 == 0) ≡ true = eqb-is (last_octet octets % 2) 0 (even_of (last_octet octets) used some few zeros) in
    let one : step Second (Octets octets None) stack 47 ≡ At (Slash octets) stack = rw (count, even) refl in
    let low_end : nat_le 49 (48 + used) ≡ true = le-leb 49 (48 + used) (omega arith) in
    let high_end : nat_le (48 + used) 55 ≡ true = le-leb (48 + used) 55 (omega arith) in
    let unused : 56 - (48 + used) ≡ 8 - used = omega arith in
    let clear : (last_octet octets % 2 ^ (8 - used) == 0) ≡ true = eqb-is (last_octet octets % 2 ^ (8 - used)) 0 zeros in
    let is : 48 + used - 48 ≡ used = omega arith in
    let two : step Second (Slash octets) stack (48 + used) ≡ Some (with_tree stack (bits (cut_bits octets used))) =
    rw (low_end, high_end, unused, clear, is) refl in
    ap (λ s. run Second s ((48 + used) ∷ rest)) one
    ∙ ap (λ s. run Second s rest) two
    ∙ ap (λ l. run Second (Some (with_tree stack (bits l))) rest) same

-- the block line of a long leaf
pub line_run : (stack : List Frame) (b : List ℕ) → IsBits b → 65 ≤ length b → length b ≤ MOST_BITS → (rest : List ℕ)
    → Stops rest → run Second (At (Octets [] None) stack) ((encode_upper (octets_of b) ++ tail_written (length b % 8))
    ++ rest) ≡ run Second (Some (with_tree stack (bits b))) rest
line_run stack b are long few rest stops =
    let octets : List ℕ = octets_of b in
    let count = length-octets_of b in
    let many : 9 ≤ length octets = omega arith in
    let cut = cut-octets_of b are (omega arith) in
    let clear = last_unused b (omega arith) in
    ap (λ l. run Second (At (Octets [] None) stack) l) (append_assoc (encode_upper octets) (tail_written (length b % 8)) rest)
    ∙ octets_run stack [] octets (AreOctets-octets_of b are) (omega arith) (tail_written (length b % 8) ++ rest)
    ∙ by_tail many cut clear (length b % 8) refl
  where
    by_tail : 9 ≤ length (octets_of b) → cut_bits (octets_of b) (used_of b) ≡ b → last_octet (octets_of b) % 2 ^
        (8 - used_of b) ≡ 0 → (k : ℕ) → length b % 8 ≡ k → run Second (At (Octets (octets_of b) None) stack)
        (tail_written (length b % 8) ++ rest) ≡ run Second (Some (with_tree stack (bits b))) rest
    by_tail many cut clear zero is =
        let used : used_of b ≡ 8 = omega arith in
        ap (λ n. run Second (At (Octets (octets_of b) None) stack) (tail_written n ++ rest)) is
        ∙ octets_end stack (octets_of b) b many (ap (λ n. cut_bits (octets_of b) n) (sym used) ∙ cut) rest stops
    by_tail many cut clear (suc k) is =
        let used : used_of b ≡ suc k = omega arith in
        ap (λ n. run Second (At (Octets (octets_of b) None) stack) (tail_written n ++ rest)) is
        ∙ tail_run stack (octets_of b) b (suc k) many (omega arith) (omega arith) (rw used at clear) (ap (λ n. cut_bits (octets_of b) n) (sym used) ∙ cut) rest

-- ---- leaves

pub long_when : (b : List ℕ) → is_short b ≡ false → 1 ≤ length b → 65 ≤ length b
long_when b other some = elim (cases_lt (length b) 65) [
  | inl low ↦ (let e : true ≡ false = sym (short_is b some (omega arith)) ∙ other in absurd (cc))
  | inr high ↦ omega arith
]

pub other_run : (version : Version) (stack : List Frame) (b : List ℕ) → IsBits b → length b ≤ MOST_BITS
    → is_short b ≡ false → (rest : List ℕ)
    → Stops rest → run version (At Start stack) (other_text version b ++ rest) ≡ run version
    (Some (with_tree stack (bits b))) rest
other_run First stack b are few other rest stops =
    bits_run stack [] b are (omega arith) rest
    ∙ leaf_ends First (Bare b) stack (bits b) rest stops (rw other refl) (rw other refl) (rw other refl)
other_run Second stack [] are few other rest stops = refl
other_run Second stack (x ∷ b) are few other rest stops = line_run stack (x ∷ b) are (long_when (x ∷ b) other (omega arith)) few rest stops

pub leaf_run : (version : Version) (stack : List Frame) (b : List ℕ) → IsBits b → length b ≤ MOST_BITS
    → (rest : List ℕ) → Stops rest → run version (At Start stack) (leaf_text version b ++ rest) ≡ run version
    (Some (with_tree stack (bits b))) rest
leaf_run version stack b are few rest stops = elim (cases_Bool (is_short b)) [
  | inl short ↦ (
      let (some, small) = and_parts (nat_le 1 (length b)) (nat_le (length b) MOST_SHORT) short in
      let text : leaf_text version b ≡ short_text b = (rw short refl) in
      ap (λ l. run version (At Start stack) (l ++ rest)) text ∙ short_run version stack b are (leb-true _ _ some) (leb-true _ _ small) rest stops)
  | inr other ↦ (
      let text : leaf_text version b ≡ other_text version b = (rw other refl) in
      ap (λ l. run version (At Start stack) (l ++ rest)) text ∙ other_run version stack b are few other rest stops)
]

-- ---- labels

pub names_run : (version : Version) (stack : List Frame) (name : List ℕ) (at end : NameAt) (l : List ℕ)
    → name_run (Some at) l ≡ Some end → (rest : List ℕ)
    → run version (At (Name name at) stack) (l ++ rest) ≡ run version (At (Name (name ++ l) end) stack) rest
names_run version stack name at end [] h rest =
    let same : at ≡ end = cc in
    ap (λ l. run version (At (Name l at) stack) rest) (sym (append-nil name)) ∙ ap (λ a. run version (At (Name (name ++ []) a) stack) rest) same
names_run version stack name at end (c ∷ l) h rest = by_next (λ next e. names_run version stack (name ++ c ∷ []) next end l e rest) (name_after at c) refl
  where
    by_next : ((next : NameAt) → name_run (Some next) l ≡ Some end → run version
        (At (Name (name ++ c ∷ []) next) stack) (l ++ rest) ≡ run version
        (At (Name ((name ++ c ∷ []) ++ l) end) stack) rest)
        → (o : Option NameAt) → name_after at c ≡ o → run version (At (Name name at) stack)
        ((c ∷ l) ++ rest) ≡ run version (At (Name (name ++ c ∷ l) end) stack) rest
    by_next again None after = absurd (let e : None ≡ Some end = sym (run_none l) ∙ ap (λ o. name_run o l) (sym after) ∙ h in cc)
    by_next again (Some next) after =
        let other = not_greater at next c after in
        let one : step version (Name name at) stack c ≡ At (Name (name ++ c ∷ []) next) stack = rw (other, after) refl in
        ap (λ o. run version o (l ++ rest)) one
        ∙ again next (ap (λ o. name_run o l) (sym after) ∙ h)
        ∙ ap (λ k. run version (At (Name k end) stack) rest) (append_assoc name (c ∷ []) l)

pub label_run : (version : Version) (stack : List Frame) (l : List ℕ) → length stack < MOST_ROUND → IsLabel l
    → (rest : List ℕ) → run version (At Start stack) (60 ∷ (l ++ 62 ∷ 61 ∷ rest)) ≡ run version
    (At Start (Named l ∷ stack)) rest
label_run version stack l low is rest =
    let room : nat_lt (length stack) MOST_ROUND ≡ true = lt-ltb (length stack) MOST_ROUND low in
    let one : step version Start stack 60 ≡ At (Name [] Front) stack = rw room refl in
    ap (λ o. run version o (l ++ 62 ∷ 61 ∷ rest)) one
    ∙ names_run version stack [] Front Within l (run_of_label l is) (62 ∷ 61 ∷ rest)
