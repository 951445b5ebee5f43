-- What one byte more makes of the reader's states, and the places where no text goes on.
use Rattle.std.specs.Prelude.{nat_le, nat_lt, slice_index, is_some, IfSome, IfNone}
use Rattle.std.proofs.Common.{◌≡◌, ℕ, ◌+◌, ◌-◌, ◌*◌, ◌%◌, ◌^◌, ◌<◌, ◌≤◌, ◌==◌, ◌&&◌, ◌⊎◌, true, false, List, [], ◌∷◌}
use Rattle.std.proofs.Common.{◌++◌, length, Option, Some, None, refl, sym, ap, ◌∙◌, subst, arith, inl, inr, eqb-true}
use Rattle.std.proofs.lemmas.Bool.{agree_below_at, cases_Bool, le-leb, lt-ltb, le-ltb, leb-true, lt-leb, and_parts}
use Rattle.csn_bits.specs.declared.bits.TheConstants.{MOST_BITS}
use Rattle.csn_treetext.specs.declared.stack.TheConstants.{MOST_ROUND}
use Rattle.csn_treetext.specs.declared.bounds.TheConstants.{GREATEST_ALTERNATIVE, MOST_SHORT, MOST_OCTETS}
use Rattle.csn_treetext.specs.declared.version.Version.{Version}
use Rattle.csn_treetext.specs.declared.version.Version.TheVariants.{First, Second}
use Rattle.csn_treetext.specs.declared.stack.Frame.{Frame}
use Rattle.csn_treetext.specs.declared.stack.Frame.TheVariants.{Row, Alt, Named}
use Rattle.csn_treetext.specs.declared.name.NameAt.{NameAt}
use Rattle.csn_treetext.specs.declared.next.Next.{Next}
use Rattle.csn_treetext.specs.declared.next.Next.TheVariants as next
use Rattle.csn_treetext.specs.Text.{is_short}
use Rattle.csn_treetext.specs.Place.{IsFaultPlace}
use Rattle.csn_treetext.specs.reader.Mode.{Mode, Start, Width, Quote, Value, Hash, Number, Name, NameEnd, Octets, Slash, Bare}
use Rattle.csn_treetext.specs.reader.Numeral.{grown, greatest_of}
use Rattle.csn_treetext.specs.reader.Machine.{State, state, with_tree, are_many, cut_octets, last_octet, upper_value}
use Rattle.csn_treetext.specs.reader.Machine.{is_in_row, is_bit_digit, may_end, name_after, after_tree, inside, begun}
use Rattle.csn_treetext.specs.reader.Machine.{step, ended}
use Rattle.csn_treetext.specs.reader.Reading.{Comes, Stands, mode_of}
use Rattle.csn_treetext.proofs.WholeTrees.{is_byte, eqb-lt, eqb-below}
use Rattle.csn_treetext.proofs.Runs.{eqb-isnt}
use Rattle.csn_treetext.proofs.ReadingFacts.{came_on, led_on, stopped, came_to_stop}

-- ---- numbers

pub hash_first : (version : Version) (text : List ℕ) (at number : ℕ) (stack : List Frame) → Comes version text at (state Hash stack) → at < length text
    → grown GREATEST_ALTERNATIVE None (slice_index text at) ≡ Some number → Comes version text (at + 1) (state (Number number) stack)
hash_first version text at number stack e low first = came_on version text at (state Hash stack) (state (Number number) stack) low e (rw first refl)

pub hash_stops : (version : Version) (text : List ℕ) (at : ℕ) (stack : List Frame) → at ≤ length text → Comes version text at (state Hash stack)
    → (at < length text → grown GREATEST_ALTERNATIVE None (slice_index text at) ≡ None) → IsFaultPlace version text at
hash_stops version text at stack within e none = came_to_stop version text at (state Hash stack) within e
    (λ low. (let no = none low in rw no refl)) (λ past. refl)

pub number_stops : (version : Version) (text : List ℕ) (at number : ℕ) (stack : List Frame)
    → at ≤ length text → Comes version text at (state (Number number) stack)
    → (at < length text → grown GREATEST_ALTERNATIVE (Some number) (slice_index text at) ≡ None)
    → (at < length text → (slice_index text at == 58) ≡ false) → IsFaultPlace version text at
number_stops version text at number stack within e none other =
    came_to_stop version text at (state (Number number) stack) within e
    (λ low. (let no = none low in let not_colon = other low in rw (not_colon, no) refl)) (λ past. refl)

pub number_ends : (version : Version) (text : List ℕ) (at number : ℕ) (stack : List Frame)
    → Comes version text at (state (Number number) stack) → at < length text
    → (slice_index text at == 58) ≡ true → Comes version text (at + 1) (state Start (Alt number ∷ stack))
number_ends version text at number stack e low colon = came_on version text at (state (Number number) stack)
    (state Start (Alt number ∷ stack)) low e (rw colon refl)

pub width_stops : (version : Version) (text : List ℕ) (at width : ℕ) (stack : List Frame)
    → at ≤ length text → Comes version text at (state (Width width) stack)
    → (at < length text → grown MOST_SHORT (Some width) (slice_index text at) ≡ None)
    → (at < length text → (slice_index text at == 39) ≡ false) → IsFaultPlace version text at
width_stops version text at width stack within e none other =
    came_to_stop version text at (state (Width width) stack) within e
    (λ low. (let no = none low in let not_quote = other low in rw (not_quote, no) refl)) (λ past. refl)

pub width_ends : (version : Version) (text : List ℕ) (at width : ℕ) (stack : List Frame) → Comes version text at (state (Width width) stack) → at < length text
    → (slice_index text at == 39) ≡ true → Comes version text (at + 1) (state (Quote width) stack)
width_ends version text at width stack e low quote = came_on version text at (state (Width width) stack) (state (Quote width) stack) low e (rw quote refl)

pub quote_first : (version : Version) (text : List ℕ) (at width number : ℕ) (stack : List Frame)
    → Comes version text at (state (Quote width) stack) → at < length text
    → grown (greatest_of width) None (slice_index text at) ≡ Some number → Comes version text (at + 1) (state (Value width number) stack)
quote_first version text at width number stack e low first = came_on version text at (state (Quote width) stack)
    (state (Value width number) stack) low e (rw first refl)

pub quote_stops : (version : Version) (text : List ℕ) (at width : ℕ) (stack : List Frame)
    → at ≤ length text → Comes version text at (state (Quote width) stack)
    → (at < length text → grown (greatest_of width) None (slice_index text at) ≡ None) → IsFaultPlace version text at
quote_stops version text at width stack within e none = came_to_stop version text at (state (Quote width) stack)
    within e (λ low. (let no = none low in rw no refl)) (λ past. refl)

-- ---- labels

pub name_stops : (version : Version) (text : List ℕ) (at : ℕ) (name : List ℕ) (stands : NameAt) (stack : List Frame)
    → at ≤ length text → Comes version text at (state (Name name stands) stack)
    → (at < length text → name_after stands (slice_index text at) ≡ None)
    → (at < length text → ((slice_index text at == 62) && may_end stands) ≡ false) → IsFaultPlace version text at
name_stops version text at name stands stack within e none other =
    came_to_stop version text at (state (Name name stands) stack) within e
    (λ low. (let no = none low in let not_end = other low in rw (not_end, no) refl)) (λ past. refl)

pub name_ends : (version : Version) (text : List ℕ) (at : ℕ) (name : List ℕ) (stands : NameAt) (stack : List Frame)
    → Comes version text at (state (Name name stands) stack) → at < length text
    → (slice_index text at == 62) ≡ true → may_end stands ≡ true → Comes version text (at + 1) (state (NameEnd name) stack)
name_ends version text at name stands stack e low greater may =
    came_on version text at (state (Name name stands) stack) (state (NameEnd name) stack) low e
    (rw (greater, may) refl)

pub equals_stops : (version : Version) (text : List ℕ) (at : ℕ) (name : List ℕ) (stack : List Frame)
    → at ≤ length text → Comes version text at (state (NameEnd name) stack)
    → (at < length text → (slice_index text at == 61) ≡ false) → IsFaultPlace version text at
equals_stops version text at name stack within e other = came_to_stop version text at (state (NameEnd name) stack)
    within e (λ low. (let no = other low in rw no refl)) (λ past. refl)

pub equals_ends : (version : Version) (text : List ℕ) (at : ℕ) (name : List ℕ) (stack : List Frame)
    → Comes version text at (state (NameEnd name) stack) → at < length text
    → (slice_index text at == 61) ≡ true → Comes version text (at + 1) (state Start (Named name ∷ stack))
equals_ends version text at name stack e low equals = came_on version text at (state (NameEnd name) stack)
    (state Start (Named name ∷ stack)) low e (rw equals refl)

-- ---- octets

pub octet_more : (text : List ℕ) (at : ℕ) (octets : List ℕ) (high low : ℕ) (stack : List Frame)
    → Comes Second text at (state (Octets octets None) stack) → at + 1 < length text
    → upper_value (slice_index text at) ≡ Some high → upper_value (slice_index text (at + 1)) ≡ Some low → length octets < MOST_OCTETS
    → Comes Second text (at + 2) (state (Octets (octets ++ (16 * high + low) ∷ []) None) stack)
octet_more text at octets high low stack e within first second room =
    let few : nat_lt (length octets) MOST_OCTETS ≡ true = lt-ltb (length octets) MOST_OCTETS room in
    let half = came_on Second text at (state (Octets octets None) stack) (state (Octets octets (Some high)) stack) (omega arith) e (rw (first, few) refl) in
    let whole = came_on Second text (at + 1) (state (Octets octets (Some high)) stack)
    (state (Octets (octets ++ (16 * high + low) ∷ []) None) stack) within half (rw second refl) in
    let count : at + 1 + 1 ≡ at + 2 = omega arith in
    subst (λ n. Comes Second text n (state (Octets (octets ++ (16 * high + low) ∷ []) None) stack)) count whole

-- a digit that has no partner
pub octets_half : (text : List ℕ) (at : ℕ) (octets : List ℕ) (high : ℕ) (stack : List Frame)
    → Comes Second text at (state (Octets octets None) stack) → at < length text
    → upper_value (slice_index text at) ≡ Some high → length octets < MOST_OCTETS
    → (at + 1 < length text → upper_value (slice_index text (at + 1)) ≡ None) → IsFaultPlace Second text (at + 1)
octets_half text at octets high stack e low first room none =
    let few : nat_lt (length octets) MOST_OCTETS ≡ true = lt-ltb (length octets) MOST_OCTETS room in
    let half = came_on Second text at (state (Octets octets None) stack) (state (Octets octets (Some high)) stack) low e (rw (first, few) refl) in
    came_to_stop Second text (at + 1) (state (Octets octets (Some high)) stack) (omega arith) half
    (λ within. (let no = none within in rw no refl)) (λ past. refl)

-- the digit behind the octets that were taken, where there was room for one more
pub octets_unpaired : (text : List ℕ) (at : ℕ) (octets : List ℕ) (high : ℕ) (stack : List Frame)
    → Comes Second text at (state (Octets octets None) stack) → at < length text
    → upper_value (slice_index text at) ≡ Some high
    → (length octets ≡ MOST_OCTETS) ⊎ (at + 1 < length text → (upper_value (slice_index text at) ≡ None) ⊎ (upper_value (slice_index text (at + 1)) ≡ None))
    → length octets < MOST_OCTETS → IsFaultPlace Second text (at + 1)
octets_unpaired text at octets high stack e low first (inl full) room = absurd (omega arith)
octets_unpaired text at octets high stack e low first (inr stops) room = octets_half text at octets high stack e low first room second
  where
    second : at + 1 < length text → upper_value (slice_index text (at + 1)) ≡ None
    second within = elim (stops within) [ inl none ↦ absurd (let clash : None ≡ Some high = sym none ∙ first in cc) | inr none ↦ none ]

-- the digit of an octet too many
pub octets_full : (text : List ℕ) (at : ℕ) (octets : List ℕ) (high : ℕ) (stack : List Frame)
    → Comes Second text at (state (Octets octets None) stack) → at < length text
    → upper_value (slice_index text at) ≡ Some high → MOST_OCTETS ≤ length octets → IsFaultPlace Second text at
octets_full text at octets high stack e low first many = by_room (cases_Bool (nat_lt (length octets) MOST_OCTETS))
  where
    by_room : (nat_lt (length octets) MOST_OCTETS ≡ true) ⊎ (nat_lt (length octets) MOST_OCTETS ≡ false) → IsFaultPlace Second text at
    by_room (inl few) = absurd (let less : length octets < MOST_OCTETS = leb-true _ _ few in omega arith)
    by_room (inr full) = came_to_stop Second text at (state (Octets octets None) stack) (omega arith) e
        (λ within. rw (first, full) refl) (λ past. absurd (omega arith))

-- a digit behind the octets that were taken
pub digit_there : (text : List ℕ) (at : ℕ) (digit : Option ℕ)
    → IfSome digit (λ value. (at < length text) × (upper_value (slice_index text at) ≡ Some value))
    → is_some digit ≡ true
    → (value : ℕ) × (at < length text) × (upper_value (slice_index text at) ≡ Some value)
digit_there text at None some is = absurd (cc)
digit_there text at (Some value) (low, first) is = (value, low, first)

pub no_digit : (text : List ℕ) (at : ℕ) (digit : Option ℕ) → IfNone digit (at < length text → upper_value (slice_index text at) ≡ None) → is_some digit ≡ false
    → at < length text → upper_value (slice_index text at) ≡ None
no_digit text at None none is low = none low
no_digit text at (Some value) none is low = absurd (cc)

pub octets_few : (text : List ℕ) (at : ℕ) (octets : List ℕ) (stack : List Frame) → at ≤ length text → Comes Second text at (state (Octets octets None) stack)
    → (at < length text → upper_value (slice_index text at) ≡ None) → length octets < 9 → IsFaultPlace Second text at
octets_few text at octets stack within e none few = by_count (cases_Bool (are_many octets))
  where
    by_count : (are_many octets ≡ true) ⊎ (are_many octets ≡ false) → IsFaultPlace Second text at
    by_count (inl many) = absurd (let more : 9 ≤ length octets = leb-true _ _ many in omega arith)
    by_count (inr fewer) = came_to_stop Second text at (state (Octets octets None) stack) within e
        (λ low. (let nothing = none low in rw (nothing, fewer) refl)) (λ past. rw fewer refl)

-- ---- the tail of a block line

pub slash_odd : (text : List ℕ) (at : ℕ) (octets : List ℕ) (stack : List Frame)
    → Comes Second text at (state (Octets octets None) stack) → at < length text → (slice_index text at == 47) ≡ true
    → 9 ≤ length octets → (last_octet octets % 2 == 0) ≡ false → IsFaultPlace Second text at
slash_odd text at octets stack e low slash many odd =
    let none : upper_value (slice_index text at) ≡ None = ap upper_value (sym (is_byte (slice_index text at) 47 slash)) in
    let count : are_many octets ≡ true = le-leb 9 (length octets) many in
    came_to_stop Second text at (state (Octets octets None) stack) (omega arith) e (λ within. rw (none, count, slash, odd) refl) (λ past. absurd (omega arith))

pub slash_comes : (text : List ℕ) (at : ℕ) (octets : List ℕ) (stack : List Frame)
    → Comes Second text at (state (Octets octets None) stack) → at < length text → (slice_index text at == 47) ≡ true
    → 9 ≤ length octets → (last_octet octets % 2 == 0) ≡ true → Comes Second text (at + 1) (state (Slash octets) stack)
slash_comes text at octets stack e low slash many even =
    let none : upper_value (slice_index text at) ≡ None = ap upper_value (sym (is_byte (slice_index text at) 47 slash)) in
    let count : are_many octets ≡ true = le-leb 9 (length octets) many in
    came_on Second text at (state (Octets octets None) stack) (state (Slash octets) stack) low e (rw (none, count, slash, even) refl)

pub tail_stops : (text : List ℕ) (at : ℕ) (octets : List ℕ) (stack : List Frame) → at ≤ length text → Comes Second text at (state (Slash octets) stack)
    → (at < length text → (slice_index text at < 49) ⊎ (55 < slice_index text at)) → IsFaultPlace Second text at
tail_stops text at octets stack within e other = came_to_stop Second text at (state (Slash octets) stack) within e (λ low. refused (other low)) (λ past. refl)
  where
    refused : (slice_index text at < 49) ⊎ (55 < slice_index text at) → step Second (Slash octets) stack (slice_index text at) ≡ None
    refused (inl less) = (let no : nat_le 49 (slice_index text at) ≡ false = lt-leb 49 (slice_index text at) less in rw no refl)
    refused (inr more) = elim (cases_Bool (nat_le 49 (slice_index text at))) [
      | inl high ↦ (let no : nat_le (slice_index text at) 55 ≡ false = lt-leb (slice_index text at) 55 more in rw (high, no) refl)
      | inr low ↦ rw low refl
    ]

-- what a program makes of a one, shifted
pub one_shifted : (used : ℕ) → 1 ≤ used → used ≤ 7 → 1 * 2 ^ (8 - used) % 256 ≡ 2 ^ (8 - used)
one_shifted used some few = eqb-true _ _ (agree_below_at (λ n. 1 * 2 ^ n % 256 == 2 ^ n) (λ _. true) 8 (8 - used) refl (omega arith))

pub tail_unclear : (text : List ℕ) (at : ℕ) (octets : List ℕ) (used : ℕ) (stack : List Frame)
    → Comes Second text at (state (Slash octets) stack) → at < length text
    → slice_index text at ≡ 48 + used → 1 ≤ used → used ≤ 7 → (last_octet octets % 2 ^ (8 - used) == 0) ≡ false → IsFaultPlace Second text at
tail_unclear text at octets used stack e low is some few unclear =
    let low_end : nat_le 49 (48 + used) ≡ true = le-leb 49 (48 + used) (omega arith) in
    let high_end : nat_le (48 + used) 55 ≡ true = le-leb (48 + used) 55 (omega arith) in
    let unused : 56 - (48 + used) ≡ 8 - used = omega arith in
    let one : step Second (Slash octets) stack (48 + used) ≡ None = rw (low_end, high_end, unused, unclear) refl in
    came_to_stop Second text at (state (Slash octets) stack) (omega arith) e (λ within. ap (λ b. step Second (Slash octets) stack b) is ∙ one) (λ past. refl)

pub tail_ends : (text : List ℕ) (at : ℕ) (octets : List ℕ) (used : ℕ) (stack : List Frame)
    → Comes Second text at (state (Slash octets) stack) → at < length text
    → slice_index text at ≡ 48 + used → 1 ≤ used → used ≤ 7 → (last_octet octets % 2 ^ (8 - used) == 0) ≡ true
    → Comes Second text (at + 1) (with_tree stack (cut_octets octets used))
tail_ends text at octets used stack e low is some few clear =
    let low_end : nat_le 49 (48 + used) ≡ true = le-leb 49 (48 + used) (omega arith) in
    let high_end : nat_le (48 + used) 55 ≡ true = le-leb (48 + used) 55 (omega arith) in
    let unused : 56 - (48 + used) ≡ 8 - used = omega arith in
    let same : 48 + used - 48 ≡ used = omega arith in
    let one : step Second (Slash octets) stack (48 + used) ≡ Some (with_tree stack (cut_octets octets used)) =
    rw (low_end, high_end, unused, clear, same) refl in
    came_on Second text at (state (Slash octets) stack) (with_tree stack (cut_octets octets used)) low e
    (ap (λ b. step Second (Slash octets) stack b) is ∙ one)

-- ---- bits as digits

pub bit_more : (text : List ℕ) (at : ℕ) (b : List ℕ) (bit : ℕ) (stack : List Frame)
    → Comes First text at (state (Bare b) stack) → at < length text → slice_index text at ≡ 48 + bit → bit ≤ 1
    → length b < MOST_BITS → Comes First text (at + 1) (state (Bare (b ++ bit ∷ [])) stack)
bit_more text at b bit stack e low is small room =
    let low_end : nat_le 48 (48 + bit) ≡ true = le-leb 48 (48 + bit) (omega arith) in
    let high_end : nat_le (48 + bit) 49 ≡ true = le-leb (48 + bit) 49 (omega arith) in
    let few : nat_lt (length b) MOST_BITS ≡ true = lt-ltb (length b) MOST_BITS room in
    let same : 48 + bit - 48 ≡ bit = omega arith in
    let one : step First (Bare b) stack (48 + bit) ≡ Some (state (Bare (b ++ bit ∷ [])) stack) = rw (low_end, high_end, few, same) refl in
    came_on First text at (state (Bare b) stack) (state (Bare (b ++ bit ∷ [])) stack) low e (ap (λ c. step First (Bare b) stack c) is ∙ one)

pub no_bit : (byte : ℕ) → (byte < 48) ⊎ (49 < byte) → is_bit_digit byte ≡ false
no_bit byte (inl less) = (let no : nat_le 48 byte ≡ false = lt-leb 48 byte less in rw no refl)
no_bit byte (inr more) = elim (cases_Bool (nat_le 48 byte)) [
  | inl high ↦ (let no : nat_le byte 49 ≡ false = lt-leb byte 49 more in rw (high, no) refl)
  | inr low ↦ rw low refl
]

-- the digit of a bit too many
pub bits_full : (text : List ℕ) (at : ℕ) (b : List ℕ) (bit : ℕ) (stack : List Frame)
    → Comes First text at (state (Bare b) stack) → at < length text → slice_index text at ≡ 48 + bit → bit ≤ 1
    → length b ≡ MOST_BITS → IsFaultPlace First text at
bits_full text at b bit stack e low is small full =
    let low_end : nat_le 48 (48 + bit) ≡ true = le-leb 48 (48 + bit) (omega arith) in
    let high_end : nat_le (48 + bit) 49 ≡ true = le-leb (48 + bit) 49 (omega arith) in
    let no : nat_lt (length b) MOST_BITS ≡ false = ap (λ n. nat_lt n MOST_BITS) full in
    let one : step First (Bare b) stack (48 + bit) ≡ None = rw (low_end, high_end, no) refl in
    came_to_stop First text at (state (Bare b) stack) (omega arith) e (λ within. ap (λ c. step First (Bare b) stack c) is ∙ one) (λ past. absurd (omega arith))

pub bits_more : (text : List ℕ) (at : ℕ) (b : List ℕ) (digit : Option ℕ) (stack : List Frame) → Comes First text at (state (Bare b) stack)
    → (length b ≡ MOST_BITS) ⊎ (at < length text → (slice_index text at < 48) ⊎ (49 < slice_index text at))
    → IfSome digit (λ bit. (at < length text) × (slice_index text at ≡ 48 + bit) × (bit ≤ 1)) → is_some digit ≡ true → IsFaultPlace First text at
bits_more text at b None stack e stops some there = absurd (cc)
bits_more text at b (Some bit) stack e (inl full) (low, is, small) there = bits_full text at b bit stack e low is small full
bits_more text at b (Some bit) stack e (inr stops) (low, is, small) there =
    elim (stops low) [ inl less ↦ absurd (omega arith) | inr more ↦ absurd (omega arith) ]

pub bits_short : (text : List ℕ) (at : ℕ) (b : List ℕ) (stack : List Frame) → at ≤ length text → Comes First text at (state (Bare b) stack) → is_short b ≡ true
    → (length b ≡ MOST_BITS) ⊎ (at < length text → (slice_index text at < 48) ⊎ (49 < slice_index text at)) → IsFaultPlace First text at
bits_short text at b stack within e short (inl full) =
    absurd (let (some, few) = and_parts (nat_le 1 (length b)) (nat_le (length b) MOST_SHORT) short in
    let most : length b ≤ 64 = leb-true (length b) 64 few in omega arith)
bits_short text at b stack within e short (inr stops) =
    came_to_stop First text at (state (Bare b) stack) within e
    (λ low. (let no = no_bit (slice_index text at) (stops low) in rw (no, short) refl)) (λ past. rw short refl)

-- ---- where a tree begins, and behind one

pub begins_with : (version : Version) (text : List ℕ) (at byte : ℕ) (stack : List Frame) (s : State)
    → at < length text → Stands version text at (state Start stack) → slice_index text at ≡ byte
    → step version Start stack byte ≡ Some s → Comes version text (at + 1) s
begins_with version text at byte stack s low h is one = led_on version text at (state Start stack) s low h (ap (λ b. step version Start stack b) is ∙ one)

pub begins_not : (version : Version) (text : List ℕ) (at : ℕ) (stack : List Frame) → at < length text → Stands version text at (state Start stack)
    → begun version stack (slice_index text at) ≡ None → IsFaultPlace version text at
begins_not version text at stack low h none = stopped version text at (state Start stack) (omega arith) h (λ within. none) (λ past. absurd (omega arith))

-- a tree that has another one inside
pub inside_begins : (stack : List Frame) (mode : Mode) → length stack < MOST_ROUND → inside stack mode ≡ Some (state mode stack)
inside_begins stack mode low = (let room : nat_lt (length stack) MOST_ROUND ≡ true = lt-ltb (length stack) MOST_ROUND low in rw room refl)

pub inside_full : (stack : List Frame) (mode : Mode) → MOST_ROUND ≤ length stack → inside stack mode ≡ None
inside_full stack mode high = (let full : nat_lt (length stack) MOST_ROUND ≡ false = le-ltb (length stack) MOST_ROUND high in rw full refl)

-- the first digit of a width
pub digit_begins : (version : Version) (stack : List Frame) (byte : ℕ)
    → 49 ≤ byte → byte ≤ 57 → begun version stack byte ≡ Some (state (Width (byte - 48)) stack)
digit_begins version stack byte low high =
    let no_dot : (byte == 46) ≡ false = eqb-lt byte 46 (omega arith) in
    let no_bracket : (byte == 91) ≡ false = eqb-below byte 91 (omega arith) in
    let no_hash : (byte == 35) ≡ false = eqb-lt byte 35 (omega arith) in
    let no_less : (byte == 60) ≡ false = eqb-below byte 60 (omega arith) in
    let no_b : (byte == 98) ≡ false = eqb-below byte 98 (omega arith) in
    let no_x : (byte == 120) ≡ false = eqb-below byte 120 (omega arith) in
    let low_end : nat_le 49 byte ≡ true = le-leb 49 byte low in
    let high_end : nat_le byte 57 ≡ true = le-leb byte 57 high in
    rw (no_dot, no_bracket, no_hash, no_less, no_b, no_x, low_end, high_end) refl

-- a byte that begins no tree
pub none_begins : (version : Version) (stack : List Frame) (byte : ℕ) → (byte ≡ 46 → ⊥) → (byte ≡ 91 → ⊥)
    → (byte ≡ 35 → ⊥) → (byte ≡ 60 → ⊥) → (byte ≡ 98 → ⊥) → (byte ≡ 120 → ⊥)
    → (byte < 49) ⊎ (57 < byte) → begun version stack byte ≡ None
none_begins version stack byte dot bracket hash less b x digit =
    let no_dot : (byte == 46) ≡ false = eqb-isnt byte 46 dot in
    let no_bracket : (byte == 91) ≡ false = eqb-isnt byte 91 bracket in
    let no_hash : (byte == 35) ≡ false = eqb-isnt byte 35 hash in
    let no_less : (byte == 60) ≡ false = eqb-isnt byte 60 less in
    let no_b : (byte == 98) ≡ false = eqb-isnt byte 98 b in
    let no_x : (byte == 120) ≡ false = eqb-isnt byte 120 x in
    let no_digit = outside digit in
    rw (no_dot, no_bracket, no_hash, no_less, no_b, no_x, no_digit) refl
  where
    outside : (byte < 49) ⊎ (57 < byte) → nat_le 49 byte && nat_le byte 57 ≡ false
    outside (inl low) = (let no : nat_le 49 byte ≡ false = lt-leb 49 byte low in rw no refl)
    outside (inr high) = elim (cases_Bool (nat_le 49 byte)) [
      | inl past ↦ (let no : nat_le byte 57 ≡ false = lt-leb byte 57 high in rw (past, no) refl)
      | inr below ↦ rw below refl
    ]

pub behind_space : (stack : List Frame) → is_in_row stack ≡ true → after_tree stack 32 ≡ Some (state Start stack)
behind_space [] h = absurd (cc)
behind_space (Row ts ∷ stack) h = refl
behind_space (Alt j ∷ stack) h = absurd (cc)
behind_space (Named l ∷ stack) h = absurd (cc)

pub behind_no_row : (stack : List Frame) (byte : ℕ) → is_in_row stack ≡ false → after_tree stack byte ≡ None
behind_no_row [] byte h = refl
behind_no_row (Row ts ∷ stack) byte h = absurd (cc)
behind_no_row (Alt j ∷ stack) byte h = refl
behind_no_row (Named l ∷ stack) byte h = refl

pub behind_other : (stack : List Frame) (byte : ℕ) → (byte == 32) ≡ false → (byte == 93) ≡ false → after_tree stack byte ≡ None
behind_other [] byte h k = refl
behind_other (Row ts ∷ stack) byte h k = rw (h, k) refl
behind_other (Alt j ∷ stack) byte h k = refl
behind_other (Named l ∷ stack) byte h k = refl

-- ---- the end of a text

pub next_ends : (next : Next) (stack : List Frame) → ended (mode_of next) stack ≡ None
next_ends next.Start stack = refl
next_ends next.Opened stack = refl
next_ends next.Behind stack = refl
