-- How far the reader's code comes in a text, and where it stops.
use Rattle.std.specs.Prelude.{slice_index, Result, Ok, Err, IfOk, IfErr}
use Rattle.std.proofs.Common.{◌≡◌, ℕ, zero, suc, ◌+◌, ◌-◌, ◌*◌, ◌^◌, ◌<◌, ◌≤◌, ◌==◌, true, false, List, [], ◌∷◌, ◌++◌}
use Rattle.std.proofs.Common.{length, take, drop, Option, Some, None, refl, sym, ap, ◌∙◌, subst, arith, inl, inr}
use Rattle.std.proofs.lemmas.Bool.{cases_lt, le-leb}
use Rattle.std.proofs.lemmas.List.{take_all, length-drop, get_or-drop}
use Rattle.std.proofs.Math.Seq.{take-suc}
use Rattle.csn_treetext.specs.declared.bounds.TheConstants.{GREATEST_ALTERNATIVE, MOST_SHORT}
use Rattle.csn_bits.specs.Numbers.{low_bits}
use Rattle.csn_desc.specs.TreeV.{TreeV, bits}
use Rattle.csn_treetext.specs.declared.version.Version.{Version}
use Rattle.csn_treetext.specs.declared.version.Version.TheVariants.{First, Second}
use Rattle.csn_treetext.specs.declared.stack.Frame.{Frame}
use Rattle.csn_treetext.specs.declared.fault.TextFault.{TextFault}
use Rattle.csn_treetext.specs.declared.fault.TextFault.TheVariants.{Place}
use Rattle.csn_treetext.specs.declared.name.NameAt.{NameAt}
use Rattle.csn_treetext.specs.declared.next.Taken.{Taken}
use Rattle.csn_treetext.specs.declared.next.Taken.TheVariants.{Up, Whole, Refused}
use Rattle.csn_treetext.specs.Text.{is_short}
use Rattle.csn_treetext.specs.Place.{IsTextOf, IsFaultPlace, IsFaultOf}
use Rattle.csn_treetext.specs.reader.Mode.{Mode, Start, Done, Width, Value, Number, Name, Octets, Bare}
use Rattle.csn_treetext.specs.reader.Numeral.{digit_of, grown, greatest_of}
use Rattle.csn_treetext.specs.reader.Machine.{State, state, with_tree, after_number, are_many, cut_octets}
use Rattle.csn_treetext.specs.reader.Machine.{upper_value, is_bit_digit, name_after, step, steps, ended}
use Rattle.csn_treetext.specs.reader.Reading.{Comes, Stands, Takes, Grows, LeadsTo}
use Rattle.csn_treetext.proofs.Numerals.{grew_next, at_most-some}
use Rattle.csn_treetext.proofs.Names.{not_greater}
use Rattle.csn_treetext.proofs.WholeTrees.{eqb-lt, eqb-below}
use Rattle.csn_treetext.proofs.Runs.{tree_ended, tree_closed}
use Rattle.csn_treetext.proofs.Places.{step_more, refused_place, ended_place, ended_tree}

-- ---- one byte more

pub led : {version : Version} {text : List ℕ} {at : ℕ} {s : State} → Comes version text at s → Stands version text at s
led {s = s} e = record { led = s; comes = e; goes_on = λ _. refl; ends = λ _. refl }

pub led_on : (version : Version) (text : List ℕ) (at : ℕ) (s next : State)
    → at < length text → Stands version text at s → step version s.mode s.stack (slice_index text at) ≡ Some next
    → Comes version text (at + 1) next
led_on version text at s next low h e = step_more version text at h.led low h.comes ∙ h.goes_on low ∙ e

pub came_on : (version : Version) (text : List ℕ) (at : ℕ) (s next : State)
    → at < length text → Comes version text at s → step version s.mode s.stack (slice_index text at) ≡ Some next
    → Comes version text (at + 1) next
came_on version text at s next low h e = step_more version text at s low h ∙ e

-- what reaches to a place reaches to the places before it
takes_from : (version : Version) (text : List ℕ) (from at : ℕ) (stack : List Frame) (taken : Taken)
    → from ≤ at → Takes version text at stack taken → Takes version text from stack taken
takes_from version text from at stack (Up next end) low h = (omega (arith, h.0), h.1, h.2, h.3)
takes_from version text from at stack (Whole t end) low h = h
takes_from version text from at stack (Refused place) low h = h

pub gives_from : {E : Type 0} (version : Version) (text : List ℕ) (from at : ℕ) (stack : List Frame)
    (result : Result Taken E) → from ≤ at → IfOk result (Takes version text at stack)
    → IfOk result (Takes version text from stack)
gives_from version text from at stack (Ok taken) low h = takes_from version text from at stack taken low h
gives_from version text from at stack (Err e) low h = tt

-- ---- the place where no text goes on

-- what leads to a state at the end of a text
at_end : (version : Version) (text : List ℕ) (at : ℕ) (s : State) → length text ≤ at → Comes version text at s
    → steps version (Some (state Start [])) text ≡ Some s
at_end version text at s past e = ap (λ l. steps version (Some (state Start [])) l) (sym (take_all at text past)) ∙ e

pub stopped : (version : Version) (text : List ℕ) (at : ℕ) (s : State) → at ≤ length text → Stands version text at s
    → (at < length text → step version s.mode s.stack (slice_index text at) ≡ None)
    → (length text ≤ at → ended s.mode s.stack ≡ None) → IsFaultPlace version text at
stopped version text at s within h refuses nothing = elim (cases_lt at (length text)) [
  | inl low ↦ refused_place version text at h.led low h.comes (h.goes_on low ∙ refuses low)
  | inr high ↦ (
      let here : length text ≡ at = omega arith in
      subst (λ p. IsFaultPlace version text p) here
      (ended_place version text h.led (at_end version text at h.led (omega arith) h.comes) (h.ends (omega arith) ∙ nothing (omega arith))))
]

-- after bytes that only the next one ends, or refuses
pub came_to_stop : (version : Version) (text : List ℕ) (at : ℕ) (s : State) → at ≤ length text → Comes version text at s
    → (at < length text → step version s.mode s.stack (slice_index text at) ≡ None)
    → (length text ≤ at → ended s.mode s.stack ≡ None) → IsFaultPlace version text at
came_to_stop version text at s within e refuses nothing = stopped version text at s within (led e) refuses nothing

pub whole_tree : (version : Version) (text : List ℕ) (at : ℕ) (t : TreeV) (stack : List Frame)
    → length text ≤ at → Stands version text at (state (Done t) stack) → IsTextOf version t text
whole_tree version text at t stack past h = ended_tree version text h.led t (at_end version text at h.led past h.comes) (h.ends past)

-- a whole tree is that of the text where the text ends with it
pub whole_text : (version : Version) (text : List ℕ) (end : ℕ) (t : TreeV) (stack : List Frame)
    (result : Result TreeV TextFault) → Stands version text end (state (Done t) stack)
    → IfOk result (λ u. (u ≡ t) × (end ≡ length text)) → IfOk result (λ u. IsTextOf version u text)
whole_text version text end t stack (Ok u) stands (same, whole) = subst (λ x. IsTextOf version x text) (sym same)
    (whole_tree version text end t stack (omega arith) stands)
whole_text version text end t stack (Err e) stands is = tt

pub whole_refused : (version : Version) (text : List ℕ) (end : ℕ) (t : TreeV) (stack : List Frame)
    (result : Result TreeV TextFault) → end ≤ length text → Stands version text end (state (Done t) stack)
    → IfErr result (λ fault. (fault ≡ Place end) × (end ≡ length text → ⊥)) → IfErr result (IsFaultOf version text)
whole_refused version text end t stack (Ok u) within stands is = tt
whole_refused version text end t stack (Err e) within stands (same, more) =
    subst (IsFaultOf version text) (sym same)
    (stopped version text end (state (Done t) stack) within stands (λ low. refl) (λ past. absurd (more (omega arith))))

-- ---- numbers

grown_digit : (most number byte next : ℕ) → most < 2 ^ 64 → grown most (Some number) byte ≡ Some next → (48 ≤ byte) × (byte ≤ 57)
grown_digit most number byte next small e = let g = (grew_next most number next byte small e).1 in (g.low, g.high)

pub grown_rises : (most number byte next : ℕ) → grown most (Some number) byte ≡ Some next → number ≤ next
grown_rises most zero byte next h = omega arith
grown_rises most (suc m) byte next h = by_digit (digit_of byte) refl
  where
    by_digit : (o : Option ℕ) → digit_of byte ≡ o → suc m ≤ next
    by_digit None e = (let z = rw e at h in absurd (cc))
    by_digit (Some d) e = (let (same, few) = at_most-some most (10 * suc m + d) next (rw e at h) in omega arith)

pub width_grows : (version : Version) (stack : List Frame) → Grows version MOST_SHORT Width stack
width_grows version stack number byte next e =
    let (low, high) = grown_digit MOST_SHORT number byte next (omega arith) e in
    let other : (byte == 39) ≡ false = eqb-lt byte 39 (omega arith) in
    rw (other, e) refl

pub number_grows : (version : Version) (stack : List Frame) → Grows version GREATEST_ALTERNATIVE Number stack
number_grows version stack number byte next e =
    let (low, high) = grown_digit GREATEST_ALTERNATIVE number byte next (omega arith) e in
    let other : (byte == 58) ≡ false = eqb-below byte 58 (omega arith) in
    rw (other, e) refl

pub value_grows : (version : Version) (width : ℕ) (stack : List Frame) → Grows version (greatest_of width) (Value width) stack
value_grows version width stack number byte next e = ap (λ o. after_number o width number stack byte) e

-- a number is read where its first digit leads to it, and each other digit grows it
pub numeral_led :
    (version : Version) (text : List ℕ) (from most bound first end number : ℕ) (to : ℕ → Mode) (stack : List Frame)
    → most ≡ bound → Grows version bound to stack
    → (grown bound None (slice_index text from) ≡ Some first → Comes version text (from + 1) (state (to first) stack))
    → grown most None (slice_index text from) ≡ Some first → LeadsTo most text (from + 1) first end number → Comes version text end (state (to number) stack)
numeral_led version text from most bound first end number to stack is grows begins begun leads =
    leads version to stack (subst (λ m. Grows version m to stack) (sym is) grows) (begins (ap (λ m. grown m None (slice_index text from)) (sym is) ∙ begun))

-- ---- leaves that what follows ends

pub value_closed : (version : Version) (text : List ℕ) (at width number : ℕ) (stack : List Frame) → Comes version text at (state (Value width number) stack)
    → (at < length text → grown (greatest_of width) (Some number) (slice_index text at) ≡ None)
    → Stands version text at (with_tree stack (bits (low_bits width number)))
value_closed version text at width number stack e stops =
    let leaf : TreeV = bits (low_bits width number) in
    record {
      led = state (Value width number) stack;
      comes = e;
      goes_on = λ low. ap (λ o. after_number o width number stack (slice_index text at)) (stops low)
          ∙ sym (tree_closed version stack leaf (slice_index text at));
      ends = λ _. sym (tree_ended stack leaf);
    }

pub octets_closed : (text : List ℕ) (at : ℕ) (octets : List ℕ) (stack : List Frame)
    → Comes Second text at (state (Octets octets None) stack) → 9 ≤ length octets
    → (at < length text → upper_value (slice_index text at) ≡ None) → (at < length text → (slice_index text at == 47) ≡ false)
    → Stands Second text at (with_tree stack (cut_octets octets 8))
octets_closed text at octets stack e many stops other =
    let leaf : TreeV = cut_octets octets 8 in
    let count : are_many octets ≡ true = le-leb 9 (length octets) many in
    record {
      led = state (Octets octets None) stack;
      comes = e;
      goes_on = λ low. (let none = stops low in let not_slash = other low in
          (rw (none, count, not_slash) refl) ∙ sym (tree_closed Second stack leaf (slice_index text at)));
      ends = λ _. (rw count refl) ∙ sym (tree_ended stack leaf);
    }

pub bits_closed : (text : List ℕ) (at : ℕ) (b : List ℕ) (stack : List Frame) → Comes First text at (state (Bare b) stack) → is_short b ≡ false
    → (at < length text → is_bit_digit (slice_index text at) ≡ false)
    → Stands First text at (with_tree stack (bits b))
bits_closed text at b stack e long stops =
    record {
      led = state (Bare b) stack;
      comes = e;
      goes_on = λ low. (let none = stops low in (rw (none, long) refl) ∙ sym (tree_closed First stack (bits b) (slice_index text at)));
      ends = λ _. (rw long refl) ∙ sym (tree_ended stack (bits b));
    }

-- ---- pieces of a text

pub piece_more : (text : List ℕ) (from at : ℕ) → from ≤ at → at < length text
    → take (at + 1 - from) (drop from text) ≡ take (at - from) (drop from text) ++ slice_index text at ∷ []
piece_more text from at begins low =
    let count : at + 1 - from ≡ suc (at - from) = omega arith in
    let place : from + (at - from) ≡ at = omega arith in
    let room : at - from < length (drop from text) = omega (arith, length-drop from text) in
    ap (λ n. take n (drop from text)) count
    ∙ take-suc (drop from text) (at - from) 0 room
    ∙ ap (λ c. take (at - from) (drop from text) ++ c ∷ []) (get_or-drop from text (at - from) 0 ∙ ap (λ n. slice_index text n) place)

pub piece_none : (text : List ℕ) (from : ℕ) → take (from - from) (drop from text) ≡ []
piece_none text from = (let none : from - from ≡ 0 = omega arith in rw none refl)

-- ---- labels

pub name_more : (version : Version) (text : List ℕ) (from at : ℕ) (stands next : NameAt) (stack : List Frame) → from ≤ at → at < length text
    → Comes version text at (state (Name (take (at - from) (drop from text)) stands) stack) → name_after stands (slice_index text at) ≡ Some next
    → Comes version text (at + 1) (state (Name (take (at + 1 - from) (drop from text)) next) stack)
name_more version text from at stands next stack begins low e after =
    let front : List ℕ = take (at - from) (drop from text) in
    let other = not_greater stands next (slice_index text at) after in
    let one : step version (Name front stands) stack (slice_index text at) ≡ Some
    (state (Name (front ++ slice_index text at ∷ []) next) stack) = rw (other, after) refl in
    came_on version text at (state (Name front stands) stack) (state (Name (take (at + 1 - from) (drop from text)) next) stack) low e
    (one ∙ ap (λ l. Some (state (Name l next) stack)) (sym (piece_more text from at begins low)))
