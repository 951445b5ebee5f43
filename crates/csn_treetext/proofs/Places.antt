-- Where a text stops being read, and what was read of it.
use Rattle.std.proofs.Common.{◌≡◌, ℕ, zero, suc, ◌+◌, ◌-◌, ◌*◌, ◌<◌, ◌≤◌, List, [], ◌∷◌, ◌++◌, length, take, drop}
use Rattle.std.proofs.Common.{get_or, Option, Some, None, refl, sym, ap, ◌∙◌, subst, arith, inl, inr, append_assoc}
use Rattle.std.proofs.Common.{append-nil, length-append}
use Rattle.std.proofs.Math.Seq.{take-suc}
use Rattle.std.proofs.lemmas.Bool.{cases_lt, cases_Bool}
use Rattle.std.proofs.lemmas.List.{take_all, length-take-le}
use Rattle.std.specs.Fmt.{decimal}
use Rattle.csn_bits.specs.declared.feed.TheConstants.{MOST_LINE}
use Rattle.csn_bits.specs.Numbers.{number_of}
use Rattle.csn_desc.specs.TreeV.{TreeV, empty, bits, row, alt, named, trees_of}
use Rattle.csn_treetext.specs.declared.version.Version.{Version}
use Rattle.csn_treetext.specs.declared.version.Version.TheVariants.{First, Second}
use Rattle.csn_treetext.specs.declared.stack.Frame.{Frame}
use Rattle.csn_treetext.specs.declared.stack.Frame.TheVariants.{Row, Alt, Named}
use Rattle.csn_treetext.specs.reader.Mode.{Mode}
use Rattle.csn_treetext.specs.reader.Mode.{Start, Opened, Behind, Done, Width, Quote, Value, Hash, Number, Name, NameEnd, Octets, Slash, Bare}
use Rattle.csn_treetext.specs.Text.{text_of, row_text, leaf_text, is_short, short_text, other_text}
use Rattle.csn_treetext.specs.Place.{IsTextOf, BeginsText, IsFaultPlace}
use Rattle.csn_treetext.specs.reader.Machine.{State, state, HasRoom, step, step_from, steps, ended}
use Rattle.csn_treetext.proofs.Spelled.{spaced, before, behind, HasTree, StandsFor, spaced-row}
use Rattle.csn_treetext.proofs.Sound.{steps-none, steps-append, steps_stand, start_stands, ended_is}
use Rattle.csn_treetext.proofs.Runs.{end_of}
use Rattle.csn_treetext.proofs.Complete.{text_run}
use Rattle.csn_treetext.proofs.Alive.{state_begins}

-- ---- room

leaf_some : (version : Version) (b : List ℕ) → 1 ≤ length (leaf_text version b)
leaf_some version b = elim (cases_Bool (is_short b)) [
  | inl short ↦ (
      let text : leaf_text version b ≡ short_text b = (rw short refl) in
      omega (arith, ap length text, length-append (decimal (length b)) (39 ∷ decimal (number_of b))))
  | inr other ↦ (
      let text : leaf_text version b ≡ other_text version b = (rw other refl) in
      omega (arith, ap length text, other_some version b))
]
  where
    other_some : (version : Version) (b : List ℕ) → 1 ≤ length (other_text version b)
    other_some First b = omega arith
    other_some Second [] = omega arith
    other_some Second (x ∷ b) = omega arith

text_some : (version : Version) (t : TreeV) → 1 ≤ length (text_of version t)
text_some version empty = omega arith
text_some version (bits b) = leaf_some version b
text_some version (row ts) = omega arith
text_some version (alt j t) = omega arith
text_some version (named l t) = omega arith

spaced_long : (version : Version) (ts : List TreeV) → 2 * length ts ≤ length (spaced version ts)
spaced_long version [] = omega arith
spaced_long version (t ∷ ts) = omega (arith, spaced_long version ts, text_some version t, length-append (text_of version t) (32 ∷ spaced version ts))

room_before : (version : Version) (stack : List Frame) → length (before version stack) ≤ MOST_LINE → HasRoom stack
room_before version [] few = tt
room_before version (Row ts ∷ stack) few =
    let parts = length-append (before version stack) (91 ∷ spaced version ts) in
    let long = spaced_long version ts in
    (omega arith, room_before version stack (omega arith))
room_before version (Alt j ∷ stack) few = room_before version stack (omega (arith, length-append (before version stack) (35 ∷ (decimal j ++ 58 ∷ []))))
room_before version (Named l ∷ stack) few = room_before version stack (omega (arith, length-append (before version stack) (60 ∷ (l ++ 62 ∷ 61 ∷ []))))

room_front : (version : Version) (stack : List Frame) (x text : List ℕ) → before version stack ++ x ≡ text → length text ≤ MOST_LINE → HasRoom stack
room_front version stack x text is few = room_before version stack (omega (arith, length-append (before version stack) x, ap length is))

room_behind : (version : Version) (stack : List Frame) (text : List ℕ) → HasTree stack → behind version stack ≡ text → length text ≤ MOST_LINE → HasRoom stack
room_behind version [] text has is few = absurd has
room_behind version (Alt j ∷ stack) text has is few = absurd has
room_behind version (Named l ∷ stack) text has is few = absurd has
room_behind version (Row [] ∷ stack) text has is few = absurd has
room_behind version (Row (t ∷ ts) ∷ stack) text has is few =
    let parts = length-append (before version stack) (91 ∷ row_text version (trees_of (t ∷ ts))) in
    let whole = ap length is in
    let long = spaced_long version (t ∷ ts) in
    let space = ap length (spaced-row version t ts) ∙ length-append (row_text version (trees_of (t ∷ ts))) (32 ∷ []) in
    (omega arith, room_before version stack (omega arith))

room_in : (version : Version) (mode : Mode) (stack : List Frame) (text : List ℕ)
    → StandsFor version text (state mode stack) → length text ≤ MOST_LINE → HasRoom stack
room_in version Start stack text is few = room_front version stack [] text (append-nil (before version stack) ∙ is.bytes) few
room_in version Opened stack text is few = room_front version stack _ text is.bytes few
room_in version Behind stack text is few = room_behind version stack text is.placed is.bytes few
room_in version (Done t) stack text is few = subst HasRoom (sym is.placed.0) tt
room_in version (Width width) stack text is few = room_front version stack _ text is.bytes few
room_in version (Quote width) stack text is few = room_front version stack _ text is.bytes few
room_in version (Value width number) stack text is few = room_front version stack _ text is.bytes few
room_in version Hash stack text is few = room_front version stack _ text is.bytes few
room_in version (Number number) stack text is few = room_front version stack _ text is.bytes few
room_in version (Name name at) stack text is few = room_front version stack _ text is.bytes few
room_in version (NameEnd name) stack text is few = room_front version stack _ text is.bytes few
room_in version (Octets octets high) stack text is few = room_front version stack _ text is.bytes few
room_in version (Slash octets) stack text is few = room_front version stack _ text is.bytes few
room_in version (Bare b) stack text is few = room_front version stack _ text is.bytes few

-- ---- what was read

abbrev pub start : Option State
start = Some (state Start [])

pub reached : (version : Version) (front : List ℕ) (s : State) → steps version start front ≡ Some s → StandsFor version front s
reached version front s e = steps_stand version [] front (state Start []) s (start_stands version) e

-- a state that was reached in a line has room
pub room_reached : (version : Version) (text : List ℕ) (at : ℕ) (mode : Mode) (stack : List Frame)
    → at ≤ length text → length text ≤ MOST_LINE → steps version start (take at text) ≡ Some (state mode stack)
    → HasRoom stack
room_reached version text at mode stack within few e =
    room_in version mode stack (take at text) (reached version (take at text) (state mode stack) e) (omega (arith, length-take-le at text within))

pub step_more : (version : Version) (text : List ℕ) (at : ℕ) (s : State)
    → at < length text → steps version start (take at text) ≡ Some s
    → steps version start (take (at + 1) text) ≡ step version s.mode s.stack (get_or text at 0)
step_more version text at s low e =
    let count : at + 1 ≡ suc at = omega arith in
    ap (λ n. steps version start (take n text)) count
    ∙ ap (λ l. steps version start l) (take-suc text at 0 low)
    ∙ steps-append version start (take at text) (get_or text at 0 ∷ [])
    ∙ ap (λ o. step_from version o (get_or text at 0)) e

-- ---- a byte that is refused

refused_front : (version : Version) (front : List ℕ) (byte : ℕ) (rest : List ℕ) (s : State) (t : TreeV)
    → steps version start front ≡ Some s → step version s.mode s.stack byte ≡ None
    → IsTextOf version t (front ++ byte ∷ rest) → ⊥
refused_front version front byte rest s t e refused is =
    let read = text_run version t (front ++ byte ∷ rest) is in
    let nothing : end_of (steps version start (front ++ byte ∷ rest)) ≡ None =
    ap end_of (steps-append version start front (byte ∷ rest)
    ∙ ap (λ o. steps version (step_from version o byte) rest) e
    ∙ ap (λ o. steps version o rest) refused
    ∙ steps-none version rest) in
    let clash : None ≡ Some t = sym nothing ∙ read in
    cc

cut_at : (xs : List ℕ) (at k : ℕ) → at < length xs → take (at + suc k) xs ≡ take at xs ++ get_or xs at 0 ∷ take k (drop (suc at) xs)
cut_at [] at k low = absurd (omega arith)
cut_at (x ∷ xs) zero k low = (let count : 0 + suc k ≡ suc k = omega arith in rw count refl)
cut_at (x ∷ xs) (suc at) k low =
    let count : suc at + suc k ≡ suc (at + suc k) = omega arith in
    rw count (ap (λ l. x ∷ l) (cut_at xs at k (omega arith)))

no_further : (version : Version) (text : List ℕ) (at : ℕ) (s : State)
    → at < length text → steps version start (take at text) ≡ Some s
    → step version s.mode s.stack (get_or text at 0) ≡ None → (p : ℕ)
    → p ≤ length text → BeginsText version (take p text) → p ≤ at
no_further version text at s low e refused p within (t, rest, is) = elim (cases_lt at p) [
  | inl past ↦ (
      let count : p ≡ at + suc (p - suc at) = omega arith in
      let split : take p text ++ rest ≡ take at text ++ get_or text at 0 ∷ (take (p - suc at) (drop (suc at) text) ++ rest) =
      ap (λ n. take n text ++ rest) count ∙ ap (λ l. l ++ rest) (cut_at text at (p - suc at) low)
      ∙ append_assoc (take at text) (get_or text at 0 ∷ take (p - suc at) (drop (suc at) text)) rest in
      absurd (refused_front version (take at text) (get_or text at 0) (take (p - suc at) (drop (suc at) text) ++ rest) s t e refused
      (record { fits = is.fits; parts = is.parts; spelled = sym split ∙ is.spelled })))
  | inr here ↦ omega arith
]

whole_begins : (version : Version) (text : List ℕ) (t : TreeV) → IsTextOf version t text → BeginsText version (take (length text) text)
whole_begins version text t is = (
  t,
  [],
  record {
    fits = is.fits;
    parts = is.parts;
    spelled = append-nil (take (length text) text)
        ∙ take_all (length text) text (omega arith) ∙ is.spelled;
  },
)

pub refused_place : (version : Version) (text : List ℕ) (at : ℕ) (s : State)
    → at < length text → steps version start (take at text) ≡ Some s
    → step version s.mode s.stack (get_or text at 0) ≡ None → IsFaultPlace version text at
refused_place version text at s low e refused =
    let greatest = no_further version text at s low e refused in
    record {
      no_tree = λ t is. (let far : length text ≤ at = greatest (length text) (omega arith) (whole_begins version text t is) in omega arith);
      within = omega arith;
      begins = state_begins version s.mode s.stack (take at text) (reached version (take at text) s e);
      greatest = greatest;
    }

-- ---- the end

pub ended_place : (version : Version) (text : List ℕ) (s : State) → steps version start text ≡ Some s
    → ended s.mode s.stack ≡ None → IsFaultPlace version text (length text)
ended_place version text s e nothing = record {
  no_tree = λ t is. (let clash : None ≡ Some t = sym nothing ∙ ap end_of (sym e) ∙ text_run version t text is in cc);
  within = omega arith;
  begins = (let P : List ℕ → Type 0 = λ l. BeginsText version l in
      subst P (sym (take_all (length text) text (omega arith))) (state_begins version s.mode s.stack text
      (reached version text s e)));
  greatest = λ p within begins. within;
}

pub ended_tree : (version : Version) (text : List ℕ) (s : State) (t : TreeV) → steps version start text ≡ Some s
    → ended s.mode s.stack ≡ Some t → IsTextOf version t text
ended_tree version text s t e is = ended_is version s.mode s.stack text t (reached version text s e) is
