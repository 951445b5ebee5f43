-- Where the word of a capture's line ends.
use Rattle.std.proofs.Common.{◌≡◌, ◌≢◌, ℕ, ◌+◌, ◌<◌, ◌≤◌, Bool, true, false, not, ◌==◌, List, [], ◌∷◌, ◌++◌, length}
use Rattle.std.proofs.Common.{get_or, take, drop, refl, sym, ◌∙◌, ap, arith}
use Rattle.std.specs.List.{list_all}
use Rattle.std.proofs.lemmas.List.{get_or-take, length-append, length-take, length-take-le, take-append-drop, drop_more}
use Rattle.std.proofs.lemmas.List.Elements.{All-head, All-tail, All-from_get_or}
use Rattle.std.proofs.lemmas.List.Folds.{list_all_at}
use Rattle.std.proofs.Math.Seq.{get_or-append_seam}
use Rattle.std.proofs.lemmas.Bool.{eqb-true, eq-eqb}
use Rattle.memchr.specs.Find.{NoneBefore, Nowhere, Passes, is_byte}
use Rattle.csn_catalogue.specs.declared.entry.Entry.{Entry}
use Rattle.csn_catalogue.specs.declared.entry.Entry.TheVariants.{Uplink, Downlink, Si1, Si3, Si4, Si13, Ia}
use Rattle.csn_catalogue.specs.Entries.{entry_word}
use Rattle.csn_replay.specs.Capture.{IsCapture, space}
use Rattle.csn_replay.specs.Head.{HasNoSpace}

abbrev pub NotSpace : ℕ → Type 0
NotSpace byte = byte ≢ space

abbrev not_space : ℕ → Bool
not_space byte = not (byte == space)

-- what holds of each entry
pub each_entry : (P : Entry → Type 0) → P Uplink → P Downlink → P Si1 → P Si3 → P Si4 → P Si13 → P Ia → (entry : Entry) → P entry
each_entry P a b c d e f g Uplink = a
each_entry P a b c d e f g Downlink = b
each_entry P a b c d e f g Si1 = c
each_entry P a b c d e f g Si3 = d
each_entry P a b c d e f g Si4 = e
each_entry P a b c d e f g Si13 = f
each_entry P a b c d e f g Ia = g

spaceless : (entry : Entry) → list_all not_space (entry_word entry) ≡ true
spaceless = each_entry (λ entry. list_all not_space (entry_word entry) ≡ true) refl refl refl refl refl refl refl

-- no word of an entry has a space
pub word_clear : (entry : Entry) → HasNoSpace (entry_word entry)
word_clear entry =
    All-from_get_or NotSpace (entry_word entry) 0 (λ k within is.
    let clash : true ≡ false = sym (spaceless entry) ∙ list_all_at not_space (entry_word entry) k 0 within (ap not (eq-eqb _ _ is)) in cc)

-- the space behind the word
pub space_stands : (line : List ℕ) (entry : Entry) (at : ℕ) → IsCapture line entry at → (get_or line (length (entry_word entry)) 0 == space) ≡ true
space_stands line entry at (block, is, place) =
    ap (λ byte. byte == space) (ap (λ text. get_or text (length (entry_word entry)) 0) is ∙ get_or-append_seam (entry_word entry) space block 0)

-- it stands within the line
pub space_within : (line : List ℕ) (entry : Entry) (at : ℕ) → IsCapture line entry at → length (entry_word entry) < length line
space_within line entry at (block, is, place) = omega (arith, ap length is, length-append (entry_word entry) (space ∷ block))

-- the bytes before a place up to which no space stands
pub clear_before : (bytes : List ℕ) (k : ℕ) → k ≤ length bytes → Nowhere (Passes (is_byte space) bytes) 0 k → HasNoSpace (take k bytes)
clear_before bytes k within none =
    let long : length (take k bytes) ≡ k = length-take-le k bytes within in
    All-from_get_or NotSpace (take k bytes) 0 (λ i below is.
    let before : i < k = omega arith in none i (omega arith) before (eq-eqb _ _ (sym (get_or-take k bytes i 0 before) ∙ is)))

-- bytes with a space are those before it, the space, and those behind it
pub split_at_space : (bytes : List ℕ) (k : ℕ) → k < length bytes → Passes (is_byte space) bytes k → bytes ≡ take k bytes ++ space ∷ drop (k + 1) bytes
split_at_space bytes k within here =
    let is_space : get_or bytes k 0 ≡ space = eqb-true _ _ here in
    sym (take-append-drop k bytes) ∙ ap (λ rest. take k bytes ++ rest) (drop_more bytes k 0 within ∙ ap (λ byte. byte ∷ drop (k + 1) bytes) is_space)

-- what stands before the first space is one list
pub before_space : (word other rest back : List ℕ) → HasNoSpace word → HasNoSpace other → word ++ space ∷ rest ≡ other ++ space ∷ back → word ≡ other
before_space [] [] rest back clear free is = refl
before_space [] (x ∷ other) rest back clear free is = absurd (All-head NotSpace x other free (let first : x ≡ space = cc in first))
before_space (x ∷ word) [] rest back clear free is = absurd (All-head NotSpace x word clear (let first : x ≡ space = cc in first))
before_space (x ∷ word) (y ∷ other) rest back clear free is =
    let first : x ≡ y = cc in
    let behind : word ++ space ∷ rest ≡ other ++ space ∷ back = cc in
    ap (λ byte. byte ∷ word) first
    ∙ ap (λ others. y ∷ others) (before_space word other rest back (All-tail NotSpace x word clear)
    (All-tail NotSpace y other free) behind)

-- the word stands before the first space of the line
pub word_before : (line : List ℕ) (entry : Entry) (at k : ℕ) → IsCapture line entry at
    → NoneBefore (Passes (is_byte space) line) 0 (length line) k → Passes (is_byte space) line k → take k line ≡ entry_word entry
word_before line entry at k (block, is, place) none here =
    before_space (take k line) (entry_word entry) (drop (k + 1) line) block (clear_before line k (omega (arith, none.high)) none.before) (word_clear entry)
    (sym (split_at_space line k none.high here) ∙ is)

-- a word that stands before a space makes a capture
pub capture_at : (line : List ℕ) (entry : Entry) (k : ℕ) → k < length line → Passes (is_byte space) line k
    → take k line ≡ entry_word entry → IsCapture line entry (k + 1)
capture_at line entry k within here word = (
  drop (k + 1) line,
  split_at_space line k within here ∙ ap (λ text. text ++ space ∷ drop (k + 1) line) word,
  omega
      (arith, length-take k line, ap length word),
)
