-- How a piece that may go on a word depends on its first bytes.
use Rattle.std.proofs.Common.{◌≡◌, ℕ, ◌+◌, ◌-◌, ◌<◌, ◌≤◌, true, false, List, ◌∷◌, length, take, drop, get_or}
use Rattle.std.proofs.Common.{slice_range, ◌⊎◌, refl, sym, ap, ◌∙◌, inl, inr, ⊎_elim, arith}
use Rattle.std.proofs.lemmas.List.{drop_more, drop_all, take_rest}
use Rattle.std.proofs.lemmas.Bool.{cases_lt, false≢true, or_right, and_right}
use Rattle.std.specs.Char.{is_ascii_alphanumeric}
use Rattle.csn_lexer.specs.Word.{goes_on_in_word, joins_pieces, starts_alphanumeric, is_word_tail}
use Rattle.csn_lexer.proofs.Pieces.{slice_range_more, slice_range_none}

-- behind a byte that goes on in a word the rest decides
pub tail_after_byte : (text : List ℕ) (at m : ℕ) → at < m → m ≤ length text
    → goes_on_in_word (get_or text at 0) ≡ true
    → is_word_tail (slice_range text at m) ≡ is_word_tail (slice_range text (at + 1) m)
tail_after_byte text at m below within goes_on =
    rw (slice_range_more text at m below within, goes_on) refl

-- the rest of a text starts as each of its pieces does
pub starts_piece : (text : List ℕ) (at m : ℕ) → at < m → m ≤ length text
    → starts_alphanumeric (slice_range text at m) ≡ starts_alphanumeric (drop at text)
starts_piece text at m below within =
    let here : at < length text = omega arith in
    rw (slice_range_more text at m below within, drop_more text at 0 here) refl

pub starts_within : (text : List ℕ) (at : ℕ) → starts_alphanumeric (drop at text) ≡ true → at < length text
starts_within text at starts =
    ⊎_elim (λ h. h) (λ past. absurd (false≢true (ap starts_alphanumeric (sym (drop_all at text past)) ∙ starts))) (cases_lt at (length text))

-- a byte that joins pieces, and a letter or digit behind it
join_more : (c : ℕ) (rest : List ℕ) → joins_pieces c ≡ true → starts_alphanumeric rest ≡ true
    → is_word_tail (c ∷ rest) ≡ is_word_tail rest
join_more c rest joins starts = rw (joins, starts, or_right (goes_on_in_word c) true refl) refl

goes_on_from_alphanumeric : (c : ℕ) → is_ascii_alphanumeric c ≡ true → goes_on_in_word c ≡ true
goes_on_from_alphanumeric c h = rw h refl

stop_here : (c : ℕ) (rest : List ℕ) → goes_on_in_word c ≡ false
    → (joins_pieces c ≡ false) ⊎ (starts_alphanumeric rest ≡ false) → is_word_tail (c ∷ rest) ≡ false
stop_here c rest stops (inl joins) = rw (stops, joins) refl
stop_here c rest stops (inr starts) = rw (stops, starts, and_right (joins_pieces c) false refl) refl

pub tail_after_pair : (text : List ℕ) (at m : ℕ) → at + 2 ≤ m → m ≤ length text
    → joins_pieces (get_or text at 0) ≡ true
    → starts_alphanumeric (drop (at + 1) text) ≡ true
    → is_word_tail (slice_range text at m) ≡ is_word_tail (slice_range text (at + 2) m)
tail_after_pair text at m below within joins starts =
    let second : at + 1 < length text = omega arith in
    let letter : is_ascii_alphanumeric (get_or text (at + 1) 0) ≡ true =
    ap starts_alphanumeric (sym (drop_more text (at + 1) 0 second)) ∙ starts in
    let goes_on : goes_on_in_word (get_or text (at + 1) 0) ≡ true =
    goes_on_from_alphanumeric (get_or text (at + 1) 0) letter in
    let piece_starts : starts_alphanumeric (slice_range text (at + 1) m) ≡ true =
    starts_piece text (at + 1) m (omega arith) within ∙ starts in
    ap is_word_tail (slice_range_more text at m (omega arith) within)
    ∙ join_more (get_or text at 0) (slice_range text (at + 1) m) joins piece_starts
    ∙ tail_after_byte text (at + 1) m (omega arith) within goes_on
    ∙ ap (λ n. is_word_tail (slice_range text n m)) (omega arith)

-- where the rest of a text does not start with a letter or digit, neither does a piece of it
no_start : (text : List ℕ) (at m : ℕ) → at ≤ m → m ≤ length text
    → starts_alphanumeric (drop at text) ≡ false → starts_alphanumeric (slice_range text at m) ≡ false
no_start text at m below within none =
    ⊎_elim
    (λ less. starts_piece text at m less within ∙ none)
    (λ past. let same : m ≡ at = omega arith in
    ap (λ n. starts_alphanumeric (slice_range text at n)) same ∙ ap starts_alphanumeric (slice_range_none text at))
    (cases_lt at m)

-- a byte that neither goes on nor joins ends the word
pub tail_stops : (text : List ℕ) (at m : ℕ) → at < m → m ≤ length text
    → goes_on_in_word (get_or text at 0) ≡ false
    → (joins_pieces (get_or text at 0) ≡ false) ⊎ (starts_alphanumeric (drop (at + 1) text) ≡ false)
    → is_word_tail (slice_range text at m) ≡ false
tail_stops text at m below within stops ends =
    ap is_word_tail (slice_range_more text at m below within)
    ∙ stop_here (get_or text at 0) (slice_range text (at + 1) m) stops (elim ends [
      | inl joins ↦ inl joins
      | inr past ↦ inr (no_start text (at + 1) m (omega arith) within past)
    ])

-- `&text[at..]`
pub starts_rest : (text : List ℕ) (at : ℕ)
    → starts_alphanumeric (take (length text - at) (drop at text)) ≡ starts_alphanumeric (drop at text)
starts_rest text at = ap starts_alphanumeric (take_rest text at)
