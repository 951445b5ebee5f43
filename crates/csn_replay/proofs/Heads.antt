-- The head of a capture's line, as it grows.
use Rattle.std.proofs.Common.{◌≡◌, ◌≢◌, ℕ, suc, ◌+◌, ◌<◌, ◌≤◌, ◌==◌, List, [], ◌∷◌, ◌++◌, length, take, drop, refl, sym, ◌∙◌, ap, subst, arith, length-append}
use Rattle.std.specs.Prelude.{if◌then◌else◌, slice_index}
use Rattle.std.proofs.lemmas.List.{append_assoc, append-nil, drop-append-le, drop_all, get_or_append_left}
use Rattle.std.proofs.lemmas.List.Elements.{All-append}
use Rattle.std.proofs.Math.Seq.{take-length}
use Rattle.std.proofs.lemmas.Bool.{eqb-true}
use Rattle.memchr.specs.Find.{NoneBefore, Nowhere, Passes, is_byte}
use Rattle.csn_catalogue.specs.declared.entry.Entry.{Entry}
use Rattle.csn_catalogue.specs.declared.entry.Entry.TheVariants.{Uplink, Downlink, Si1, Si3, Si4, Si13, Ia}
use Rattle.csn_catalogue.specs.Entries.{entry_word}
use Rattle.csn_replay.specs.Capture.{IsCapture, space}
use Rattle.csn_replay.specs.Head.{HasNoSpace, HeadOf, block_so_far}
use Rattle.csn_replay.specs.declared.head.CaptureHead.{CaptureHead}
use Rattle.csn_replay.specs.Laws.{HeadsTellCaptures}
use Rattle.csn_replay.specs.declared.head.CaptureHead.TheVariants.{Word, Block, Missing}
use Rattle.csn_replay.proofs.Captures.{NotSpace, each_entry, word_clear, space_stands, space_within, clear_before, split_at_space, before_space}

-- a word has at most 8 bytes
pub word_short : (entry : Entry) → length (entry_word entry) ≤ 8
word_short = each_entry (λ entry. length (entry_word entry) ≤ 8) (omega arith) (omega arith) (omega arith)
    (omega arith) (omega arith) (omega arith) (omega arith)

-- ---- a line without a space

-- it goes on with bytes of which none is a space
pub still_clear : (line bytes : List ℕ) → HasNoSpace line → Nowhere (Passes (is_byte space) bytes) 0 (length bytes) → HasNoSpace (line ++ bytes)
still_clear line bytes clear none =
    All-append NotSpace line bytes clear (subst HasNoSpace (take-length bytes) (clear_before bytes (length bytes) (omega arith) none))

-- where it is longer than the word of an entry it begins no capture of that
pub space_missing : (line more : List ℕ) (entry : Entry) (at : ℕ)
    → HasNoSpace line → length (entry_word entry) < length line → IsCapture (line ++ more) entry at → ⊥
space_missing line more entry at clear longer is =
    clear (length (entry_word entry)) 0 longer
    (sym (get_or_append_left line more 0 (length (entry_word entry)) longer)
    ∙ eqb-true _ _ (space_stands (line ++ more) entry at is))

-- ---- a line that goes on with bytes that have a space

-- it is what stands before the space, the space, and what stands behind it
split_line : (line bytes : List ℕ) (k : ℕ) → k < length bytes → Passes (is_byte space) bytes k
    → line ++ bytes ≡ (line ++ take k bytes) ++ space ∷ drop (k + 1) bytes
split_line line bytes k within here =
    ap (λ text. line ++ text) (split_at_space bytes k within here) ∙ sym (append_assoc line (take k bytes) (space ∷ drop (k + 1) bytes))

-- with this word before that space
pub split_word : (line bytes word : List ℕ) (k : ℕ) (entry : Entry) → line ≡ word → k < length bytes → Passes (is_byte space) bytes k
    → word ++ take k bytes ≡ entry_word entry → line ++ bytes ≡ entry_word entry ++ space ∷ drop (k + 1) bytes
split_word line bytes word k entry same within here is =
    split_line line bytes k within here ∙ ap (λ text. text ++ space ∷ drop (k + 1) bytes) (ap (λ text. text ++ take k bytes) same ∙ is)

-- with another word before its first space it begins no capture of the entry
pub other_word : (line bytes more : List ℕ) (k : ℕ) (entry : Entry) (at : ℕ) → HasNoSpace line
    → NoneBefore (Passes (is_byte space) bytes) 0 (length bytes) k → Passes (is_byte space) bytes k
    → line ++ take k bytes ≢ entry_word entry → IsCapture (line ++ bytes ++ more) entry at → ⊥
other_word line bytes more k entry at clear none here other (block, is, place) =
    let word = line ++ take k bytes in
    let behind = drop (k + 1) bytes in
    let free : HasNoSpace word = All-append NotSpace line (take k bytes) clear (clear_before bytes k (omega (arith, none.high)) none.before) in
    let whole : line ++ bytes ++ more ≡ word ++ space ∷ (behind ++ more) =
    ap (λ text. text ++ more) (split_line line bytes k none.high here) ∙ append_assoc word (space ∷ behind) more in
    other (before_space word (entry_word entry) (behind ++ more) block free (word_clear entry) (sym whole ∙ is))

-- ---- the line that ends here

-- the entry of a word, by its length and its third letter
abbrev entry_by : List ℕ → Entry
entry_by word =
    if length word == 6 then Uplink
    else if length word == 8 then Downlink
    else if length word == 4 then Si13
    else if length word == 2 then Ia
    else if slice_index word 2 == 49 then Si1
    else if slice_index word 2 == 51 then Si3
    else Si4

by_word : (entry : Entry) → entry_by (entry_word entry) ≡ entry
by_word = each_entry (λ entry. entry_by (entry_word entry) ≡ entry) refl refl refl refl refl refl refl

-- a word is of one entry
pub one_word : (entry other : Entry) → entry_word entry ≡ entry_word other → entry ≡ other
one_word entry other same = sym (by_word entry) ∙ ap entry_by same ∙ by_word other

-- a line is a capture of one entry
one_entry : (line : List ℕ) (entry other : Entry) (at place : ℕ) → IsCapture line entry at → IsCapture line other place → other ≡ entry
one_entry line entry other at place (block, is, there) (behind, has, here) =
    one_word other entry (before_space (entry_word other) (entry_word entry) behind block (word_clear other) (word_clear entry) (sym has ∙ is))

pub heads_tell_captures : HeadsTellCaptures
heads_tell_captures (Word word) line (is, clear) = λ entry at capture.
    space_missing line [] entry at clear (space_within line entry at capture) (subst (λ text. IsCapture text entry at) (sym (append-nil line)) capture)
heads_tell_captures (Block entry) line (block, is) =
    let capture : IsCapture line entry (length (entry_word entry) + 1) = (block, is, refl) in
    record {
      capture = capture;
      only = λ other at has.
          let same : other ≡ entry = one_entry line entry other (length (entry_word entry) + 1) at capture has in
          (same, has.2 ∙ ap (λ one. length (entry_word one) + 1) same);
    }
heads_tell_captures Missing line never = λ entry at capture. never [] entry at (subst (λ text. IsCapture text entry at) (sym (append-nil line)) capture)

-- ---- what has come of the block

-- nothing before the space
pub none_left : (bytes : List ℕ) → [] ≡ drop (length bytes) bytes
none_left bytes = sym (drop_all (length bytes) bytes (omega arith))

-- nor where the line is no capture
pub missing_none : (head : CaptureHead) (line bytes : List ℕ)
    → head ≡ Missing → block_so_far head (line ++ bytes) ≡ block_so_far head line ++ drop (length bytes) bytes
missing_none head line bytes is =
    subst (λ h. block_so_far h (line ++ bytes) ≡ block_so_far h line ++ drop (length bytes) bytes) (sym is) (none_left bytes)

pub missing_is_on : (head : CaptureHead) (line bytes : List ℕ) → head ≡ Missing → HeadOf head line → HeadOf head (line ++ bytes)
missing_is_on head line bytes is of =
    let known : HeadOf Missing line = subst (λ h. HeadOf h line) is of in
    let still : HeadOf Missing (line ++ bytes) =
    λ more entry at capture. known (bytes ++ more) entry at (subst (λ text. IsCapture text entry at) (append_assoc line bytes more) capture) in
    subst (λ h. HeadOf h (line ++ bytes)) (sym is) still

-- behind it all that comes
pub block_goes_on : (head : CaptureHead) (entry : Entry) (line bytes : List ℕ) → head ≡ Block entry → HeadOf head line
    → block_so_far head (line ++ bytes) ≡ block_so_far head line ++ bytes
block_goes_on head entry line bytes is of =
    let known : HeadOf (Block entry) line = subst (λ h. HeadOf h line) is of in
    let long : length (entry_word entry) + 1 ≤ length line = omega (arith, ap length known.1, length-append (entry_word entry) (space ∷ known.0)) in
    subst (λ h. block_so_far h (line ++ bytes) ≡ block_so_far h line ++ bytes) (sym is) (drop-append-le (length (entry_word entry) + 1) line bytes long)

pub block_is_on : (head : CaptureHead) (entry : Entry) (line bytes : List ℕ) → head ≡ Block entry → HeadOf head line → HeadOf head (line ++ bytes)
block_is_on head entry line bytes is of =
    let known : HeadOf (Block entry) line = subst (λ h. HeadOf h line) is of in
    subst (λ h. HeadOf h (line ++ bytes)) (sym is)
    (known.0 ++ bytes, ap (λ l. l ++ bytes) known.1 ∙ append_assoc (entry_word entry) (space ∷ known.0) bytes)

drop_word : (word behind : List ℕ) → drop (length word + 1) (word ++ space ∷ behind) ≡ behind
drop_word [] behind = refl
drop_word (byte ∷ word) behind =
    let on : length (byte ∷ word) + 1 ≡ suc (length word + 1) = omega arith in
    ap (λ n. drop n (byte ∷ word ++ space ∷ behind)) on ∙ drop_word word behind

pub block_behind : (entry : Entry) (text behind : List ℕ) → text ≡ entry_word entry ++ space ∷ behind → block_so_far (Block entry) text ≡ behind
block_behind entry text behind split = ap (drop (length (entry_word entry) + 1)) split ∙ drop_word (entry_word entry) behind

-- ---- a head that has read a part of a word

pub word_so_far : {head : CaptureHead} {word read : _} {line : List ℕ} → head ≡ Word word → read ≡ word → HeadOf head line → HeadOf (Word read) line
word_so_far {line = line} is same of = subst (λ h. HeadOf h line) (is ∙ ap (λ w. Word w) (sym same)) of

pub word_none : {head : CaptureHead} {word : _} (line bytes : List ℕ) → head ≡ Word word → block_so_far head line ++ bytes ≡ bytes
word_none line bytes is = ap (λ h. block_so_far h line ++ bytes) is

pub no_block : {head : CaptureHead} {word : _} {entry : Entry} → head ≡ Word word → head ≡ Block entry → ⊥
no_block is other = let clash = sym is ∙ other in cc

pub not_missing : {head : CaptureHead} {word : _} → head ≡ Word word → head ≡ Missing → ⊥
not_missing is other = let clash = sym is ∙ other in cc
