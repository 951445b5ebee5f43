-- The reader goes through the text of a tree, and has the tree at its end.
use Rattle.std.specs.Prelude.{nat_lt}
use Rattle.std.proofs.Common.{◌≡◌, ℕ, suc, ◌+◌, ◌%◌, ◌^◌, ◌<◌, ◌==◌, true, false, List, [], ◌∷◌, ◌++◌, length, Some}
use Rattle.std.proofs.Common.{refl, sym, ap, ◌∙◌, arith, inl, inr, append_assoc, append-nil}
use Rattle.std.specs.Fmt.{decimal}
use Rattle.std.proofs.lemmas.Fmt.{decimal_by_steps}
use Rattle.std.proofs.lemmas.Bool.{cases_Bool, lt-ltb}
use Rattle.csn_treetext.specs.declared.stack.TheConstants.{MOST_ROUND}
use Rattle.csn_bits.specs.Line.{written}
use Rattle.csn_bits.specs.Numbers.{number_of}
use Rattle.csn_desc.specs.TreeV.{TreeV, empty, bits, row, alt, named, Trees, none, more, trees_of, list_of}
use Rattle.csn_treetext.specs.declared.version.Version.{Version}
use Rattle.csn_treetext.specs.declared.version.Version.TheVariants.{First, Second}
use Rattle.csn_treetext.specs.declared.stack.Frame.{Frame}
use Rattle.csn_treetext.specs.declared.stack.Frame.TheVariants.{Row, Alt, Named}
use Rattle.csn_treetext.specs.reader.Mode.{Start, Opened, Behind, Hash}
use Rattle.csn_treetext.specs.Text.{text_of, row_text, rest_text, bit_digits, leaf_text, is_short, short_text, other_text}
use Rattle.csn_desc.specs.TreeParts.{HasTreeParts, AllHaveTreeParts}
use Rattle.csn_treetext.specs.Fits.{FitsInside, AllFitInside}
use Rattle.csn_treetext.specs.Place.{IsTextOf}
use Rattle.csn_treetext.specs.reader.Machine.{with_tree, step}
use Rattle.csn_treetext.proofs.Fitting.{room_for}
use Rattle.csn_treetext.proofs.WholeTrees.{eqb-below}
use Rattle.csn_treetext.proofs.Runs.{number_run, leaf_run, label_run, Stops, stops_end, stops_space, stops_bracket, run, At}

-- ---- the first byte of a text

record FirstByte (l : List ℕ) : Type 0 where
  byte : ℕ
  behind : List ℕ
  is : l ≡ byte ∷ behind
  other : (byte == 93) ≡ false

first_digit : (n : ℕ) → n < 2 ^ 64 → FirstByte (decimal n)
first_digit n fits =
    decimal_by_steps (λ m ds. FirstByte ds)
    (λ m low. record { byte = 48 + m; behind = []; is = refl; other = eqb-below (48 + m) 93 (omega arith) })
    (λ m ds many f. record { byte = f.byte; behind = f.behind ++ (48 + m % 10) ∷ []; is = ap (λ l. l ++ (48 + m % 10) ∷ []) f.is; other = f.other })
    n fits

first_other : (version : Version) (b : List ℕ) → FirstByte (other_text version b)
first_other First b = record { byte = 98; behind = bit_digits b; is = refl; other = refl }
first_other Second [] = record { byte = 98; behind = []; is = refl; other = refl }
first_other Second (x ∷ b) = record { byte = 120; behind = written (x ∷ b); is = refl; other = refl }

first_byte : (version : Version) (t : TreeV) → HasTreeParts t → FirstByte (text_of version t)
first_byte version empty h = record { byte = 46; behind = []; is = refl; other = refl }
first_byte version (bits b) h = elim (cases_Bool (is_short b)) [
  | inl short ↦ (
      let text : leaf_text version b ≡ short_text b = (rw short refl) in
      let f = first_digit (length b) (let few = h.1 in omega arith) in
      record { byte = f.byte; behind = f.behind ++ 39 ∷ decimal (number_of b); is = text ∙ ap (λ l. l ++ 39 ∷ decimal (number_of b)) f.is; other = f.other })
  | inr other ↦ (
      let text : leaf_text version b ≡ other_text version b = (rw other refl) in
      let f = first_other version b in
      record { byte = f.byte; behind = f.behind; is = text ∙ f.is; other = f.other })
]
first_byte version (row ts) h = record { byte = 91; behind = row_text version ts ++ 93 ∷ []; is = refl; other = refl }
first_byte version (alt j t) h = record { byte = 35; behind = decimal j ++ 58 ∷ text_of version t; is = refl; other = refl }
first_byte version (named l t) h = record { byte = 60; behind = l ++ 62 ∷ 61 ∷ text_of version t; is = refl; other = refl }

-- a tree after `[` begins a row
opened_run : (version : Version) (stack : List Frame) (l : List ℕ) → FirstByte l → length stack < MOST_ROUND
    → (rest : List ℕ) → run version (At Opened stack) (l ++ rest) ≡ run version (At Start (Row [] ∷ stack))
    (l ++ rest)
opened_run version stack l f low rest =
    let room : nat_lt (length stack) MOST_ROUND ≡ true = lt-ltb (length stack) MOST_ROUND low in
    let is_not = f.other in
    let one : step version Opened stack f.byte ≡ step version Start (Row [] ∷ stack) f.byte = rw (is_not, room) refl in
    ap (λ k. run version (At Opened stack) (k ++ rest)) f.is
    ∙ ap (λ o. run version o (f.behind ++ rest)) one
    ∙ ap (λ k. run version (At Start (Row [] ∷ stack)) (k ++ rest)) (sym f.is)

-- ---- trees

stops_row : (version : Version) (ts : Trees) (rest : List ℕ) → Stops (rest_text version ts ++ 93 ∷ rest)
stops_row version none rest = stops_bracket
stops_row version (more t ts) rest = stops_space

list_back : (ts : Trees) → trees_of (list_of ts) ≡ ts
list_back none = refl
list_back (more t ts) = ap (λ us. more t us) (list_back ts)

mutual
  pub tree_run : (version : Version) (t : TreeV) (stack : List Frame) → FitsInside (length stack) t → HasTreeParts t
      → (rest : List ℕ) → Stops rest → run version (At Start stack) (text_of version t ++ rest) ≡ run version
      (Some (with_tree stack t)) rest
  tree_run version empty stack fits parts rest stops = refl
  tree_run version (bits b) stack fits parts rest stops = leaf_run version stack b parts.0 parts.1 rest stops
  tree_run version (row none) stack fits parts rest stops = refl
  tree_run version (row (more t ts)) stack fits parts rest stops =
      let low : length stack < MOST_ROUND = omega (arith, room_for (suc (length stack)) t fits.1.0) in
      let tail : List ℕ = rest_text version ts ++ 93 ∷ rest in
      ap (λ l. run version (At Opened stack) l)
      (append_assoc (text_of version t ++ rest_text version ts) (93 ∷ []) rest ∙ append_assoc (text_of version t) (rest_text version ts) (93 ∷ rest))
      ∙ opened_run version stack (text_of version t) (first_byte version t parts.0) low tail
      ∙ tree_run version t (Row [] ∷ stack) fits.1.0 parts.0 tail (stops_row version ts rest)
      ∙ rows_run version ts stack (t ∷ []) fits.1.1 parts.1 rest
      ∙ ap (λ us. run version (Some (with_tree stack (row (more t us)))) rest) (list_back ts)
  tree_run version (alt j t) stack fits parts rest stops =
      let low : length stack < MOST_ROUND = omega (arith, room_for (suc (length stack)) t fits.1) in
      let room : nat_lt (length stack) MOST_ROUND ≡ true = lt-ltb (length stack) MOST_ROUND low in
      let one : step version Start stack 35 ≡ At Hash stack = rw room refl in
      let few = fits.0 in
      ap (λ l. run version (At Start stack) (35 ∷ l)) (append_assoc (decimal j) (58 ∷ text_of version t) rest)
      ∙ ap (λ o. run version o (decimal j ++ 58 ∷ (text_of version t ++ rest))) one
      ∙ number_run version stack j (omega arith) (58 ∷ (text_of version t ++ rest))
      ∙ tree_run version t (Alt j ∷ stack) fits.1 parts rest stops
  tree_run version (named l t) stack fits parts rest stops =
      let low : length stack < MOST_ROUND = omega (arith, room_for (suc (length stack)) t fits) in
      ap (λ k. run version (At Start stack) (60 ∷ k)) (append_assoc l (62 ∷ 61 ∷ text_of version t) rest)
      ∙ label_run version stack l low parts.0 (text_of version t ++ rest)
      ∙ tree_run version t (Named l ∷ stack) fits parts.1 rest stops

  rows_run : (version : Version) (ts : Trees) (stack : List Frame) (before : List TreeV)
      → AllFitInside (suc (length stack)) ts → AllHaveTreeParts ts → (rest : List ℕ)
      → run version (At Behind (Row before ∷ stack)) (rest_text version ts ++ 93 ∷ rest) ≡ run version
      (Some (with_tree stack (row (trees_of (before ++ list_of ts))))) rest
  rows_run version none stack before fit have rest =
      ap (λ us. run version (Some (with_tree stack (row (trees_of us)))) rest) (sym (append-nil before))
  rows_run version (more t ts) stack before fit have rest =
      let tail : List ℕ = rest_text version ts ++ 93 ∷ rest in
      ap (λ l. run version (At Start (Row before ∷ stack)) l) (append_assoc (text_of version t) (rest_text version ts) (93 ∷ rest))
      ∙ tree_run version t (Row before ∷ stack) fit.0 have.0 tail (stops_row version ts rest)
      ∙ rows_run version ts stack (before ++ t ∷ []) fit.1 have.1 rest
      ∙ ap (λ us. run version (Some (with_tree stack (row (trees_of us)))) rest) (append_assoc before (t ∷ []) (list_of ts))

-- the reader has the tree at the end of its text
pub text_run : (version : Version) (t : TreeV) (text : List ℕ) → IsTextOf version t text → run version (At Start []) text ≡ Some t
text_run version t text is =
    ap (λ l. run version (At Start []) l) (is.spelled ∙ sym (append-nil (text_of version t)))
    ∙ tree_run version t [] is.fits is.parts [] stops_end

-- no two trees share a text
pub one_tree : (version : Version) (t u : TreeV) (text : List ℕ) → IsTextOf version t text → IsTextOf version u text → t ≡ u
one_tree version t u text left right =
    let same : Some t ≡ Some u = sym (text_run version t text left) ∙ text_run version u text right in cc
