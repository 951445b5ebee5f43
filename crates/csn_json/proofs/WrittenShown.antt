-- What is written for a tree is read back as its value.
use Rattle.std.proofs.Common.{◌≡◌, ℕ, suc, ◌<◌, ◌≤◌, nat_le, Bool, true, false, List, [], ◌∷◌, ◌++◌, codes, Some}
use Rattle.std.proofs.Common.{option_and_then, IsUtf8, refl, sym, ap, ◌∙◌, subst, arith, append-nil}
use Rattle.std.specs.List.{list_all}
use Rattle.std.proofs.lemmas.Fmt.{IsAscii-decimal}
use Rattle.std.proofs.lemmas.Str.{IsUtf8-from_ascii, IsUtf8-append, IsUtf8-nil}
use Rattle.std.proofs.lemmas.Str.Ascii.{IsAscii-nil, IsAscii-cons}
use Rattle.json.specs.Json as json
use Rattle.json.specs.Lex.{tokens}
use Rattle.json.specs.Print.{quoted, print}
use Rattle.json.specs.Tree as tokens_of
use Rattle.json.proofs.Printed.Decimals.{IsNumber-decimal}
use Rattle.json.proofs.Printed.Tokens.{tokens-print}
use Rattle.json.proofs.Printed.Trees.{value-json_tokens, ArePrintable-json_tokens}
use Rattle.json.proofs.Printed.Utf8.{IsUtf8-quoted}
use Rattle.csn_bits.specs.Line.{written}
use Rattle.csn_desc.specs.TreeV.{TreeV, empty, bits, row, alt, named, Trees, none, more}
use Rattle.csn_desc.specs.TreeParts.{HasTreeParts, AllHaveTreeParts}
use Rattle.csn_treetext.specs.Fits.{Fits, FitsInside, AllFitInside}
use Rattle.serde_json.specs.Data.{Data, null, boolean, number, string, array, object, unsigned, Items, no_items, item}
use Rattle.serde_json.specs.Data.{Members, no_members, member, depth, items_depth, members_depth}
use Rattle.serde_json.specs.Read.{read, max_depth, of_json, of_items}
use Rattle.serde_json.specs.Written.{outline, items_outline, members_outline, compact_text, items_text, comma_if}
use Rattle.serde_json.proofs.Numbers.{number_of-decimal}
use Rattle.serde_json.proofs.Texts.{print-outline}
use Rattle.csn_json.specs.JsonTree.{json_of, items_of, tagged}
use Rattle.csn_json.specs.JsonText.{WrittenJson, JsonText}
use Rattle.csn_json.proofs.Ascii.{ascii_if, written_is_ascii, label_is_ascii}
use Rattle.csn_json.proofs.Writing.{is_shallow}

-- ---- the outline of a value reads as it

mutual
  same_depth : (d : Data) → tokens_of.depth (outline d) ≡ depth d
  same_depth null = refl
  same_depth (boolean b) = refl
  same_depth (number n) = refl
  same_depth (string s) = refl
  same_depth (array ds) = ap suc (same_items_depth ds)
  same_depth (object ms) = ap suc (same_members_depth ms)

  same_items_depth : (ds : Items) → tokens_of.items_depth (items_outline ds) ≡ items_depth ds
  same_items_depth no_items = refl
  same_items_depth (item d ds) = rw (same_depth d, same_items_depth ds) refl

  same_members_depth : (ms : Members) → tokens_of.members_depth (members_outline ms) ≡ members_depth ms
  same_members_depth no_members = refl
  same_members_depth (member k d ms) = rw (same_depth d, same_members_depth ms) refl

mutual
  reads_outline : (round : ℕ) (t : TreeV) → FitsInside round t → of_json (outline (json_of t)) ≡ Some (json_of t)
  reads_outline round empty fits = refl
  reads_outline round (bits b) fits = refl
  reads_outline round (row ts) fits = rw (reads_items (suc round) ts fits.1) refl
  reads_outline round (alt j t) fits =
      let low = fits.0 in
      rw (number_of-decimal j (omega (arith, low)), reads_outline (suc round) t fits.1) refl
  reads_outline round (named l t) fits = rw (reads_outline (suc round) t fits) refl

  reads_items : (round : ℕ) (ts : Trees) → AllFitInside round ts → of_items (items_outline (items_of ts)) ≡ Some (items_of ts)
  reads_items round none fits = refl
  reads_items round (more t ts) fits = rw (reads_outline round t fits.0, reads_items round ts fits.1) refl

mutual
  has_numbers : (round : ℕ) (t : TreeV) → FitsInside round t → tokens_of.HasNumbers (outline (json_of t))
  has_numbers round empty fits = tt
  has_numbers round (bits b) fits = tt
  has_numbers round (row ts) fits = items_have_numbers (suc round) ts fits.1
  has_numbers round (alt j t) fits = let low = fits.0 in (IsNumber-decimal j (omega (arith, low)), (has_numbers (suc round) t fits.1, tt))
  has_numbers round (named l t) fits = (tt, (has_numbers (suc round) t fits, tt))

  items_have_numbers : (round : ℕ) (ts : Trees) → AllFitInside round ts → tokens_of.ItemsHaveNumbers (items_outline (items_of ts))
  items_have_numbers round none fits = tt
  items_have_numbers round (more t ts) fits = (has_numbers round t fits.0, items_have_numbers round ts fits.1)

-- the tokens that are printed are read as the value that they are of
printed : (j : json.Json) → tokens_of.HasNumbers j → tokens_of.depth j ≤ max_depth
    → option_and_then (λ p. json.if_last p.0 p.1) (json.value max_depth (tokens (print (tokens_of.json_tokens j)))) ≡ Some j
printed j numbers shallow =
    let ts = tokens_of.json_tokens j in
    ap (option_and_then (λ p. json.if_last p.0 p.1))
    (ap (json.value max_depth) (tokens-print ts (ArePrintable-json_tokens j numbers) ∙ sym (append-nil ts)) ∙ value-json_tokens j max_depth [] shallow)

reads_back : (t : TreeV) → Fits t → read (compact_text (json_of t)) ≡ Some (json_of t)
reads_back t fits =
    let whole = outline (json_of t) in
    let shallow : tokens_of.depth whole ≤ 127 = omega (arith, same_depth (json_of t), is_shallow t fits) in
    ap read (sym (print-outline (json_of t))) ∙ ap (option_and_then of_json) (printed whole (has_numbers 0 t fits) shallow) ∙ reads_outline 0 t fits

-- ---- its bytes are UTF-8

word_utf8 : (word : List ℕ) → list_all (λ byte. nat_le byte 127) word ≡ true → IsUtf8 word
word_utf8 word low = IsUtf8-from_ascii word (ascii_if word low)

comma_utf8 : (later : Bool) → IsUtf8 (comma_if later)
comma_utf8 true = word_utf8 (44 ∷ []) refl
comma_utf8 false = IsUtf8-nil

byte_before : (c : ℕ) (rest : List ℕ) → c < 128 → IsUtf8 rest → IsUtf8 (c ∷ rest)
byte_before c rest low is = IsUtf8-append (c ∷ []) rest (IsUtf8-from_ascii _ (IsAscii-cons c [] low IsAscii-nil)) is

-- a member behind its comma
member_utf8 : (later : Bool) (k : List ℕ) (text rest : List ℕ) → IsUtf8 k → IsUtf8 text → IsUtf8 rest
    → IsUtf8 (comma_if later ++ (quoted k ++ 58 ∷ (text ++ rest)))
member_utf8 later k text rest key is after =
    IsUtf8-append _ _ (comma_utf8 later) (IsUtf8-append _ _ (IsUtf8-quoted k key) (byte_before 58 _ (omega arith) (IsUtf8-append _ _ is after)))

tagged_utf8 : (key : List ℕ) (of inside : Data) → IsUtf8 key → IsUtf8 (compact_text of) → IsUtf8 (compact_text inside)
    → IsUtf8 (compact_text (tagged key of inside))
tagged_utf8 key of inside k is below =
    byte_before 123 _ (omega arith)
    (member_utf8 false key _ _ k is
    (member_utf8 true (codes "tree") _ _ (word_utf8 (codes "tree") refl) below (byte_before 125 [] (omega arith) IsUtf8-nil)))

mutual
  text_utf8 : (round : ℕ) (t : TreeV) → FitsInside round t → HasTreeParts t → IsUtf8 (compact_text (json_of t))
  text_utf8 round empty fits parts = word_utf8 (codes "null") refl
  text_utf8 round (bits b) fits parts = IsUtf8-quoted (written b) (IsUtf8-from_ascii _ (written_is_ascii b))
  text_utf8 round (row ts) fits parts = byte_before 91 _ (omega arith) (items_utf8 (suc round) ts false fits.1 parts)
  text_utf8 round (alt j t) fits parts =
      let low = fits.0 in
      tagged_utf8 (codes "alt") (number (unsigned j)) (json_of t) (word_utf8 (codes "alt") refl)
      (IsUtf8-from_ascii _ (IsAscii-decimal j (omega (arith, low)))) (text_utf8 (suc round) t fits.1 parts)
  text_utf8 round (named l t) fits parts =
      tagged_utf8 (codes "label") (string l) (json_of t) (word_utf8 (codes "label") refl)
      (IsUtf8-quoted l (IsUtf8-from_ascii l (label_is_ascii l parts.0))) (text_utf8 (suc round) t fits parts.1)

  items_utf8 : (round : ℕ) (ts : Trees) (later : Bool) → AllFitInside round ts → AllHaveTreeParts ts → IsUtf8 (items_text later (items_of ts))
  items_utf8 round none later fits parts = word_utf8 (93 ∷ []) refl
  items_utf8 round (more t ts) later fits parts =
      IsUtf8-append _ _ (comma_utf8 later) (IsUtf8-append _ _ (text_utf8 round t fits.0 parts.0) (items_utf8 round ts true fits.1 parts.1))

pub written_shown : (t : TreeV) (text : List ℕ) → WrittenJson t text → JsonText t text
written_shown t text is =
    let here = is.spelled in (
      json_of t,
      record {
        utf8 = subst IsUtf8 (sym here) (text_utf8 0 t is.fits is.parts);
        reads = ap read here ∙ reads_back t is.fits;
      },
      record { fits = is.fits; parts = is.parts; shown = refl },
    )
