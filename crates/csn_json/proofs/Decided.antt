-- Each value shows a tree or none, and so all bytes show a tree or are refused.
use Rattle.std.proofs.Common.{◌≡◌, ℕ, ◌+◌, ◌<◌, ◌⊎◌, inl, inr, Bool, true, false, List, map, codes, Option, Some, None, refl, sym, ap, subst, arith, add-one}
use Rattle.std.specs.Str.{is_utf8}
use Rattle.std.proofs.lemmas.Bool.{cases_lt}
use Rattle.std.proofs.lemmas.Str.{IsUtf8-from_is_utf8, is_utf8-from_IsUtf8}
use Rattle.std.proofs.lemmas.Slice.Eq.{bytes_eq-Decides}
use Rattle.std.specs.Prelude.{bytes_eq}
use Rattle.csn_bits.specs.Line.{fault_of, upper}
use Rattle.csn_bits.specs.declared.fault.LineWhy.{LineWhy}
use Rattle.csn_bits.specs.Laws.{WrittenIsRead, FaultOrBlock}
use Rattle.csn_desc.specs.Label.{is_label, IsLabel}
use Rattle.csn_desc.specs.TreeV.{TreeV, empty, bits, row, Trees, none, more}
use Rattle.csn_desc.specs.declared.desc.TheConstants.{MOST_NODES}
use Rattle.csn_treetext.specs.declared.bounds.TheConstants.{MOST_LEVELS}
use Rattle.csn_treetext.proofs.Fitting.{room_for}
use Rattle.serde_json.specs.Data.{Data, null, boolean, number, string, array, object, unsigned, negative, float}
use Rattle.serde_json.specs.Data.{Items, no_items, item, Members, no_members, member}
use Rattle.serde_json.specs.Read.{read}
use Rattle.csn_json.specs.declared.tag.Tag.{Tag}
use Rattle.csn_json.specs.declared.tag.Tag.TheVariants.{Numbered, Labelled}
use Rattle.csn_json.specs.JsonTree.{tagged}
use Rattle.csn_json.specs.JsonText.{IsJson, Decided}
use Rattle.csn_json.specs.Reading.{IsWritten, IsShown, AreShown, IsTag, with_tag}
use Rattle.csn_json.specs.Laws.{TextsAreDecided}
use Rattle.csn_json.proofs.Lines.{is_upper, spells, from_block_line}
use Rattle.csn_json.proofs.Refusals.{no_truth, no_number, line_of, row_of, members_of, known_members, no_number_under}
use Rattle.csn_json.proofs.Refusals.{no_label_under, no_tag_under, shown_with_tag}
use Rattle.csn_json.proofs.Texts.{is_text}

-- it holds or does not
abbrev pub Either : Type 0 → Type 0
Either A = A ⊎ (A → ⊥)

same_bytes : (xs ys : List ℕ) → Either (xs ≡ ys)
same_bytes xs ys = go (bytes_eq xs ys) refl
  where
    go : (b : Bool) → bytes_eq xs ys ≡ b → Either (xs ≡ ys)
    go true is = inl ((bytes_eq-Decides xs ys).0 is)
    go false is = inr (λ e. let yes = (bytes_eq-Decides xs ys).1 e in cc)

is_a_label : (l : List ℕ) → Either (IsLabel l)
is_a_label l = go (is_label l) refl
  where
    go : (b : Bool) → is_label l ≡ b → Either (IsLabel l)
    go true is = inl is
    go false is = inr (λ yes. cc)

-- ---- what stands beside a tree

abbrev IsNumber : Data → Type 0
IsNumber of = (j : ℕ) × (of ≡ number (unsigned j)) × (j < MOST_NODES)

some_number : (of : Data) → Either (IsNumber of)
some_number null = inr (λ is. let e = is.1 in cc)
some_number (boolean b) = inr (λ is. let e = is.1 in cc)
some_number (number (unsigned j)) = elim (cases_lt j MOST_NODES) [
  | inl low ↦ inl (j, refl, low)
  | inr high ↦ inr (λ is. let e = is.1 in let low = is.2 in let same : j ≡ is.0 = cc in omega (arith, same, low, high))
]
some_number (number (negative z)) = inr (λ is. let e = is.1 in cc)
some_number (number (float x)) = inr (λ is. let e = is.1 in cc)
some_number (string s) = inr (λ is. let e = is.1 in cc)
some_number (array ds) = inr (λ is. let e = is.1 in cc)
some_number (object ms) = inr (λ is. let e = is.1 in cc)

abbrev IsSpelled : Data → Type 0
IsSpelled of = (l : List ℕ) × (of ≡ string l) × IsLabel l

some_label : (of : Data) → Either (IsSpelled of)
some_label null = inr (λ is. let e = is.1 in cc)
some_label (boolean b) = inr (λ is. let e = is.1 in cc)
some_label (number n) = inr (λ is. let e = is.1 in cc)
some_label (string s) = elim (is_a_label s) [
  | inl label ↦ inl (s, refl, label)
  | inr never ↦ inr (λ is. let e = is.1 in let same : is.0 ≡ s = cc in never (subst IsLabel same is.2))
]
some_label (array ds) = inr (λ is. let e = is.1 in cc)
some_label (object ms) = inr (λ is. let e = is.1 in cc)

-- ---- values

abbrev Shows : ℕ → Data → Type 0
Shows round value = Either ((t : TreeV) × IsShown round value t)

abbrev AllShow : ℕ → Items → Type 0
AllShow round values = Either ((ts : Trees) × AreShown round values ts)

if_room : (round : ℕ) (value : Data) → (round < MOST_LEVELS → Shows round value) → Shows round value
if_room round value inside = elim (cases_lt round MOST_LEVELS) [
  | inl room ↦ inside room
  | inr full ↦ inr (λ is. omega (arith, full, room_for round is.0 is.1.fits))
]

-- an object of two members
some_tag : (key : List ℕ) (of : Data) → Either ((tag : Tag) × IsTag key of tag)
some_tag key of = elim (same_bytes key (codes "alt")) [
  | inl alternative ↦ elim (some_number of) [
    | inl is ↦ inl (Numbered is.0, (alternative, is.2, is.1))
    | inr never ↦ inr (λ tag. no_number_under key of alternative (λ n low is. never (n, is, low)) tag.0 tag.1)
  ]
  | inr no_alt ↦ elim (same_bytes key (codes "label")) [
    | inl label ↦ elim (some_label of) [
      | inl is ↦ inl (Labelled is.0, (label, is.2, is.1))
      | inr never ↦ inr (λ tag. no_label_under key of label (λ l spelled is. never (l, is, spelled)) tag.0 tag.1)
    ]
    | inr never ↦ inr (λ tag. no_tag_under key of no_alt never tag.0 tag.1)
  ]
]

of_tag : (round : ℕ) (key : List ℕ) (of inside : Data) → Shows (round + 1) inside → Shows round (tagged key of inside)
of_tag round key of inside (inr never) =
    inr (λ is. let found = known_members round _ key of inside refl is.0 is.1 in never (found.tree, found.below))
of_tag round key of inside (inl shown) = elim (some_tag key of) [
  | inl tag ↦ inl (with_tag tag.0 shown.0, shown_with_tag round key of inside tag.0 shown.0 tag.1 shown.1)
  | inr never ↦ inr (λ is. let found = known_members round _ key of inside refl is.0 is.1 in never (found.tag, found.is_tag))
]

-- an object whose second member is no tree
not_tree : (round : ℕ) (k l : List ℕ) (of inside : Data) (ms : Members) → (l ≡ codes "tree" → ⊥) → Shows round (object (member k of (member l inside ms)))
not_tree round k l of inside ms never = inr (λ shown. let found = members_of round _ shown.0 shown.1 in let e =
    found.3 in let same : l ≡ codes "tree" = cc in never same)

two_members : (round : ℕ) (k l : List ℕ) (of inside : Data) → Shows (round + 1) inside → Shows round (object (member k of (member l inside no_members)))
two_members round k l of inside below = elim (same_bytes l (codes "tree")) [
  | inl is ↦ rw is (of_tag round k of inside below)
  | inr never ↦ not_tree round k l of inside no_members never
]

-- ---- rows

first_of_row : (round : ℕ) (value : Data) (values : Items) (ts : Trees) → AreShown round (item value values) ts → (t : TreeV) × IsShown round value t
first_of_row round value values none is = absurd (let e = is.shown in cc)
first_of_row round value values (more t ts) is = (t, record { fits = is.fits.0; parts = is.parts.0; shown = (let e = is.shown in cc) })

rest_of_row : (round : ℕ) (value : Data) (values : Items) (ts : Trees) → AreShown round (item value values) ts → (ts : Trees) × AreShown round values ts
rest_of_row round value values none is = absurd (let e = is.shown in cc)
rest_of_row round value values (more t ts) is = (ts, record { fits = is.fits.1; parts = is.parts.1; shown = (let e = is.shown in cc) })

-- ---- bytes

is_json : (text : List ℕ) → Either ((value : Data) × IsJson text value)
is_json text = go (is_utf8 text) refl (read text) refl
  where
    go : (b : Bool) → is_utf8 text ≡ b → (o : Option Data) → read text ≡ o → Either ((value : Data) × IsJson text value)
    go true utf8 (Some value) reads = inl (value, record { utf8 = IsUtf8-from_is_utf8 text utf8; reads = reads })
    go true utf8 None reads = inr (λ is. let some = is.1.reads in cc)
    go false utf8 value reads = inr (λ is. let yes = is_utf8-from_IsUtf8 text is.1.utf8 in cc)

module _ (read_lines : WrittenIsRead) (decided : FaultOrBlock) where
  line_shows : (line : List ℕ) → Either ((b : List ℕ) × IsWritten line b)
  line_shows line = elim (same_bytes (map upper line) line) [
    | inl same ↦ go same (fault_of line) refl
    | inr never ↦ inr (λ is. never (is_upper read_lines line is.0 is.1))
  ]
    where
      go : map upper line ≡ line → (fault : Option LineWhy) → fault_of line ≡ fault → Either ((b : List ℕ) × IsWritten line b)
      go same None is = let block = (decided line).0 is in inl (block.0, from_block_line line block.0 same block.1)
      go same (Some why) is = inr (λ found. let no_fault = (decided line).1 (found.0, spells read_lines line found.0 found.1) in cc)

  string_shows : (line : List ℕ) (round : ℕ) → round < MOST_LEVELS → Shows round (string line)
  string_shows line round room = elim (line_shows line) [
    | inl b ↦ inl (bits b.0, record { fits = room; parts = (b.1.zeros_and_ones, b.1.few); shown = ap string b.1.spelled })
    | inr never ↦ inr (λ is. never (line_of round line is.0 is.1))
  ]

  row_shows : (values : Items) (round : ℕ) → round < MOST_LEVELS → AllShow (round + 1) values → Shows round (array values)
  row_shows values round room (inl all) =
      let fits = all.1.fits in
      inl (row all.0, record { fits = (room, rw (sym (add-one round)) fits); parts = all.1.parts; shown = ap array all.1.shown })
  row_shows values round room (inr never) = inr (λ is. never (row_of round values is.0 is.1))

  both : (round : ℕ) (value : Data) (values : Items) → Shows round value → AllShow round values → AllShow round (item value values)
  both round value values (inl first) (inl rest) =
      inl (
        more first.0 rest.0,
        record {
          fits = (first.1.fits, rest.1.fits);
          parts =
              (first.1.parts, rest.1.parts);
          shown = rw (first.1.shown, rest.1.shown) refl;
        },
      )
  both round value values (inr never) rest = inr (λ is. never (first_of_row round value values is.0 is.1))
  both round value values (inl first) (inr never) = inr (λ is. never (rest_of_row round value values is.0 is.1))

  mutual
    shows : (value : Data) (round : ℕ) → Shows round value
    shows null round = if_room round null (λ room. inl (empty, record { fits = room; parts = tt; shown = refl }))
    shows (boolean b) round = inr (λ is. no_truth round b is.0 is.1)
    shows (number n) round = inr (λ is. no_number round n is.0 is.1)
    shows (string line) round = if_room round (string line) (λ room. string_shows line round room)
    shows (array values) round = if_room round (array values) (λ room. row_shows values round room (all_show values (round + 1)))
    shows (object no_members) round = inr (λ is. let found = members_of round _ is.0 is.1 in let e = found.3 in cc)
    shows (object (member k of no_members)) round = inr (λ is. let found = members_of round _ is.0 is.1 in let e = found.3 in cc)
    shows (object (member k of (member l inside no_members))) round = two_members round k l of inside (shows inside (round + 1))
    shows (object (member k of (member l inside (member m other ms)))) round = inr (λ is. let found = members_of round _ is.0 is.1 in let e = found.3 in cc)

    all_show : (values : Items) (round : ℕ) → AllShow round values
    all_show no_items round = inl (none, record { fits = tt; parts = tt; shown = refl })
    all_show (item value values) round = both round value values (shows value round) (all_show values round)

  text_of_value : (text : List ℕ) (value : Data) → IsJson text value → Shows 0 value → Decided text
  text_of_value text value json (inl t) = inl (t.0, is_text text value t.0 json t.1)
  text_of_value text value json (inr never) = inr (inr (value, json, λ t is. never (t, record { fits = is.fits; parts = is.parts; shown = is.shown })))

  pub texts_decided : TextsAreDecided
  texts_decided text = elim (is_json text) [
    | inl value ↦ text_of_value text value.0 value.1 (shows value.0 0)
    | inr never ↦ inr (inl (λ value is. never (value, is)))
  ]
