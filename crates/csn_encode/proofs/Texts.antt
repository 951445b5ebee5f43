-- Texts of trees, piece by piece.
use Rattle.std.proofs.Common.{◌≡◌, ℕ, zero, suc, ◌+◌, ◌*◌, ◌/◌, ◌%◌, ◌^◌, ◌<◌, ◌≤◌, List, [], ◌∷◌, ◌++◌, length}
use Rattle.std.proofs.Common.{append_assoc, append-nil, refl, sym, ◌∙◌, ap, subst, arith, codes, false, Option, Some, None}
use Rattle.std.proofs.Common.{Bor}
use Rattle.std.specs.Prelude.{◌≢◌, MatchOption, IfSome}
use Rattle.std.specs.Fmt.{decimal}
use Rattle.std.proofs.Math.Nat.{div-lt_iff_lt-mul}
use Rattle.std.proofs.lemmas.Fmt.{decimal_digit, decimal_step}
use Rattle.std.proofs.Common.{length-append, pow_pos}
use Rattle.csn_bits.specs.Octets.{IsBits, most_bits}
use Rattle.csn_bits.specs.Line.{written}
use Rattle.csn_bits.specs.Numbers.{low_bits}
use Rattle.csn_bits.proofs.NumberFacts.{length-low_bits, IsBits-low_bits}
use Rattle.csn_desc.specs.TreeV.{TreeV, empty, bits, row, alt, named, trees_of}
use Rattle.csn_desc.specs.Label.{IsLabel}
use Rattle.csn_treetext.specs.declared.version.Version.TheVariants.{Second}
use Rattle.csn_treetext.specs.reader.Numeral.{greatest_of}
use Rattle.csn_treetext.specs.Text.{text_of, row_text}
use Rattle.csn_json.specs.JsonText.{json_text, row_text as json_row}
use Rattle.csn_json.specs.Laws.{TextsAreJoined}
use Rattle.csn_json.specs.declared.form.TreeForm.{TreeForm}
use Rattle.csn_json.specs.declared.form.TreeForm.TheVariants.{Text, Json}
use Rattle.csn_json.specs.Forms.{gap, label_text, mark_text, nothing_text, text_in}
use Rattle.csn_treetext.proofs.WholeTrees.{number_text}
use Rattle.csn_encode.specs.declared.draft.Draft.{Draft}
use Rattle.std.proofs.Common.{drop, take, ◌⊎◌, true, if◌then◌else◌, slice_get}
use Rattle.csn_bits.specs.Numbers.{number_of}
use Rattle.csn_desc.specs.Nodes.{DescV}
use Rattle.csn_desc.specs.Values.{Values}
use Rattle.csn_desc.specs.Means.{TimesMean}
use Rattle.csn_desc.specs.Formed.{is_counted, IsDescription}
use Rattle.csn_treetext.proofs.Rows.{row_text-one, row_text-push}
use Rattle.csn_encode.specs.Following.{BeginsWithRow, closing, trees_in}
use Rattle.csn_encode.specs.Writing.{Stands, StandsAtPart, StandsAtParts, Added, Adds, AddsParts}
use Rattle.csn_encode.proofs.Steps.{PartsDone, TurnsDone, parts_begin, part_stands, parts_more, parts_all}
use Rattle.csn_encode.proofs.Steps.{stands_in_window, turns_begin, turns_more, turns_all}

pub first_digit : (d k : ℕ) (text behind : List ℕ) → text ≡ (48 + d) ∷ behind → d < 10 → k ≡ d → text ≡ decimal k ++ behind
first_digit d k text behind is small same = is ∙ ap (λ l. l ++ behind) (sym (ap decimal same ∙ decimal_digit d small))

-- a number with one digit more
pub digit_more : (n d k : ℕ) (text rest behind : List ℕ) → text ≡ decimal n ++ rest → rest ≡ (48 + d) ∷ behind → 0 < n
    → n < 1844674407370955160 → d < 10 → k ≡ d → text ≡ decimal (10 * n + k) ++ behind
digit_more n d k text rest behind is next some few small same =
    let whole = 10 * n + k in
    let front : whole / 10 ≡ n = omega (arith, small, same) in
    let last : 48 + whole % 10 ≡ 48 + d = omega (arith, small, same) in
    is ∙ ap (λ l. decimal n ++ l) next ∙ sym (append_assoc (decimal n) ((48 + d) ∷ []) behind)
    ∙ ap (λ l. l ++ behind) (sym (decimal_step whole (omega (arith, some)) (omega (arith, few, small, same))
    ∙ ap (λ m. decimal m ++ (48 + whole % 10) ∷ []) front ∙ ap (λ c. decimal n ++ c ∷ []) last))

-- ---- what a call answered

pub on_some : {A : Type 0} {P Q : A → Type 0} (r : Option A) → ((x : A) → P x → Q x) → IfSome r P → IfSome r Q
on_some None by h = tt
on_some (Some x) by h = by x h

pub stripped : (s p : List ℕ) (r : Option (Bor (List ℕ)))
    → MatchOption r ((rest : List ℕ) → s ≢ p ++ rest) (λ x. s ≡ p ++ x.now) → IfSome r (λ x. s ≡ p ++ x.now)
stripped s p None m = tt
stripped s p (Some x) m = m

-- ---- leaves

-- the text of a number of bits that write a number
pub short_begins : (wanted value width : ℕ) (text behind value_text rest : List ℕ) → 1 ≤ wanted → wanted ≤ 56 → value / 2 ^ wanted ≡ 0 → width ≡ wanted
    → text ≡ decimal width ++ behind → behind ≡ 39 ∷ value_text → value_text ≡ decimal value ++ rest
    → text ≡ text_of Second (bits (low_bits wanted value)) ++ rest
short_begins wanted value width text behind value_text rest some few small same front quote is =
    let low : value < 1 * 2 ^ wanted = (div-lt_iff_lt-mul {k = 2 ^ wanted} {x = value} {y = 1} (pow_pos wanted)).0 (omega (arith, small)) in
    let least : value ≤ greatest_of wanted = omega (arith, low) in
    front ∙ ap (λ w. decimal w ++ behind) same ∙ ap (λ l. decimal wanted ++ l) (quote ∙ ap (λ l. 39 ∷ l) is)
    ∙ sym (append_assoc (decimal wanted) (39 ∷ decimal value) rest)
    ∙ ap (λ l. l ++ rest) (sym (number_text Second wanted value some (omega (arith, few)) least))

pub short_added : (wanted value : ℕ) {old new : Draft} → length old.bits + wanted ≤ most_bits
    → new.bits ≡ old.bits ++ low_bits wanted value → new.path ≡ old.path → new.numbers.items ≡ old.numbers.items
    → Added (λ b. (b ≡ low_bits wanted value) × IsBits b) old new
short_added wanted value {old = old} room is path numbers =
    let long = ap length is ∙ length-append old.bits (low_bits wanted value) in
    let size = length-low_bits wanted value in
    record {
      added = low_bits wanted value;
      meant = (refl, IsBits-low_bits wanted value);
      bits = is;
      within =
          omega (arith, long, size, room);
      path = path;
      numbers = numbers;
    }

-- no bits
pub nothing_begins : (form : TreeForm) (text rest : List ℕ) → text ≡ nothing_text form ++ rest → text ≡ text_in form empty ++ rest
nothing_begins Text text rest is = is
nothing_begins Json text rest is = is

-- the block line of some bits in its quotes
pub quoted_begins : TextsAreJoined → (b text line_text line rest : List ℕ) → IsBits b → text ≡ 34 ∷ line_text
    → line_text ≡ line ++ 34 ∷ rest → line ≡ written b → text ≡ json_text (bits b) ++ rest
quoted_begins joined b text line_text line rest are is ends spelled =
    is ∙ ap (λ l. 34 ∷ l) (ends ∙ ap (λ l. l ++ 34 ∷ rest) spelled ∙ sym (append_assoc (written b) (34 ∷ []) rest))
    ∙ ap (λ l. l ++ rest) (sym (joined.leaf b are))

-- nothing is behind a whole text
pub whole_text : (text front rest : List ℕ) → text ≡ front ++ rest → length rest ≡ 0 → text ≡ front
whole_text text front [] is none = is ∙ append-nil front
whole_text text front (x ∷ rest) is none = absurd (omega (arith, none))

-- ---- the texts of nodes with parts

-- pieces that are joined to the right are joined to the left
five : (a b c t e rest : List ℕ) → (a ++ (b ++ c)) ++ (t ++ (e ++ rest)) ≡ (a ++ (b ++ (c ++ (t ++ e)))) ++ rest
five a b c t e rest =
    append_assoc a (b ++ c) (t ++ (e ++ rest)) ∙ ap (λ l. a ++ l) (append_assoc b c (t ++ (e ++ rest)))
    ∙ ap (λ l. a ++ (b ++ (c ++ l))) (sym (append_assoc t e rest))
    ∙ ap (λ l. a ++ (b ++ l)) (sym (append_assoc c (t ++ e) rest))
    ∙ ap (λ l. a ++ l) (sym (append_assoc b (c ++ (t ++ e)) rest))
    ∙ sym (append_assoc a (b ++ (c ++ (t ++ e))) rest)

-- what stands round the text of a tree, piece by piece
around : (a b c t e text inner mid rest : List ℕ) → text ≡ (a ++ (b ++ c)) ++ inner → inner ≡ t ++ mid → mid ≡ e ++ rest
    → text ≡ (a ++ (b ++ (c ++ (t ++ e)))) ++ rest
around a b c t e text inner mid rest is within closed =
    is ∙ ap (λ l. (a ++ (b ++ c)) ++ l) (within ∙ ap (λ l. t ++ l) closed) ∙ five a b c t e rest

-- nothing is behind the tree
open_around : (a b c t text inner rest : List ℕ) → text ≡ (a ++ (b ++ c)) ++ inner → inner ≡ t ++ rest
    → text ≡ (a ++ (b ++ (c ++ t))) ++ rest
open_around a b c t text inner rest is within =
    around a b c t [] text inner rest rest is within refl ∙ ap (λ l. (a ++ (b ++ (c ++ l))) ++ rest) (append-nil t)

pub row_begins : (form : TreeForm) → TextsAreJoined → (ts : List TreeV) (text inner rest : List ℕ)
    → text ≡ 91 ∷ inner → inner ≡ trees_in form (trees_of ts) ++ 93 ∷ rest
    → text ≡ text_in form (row (trees_of ts)) ++ rest
row_begins Text joined ts text inner rest is within =
    is ∙ ap (λ l. 91 ∷ l) (within ∙ sym (append_assoc (row_text Second (trees_of ts)) (93 ∷ []) rest))
row_begins Json joined ts text inner rest is within =
    is ∙ ap (λ l. 91 ∷ l) (within ∙ sym (append_assoc (json_row false (trees_of ts)) (93 ∷ []) rest))
    ∙ ap (λ l. l ++ rest) (sym (joined.rows (trees_of ts)))

pub alternative_begins : (form : TreeForm) → TextsAreJoined → (j : ℕ) (t : TreeV) (text inner mid rest : List ℕ)
    → text ≡ mark_text form j ++ inner → inner ≡ text_in form t ++ mid → mid ≡ closing form ++ rest
    → text ≡ text_in form (alt j t) ++ rest
alternative_begins Text joined j t text inner mid rest is within closed =
    open_around (35 ∷ []) (decimal j) (58 ∷ []) (text_of Second t) text inner rest is (within ∙ ap (λ l. text_of Second t ++ l) closed)
alternative_begins Json joined j t text inner mid rest is within closed =
    around (codes "{\"alt\":") (decimal j) (codes ",\"tree\":") (json_text t) (codes "}") text inner mid rest is within closed
    ∙ ap (λ l. l ++ rest) (sym (joined.alternative j t))

pub label_begins : (form : TreeForm) → TextsAreJoined → (label : List ℕ) → IsLabel label → (t : TreeV)
    (text inner mid rest : List ℕ) → text ≡ label_text form label ++ inner → inner ≡ text_in form t ++ mid
    → mid ≡ closing form ++ rest → text ≡ text_in form (named label t) ++ rest
label_begins Text joined label are t text inner mid rest is within closed =
    open_around (60 ∷ []) label (62 ∷ 61 ∷ []) (text_of Second t) text inner rest is (within ∙ ap (λ l. text_of Second t ++ l) closed)
label_begins Json joined label are t text inner mid rest is within closed =
    around (codes "{\"label\":\"") label (codes "\",\"tree\":") (json_text t) (codes "}") text inner mid rest is within closed
    ∙ ap (λ l. l ++ rest) (sym (joined.labelled label t are))

-- a row of JSON with one tree more, behind others
json_row-push : (front : List TreeV) (t : TreeV) (behind : List ℕ)
    → json_row true (trees_of front) ++ 44 ∷ (json_text t ++ behind) ≡ json_row true (trees_of (front ++ t ∷ [])) ++ behind
json_row-push [] t behind = ap (λ l. 44 ∷ l) (ap (λ l. l ++ behind) (sym (append-nil (json_text t))))
json_row-push (u ∷ front) t behind =
    ap (λ l. 44 ∷ l)
    (append_assoc (json_text u) (json_row true (trees_of front)) (44 ∷ (json_text t ++ behind))
    ∙ ap (λ l. json_text u ++ l) (json_row-push front t behind)
    ∙ sym (append_assoc (json_text u) (json_row true (trees_of (front ++ t ∷ []))) behind))

-- a row with one tree more
row_push : (form : TreeForm) (u : TreeV) (front : List TreeV) (t : TreeV) (behind : List ℕ)
    → trees_in form (trees_of (u ∷ front)) ++ gap form ∷ (text_in form t ++ behind)
    ≡ trees_in form (trees_of ((u ∷ front) ++ t ∷ [])) ++ behind
row_push Text u front t behind =
    sym (append_assoc (row_text Second (trees_of (u ∷ front))) (32 ∷ text_of Second t) behind)
    ∙ ap (λ l. l ++ behind) (sym (row_text-push Second u front t))
row_push Json u front t behind =
    append_assoc (json_text u) (json_row true (trees_of front)) (44 ∷ (json_text t ++ behind))
    ∙ ap (λ l. json_text u ++ l) (json_row-push front t behind)
    ∙ sym (append_assoc (json_text u) (json_row true (trees_of (front ++ t ∷ []))) behind)

row_of_one : (form : TreeForm) (t : TreeV) → trees_in form (trees_of (t ∷ [])) ≡ text_in form t
row_of_one Text t = row_text-one Second t
row_of_one Json t = append-nil (json_text t)

-- no trees have no text
pub no_trees : (form : TreeForm) (text : List ℕ) → text ≡ trees_in form (trees_of []) ++ text
no_trees Text text = refl
no_trees Json text = refl

pub row_more : (form : TreeForm) (front : List TreeV) (count : ℕ) (t : TreeV) (text rest next behind : List ℕ)
    → length front ≡ count → text ≡ trees_in form (trees_of front) ++ rest
    → (count ≡ 0 → rest ≡ next) → (0 < count → rest ≡ gap form ∷ next) → next ≡ text_in form t ++ behind
    → text ≡ trees_in form (trees_of (front ++ t ∷ [])) ++ behind
row_more form [] count t text rest next behind long is first later within =
    is ∙ sym (no_trees form rest) ∙ first (sym long) ∙ within ∙ ap (λ l. l ++ behind) (sym (row_of_one form t))
row_more form (u ∷ front) count t text rest next behind long is first later within =
    is ∙ ap (λ l. trees_in form (trees_of (u ∷ front)) ++ l) (later (omega (arith, long)) ∙ ap (λ l. gap form ∷ l) within)
    ∙ row_push form u front t behind

at_front : (front us : List TreeV) (t : TreeV) (count : ℕ) → length front ≡ count → slice_get (front ++ t ∷ us) count ≡ Some t
at_front [] us t zero long = refl
at_front [] us t (suc count) long = absurd (omega (arith, long))
at_front (u ∷ front) us t zero long = absurd (omega (arith, long))
at_front (u ∷ front) us t (suc count) long = at_front front us t count (omega (arith, long))

-- ---- rows that are written along their text

module _ (d : DescV) (form : TreeForm) where
  -- the trees of the first parts are written, up to the rest of the text, whatever trees come behind them
  pub record PartsAlong (parts : List ℕ) (round : ℕ) (old : Draft) (text : List ℕ) (count kept : ℕ) (rest : List ℕ) (new : Draft) : Type 0 where
    pub front : List TreeV
    pub long : length front ≡ count
    pub begins : text ≡ trees_in form (trees_of front) ++ rest
    pub done : (us : List TreeV) (v : Values) → StandsAtParts d true parts round v old → PartsDone d parts (front ++ us) round v old count kept new

  pub parts_along : (parts : List ℕ) (round : ℕ) (old : Draft) (text : List ℕ) → PartsAlong parts round old text 0 0 text old
  parts_along parts round old text = record { front = []; long = refl; begins = no_trees form text; done = λ us v s. parts_begin d parts us round s }

  pub part_next : {parts : List ℕ} {round : ℕ} {old new : Draft} {text rest : List ℕ} {count kept part : ℕ}
      → PartsAlong parts round old text count kept rest new → slice_get parts count ≡ Some part
      → (v : Values) → StandsAtParts d true parts round v old → (now : Values) × Stands d part (round + 1) now new
      × IsDescription d × StandsAtPart d part round now new
  part_next {parts = parts} {round = round} along here v s =
      let done = along.done [] v s in
      let stands = part_stands d parts (along.front ++ []) round done here in
      (done.now, stands_in_window d stands, done.ready.description, stands)

  pub part_more : {parts : List ℕ} {round : ℕ} {old new written after : Draft} {text rest next behind : List ℕ}
      {count kept kept2 part : ℕ} (t : TreeV) (from : ℕ) → from ≡ length new.bits
      → PartsAlong parts round old text count kept rest new → slice_get parts count ≡ Some part
      → (count ≡ 0 → rest ≡ next) → (0 < count → rest ≡ gap form ∷ next) → next ≡ text_in form t ++ behind
      → ((v : Values) → Stands d part (round + 1) v new → Adds d part v t new written)
      → after.bits ≡ written.bits → after.path ≡ written.path
      → after.numbers.items ≡ (if is_counted d.nodes part then written.numbers.items ++ record {
        field = part;
        value =
            number_of (drop from written.bits);
      } ∷ [] else written.numbers.items)
      → ((length new.bits < length after.bits) × (kept2 ≡ count + 1)) ⊎ ((length after.bits ≤ length new.bits) × (kept2 ≡ kept))
      → PartsAlong parts round old text (count + 1) kept2 behind after
  part_more {parts = parts} {round = round} {old = old} {after = after} {text = text} {rest = rest} {next = next}
      {behind = behind} {count = count} {kept2 = kept2} t from begins along here first later within adds same path
      numbers which =
      let front = along.front in
      record {
        front = front ++ t ∷ [];
        long = length-append front (t ∷ []) ∙ ap (λ n. n + 1) along.long;
        begins = row_more form front count t text rest next behind along.long along.begins first later within;
        done = λ us v s.
            let done = along.done (t ∷ us) v s in
            let P : List TreeV → Type 0 = λ l. PartsDone d parts l round v old (count + 1) kept2 after in
            subst P (sym (append_assoc front (t ∷ []) us))
            (parts_more d parts (front ++ t ∷ us) round from begins done here (at_front front us t count along.long)
            (adds done.now (stands_in_window d (part_stands d parts (front ++ t ∷ us) round done here))) same path numbers which);
      }

  pub parts_end : {parts : List ℕ} {round : ℕ} {old new after : Draft} {text inner rest : List ℕ} {count kept : ℕ}
      → PartsAlong parts round old text count kept inner new → inner ≡ 93 ∷ rest
      → after.bits ≡ new.bits → after.path ≡ new.path → after.numbers.items ≡ take (length old.numbers.items) new.numbers.items
      → BeginsWithRow form text (λ ts. (v : Values) → StandsAtParts d true parts round v old → AddsParts d parts v (trees_of ts) old after kept) count rest
  parts_end {parts = parts} {round = round} {old = old} {new = new} {count = count} {kept = kept} along closed same path numbers = (
    along.front,
    along.long,
    along.begins ∙ ap (λ l. trees_in form (trees_of along.front) ++ l) closed,
    λ v s.
        let P : List TreeV → Type 0 = λ l. PartsDone d parts l round v old count kept new in
        parts_all d parts along.front round (subst P (append-nil along.front) (along.done [] v s)) (sym along.long) same path numbers,
  )

  -- the same of turns
  pub record TurnsAlong (part round : ℕ) (old : Draft) (text : List ℕ) (count : ℕ) (rest : List ℕ) (new : Draft) : Type 0 where
    pub front : List TreeV
    pub long : length front ≡ count
    pub begins : text ≡ trees_in form (trees_of front) ++ rest
    pub done : (us : List TreeV) (v : Values) → StandsAtPart d part round v old → TurnsDone d part (front ++ us) round v old count new

  pub turns_along : (part round : ℕ) (old : Draft) (text : List ℕ) → TurnsAlong part round old text 0 text old
  turns_along part round old text = record { front = []; long = refl; begins = no_trees form text; done = λ us v s. turns_begin d part us round s }

  pub turn_next : {part round : ℕ} {old new : Draft} {text rest : List ℕ} {count : ℕ}
      → TurnsAlong part round old text count rest new → (v : Values) → StandsAtPart d part round v old
      → Stands d part (round + 1) v new
  turn_next along v s = let done = along.done [] v s in stands_in_window d done.stands

  pub turn_more : {part round : ℕ} {old new written : Draft} {text rest next behind : List ℕ} {count : ℕ} (t : TreeV)
      → TurnsAlong part round old text count rest new
      → (count ≡ 0 → rest ≡ next) → (0 < count → rest ≡ gap form ∷ next) → next ≡ text_in form t ++ behind
      → ((v : Values) → Stands d part (round + 1) v new → Adds d part v t new written)
      → TurnsAlong part round old text (count + 1) behind written
  turn_more {part = part} {round = round} {old = old} {written = written} {text = text} {rest = rest} {next = next}
      {behind = behind} {count = count} t along first later within adds =
      let front = along.front in
      record {
        front = front ++ t ∷ [];
        begins = row_more form front count t text rest next behind along.long along.begins first later within;
        long = length-append front (t ∷ []) ∙ ap (λ n. n + 1) along.long;
        done = λ us v s.
            let done = along.done (t ∷ us) v s in
            let P : List TreeV → Type 0 = λ l. TurnsDone d part l round v old (count + 1) written in
            subst P (sym (append_assoc front (t ∷ []) us))
            (turns_more d part (front ++ t ∷ us) round done (at_front front us t count along.long) (adds v (stands_in_window d done.stands)));
      }

  pub turns_end : {part round : ℕ} {old new : Draft} {text inner rest : List ℕ} {count : ℕ}
      → TurnsAlong part round old text count inner new → inner ≡ 93 ∷ rest
      → BeginsWithRow form text (λ ts. (v : Values) → StandsAtPart d part round v old → Added
      (λ b. TimesMean d (length ts) part (length old.bits) v b (trees_of ts)) old new) count rest
  turns_end {part = part} {round = round} {old = old} {new = new} {count = count} along closed = (
    along.front,
    along.long,
    along.begins ∙ ap (λ l. trees_in form (trees_of along.front) ++ l) closed,
    λ v s.
        let P : List TreeV → Type 0 = λ l. TurnsDone d part l round v old count new in
        turns_all d part along.front round (subst P (append-nil along.front) (along.done [] v s)) (sym along.long),
  )
