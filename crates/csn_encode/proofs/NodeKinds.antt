-- The kinds of node that have no parts, and trees of another kind.
use Rattle.std.proofs.Common.{◌≡◌, ℕ, ◌*◌, ◌<◌, ◌≤◌, Bool, true, false, not, nat_eq, List, [], ◌∷◌, length, append-nil, refl, sym, ◌∙◌, ap, subst, arith, Some}
use Rattle.std.specs.Global.{Box}
use Rattle.std.specs.Cmp.Lexicographic.{pointwise}
use Rattle.std.proofs.lemmas.Slice.Eq.{bytes_eq-Decides}
use Rattle.std.specs.Prelude.{Result, Ok, Err, OnOk, IfErr}
use Rattle.csn_bits.specs.Octets.{IsBits}
use Rattle.csn_desc.specs.declared.reading.Reading.{Reading}
use Rattle.csn_desc.specs.declared.symbol.Symbol.{Symbol}
use Rattle.csn_desc.specs.declared.symbol.Symbol.TheVariants.{Low}
use Rattle.csn_desc.specs.declared.node.Count.{Count}
use Rattle.csn_desc.specs.declared.node.Node.{Node}
use Rattle.csn_desc.specs.declared.node.Node.TheVariants.{Lits, Spare, Pad, Null, Field, Rest, Choice, Named}
use Rattle.csn_desc.specs.declared.tree.Shape.{Shape}
use Rattle.csn_desc.specs.declared.tree.Shape.TheVariants as shape
use Rattle.csn_desc.specs.TreeV.{TreeV, Trees, empty, bits, row, alt, named, trees_of}
use Rattle.csn_desc.specs.ShapeView.{shape_view}
use Rattle.csn_desc.specs.Nodes.{DescV}
use Rattle.csn_desc.specs.Spelled.{spelled, IsSpare}
use Rattle.csn_desc.specs.Values.{Values, count_of}
use Rattle.csn_desc.specs.Means.{NodeMeans, means_lits, means_spare, means_pad, means_null, means_field, means_rest}
use Rattle.csn_encode.specs.declared.misfit.MisfitWhy.{MisfitWhy}
use Rattle.csn_encode.specs.declared.misfit.MisfitWhy.TheVariants.{WrongKind, WrongWidth, TooManyBits}
use Rattle.csn_encode.specs.declared.draft.Draft.{Draft}
use Rattle.csn_encode.specs.declared.fault.Stop.{Stop}
use Rattle.csn_encode.specs.declared.fault.Stop.TheVariants.{Misfit, NoMemory}
use Rattle.csn_encode.specs.Misfits.{has_kind, IsPast, MissesNode, wrong_kind, wrong_field, wide_spare, no_pad}
use Rattle.csn_encode.specs.Misfits.{wrong_spare, wrong_pad, past_lits, past_field, past_rest, past_spare, past_pad}
use Rattle.csn_encode.specs.Misfits.{misses_here}
use Rattle.csn_encode.specs.Writing.{Added, IfMisfit, AddsNode, StopsAtNode, MissesSpare, not_sent, no_room}
use Rattle.csn_encode.proofs.Steps.{added_as, missed_here}

-- ---- what a call answered

pub on_ok : {A E P Q : Type 0} (r : Result A E) → (P → Q) → OnOk r P → OnOk r Q
on_ok (Ok a) by h = by h
on_ok (Err e) by h = tt

pub if_misfit : {A : Type 0} {P Q : MisfitWhy → Type 0} (r : Result A Stop) → ((why : MisfitWhy) → P why → Q why)
    → IfErr r (λ stop. IfMisfit stop P) → IfErr r (λ stop. IfMisfit stop Q)
if_misfit (Ok a) by h = tt
if_misfit (Err (Misfit why)) by h = by why h
if_misfit (Err NoMemory) by h = tt

-- what a `?` hands on
pub passed : {A : Type 0} {P Q : MisfitWhy → Type 0} (r : Result A Stop) (y e : Stop)
    → r ≡ Err y → y ≡ e → ((why : MisfitWhy) → P why → Q why) → IfMisfit e P → IfErr r (λ stop. IfMisfit stop Q)
passed {A = A} {Q = Q} r y e is same by h =
    let G : Result A Stop → Type 0 = λ x. IfErr x (λ stop. IfMisfit stop Q) in
    let all : r ≡ Err e = is ∙ ap (λ z. Err z) same in
    subst G (sym all) (handed e by h)
  where
    handed : {P Q : MisfitWhy → Type 0} (e : Stop) → ((why : MisfitWhy) → P why → Q why) → IfMisfit e P → IfMisfit e Q
    handed (Misfit why) by h = by why h
    handed NoMemory by h = tt

-- ---- labels

not_false : (p : Bool) → not p ≡ false → p ≡ true
not_false true e = refl
not_false false e = absurd (cc)

pub alike : (xs ys : List ℕ) (r : Bool) → r ≡ not (pointwise nat_eq xs ys) → r ≡ false → xs ≡ ys
alike xs ys r is e = (bytes_eq-Decides xs ys).0 (not_false (pointwise nat_eq xs ys) (sym is ∙ e))

pub differ : (xs ys : List ℕ) (r : Bool) → r ≡ not (pointwise nat_eq xs ys) → r ≡ true → ¬ (xs ≡ ys)
differ xs ys r is e same =
    let equal : pointwise nat_eq xs ys ≡ true = (bytes_eq-Decides xs ys).1 same in
    let clash : true ≡ false = sym e ∙ is ∙ ap not equal in
    absurd (cc)

-- ---- trees

-- the tree that is seen of a shape
pub viewed : {t : TreeV} {s form : Shape} → shape_view s ≡ t → s ≡ form → t ≡ shape_view form
viewed view is = sym view ∙ ap (λ x. shape_view x) is

-- those of another kind, where bits of the node have trees of one kind

pub no_empty : (n : Node) → ((b : List ℕ) → has_kind n (bits b) ≡ false)
    → ((ts : Trees) → has_kind n (row ts) ≡ false) → ((j : ℕ) (t : TreeV) → has_kind n (alt j t) ≡ false)
    → ((l : List ℕ) (t : TreeV) → has_kind n (named l t) ≡ false)
    → (s : Shape) → (s ≡ shape.Empty → ⊥) → has_kind n (shape_view s) ≡ false
no_empty n leaf rows alts labels shape.Empty h = absurd (h refl)
no_empty n leaf rows alts labels (shape.Bits b) h = leaf b
no_empty n leaf rows alts labels (shape.Row r) h = rows (trees_of r)
no_empty n leaf rows alts labels (shape.Alt j t) h = alts j t.value
no_empty n leaf rows alts labels (shape.Named l t) h = labels l t.value

pub no_bits : (n : Node) → has_kind n empty ≡ false → ((ts : Trees) → has_kind n (row ts) ≡ false)
    → ((j : ℕ) (t : TreeV) → has_kind n (alt j t) ≡ false)
    → ((l : List ℕ) (t : TreeV) → has_kind n (named l t) ≡ false)
    → (s : Shape) → ((b : List ℕ) → s ≡ shape.Bits b → ⊥) → has_kind n (shape_view s) ≡ false
no_bits n nothing rows alts labels shape.Empty h = nothing
no_bits n nothing rows alts labels (shape.Bits b) h = absurd (h b refl)
no_bits n nothing rows alts labels (shape.Row r) h = rows (trees_of r)
no_bits n nothing rows alts labels (shape.Alt j t) h = alts j t.value
no_bits n nothing rows alts labels (shape.Named l t) h = labels l t.value

pub no_row : (n : Node) → has_kind n empty ≡ false → ((b : List ℕ) → has_kind n (bits b) ≡ false)
    → ((j : ℕ) (t : TreeV) → has_kind n (alt j t) ≡ false)
    → ((l : List ℕ) (t : TreeV) → has_kind n (named l t) ≡ false)
    → (s : Shape) → ((r : List TreeV) → s ≡ shape.Row r → ⊥) → has_kind n (shape_view s) ≡ false
no_row n nothing leaf alts labels shape.Empty h = nothing
no_row n nothing leaf alts labels (shape.Bits b) h = leaf b
no_row n nothing leaf alts labels (shape.Row r) h = absurd (h r refl)
no_row n nothing leaf alts labels (shape.Alt j t) h = alts j t.value
no_row n nothing leaf alts labels (shape.Named l t) h = labels l t.value

pub no_choice : (parts : List ℕ) (s : Shape) → ((j : ℕ) (t : Box TreeV) → s ≡ shape.Alt j t → ⊥) → has_kind (Choice parts) (shape_view s) ≡ false
no_choice parts shape.Empty h = refl
no_choice parts (shape.Bits b) h = refl
no_choice parts (shape.Row r) h = refl
no_choice parts (shape.Alt j t) h = absurd (h j t refl)
no_choice parts (shape.Named l t) h = refl

pub no_named : (label : List ℕ) (part : ℕ) (s : Shape) → ((l : List ℕ) (t : Box TreeV) → s ≡ shape.Named l t → ⊥)
    → has_kind (Named label part) (shape_view s) ≡ false
no_named label part shape.Empty h = refl
no_named label part (shape.Bits b) h = refl
no_named label part (shape.Row r) h = refl
no_named label part (shape.Alt j t) h = refl
no_named label part (shape.Named l t) h = absurd (h l t refl)

module _ (d : DescV) where
  pub kind_missed : {v : Values} {t : TreeV} {old : Draft} (n : Node) (s : Shape)
      → shape_view s ≡ t → has_kind n (shape_view s) ≡ false → StopsAtNode d n v t old old WrongKind
  kind_missed n s is other = missed_here (misses_here refl (wrong_kind (ap (λ t. has_kind n t) (sym is) ∙ other) refl)) refl

  -- ---- leaves

  pub lits_added : {run : List Symbol} {v : Values} {t : TreeV} {old new : Draft}
      → t ≡ empty → Added (λ b. b ≡ spelled run (length old.bits)) old new → AddsNode d (Lits run) v t old new
  lits_added {run = run} {v = v} {old = old} is h = added_as (λ b m. let P : TreeV → Type 0 =
      λ t. NodeMeans d (Lits run) (length old.bits) v b t in subst P (sym is) (means_lits m)) h

  pub lits_past : {run : List Symbol} {v : Values} {t : TreeV} {old new : Draft} {why : MisfitWhy}
      → t ≡ empty → (why ≡ TooManyBits) × IsPast (length old.bits) (length run)
      → new.path ≡ old.path → StopsAtNode d (Lits run) v t old new why
  lits_past {run = run} {v = v} {old = old} {why = why} is h path =
      let P : TreeV → Type 0 = λ t. MissesNode d (Lits run) (length old.bits) v t why in
      missed_here (misses_here refl (subst P (sym is) (past_lits h.1 h.0))) path

  pub null_added : {v : Values} {t : TreeV} {old : Draft} → t ≡ empty → length old.bits ≤ 524288 → AddsNode d Null v t old old
  null_added {v = v} {old = old} is within =
      let P : TreeV → Type 0 = λ t. NodeMeans d Null (length old.bits) v [] t in
      record { added = []; meant = subst P (sym is) (means_null refl); bits = sym (append-nil old.bits); within = within; path = refl; numbers = refl }

  pub rest_added : {v : Values} {t : TreeV} {old new : Draft} (leaf : List ℕ)
      → t ≡ bits leaf → Added (λ b. (b ≡ leaf) × IsBits b) old new → AddsNode d Rest v t old new
  rest_added {v = v} {old = old} leaf is h =
      added_as (λ b m. let P : TreeV → Type 0 = λ t. NodeMeans d Rest (length old.bits) v b t in subst P (ap bits m.0 ∙ sym is) (means_rest m.1)) h

  pub rest_past : {v : Values} {t : TreeV} {old new : Draft} {why : MisfitWhy} (leaf : List ℕ)
      → t ≡ bits leaf → (why ≡ TooManyBits) × IsPast (length old.bits) (length leaf)
      → new.path ≡ old.path → StopsAtNode d Rest v t old new why
  rest_past {v = v} {old = old} {why = why} leaf is h path =
      let P : TreeV → Type 0 = λ t. MissesNode d Rest (length old.bits) v t why in
      missed_here (misses_here refl (subst P (sym is) (past_rest h.1 h.0))) path

  pub field_added : {unit : ℕ} {count : Count} {v : Values} {t : TreeV} {old new : Draft} (leaf : List ℕ)
      (n wanted : ℕ) → count_of v count ≡ Some n → wanted ≡ unit * n → length leaf ≡ wanted → t ≡ bits leaf
      → Added (λ b. (b ≡ leaf) × IsBits b) old new → AddsNode d (Field unit count) v t old new
  field_added {unit = unit} {count = count} {v = v} {old = old} leaf n wanted counted all wide is h =
      added_as (λ b m. let P : TreeV → Type 0 = λ t. NodeMeans d (Field unit count) (length old.bits) v b t in
      subst P (ap bits m.0 ∙ sym is) (means_field n counted (ap length m.0 ∙ wide ∙ all) m.1)) h

  pub field_past : {unit : ℕ} {count : Count} {v : Values} {t : TreeV} {old new : Draft} {why : MisfitWhy}
      (leaf : List ℕ) (n wanted : ℕ) → count_of v count ≡ Some n → wanted ≡ unit * n → length leaf ≡ wanted
      → t ≡ bits leaf
      → (why ≡ TooManyBits) × IsPast (length old.bits) (length leaf) → new.path ≡ old.path → StopsAtNode d (Field unit count) v t old new why
  field_past {unit = unit} {count = count} {v = v} {old = old} {why = why} leaf n wanted counted all wide is h path =
      let P : TreeV → Type 0 = λ t. MissesNode d (Field unit count) (length old.bits) v t why in
      missed_here (misses_here refl (subst P (sym is) (past_field n counted (wide ∙ all) h.1 h.0))) path

  pub field_wrong : {unit : ℕ} {count : Count} {v : Values} {t : TreeV} {old : Draft} (leaf : List ℕ)
      (n wanted found : ℕ) → count_of v count ≡ Some n → wanted ≡ unit * n → found ≡ length leaf → ¬ (found ≡ wanted)
      → t ≡ bits leaf
      → StopsAtNode d (Field unit count) v t old old (WrongWidth wanted found)
  field_wrong {unit = unit} {count = count} {v = v} {old = old} leaf n wanted found counted all long wrong is =
      let P : TreeV → Type 0 = λ t. MissesNode d (Field unit count) (length old.bits) v t (WrongWidth wanted found) in
      missed_here (misses_here refl (subst P (sym is) (wrong_field n counted (λ same. wrong (long ∙ same ∙ sym all)) (cc)))) refl

  pub spare_added : {symbol : Symbol} {v : Values} {t : TreeV} {old new : Draft} (reading : Reading) (leaf : List ℕ)
      → d.reading ≡ reading → length leaf ≡ 1 → t ≡ bits leaf
      → Added (λ b. (b ≡ leaf) × IsSpare reading symbol (length old.bits) b) old new → AddsNode d (Spare symbol) v t old new
  spare_added {symbol = symbol} {v = v} {old = old} reading leaf read one is h =
      added_as (λ b m.
      let P : TreeV → Type 0 = λ t. NodeMeans d (Spare symbol) (length old.bits) v b t in
      let Q : Reading → Type 0 = λ r. IsSpare r symbol (length old.bits) b in
      subst P (ap bits m.0 ∙ sym is) (means_spare (ap length m.0 ∙ one) (subst Q (sym read) m.1))) h

  pub spare_missed : {symbol : Symbol} {v : Values} {t : TreeV} {old new : Draft} {why : MisfitWhy}
      (reading : Reading) (leaf : List ℕ) → d.reading ≡ reading → length leaf ≡ 1 → t ≡ bits leaf
      → MissesSpare reading symbol (length old.bits) leaf why → new.path ≡ old.path → StopsAtNode d (Spare symbol) v t old new why
  spare_missed {symbol = symbol} {v = v} {old = old} {why = why} reading leaf read one is h path =
      let P : TreeV → Type 0 = λ t. MissesNode d (Spare symbol) (length old.bits) v t why in
      missed_here (misses_here refl (subst P (sym is) (by h))) path
    where
      by : MissesSpare reading symbol (length old.bits) leaf why → MissesNode d (Spare symbol) (length old.bits) v (bits leaf) why
      by (not_sent sent other e) = wrong_spare one (read ∙ sent) other e
      by (no_room spare past e) =
          let Q : Reading → Type 0 = λ r. IsSpare r symbol (length old.bits) leaf in
          let R : ℕ → Type 0 = λ k. IsPast (length old.bits) k in
          past_spare one (subst Q (sym read) spare) (subst R one past) e

  pub spare_wide : {symbol : Symbol} {v : Values} {t : TreeV} {old : Draft} (leaf : List ℕ) (found : ℕ)
      → found ≡ length leaf → ¬ (found ≡ 1)
      → t ≡ bits leaf → StopsAtNode d (Spare symbol) v t old old (WrongWidth 1 found)
  spare_wide {symbol = symbol} {v = v} {old = old} leaf found long wrong is =
      let P : TreeV → Type 0 = λ t. MissesNode d (Spare symbol) (length old.bits) v t (WrongWidth 1 found) in
      missed_here (misses_here refl (subst P (sym is) (wide_spare (λ same. wrong (long ∙ same)) (cc)))) refl

  pub pad_added : {v : Values} {t : TreeV} {old new : Draft} (reading : Reading) (leaf : List ℕ) → d.reading ≡ reading → 0 < length leaf → t ≡ bits leaf
      → Added (λ b. (b ≡ leaf) × IsSpare reading Low (length old.bits) b) old new → AddsNode d Pad v t old new
  pad_added {v = v} {old = old} reading leaf read some is h =
      added_as (λ b m.
      let P : TreeV → Type 0 = λ t. NodeMeans d Pad (length old.bits) v b t in
      let Q : Reading → Type 0 = λ r. IsSpare r Low (length old.bits) b in
      let long = ap length m.0 in
      subst P (ap bits m.0 ∙ sym is) (means_pad (omega (arith, long, some)) (subst Q (sym read) m.1))) h

  pub pad_missed : {v : Values} {t : TreeV} {old new : Draft} {why : MisfitWhy} (reading : Reading) (leaf : List ℕ)
      → d.reading ≡ reading → 0 < length leaf → t ≡ bits leaf
      → MissesSpare reading Low (length old.bits) leaf why → new.path ≡ old.path → StopsAtNode d Pad v t old new why
  pad_missed {v = v} {old = old} {why = why} reading leaf read some is h path =
      let P : TreeV → Type 0 = λ t. MissesNode d Pad (length old.bits) v t why in
      missed_here (misses_here refl (subst P (sym is) (by h))) path
    where
      by : MissesSpare reading Low (length old.bits) leaf why → MissesNode d Pad (length old.bits) v (bits leaf) why
      by (not_sent sent other e) = wrong_pad some (read ∙ sent) other e
      by (no_room spare past e) =
          let Q : Reading → Type 0 = λ r. IsSpare r Low (length old.bits) leaf in
          past_pad some (subst Q (sym read) spare) past e

  pub pad_empty : {v : Values} {t : TreeV} {old : Draft} (leaf : List ℕ) (found : ℕ) → found ≡ length leaf → found ≡ 0
      → t ≡ bits leaf → StopsAtNode d Pad v t old old (WrongWidth 1 found)
  pad_empty {v = v} {old = old} leaf found long none is =
      let P : TreeV → Type 0 = λ t. MissesNode d Pad (length old.bits) v t (WrongWidth 1 found) in
      missed_here (misses_here refl (subst P (sym is) (no_pad (nothing leaf (sym long ∙ none)) (ap (λ n. WrongWidth 1 n) none)))) refl
    where
      nothing : (l : List ℕ) → length l ≡ 0 → l ≡ []
      nothing [] e = refl
      nothing (x ∷ l) e = absurd (omega (arith, e))
