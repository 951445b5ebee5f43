-- What the reader tells of values is so.
use Rattle.std.proofs.Common.{◌≡◌, ℕ, ◌+◌, ◌<◌, ◌≤◌, Bool, List, [], ◌∷◌, ◌++◌, codes, Option, Some, None, refl, sym, ap, ◌∙◌, subst, arith, add-one, inl, inr}
use Rattle.std.proofs.lemmas.Bool.{cases_lt}
use Rattle.csn_desc.specs.Label.{IsLabel}
use Rattle.csn_desc.specs.declared.desc.TheConstants.{MOST_NODES}
use Rattle.csn_desc.specs.TreeV.{TreeV, empty, bits, row, alt, named, Trees, none, more, trees_of}
use Rattle.csn_treetext.specs.declared.bounds.TheConstants.{MOST_LEVELS}
use Rattle.serde_json.specs.Data.{Data, null, boolean, number, string, array, object, Num, unsigned, negative, float}
use Rattle.serde_json.specs.Data.{Items, no_items, item, Members}
use Rattle.csn_json.specs.declared.number.Number.TheVariants.{Whole, Other}
use Rattle.csn_json.specs.declared.piece.Piece.{Piece}
use Rattle.csn_json.specs.declared.piece.Piece.TheVariants as piece
use Rattle.csn_json.specs.declared.tag.Tag.{Tag}
use Rattle.csn_json.specs.declared.tag.Tag.TheVariants.{Numbered, Labelled}
use Rattle.csn_json.specs.JsonTree.{json_of, items_of}
use Rattle.csn_json.specs.Reading.{IsShown, AreShown, IsTag, IsWritten}
use Rattle.csn_json.specs.Pieces.{inside, HasNoTag, ShowsNoTree, Tells, TellsTree, TellsTag, TellsRow, then_item, IsNumberOf}
use Rattle.csn_json.proofs.Refusals.{no_room, no_truth, no_number, row_of, line_of}

-- ---- values that are no tags

pub no_tag_null : HasNoTag null
no_tag_null key (Numbered j) is = absurd (let e = is.2 in cc)
no_tag_null key (Labelled l) is = absurd (let e = is.2 in cc)

pub no_tag_truth : (b : Bool) → HasNoTag (boolean b)
no_tag_truth b key (Numbered j) is = absurd (let e = is.2 in cc)
no_tag_truth b key (Labelled l) is = absurd (let e = is.2 in cc)

pub no_tag_array : (values : Items) → HasNoTag (array values)
no_tag_array values key (Numbered j) is = absurd (let e = is.2 in cc)
no_tag_array values key (Labelled l) is = absurd (let e = is.2 in cc)

pub no_tag_object : (all : Members) → HasNoTag (object all)
no_tag_object all key (Numbered j) is = absurd (let e = is.2 in cc)
no_tag_object all key (Labelled l) is = absurd (let e = is.2 in cc)

pub no_tag_number : (n : Num) → ((j : ℕ) → j < MOST_NODES → n ≡ unsigned j → ⊥) → HasNoTag (number n)
no_tag_number n never key (Numbered j) is = never j is.1 (let e = is.2 in cc)
no_tag_number n never key (Labelled l) is = absurd (let e = is.2 in cc)

-- ---- values and their pieces

pub inside_is : (round : ℕ) → round < MOST_LEVELS → inside round ≡ round + 1
inside_is round low = omega (arith, low)

pub null_shown : (round : ℕ) → round < MOST_LEVELS → IsShown round null empty
null_shown round low = record { fits = low; parts = tt; shown = refl }

pub truth_told : (round : ℕ) (b : Bool) → Tells round piece.Nothing (boolean b)
truth_told round b = (no_truth round b, no_tag_truth b)

pub number_told : (round : ℕ) (n : Num) → ((j : ℕ) → j < MOST_NODES → n ≡ unsigned j → ⊥) → Tells round piece.Nothing (number n)
number_told round n never = (no_number round n, no_tag_number n never)

pub row_shown : (round : ℕ) (values : Items) (ts : Trees) → round < MOST_LEVELS → AreShown (inside round) values ts → IsShown round (array values) (row ts)
row_shown round values ts low all =
    let here = subst (λ n. AreShown n values ts) (inside_is round low ∙ add-one round) all in
    record { fits = (low, here.fits); parts = here.parts; shown = ap array here.shown }

pub no_row : (round : ℕ) (values : Items) → round < MOST_LEVELS → ((ts : Trees) → AreShown (inside round) values ts → ⊥) → ShowsNoTree round (array values)
no_row round values low nothing t is =
    let found = row_of round values t is in
    nothing found.0 (subst (λ n. AreShown n values found.0) (sym (inside_is round low)) found.1)

-- ---- numbers

pub whole_is : (n : ℕ) (o : Option Num) → IsNumberOf (Some (Whole n)) o → o ≡ Some (unsigned n)
whole_is n None is = absurd is
whole_is n (Some (unsigned m)) is = ap (λ k. Some (unsigned k)) (sym is)
whole_is n (Some (negative z)) is = absurd is
whole_is n (Some (float x)) is = absurd is

pub other_is : (o : Option Num) → IsNumberOf (Some Other) o → (x : Num) × (o ≡ Some x) × ((round : ℕ) → Tells round piece.Nothing (number x))
other_is None is = absurd is
other_is (Some (unsigned m)) is = absurd is
other_is (Some (negative z)) is = (negative z, refl, (λ round. number_told round (negative z) (λ j low e. absurd (cc))))
other_is (Some (float x)) is = (float x, refl, (λ round. number_told round (float x) (λ j low e. absurd (cc))))

pub whole_told : (n : ℕ) → MOST_NODES ≤ n → (round : ℕ) → Tells round piece.Nothing (number (unsigned n))
whole_told n high round = number_told round (unsigned n) (λ j low e. let same : n ≡ j = cc in omega (arith, high, low, same))

-- ---- pieces where there is room

pub room_told : (round : ℕ) (value : Data) (tree : TreeV) (result : Piece) → round ≤ MOST_LEVELS → (round < MOST_LEVELS → result ≡ piece.Tree tree)
    → (MOST_LEVELS ≤ round → result ≡ piece.Nothing) → (round < MOST_LEVELS → IsShown round value tree) → HasNoTag value → Tells round result value
room_told round value tree result few room full shown no_tag =
    elim (cases_lt round MOST_LEVELS) [
      | inl low ↦ subst (λ p. Tells round p value) (sym (room low)) (shown low, no_tag)
      | inr high ↦ subst (λ p. Tells round p value) (sym (full high)) ((λ t is. no_room round value (omega (arith, high, few)) t is), no_tag)
    ]

pub no_row_told : (round : ℕ) (values : Items) → round ≤ MOST_LEVELS → ((ts : Trees) → AreShown (inside round) values ts → ⊥) → Tells round piece.Nothing (array values)
no_row_told round values few nothing =
    elim (cases_lt round MOST_LEVELS) [
      | inl low ↦ (no_row round values low nothing, no_tag_array values)
      | inr high ↦ ((λ t is. no_room round (array values) (omega (arith, high, few)) t is), no_tag_array values)
    ]

-- ---- the tree of a piece

pub text_tree : (round : ℕ) (line : List ℕ) (found : Option TreeV) → MOST_LEVELS ≤ round → round ≤ MOST_LEVELS → found ≡ None → TellsTree round found (string line)
text_tree round line found high low is = rw is (λ t shown. no_room round (string line) (omega (arith, high, low)) t shown)

pub number_tree : (round n : ℕ) (value : Data) → value ≡ number (unsigned n) → TellsTree round None value
number_tree round n value is t shown = no_number round (unsigned n) t (subst (λ d. IsShown round d t) is shown)

-- ---- the trees of an array

pub row_none : (round : ℕ) → TellsRow round (Some []) no_items
row_none round = record { fits = tt; parts = tt; shown = refl }

-- one more value, and the tree that it shows
pub row_longer : (round : ℕ) (values : Items) (value : Data) (ts : List TreeV) (t : TreeV)
    → AreShown round values (trees_of ts) → IsShown round value t → AreShown round (then_item values value) (trees_of (ts ++ t ∷ []))
row_longer round no_items value [] t all this = record { fits = (this.fits, tt); parts = (this.parts, tt); shown = ap (λ d. item d no_items) this.shown }
row_longer round no_items value (u ∷ ts) t all this = absurd (let e = all.shown in cc)
row_longer round (item first values) value [] t all this = absurd (let e = all.shown in cc)
row_longer round (item first values) value (u ∷ ts) t all this =
    let same : first ≡ json_of u = (let e = all.shown in cc) in
    let rest = row_longer round values value ts t (record { fits = all.fits.1; parts = all.parts.1; shown = (let e = all.shown in cc) }) this in
    record {
      fits = (all.fits.0, rest.fits);
      parts = (all.parts.0, rest.parts);
      shown = ap (λ d. item d (then_item values value)) same ∙ ap (item (json_of u)) rest.shown;
    }

-- where more values show trees, the first ones do
pub front_shown : (round : ℕ) (values : Items) (value : Data) (ts : Trees) → AreShown round (then_item values value) ts → (us : Trees) × AreShown round values us
front_shown round no_items value ts all = (none, record { fits = tt; parts = tt; shown = refl })
front_shown round (item first values) value none all = absurd (let e = all.shown in cc)
front_shown round (item first values) value (more t ts) all =
    let rest = front_shown round values value ts (record { fits = all.fits.1; parts = all.parts.1; shown = (let e = all.shown in cc) }) in
    let same : first ≡ json_of t = (let e = all.shown in cc) in (
      more t rest.0,
      record {
        fits = (all.fits.0, rest.1.fits);
        parts = (all.parts.0, rest.1.parts);
        shown = ap (λ d. item d values) same ∙ ap (item (json_of t)) rest.1.shown;
      },
    )

-- and so does the last one
pub last_shown : (round : ℕ) (values : Items) (value : Data) (ts : Trees) → AreShown round (then_item values value) ts → (t : TreeV) × IsShown round value t
last_shown round no_items value none all = absurd (let e = all.shown in cc)
last_shown round no_items value (more t ts) all = (t, record { fits = all.fits.0; parts = all.parts.0; shown = (let e = all.shown in cc) })
last_shown round (item first values) value none all = absurd (let e = all.shown in cc)
last_shown round (item first values) value (more t ts) all =
    last_shown round values value ts (record { fits = all.fits.1; parts = all.parts.1; shown = (let e = all.shown in cc) })

pub no_longer : (round : ℕ) (values : Items) (value : Data) (rows : Option (List TreeV)) (tree : Option TreeV)
    → TellsRow round rows values → TellsTree round tree value
    → ((ts : List TreeV) (t : TreeV) → rows ≡ Some ts → tree ≡ Some t → ⊥) → TellsRow round None (then_item values value)
no_longer round values value None tree told this other ts all = let front = front_shown round values value ts all in told front.0 front.1
no_longer round values value (Some us) None told this other ts all = let last = last_shown round values value ts all in this last.0 last.1
no_longer round values value (Some us) (Some t) told this other ts all = other us t refl refl
