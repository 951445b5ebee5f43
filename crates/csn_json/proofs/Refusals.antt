-- What a value has to be, part by part, that shows a tree.
use Rattle.std.proofs.Common.{◌≡◌, ℕ, ◌+◌, ◌<◌, Bool, List, codes, refl, sym, ap, ◌∙◌, subst, arith, add-one}
use Rattle.csn_desc.specs.Label.{IsLabel}
use Rattle.csn_desc.specs.declared.desc.TheConstants.{MOST_NODES}
use Rattle.csn_desc.specs.TreeV.{TreeV, empty, bits, row, alt, named, Trees}
use Rattle.csn_treetext.specs.declared.bounds.TheConstants.{MOST_LEVELS}
use Rattle.csn_treetext.proofs.Fitting.{room_for}
use Rattle.serde_json.specs.Data.{Data, boolean, number, string, array, object, unsigned, Num, Items, Members}
use Rattle.csn_json.specs.declared.tag.Tag.{Tag}
use Rattle.csn_json.specs.declared.tag.Tag.TheVariants.{Numbered, Labelled}
use Rattle.csn_json.specs.JsonTree.{json_of, tagged}
use Rattle.csn_json.specs.Reading.{IsWritten, IsShown, AreShown, IsTag, with_tag}

-- ---- values that show nothing

pub no_room : (round : ℕ) (value : Data) → round ≡ MOST_LEVELS → (t : TreeV) → IsShown round value t → ⊥
no_room round value full t is = omega (arith, room_for round t is.fits)

pub no_truth : (round : ℕ) (b : Bool) (t : TreeV) → IsShown round (boolean b) t → ⊥
no_truth round b empty is = absurd (let e = is.shown in cc)
no_truth round b _ is = absurd (let e = is.shown in cc)

pub no_number : (round : ℕ) (n : Num) (t : TreeV) → IsShown round (number n) t → ⊥
no_number round n empty is = absurd (let e = is.shown in cc)
no_number round n _ is = absurd (let e = is.shown in cc)

-- ---- values that show a tree of one kind

pub line_of : (round : ℕ) (line : List ℕ) (t : TreeV) → IsShown round (string line) t → (b : List ℕ) × IsWritten line b
line_of round line (bits b) is = (b, record { zeros_and_ones = is.parts.0; few = is.parts.1; spelled = (let e = is.shown in cc) })
line_of round line _ is = absurd (let e = is.shown in cc)

pub row_of : (round : ℕ) (values : Items) (t : TreeV) → IsShown round (array values) t → (ts : Trees) × AreShown (round + 1) values ts
row_of round values (row ts) is = (ts, rw (add-one round) (record { fits = is.fits.1; parts = is.parts; shown = (let e = is.shown in cc) }))
row_of round values _ is = absurd (let e = is.shown in cc)

-- what the two members of an object are that shows a tree
pub record Tagged (round : ℕ) (key : List ℕ) (of inside : Data) : Type 0 where
  pub tag : Tag
  pub tree : TreeV
  pub is_tag : IsTag key of tag
  pub below : IsShown (round + 1) inside tree

pub members_of : (round : ℕ) (ms : Members) (t : TreeV) → IsShown round (object ms) t → (key : List ℕ) × (of : Data)
    × (inside : Data) × (object ms ≡ tagged key of inside) × Tagged round key of inside
members_of round ms (alt j t) is = (
  codes "alt",
  number (unsigned j),
  json_of t,
  is.shown,
  record {
    tag = Numbered j;
    tree = t;
    is_tag = (refl, is.fits.0, refl);
    below =
        rw (add-one round) (record { fits = is.fits.1; parts = is.parts; shown = refl });
  },
)
members_of round ms (named l t) is = (
  codes "label",
  string l,
  json_of t,
  is.shown,
  record {
    tag = Labelled l;
    tree = t;
    is_tag = (refl, is.parts.0, refl);
    below =
        rw (add-one round) (record { fits = is.fits; parts = is.parts.1; shown = refl });
  },
)
members_of round ms _ is = absurd (let e = is.shown in cc)

same_members : (round : ℕ) (key : List ℕ) (of inside : Data) (k : List ℕ) (o i : Data)
    → tagged k o i ≡ tagged key of inside → Tagged round k o i → Tagged round key of inside
same_members round key of inside k o i same is =
    let keys : k ≡ key = cc in
    let ofs : o ≡ of = cc in
    let insides : i ≡ inside = cc in
    subst (λ x. Tagged round x of inside) keys (subst (λ x. Tagged round k x inside) ofs (subst (λ x. Tagged round k o x) insides is))

-- an object of two known members that shows a tree
pub known_members : (round : ℕ) (ms : Members) (key : List ℕ) (of inside : Data) → object ms ≡ tagged key of inside
    → (t : TreeV) → IsShown round (object ms) t → Tagged round key of inside
known_members round ms key of inside known t is =
    let found = members_of round ms t is in
    same_members round key of inside found.0 found.1 found.2 (sym found.3 ∙ known) found.4

-- ---- the tag under a key

pub no_number_under : (key : List ℕ) (of : Data)
    → key ≡ codes "alt" → ((n : ℕ) → n < MOST_NODES → of ≡ number (unsigned n) → ⊥) → (tag : Tag)
    → IsTag key of tag → ⊥
no_number_under key of is nothing (Numbered j) tag = nothing j tag.1 tag.2
no_number_under key of is nothing (Labelled l) tag = absurd (let e = sym is ∙ tag.0 in cc)

pub no_label_under : (key : List ℕ) (of : Data) → key ≡ codes "label" → ((l : List ℕ) → IsLabel l → of ≡ string l → ⊥) → (tag : Tag) → IsTag key of tag → ⊥
no_label_under key of is nothing (Numbered j) tag = absurd (let e = sym is ∙ tag.0 in cc)
no_label_under key of is nothing (Labelled l) tag = nothing l tag.1 tag.2

pub no_tag_under : (key : List ℕ) (of : Data) → (key ≡ codes "alt" → ⊥) → (key ≡ codes "label" → ⊥) → (tag : Tag) → IsTag key of tag → ⊥
no_tag_under key of no_alt no_label (Numbered j) tag = no_alt tag.0
no_tag_under key of no_alt no_label (Labelled l) tag = no_label tag.0

-- ---- the tree of a tag and of what stands beside it

pub shown_with_tag : (round : ℕ) (key : List ℕ) (of inside : Data) (tag : Tag) (t : TreeV)
    → IsTag key of tag → IsShown (round + 1) inside t → IsShown round (tagged key of inside) (with_tag tag t)
shown_with_tag round key of inside (Numbered j) t is below =
    let next = subst (λ n. IsShown n inside t) (add-one round) below in
    record {
      fits = (is.1, next.fits);
      parts = next.parts;
      shown = ap (λ k. tagged k of inside) is.0 ∙ ap (λ o. tagged (codes "alt") o inside) is.2
          ∙ ap (λ i. tagged (codes "alt") (number (unsigned j)) i) next.shown;
    }
shown_with_tag round key of inside (Labelled l) t is below =
    let next = subst (λ n. IsShown n inside t) (add-one round) below in
    record {
      fits = next.fits;
      parts = (is.1, next.parts);
      shown = ap (λ k. tagged k of inside) is.0 ∙ ap (λ o. tagged (codes "label") o inside) is.2 ∙ ap (λ i. tagged (codes "label") (string l) i) next.shown;
    }
