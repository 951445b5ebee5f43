-- The trees inside a tree, and the ways that they go.
use Rattle.std.specs.Prelude.{◌≡◌, ◌≢◌, refl, ℕ, zero, suc, ◌+◌, ◌-◌, ◌<◌, ◌≤◌, ◌⊎◌, ◌↔◌, List, [], ◌∷◌, length, min, slice_get, Bool, Option, Some}
use Rattle.std.proofs.Common.{◌∙◌, inl, inr, sym, ap, subst, arith, eq-or-lt_of_le}
use Rattle.std.proofs.lemmas.Option.{slice_get_within, same_Some}
use Rattle.csn_desc.specs.declared.node.Count.{Count}
use Rattle.csn_desc.specs.declared.node.Node.{Node}
use Rattle.csn_desc.specs.declared.node.Node.TheVariants.{Seq, Choice, Many, Window, Named}
use Rattle.csn_desc.specs.TreeV.{TreeV, bits, row, alt, named, trees_of, list_of}
use Rattle.csn_desc.specs.Nodes.{DescV, parts_of}
use Rattle.csn_desc.specs.Formed.{Formed, formed, PartsFormed, formed_end, formed_next}
use Rattle.csn_sample.specs.Ways.{ways, AreAll, HasTrees, HasTurns, Goes, GoesOne, IsInside, Stands, stands_here, stands_inside, Meets}
use Rattle.csn_sample.specs.Covering.{HasRoom, MeetsFew, MeetsInside}

-- ---- lists of trees

list_back : (ts : List TreeV) → list_of (trees_of ts) ≡ ts
list_back [] = refl
list_back (t ∷ ts) = ap (λ (l : List TreeV). t ∷ l) (list_back ts)

abbrev inside_row : TreeV → List TreeV
inside_row (row ts) = list_of ts
inside_row _ = []

-- a row is that of one list
pub one_row : (tree : TreeV) (a b : List TreeV) → tree ≡ row (trees_of a) → tree ≡ row (trees_of b) → a ≡ b
one_row tree a b p q = sym (list_back a) ∙ (ap inside_row (sym p ∙ q) ∙ list_back b)

-- ---- how many trees are in a row

pub trees_are : (tree : TreeV) (rows : List TreeV) (count : ℕ) → tree ≡ row (trees_of rows) → count ≡ length rows
    → (way : ℕ) → (Some count ≡ Some way) ↔ HasTrees tree way
trees_are tree rows count is many way = (
  λ same. (rows, is, sym many ∙ same_Some count way same),
  λ has. ap (λ (n : ℕ). Some n) (many ∙ (ap (λ (l : List TreeV). length l) (one_row tree rows has.0 is has.1) ∙ has.2)),
)

pub turns_are : (tree : TreeV) (rows : List TreeV) (count : ℕ) → tree ≡ row (trees_of rows) → count ≡ min (length rows) 2
    → (way : ℕ) → (Some count ≡ Some way) ↔ HasTurns tree way
turns_are tree rows count is many way = (
  λ same. (rows, is, sym many ∙ same_Some count way same),
  λ has. ap (λ (n : ℕ). Some n) (many ∙ (ap (λ (l : List TreeV). min (length l) 2) (one_row tree rows has.0 is has.1) ∙ has.2)),
)

pub bits_are : (tree : TreeV) (b : List ℕ) (told : Option ℕ) → tree ≡ bits b → ((way : ℕ) → (told ≡ Some way) ↔ AreAll way b)
    → (way : ℕ) → (told ≡ Some way) ↔ ((c : List ℕ) × (tree ≡ bits c) × AreAll way c)
bits_are tree b told is all way =
    (λ same. (b, is, (all way).0 same), λ has. (all way).1 (subst (λ (c : List ℕ). AreAll way c) (same_bits has.0 has.1) has.2))
  where
    same_bits : (c : List ℕ) → tree ≡ bits c → c ≡ b
    same_bits c other = cc

-- ---- room for the one part of a node

pub only_part : (d : DescV) (deep : ℕ) (node other : Node) (part : ℕ) → node ≡ other → parts_of other ≡ part ∷ []
    → ((k p : ℕ) → slice_get (parts_of node) k ≡ Some p → HasRoom d deep p)
    → HasRoom d deep part
only_part d deep node other part is parts room =
    room 0 part (ap (λ (n : Node). slice_get (parts_of n) 0) is ∙ ap (λ (l : List ℕ). slice_get l 0) parts)

-- ---- a tree at its node

module _ (d : DescV) (i : ℕ) (node : Node) (tree : TreeV) (look : slice_get d.nodes i ≡ Some node) where
  one_node : (n : Node) → slice_get d.nodes i ≡ Some n → n ≡ node
  one_node n there = same_Some n node (sym there ∙ look)

  at_or_inside : (j w : ℕ) (n : Node) (at : TreeV) → slice_get d.nodes j ≡ Some n → GoesOne n at w → Stands d i tree j at
      → ((j ≡ i) × GoesOne node tree w) ⊎ MeetsInside d node tree j w
  at_or_inside j w n at there goes (stands_here same is) =
      inl (
        same,
        subst (λ (t : TreeV). GoesOne node t w) is
            (subst (λ (x : Node). GoesOne x at w) (one_node n (subst (λ (k : ℕ). slice_get d.nodes k ≡ Some n) same there)) goes),
      )
  at_or_inside j w n at there goes (stands_inside above part inside above_is in_above stands) =
      inr (record {
        part = part;
        inside = inside;
        is_inside = subst (λ (x : Node). IsInside x tree part inside) (one_node above above_is) in_above;
        meets = record { node = n; at = at; node_is = there; stands = stands; goes = goes };
      })

  met_there : (j w : ℕ) → ((j ≡ i) × GoesOne node tree w) ⊎ MeetsInside d node tree j w → Meets d i tree j w
  met_there j w (inl here) = record {
    node = node;
    at = tree;
    node_is = subst (λ (k : ℕ). slice_get d.nodes k ≡ Some node) (sym here.0) look;
    stands = stands_here here.0 refl;
    goes = here.1;
  }
  met_there j w (inr inner) = record {
    node = inner.meets.node;
    at = inner.meets.at;
    node_is = inner.meets.node_is;
    stands = stands_inside node inner.part inner.inside look inner.is_inside inner.meets.stands;
    goes = inner.meets.goes;
  }

  -- it goes a way at its node, or one inside it
  pub here_or_inside : (j w : ℕ) → (((j ≡ i) × GoesOne node tree w) ⊎ MeetsInside d node tree j w) ↔ Meets d i tree j w
  here_or_inside j w = (met_there j w, λ m. at_or_inside j w m.node m.at m.node_is m.goes m.stands)

-- ---- inside an alternative, a window, a labelled part

pub in_alternative : (d : DescV) (parts : List ℕ) (tree inside : TreeV) (at part : ℕ)
    → tree ≡ alt at inside → slice_get parts at ≡ Some part
    → (j w : ℕ) → Meets d part inside j w ↔ MeetsInside d (Choice parts) tree j w
in_alternative d parts tree inside at part is there j w = (λ m. up m, λ m. down m)
  where
    up : Meets d part inside j w → MeetsInside d (Choice parts) tree j w
    up m = record { part = part; inside = inside; is_inside = (at, is, there); meets = m }

    same : (k p : ℕ) (u : TreeV) → tree ≡ alt k u → slice_get parts k ≡ Some p → (p ≡ part) × (u ≡ inside)
    same k p u q r = (let number : k ≡ at = cc in cc, cc)

    down : MeetsInside d (Choice parts) tree j w → Meets d part inside j w
    down m =
        let both = same m.is_inside.0 m.part m.inside m.is_inside.1 m.is_inside.2 in
        subst (λ (p : ℕ). Meets d p inside j w) both.0 (subst (λ (u : TreeV). Meets d m.part u j w) both.1 m.meets)

pub no_alternative : (d : DescV) (parts : List ℕ) (tree : TreeV) → ((k : ℕ) (inside : TreeV) → tree ≢ alt k inside)
    → (j w : ℕ) → ¬ MeetsInside d (Choice parts) tree j w
no_alternative d parts tree none j w m = none m.is_inside.0 m.inside m.is_inside.1

pub past_alternatives : (d : DescV) (parts : List ℕ) (tree inside : TreeV) (at : ℕ) → tree ≡ alt at inside → length parts ≤ at
    → (j w : ℕ) → ¬ MeetsInside d (Choice parts) tree j w
past_alternatives d parts tree inside at is past j w m =
    let number : m.is_inside.0 ≡ at = same m.is_inside.0 m.inside m.is_inside.1 in
    let within = slice_get_within parts m.is_inside.0 m.part m.is_inside.2 in
    absurd (omega (arith, number, within, past))
  where
    same : (k : ℕ) (u : TreeV) → tree ≡ alt k u → k ≡ at
    same k u q = cc

pub in_window : (d : DescV) (unit : ℕ) (count : Count) (part : ℕ) (tree : TreeV)
    → (j w : ℕ) → Meets d part tree j w ↔ MeetsInside d (Window unit count part) tree j w
in_window d unit count part tree j w = (λ m. up m, λ m. down m)
  where
    up : Meets d part tree j w → MeetsInside d (Window unit count part) tree j w
    up m = record { part = part; inside = tree; is_inside = (refl, refl); meets = m }

    down : MeetsInside d (Window unit count part) tree j w → Meets d part tree j w
    down m =
        subst (λ (p : ℕ). Meets d p tree j w) m.is_inside.0
        (subst (λ (u : TreeV). Meets d m.part u j w) (sym m.is_inside.1) m.meets)

pub in_labelled : (d : DescV) (label : List ℕ) (part : ℕ) (tree inside : TreeV) → ((other : List ℕ) × (tree ≡ named other inside))
    → (j w : ℕ) → Meets d part inside j w ↔ MeetsInside d (Named label part) tree j w
in_labelled d label part tree inside is j w = (λ m. up m, λ m. down m)
  where
    up : Meets d part inside j w → MeetsInside d (Named label part) tree j w
    up m = record { part = part; inside = inside; is_inside = (refl, is.0, is.1); meets = m }

    same : (a b : List ℕ) (u : TreeV) → tree ≡ named a inside → tree ≡ named b u → u ≡ inside
    same a b u p q = cc

    down : MeetsInside d (Named label part) tree j w → Meets d part inside j w
    down m =
        subst (λ (p : ℕ). Meets d p inside j w) m.is_inside.0
        (subst (λ (u : TreeV). Meets d m.part u j w) (same is.0 m.is_inside.1 m.inside is.1 m.is_inside.2) m.meets)

pub no_label : (d : DescV) (label : List ℕ) (part : ℕ) (tree : TreeV) → ((other : List ℕ) (inside : TreeV) → tree ≢ named other inside)
    → (j w : ℕ) → ¬ MeetsInside d (Named label part) tree j w
no_label d label part tree none j w m = none m.is_inside.1 m.inside m.is_inside.2

-- ---- inside a row

pub no_row : (d : DescV) (parts : List ℕ) (tree : TreeV) → ((rows : List TreeV) → tree ≢ row (trees_of rows))
    → (j w : ℕ) → ¬ MeetsInside d (Seq parts) tree j w
no_row d parts tree none j w m = none m.is_inside.0 m.is_inside.2

pub no_turns : (d : DescV) (part : ℕ) (tree : TreeV) → ((rows : List TreeV) → tree ≢ row (trees_of rows))
    → (j w : ℕ) → ¬ MeetsInside d (Many part) tree j w
no_turns d part tree none j w m = none m.is_inside.0 m.is_inside.2

pub few_none : (d : DescV) (IsPart : ℕ → ℕ → Type 0) (rows : List TreeV) (j w : ℕ) → ¬ MeetsFew d IsPart rows 0 j w
few_none d IsPart rows j w m = absurd (omega (arith, m.within))

-- at a place of a list there is one part
pub same_in : (parts : List ℕ) (k part : ℕ) → slice_get parts k ≡ Some part → (p : ℕ) → slice_get parts k ≡ Some p → p ≡ part
same_in parts k part there p other = same_Some p part (sym other ∙ there)

-- the next tree of a row
pub few_next : (d : DescV) (IsPart : ℕ → ℕ → Type 0) (rows : List TreeV) (at part : ℕ) (inside : TreeV)
    → IsPart at part → ((p : ℕ) → IsPart at p → p ≡ part) → slice_get rows at ≡ Some inside
    → (j w : ℕ) → (MeetsFew d IsPart rows at j w ⊎ Meets d part inside j w) ↔ MeetsFew d IsPart rows (at + 1) j w
few_next d IsPart rows at part inside is only there j w = (λ m. up m, λ m. down m)
  where
    up : MeetsFew d IsPart rows at j w ⊎ Meets d part inside j w → MeetsFew d IsPart rows (at + 1) j w
    up (inl m) = record {
      at = m.at;
      part = m.part;
      inside = m.inside;
      within = omega (arith, m.within);
      part_is = m.part_is;
      inside_is = m.inside_is;
      meets = m.meets;
    }
    up (inr m) = record {
      at = at;
      part = part;
      inside = inside;
      within = omega arith;
      part_is = is;
      inside_is = there;
      meets = m;
    }

    less : (k : ℕ) → k < at + 1 → k ≤ at
    less k h = omega (arith, h)

    last : (k p : ℕ) (u : TreeV) → k ≡ at → IsPart k p → slice_get rows k ≡ Some u → Meets d p u j w → Meets d part inside j w
    last k p u same part_is row_is m =
        subst (λ (q : ℕ). Meets d q inside j w) (only p (subst (λ (n : ℕ). IsPart n p) same part_is))
        (subst (λ (t : TreeV). Meets d p t j w)
        (same_Some u inside (sym (subst (λ (n : ℕ). slice_get rows n ≡ Some u) same row_is) ∙ there)) m)

    down : MeetsFew d IsPart rows (at + 1) j w → MeetsFew d IsPart rows at j w ⊎ Meets d part inside j w
    down m = elim (eq-or-lt_of_le (less m.at m.within)) [
      | inl same ↦ inr (last m.at m.part m.inside same m.part_is m.inside_is m.meets)
      | inr before ↦ inl (record {
        at = m.at;
        part = m.part;
        inside = m.inside;
        within = before;
        part_is = m.part_is;
        inside_is = m.inside_is;
        meets = m.meets;
      })
    ]

pub all_of_row : (d : DescV) (parts : List ℕ) (tree : TreeV) (rows : List TreeV) (count : ℕ)
    → tree ≡ row (trees_of rows) → count ≡ min (length rows) (length parts)
    → (j w : ℕ) → MeetsFew d (λ k p. slice_get parts k ≡ Some p) rows count j w ↔ MeetsInside d (Seq parts) tree j w
all_of_row d parts tree rows count is many j w = (λ m. up m, λ m. down m)
  where
    up : MeetsFew d (λ k p. slice_get parts k ≡ Some p) rows count j w → MeetsInside d (Seq parts) tree j w
    up m = record { part = m.part; inside = m.inside; is_inside = (rows, m.at, is, m.part_is, m.inside_is); meets = m.meets }

    down : MeetsInside d (Seq parts) tree j w → MeetsFew d (λ k p. slice_get parts k ≡ Some p) rows count j w
    down m =
        let there : slice_get rows m.is_inside.1 ≡ Some m.inside =
        subst (λ (l : List TreeV). slice_get l m.is_inside.1 ≡ Some m.inside) (one_row tree m.is_inside.0 rows m.is_inside.2 is) m.is_inside.4 in
        let in_rows = slice_get_within rows m.is_inside.1 m.inside there in
        let in_parts = slice_get_within parts m.is_inside.1 m.part m.is_inside.3 in
        record {
          at = m.is_inside.1;
          part = m.part;
          inside = m.inside;
          within = omega (arith, many, in_rows, in_parts);
          part_is = m.is_inside.3;
          inside_is = there;
          meets = m.meets;
        }

pub all_turns : (d : DescV) (i : ℕ) (tree : TreeV) (rows : List TreeV) (count : ℕ) → tree ≡ row (trees_of rows) → count ≡ length rows
    → (j w : ℕ) → MeetsFew d (λ k p. p ≡ i) rows count j w ↔ MeetsInside d (Many i) tree j w
all_turns d i tree rows count is many j w = (λ m. up m, λ m. down m)
  where
    up : MeetsFew d (λ k p. p ≡ i) rows count j w → MeetsInside d (Many i) tree j w
    up m = record { part = m.part; inside = m.inside; is_inside = (rows, m.at, is, m.part_is, m.inside_is); meets = m.meets }

    down : MeetsInside d (Many i) tree j w → MeetsFew d (λ k p. p ≡ i) rows count j w
    down m =
        let there : slice_get rows m.is_inside.1 ≡ Some m.inside =
        subst (λ (l : List TreeV). slice_get l m.is_inside.1 ≡ Some m.inside) (one_row tree m.is_inside.0 rows m.is_inside.2 is) m.is_inside.4 in
        let in_rows = slice_get_within rows m.is_inside.1 m.inside there in
        record {
          at = m.is_inside.1;
          part = m.part;
          inside = m.inside;
          within = omega (arith, many, in_rows);
          part_is = m.is_inside.3;
          inside_is = there;
          meets = m.meets;
        }

-- ---- room for what is inside

pub has_room_within : (d : DescV) (deep i : ℕ) → HasRoom d deep i → (0 < deep) × (i < length d.nodes)
has_room_within d deep i room = go room.formed room.deep_is
  where
    go : {seen : List ℕ} {round : ℕ} → Formed d.nodes seen round i → round + deep ≡ 64 → (0 < deep) × (i < length d.nodes)
    go (formed n look few head many counted inside) is = (omega (arith, few, is), slice_get_within d.nodes i n look)

record PartRoom (nodes : List Node) (round part : ℕ) : Type 0 where
  seen : List ℕ
  formed : Formed nodes seen round part

first_room : (nodes : List Node) {seen : List ℕ} {round i : ℕ} → Formed nodes seen round i → (part : ℕ) → Some i ≡ Some part → PartRoom nodes round part
first_room nodes {seen} {round} {i} first part there =
    record { seen = seen; formed = subst (λ (p : ℕ). Formed nodes seen round p) (same_Some i part there) first }

part_room : (nodes : List Node) {shows : Bool} {seen : List ℕ} {round : ℕ} {parts : List ℕ} → PartsFormed nodes shows seen round parts
    → (k part : ℕ) → slice_get parts k ≡ Some part
    → PartRoom nodes round part
part_room nodes formed_end k part there = absurd (cc)
part_room nodes (formed_next first rest) zero part there = first_room nodes first part there
part_room nodes (formed_next first rest) (suc k) part there = part_room nodes rest k part there

pub inside_has_room : (d : DescV) (deep i : ℕ) (node : Node) → slice_get d.nodes i ≡ Some node → HasRoom d deep i
    → (k part : ℕ) → slice_get (parts_of node) k ≡ Some part
    → HasRoom d (deep - 1) part
inside_has_room d deep i node look room k part there = go room.formed room.deep_is
  where
    made : (round : ℕ) → round + deep ≡ 64 → 0 < deep → PartRoom d.nodes (suc round) part → HasRoom d (deep - 1) part
    made round is some r = record { seen = r.seen; round = suc round; deep_is = omega (arith, is, some); formed = r.formed }

    go : {seen : List ℕ} {round : ℕ} → Formed d.nodes seen round i → round + deep ≡ 64 → HasRoom d (deep - 1) part
    go {seen} {round} (formed n n_is few head many counted inside) is =
        made round is (omega (arith, few, is))
        (part_room d.nodes inside k part
        (subst (λ (x : Node). slice_get (parts_of x) k ≡ Some part) (same_Some node n (sym look ∙ n_is)) there))

-- the whole tree of a block
pub root_has_room : (d : DescV) → Formed d.nodes [] 0 0 → HasRoom d 64 0
root_has_room d root = record { seen = []; round = 0; deep_is = refl; formed = root }

-- ---- the number of a way

pub told_at : (node other : Node) (tree : TreeV) (told : Option ℕ) → node ≡ other → ((way : ℕ) → (told ≡ Some way) ↔ Goes other tree way)
    → (way : ℕ) → (told ≡ Some way) ↔ Goes node tree way
told_at node other tree told is all = subst (λ (n : Node). (way : ℕ) → (told ≡ Some way) ↔ Goes n tree way) (sym is) all

pub told_below : (node : Node) (tree : TreeV) (number told : Option ℕ) (count : ℕ)
    → ((way : ℕ) → (number ≡ Some way) ↔ Goes node tree way) → count ≡ ways node
    → ((way : ℕ) → (told ≡ Some way) ↔ ((number ≡ Some way) × (way < count)))
    → (way : ℕ) → (told ≡ Some way) ↔ GoesOne node tree way
told_below node tree number told count goes many few way = (
  λ is. let both = (few way).0 is in ((goes way).0 both.0, omega (arith, both.1, many)),
  λ one. (few way).1 ((goes way).1 one.0, omega (arith, one.1, many)),
)
