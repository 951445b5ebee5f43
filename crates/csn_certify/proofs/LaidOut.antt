-- How the strings of nodes are laid out: of each kind that has a layout, and of parts one after another.
use Rattle.std.proofs.Common.{◌≡◌, ℕ, ◌+◌, ◌*◌, false, List, [], ◌∷◌, ◌++◌, length, take, drop, refl, sym, ◌∙◌, ap}
use Rattle.std.proofs.Common.{subst, arith, append_assoc, append-nil, length-append, take-append-drop, Some}
use Rattle.std.proofs.Common.{slice_get}
use Rattle.std.specs.Prelude.{replicate}
use Rattle.std.proofs.lemmas.List.{length-replicate, length-take-le, length-drop, nil_from_length}
use Rattle.csn_bits.specs.Octets.{IsBits}
use Rattle.csn_bits.proofs.Packing.{IsBits-zeros}
use Rattle.csn_desc.specs.declared.symbol.Symbol.{Symbol}
use Rattle.csn_desc.specs.declared.node.Count.TheVariants.{Fixed}
use Rattle.csn_desc.specs.declared.node.Node.{Node}
use Rattle.csn_desc.specs.declared.node.Node.TheVariants.{Lits, Null, Field, Seq, Named}
use Rattle.csn_desc.specs.TreeV.{TreeV, empty, bits, row, named, Trees, none, more}
use Rattle.csn_desc.specs.Nodes.{DescV}
use Rattle.csn_desc.specs.Spelled.{spelled}
use Rattle.csn_desc.specs.Values.{Values, with_value}
use Rattle.csn_desc.specs.Formed.{is_counted}
use Rattle.csn_desc.specs.Means.{NMeans, NodeMeans, PartsMean, means_at, means_lits, means_null, means_field, means_seq, means_named, parts_end, parts_next}
use Rattle.csn_desc.specs.Follows.{NodeFollows, PartsFollow, follows_whole, follows_lits, follows_field, follows_seq, follows_named, parts_here, parts_later}
use Rattle.csn_desc.proofs.BitFacts.{IsBits-front, IsBits-along}
use Rattle.csn_desc.proofs.Nodewise.{meaning_at, follow_at}
use Rattle.csn_look.proofs.Tables.Products.{bits_back}
use Rattle.csn_certify.specs.Layouts.{HasFront, IsLaid}
use Rattle.csn_certify.specs.LayoutParts.{NodeBegins, IsNodeLaid, PartsBegin, ArePartsLaid}

-- ---- lists

-- two splits of one list at one place
record SameSplit (a b c e : List ℕ) : Type 0 where
  first : a ≡ c
  rest : b ≡ e

split_once : (a b c e : List ℕ) → length a ≡ length c → a ++ b ≡ c ++ e → SameSplit a b c e
split_once [] b [] e size same = record { first = refl; rest = same }
split_once [] b (y ∷ c) e size same = absurd (omega (arith, size))
split_once (x ∷ a) b [] e size same = absurd (omega (arith, size))
split_once (x ∷ a) b (y ∷ c) e size same =
    let head : x ≡ y = cc in
    let tail : a ++ b ≡ c ++ e = cc in
    let s = split_once a b c e (omega (arith, size)) tail in
    record { first = ap (λ z. z ∷ a) head ∙ ap (λ l. y ∷ l) s.first; rest = s.rest }

-- how many bits there are
pub front_length : {front : List ℕ} {others : ℕ} {b : List ℕ} → HasFront front others b → length b ≡ length front + others
front_length {front} h = ap length h.cut ∙ length-append front h.rest ∙ ap (λ n. length front + n) h.count

-- bits with nothing behind them
whole_front : {front b : List ℕ} → b ≡ front → HasFront front 0 b
whole_front {front} is = record { rest = []; cut = is ∙ sym (append-nil front); count = refl }

along_none : (front rest : List ℕ) → length rest ≡ 0 → front ++ rest ≡ front
along_none front rest size = ap (λ l. front ++ l) (nil_from_length rest size) ∙ append-nil front

-- ---- kinds of node

module _ (d : DescV) where
  -- what makes a string of bits that begin one
  begins_by : {n : Node} {o : ℕ} {v : Values} {w : List ℕ} {t : TreeV} (b rest : List ℕ) → w ≡ b ++ rest → NodeMeans d n o v w t → NodeBegins d n o v b
  begins_by {n} {o} {v} {t = t} b rest is h =
      let P : List ℕ → Type 0 = λ l. NodeMeans d n o v l t in
      record { rest = rest; tree = t; means = subst P is h }

  begins_whole : {n : Node} {o : ℕ} {v : Values} {t : TreeV} (b : List ℕ) → NodeMeans d n o v b t → NodeBegins d n o v b
  begins_whole b h = begins_by b [] (sym (append-nil b)) h

  -- a literal whose bits are the same at all places
  module _ (run : List Symbol) (front : List ℕ) (same : (o : ℕ) → spelled run o ≡ front) where
    lits_string : {o : ℕ} {v : Values} {b : List ℕ} {t : TreeV} → NodeMeans d (Lits run) o v b t → HasFront front 0 b
    lits_string {o} (means_lits is) = whole_front (is ∙ same o)

    lits_one : {o : ℕ} {v : Values} {b : List ℕ} {s t : TreeV} → NodeMeans d (Lits run) o v b s → NodeMeans d (Lits run) o v b t → s ≡ t
    lits_one (means_lits is) (means_lits other) = refl

    lits_begins : {o : ℕ} {v : Values} (b : List ℕ) → NodeFollows d (Lits run) o v b → NodeBegins d (Lits run) o v b
    lits_begins b (follows_whole t h) = begins_whole b h
    lits_begins b (follows_lits whole rest is h) = begins_by b rest is h

    pub lits_laid : IsNodeLaid d (Lits run) front 0
    lits_laid = record {
      string = λ o v b t h. lits_string h;
      means = λ o v rest size are. (empty, means_lits (along_none front rest size ∙ sym (same o)));
      one_tree = λ o v b s t h g. lits_one h g;
      begins = λ o v b h. lits_begins b h;
    }

  -- no bits
  null_string : {o : ℕ} {v : Values} {b : List ℕ} {t : TreeV} → NodeMeans d Null o v b t → HasFront [] 0 b
  null_string (means_null is) = whole_front is

  null_one : {o : ℕ} {v : Values} {b : List ℕ} {s t : TreeV} → NodeMeans d Null o v b s → NodeMeans d Null o v b t → s ≡ t
  null_one (means_null is) (means_null other) = refl

  null_begins : {o : ℕ} {v : Values} (b : List ℕ) → NodeFollows d Null o v b → NodeBegins d Null o v b
  null_begins b (follows_whole t h) = begins_whole b h

  pub null_laid : IsNodeLaid d Null [] 0
  null_laid = record {
    string = λ o v b t h. null_string h;
    means = λ o v rest size are. (empty, means_null (along_none [] rest size));
    one_tree = λ o v b s t h g. null_one h g;
    begins = λ o v b h. null_begins b h;
  }

  -- a field of constant width
  module _ (unit n : ℕ) where
    field_string : {o : ℕ} {v : Values} {b : List ℕ} {t : TreeV} → NodeMeans d (Field unit (Fixed n)) o v b t → HasFront [] (unit * n) b
    field_string {b = b} (means_field m counts size are) =
        let same : n ≡ m = cc in
        record { rest = b; cut = refl; count = size ∙ ap (λ k. unit * k) (sym same) }

    field_one : {o : ℕ} {v : Values} {b : List ℕ} {s t : TreeV} → NodeMeans d (Field unit (Fixed n)) o v b s
        → NodeMeans d (Field unit (Fixed n)) o v b t → s ≡ t
    field_one (means_field m counts size are) (means_field k other long is) = refl

    field_begins : {o : ℕ} {v : Values} (b : List ℕ) → NodeFollows d (Field unit (Fixed n)) o v b → NodeBegins d (Field unit (Fixed n)) o v b
    field_begins b (follows_whole t h) = begins_whole b h
    field_begins b (follows_field whole rest is h) = begins_by b rest is h

    pub field_laid : IsNodeLaid d (Field unit (Fixed n)) [] (unit * n)
    field_laid = record {
      string = λ o v b t h. field_string h;
      means = λ o v rest size are. (bits rest, means_field n refl size are);
      one_tree = λ o v b s t h g. field_one h g;
      begins = λ o v b h. field_begins b h;
    }

  -- a labelled part
  module _ (label : List ℕ) (i : ℕ) (front : List ℕ) (others : ℕ) (part : IsLaid d i front others) where
    named_string : {o : ℕ} {v : Values} {b : List ℕ} {t : TreeV} → NodeMeans d (Named label i) o v b t → HasFront front others b
    named_string {o} {v} {b} (means_named {t = t} h) = part.string o v b t h

    named_one : {o : ℕ} {v : Values} {b : List ℕ} {s t : TreeV} → NodeMeans d (Named label i) o v b s → NodeMeans d (Named label i) o v b t → s ≡ t
    named_one {o} {v} {b} (means_named {t = s} h) (means_named {t = t} g) = ap (λ u. named label u) (part.one_tree o v b s t h g)

    named_begins : {o : ℕ} {v : Values} (b : List ℕ) → NodeFollows d (Named label i) o v b → NodeBegins d (Named label i) o v b
    named_begins b (follows_whole t h) = begins_whole b h
    named_begins {o} {v} b (follows_named h) =
        let whole = part.begins o v b h in
        record { rest = whole.rest; tree = named label whole.tree; means = means_named whole.means }

    pub named_laid : IsNodeLaid d (Named label i) front others
    named_laid = record {
      string = λ o v b t h. named_string h;
      means = λ o v rest size are. (let h = part.means o v rest size are in (named label h.0, means_named h.1));
      one_tree = λ o v b s t h g. named_one h g;
      begins = λ o v b h. named_begins b h;
    }

  -- parts one after another
  module _ (parts front : List ℕ) (others : ℕ) (all : ArePartsLaid d parts front others) where
    seq_string : {o : ℕ} {v : Values} {b : List ℕ} {t : TreeV} → NodeMeans d (Seq parts) o v b t → HasFront front others b
    seq_string {o} {v} {b} (means_seq {ts = ts} h) = all.string o v b ts h

    seq_one : {o : ℕ} {v : Values} {b : List ℕ} {s t : TreeV} → NodeMeans d (Seq parts) o v b s → NodeMeans d (Seq parts) o v b t → s ≡ t
    seq_one {o} {v} {b} (means_seq {ts = ss} h) (means_seq {ts = ts} g) = ap (λ us. row us) (all.one_row o v b ss ts h g)

    seq_begins : {o : ℕ} {v : Values} (b : List ℕ) → NodeFollows d (Seq parts) o v b → NodeBegins d (Seq parts) o v b
    seq_begins b (follows_whole t h) = begins_whole b h
    seq_begins {o} {v} b (follows_seq h) =
        let whole = all.begins o v b h in
        record { rest = whole.rest; tree = row whole.trees; means = means_seq whole.means }

    pub seq_laid : IsNodeLaid d (Seq parts) front others
    seq_laid = record {
      string = λ o v b t h. seq_string h;
      means = λ o v rest size are. (let h = all.means o v rest size are in (row h.0, means_seq h.1));
      one_tree = λ o v b s t h g. seq_one h g;
      begins = λ o v b h. seq_begins b h;
    }

  -- a node of such a kind, on which no counts stand
  pub node_laid : {n : Node} {front : List ℕ} {others : ℕ} (i : ℕ) → slice_get d.nodes i ≡ Some n
      → is_counted d.nodes i ≡ false → IsNodeLaid d n front others → IsLaid d i front others
  node_laid {n} i at plain is = record {
    string = λ o v b t h. is.string o v b t (meaning_at d at h);
    means = λ o v rest size are. (let h = is.means o v rest size are in (h.0, means_at n at h.1));
    one_tree = λ o v b s t h g. is.one_tree o v b s t (meaning_at d at h) (meaning_at d at g);
    begins = λ o v b h. (let whole = is.begins o v b (follow_at d at h) in record { rest = whole.rest; tree = whole.tree; means = means_at n at whole.means });
    plain = plain;
  }

  -- ---- parts one after another

  nothing_string : {o : ℕ} {v : Values} {b : List ℕ} {ts : Trees} → PartsMean d [] o v b ts → HasFront [] 0 b
  nothing_string (parts_end is) = whole_front is

  nothing_one : {o : ℕ} {v : Values} {b : List ℕ} {ss ts : Trees} → PartsMean d [] o v b ss → PartsMean d [] o v b ts → ss ≡ ts
  nothing_one (parts_end is) (parts_end other) = refl

  nothing_begins : {o : ℕ} {v : Values} {b : List ℕ} → PartsFollow d [] o v b → PartsBegin d [] o v b
  nothing_begins h = elim h [ ]

  pub nothing_laid : ArePartsLaid d [] [] 0
  nothing_laid = record {
    string = λ o v b ts h. nothing_string h;
    means = λ o v rest size are. (none, parts_end (along_none [] rest size));
    one_row = λ o v b ss ts h g. nothing_one h g;
    begins = λ o v b h. nothing_begins h;
  }

-- the bits of a whole, cut into those that are any in the first part and in the others
record CutRest (f : List ℕ) (k : ℕ) (g : List ℕ) (m : ℕ) (whole : List ℕ) : Type 0 where
  first : List ℕ
  later : List ℕ
  cut : whole ≡ (f ++ first) ++ (g ++ later)
  count : length first ≡ k
  many : length later ≡ m
  first_bits : IsBits first
  later_bits : IsBits later

-- bits of one layout before bits of another have a layout again
record Joins (f : List ℕ) (k : ℕ) (g : List ℕ) (m : ℕ) (front : List ℕ) (others : ℕ) : Type 0 where
  string : (x y : List ℕ) → length x ≡ k → length y ≡ m → HasFront front others ((f ++ x) ++ (g ++ y))
  cut : (rest : List ℕ) → length rest ≡ others → IsBits rest → CutRest f k g m (front ++ rest)

-- where all bits of the first are the same
joins_same : (f g : List ℕ) (m : ℕ) → Joins f 0 g m (f ++ g) m
joins_same f g m = record {
  string = λ x y none many. record {
    rest = y;
    cut = ap (λ l. l ++ (g ++ y)) (along_none f x none) ∙ sym (append_assoc f g y);
    count = many;
  };
  cut = λ rest size are. record {
    first = [];
    later = rest;
    cut = append_assoc f g rest ∙ ap (λ l. l ++ (g ++ rest)) (sym (append-nil f));
    count = refl;
    many = size;
    first_bits = tt;
    later_bits = are;
  };
}

-- where no bits of the others are the same
joins_any : (f : List ℕ) (k m : ℕ) → Joins f k [] m f (k + m)
joins_any f k m = record {
  string = λ x y count many. record {
    rest = x ++ y;
    cut = append_assoc f x y;
    count = length-append x y ∙ ap (λ n. n + length y) count ∙ ap (λ n. k + n) many;
  };
  cut = λ rest size are.
      let whole : take k rest ++ drop k rest ≡ rest = take-append-drop k rest in
      let both : IsBits (take k rest ++ drop k rest) = IsBits-along whole are in
      record {
        first = take k rest;
        later = drop k rest;
        cut = ap (λ l. f ++ l) (sym whole) ∙ sym (append_assoc f (take k rest) (drop k rest));
        count = length-take-le k rest (omega (arith, size));
        many = length-drop k rest ∙ omega (arith, size);
        first_bits = IsBits-front (take k rest) (drop k rest) both;
        later_bits = bits_back (take k rest) (drop k rest) both;
      };
}

module _ (d : DescV) (i : ℕ) (parts f : List ℕ) (k : ℕ) (g : List ℕ) (m : ℕ) (first : IsLaid d i f k) (all : ArePartsLaid d parts g m) where
  more_string : {front : List ℕ} {others : ℕ} → Joins f k g m front others → {o : ℕ} {v : Values} {b : List ℕ}
      {ts : Trees} → PartsMean d (i ∷ parts) o v b ts → HasFront front others b
  more_string {front} {others} joins {o} {v} (parts_next {t = t} {ts = ts} b1 b2 is h hs) =
      let one = first.string o v b1 t h in
      let rest = all.string (o + length b1) (with_value d.nodes i b1 v) b2 ts hs in
      let P : List ℕ → Type 0 = λ l. HasFront front others l in
      subst P (sym (is ∙ ap (λ l. l ++ b2) one.cut ∙ ap (λ l. (f ++ one.rest) ++ l) rest.cut)) (joins.string one.rest rest.rest one.count rest.count)

  more_one : {o : ℕ} {v : Values} {b : List ℕ} {ss ts : Trees} → PartsMean d (i ∷ parts) o v b ss → PartsMean d (i ∷ parts) o v b ts → ss ≡ ts
  more_one {o} {v} (parts_next {t = s} {ts = ss} b1 b2 is h hs) (parts_next {t = t} {ts = ts} c1 c2 other g gs) =
      let size : length b1 ≡ length c1 = front_length (first.string o v b1 s h) ∙ sym (front_length (first.string o v c1 t g)) in
      let same = split_once b1 b2 c1 c2 size (sym is ∙ other) in
      let P : List ℕ → Type 0 = λ l. NMeans d i o v l t in
      let Q : List ℕ → Type 0 = λ l. PartsMean d parts (o + length l) (with_value d.nodes i l v) c2 ts in
      let R : List ℕ → Type 0 = λ l. PartsMean d parts (o + length b1) (with_value d.nodes i b1 v) l ts in
      let tree : s ≡ t = first.one_tree o v b1 s t h (subst P (sym same.first) g) in
      let trees : ss ≡ ts = all.one_row (o + length b1) (with_value d.nodes i b1 v) b2 ss ts hs (subst R (sym same.rest) (subst Q (sym same.first) gs)) in
      ap (λ u. more u ss) tree ∙ ap (λ us. more t us) trees

  more_begins : {o : ℕ} {v : Values} (b : List ℕ) → PartsFollow d (i ∷ parts) o v b → PartsBegin d (i ∷ parts) o v b
  more_begins {o} {v} b (parts_here h) =
      let one = first.begins o v b h in
      let front = b ++ one.rest in
      let zeros = replicate m 0 in
      let later = all.means (o + length front) (with_value d.nodes i front v) zeros (length-replicate m 0) (IsBits-zeros m) in
      record {
        rest = one.rest ++ (g ++ zeros);
        trees = more one.tree later.0;
        means = parts_next front (g ++ zeros) (sym (append_assoc b one.rest (g ++ zeros))) one.means later.1;
      }
  more_begins {o} {v} b (parts_later {t = t} b1 b2 is h hs) =
      let later = all.begins (o + length b1) (with_value d.nodes i b1 v) b2 hs in
      record {
        rest = later.rest;
        trees = more t later.trees;
        means = parts_next b1 (b2 ++ later.rest) (ap (λ l. l ++ later.rest) is ∙ append_assoc b1 b2 later.rest) h later.means;
      }

  joined : {front : List ℕ} {others : ℕ} → Joins f k g m front others → ArePartsLaid d (i ∷ parts) front others
  joined joins = record {
    string = λ o v b ts h. more_string joins h;
    means = λ o v rest size are.
        let c = joins.cut rest size are in
        let one = first.means o v c.first c.count c.first_bits in
        let front = f ++ c.first in
        let later = all.means (o + length front) (with_value d.nodes i front v) c.later c.many c.later_bits in
        (more one.0 later.0, parts_next front (g ++ c.later) c.cut one.1 later.1);
    one_row = λ o v b ss ts h g. more_one h g;
    begins = λ o v b h. more_begins b h;
  }

-- a part all of whose bits are the same, before parts
pub same_before : (d : DescV) (i : ℕ) (parts f g : List ℕ) (m : ℕ) → IsLaid d i f 0 → ArePartsLaid d parts g m → ArePartsLaid d (i ∷ parts) (f ++ g) m
same_before d i parts f g m first all = joined d i parts f 0 g m first all (joins_same f g m)

-- a part before parts all of whose bits are any
pub any_behind : (d : DescV) (i : ℕ) (parts f : List ℕ) (k m : ℕ) → IsLaid d i f k → ArePartsLaid d parts [] m → ArePartsLaid d (i ∷ parts) f (k + m)
any_behind d i parts f k m first all = joined d i parts f k [] m first all (joins_any f k m)
