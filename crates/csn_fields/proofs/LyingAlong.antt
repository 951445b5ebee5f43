-- The leaves of the bits that a tree has lie along them.
use Rattle.std.proofs.Common.{◌≡◌, ℕ, ◌+◌, List, [], ◌∷◌, ◌++◌, length, refl, sym, ap, subst, ◌∙◌, arith}
use Rattle.std.proofs.Common.{append_assoc, append-nil, length-append}
use Rattle.std.proofs.Common.{Some}
use Rattle.csn_desc.specs.declared.node.Node.{Node}
use Rattle.csn_desc.specs.declared.node.Node.TheVariants.{Lits, Spare, Pad, Null, Field, Rest, Seq, Choice, Times}
use Rattle.csn_desc.specs.declared.node.Node.TheVariants.{Many, Trunc, Window, Named}
use Rattle.csn_desc.specs.TreeV.{TreeV, empty, bits as bits_tree, row, alt, named, Trees, none}
use Rattle.csn_desc.specs.Nodes.{DescV}
use Rattle.csn_desc.specs.Spelled.{spelled}
use Rattle.csn_desc.specs.Values.{Values, with_value}
use Rattle.csn_desc.specs.Means.{NMeans, NodeMeans, PartsMean, TimesMean, ManyMean, LeadMean, means_at, means_lits, means_spare, means_pad}
use Rattle.csn_desc.specs.Means.{means_null, means_field, means_rest, means_seq, means_choice, means_times}
use Rattle.csn_desc.specs.Means.{means_many, means_cut, means_trunc}
use Rattle.csn_desc.specs.Means.{means_window, means_named, parts_end, parts_next, times_end, times_next, many_end}
use Rattle.csn_desc.specs.Means.{many_next, lead_last, lead_next}
use Rattle.csn_fields.specs.declared.leaf.LeafKind.{LeafKind}
use Rattle.csn_fields.specs.declared.leaf.Role.{Role}
use Rattle.csn_fields.specs.declared.leaf.Leaf.{Leaf}
use Rattle.csn_fields.specs.declared.event.Event.{Event}
use Rattle.csn_fields.specs.declared.event.Event.TheVariants as event
use Rattle.csn_fields.specs.Leaves.{kind_of, bits_of_leaf}
use Rattle.csn_fields.specs.Events.{EventsAt, InsideEvents, PartsEvents, TurnsEvents, leaf_with, events_leaf}
use Rattle.csn_fields.specs.Events.{events_node, inside_null, inside_seq}
use Rattle.csn_fields.specs.Events.{inside_trunc, inside_choice, inside_times, inside_many, inside_window, inside_named}
use Rattle.csn_fields.specs.Events as spec
use Rattle.csn_fields.specs.Lists.{leaves_in}
use Rattle.csn_fields.specs.Laws.{LieAlong, LeavesLieAlong, BlocksAreTiled, FrontsLieAlong}

leaves_in-append : (a b : List Event) → leaves_in (a ++ b) ≡ leaves_in a ++ leaves_in b
leaves_in-append [] b = refl
leaves_in-append (event.Leaf leaf ∷ a) b = ap (λ l. leaf ∷ l) (leaves_in-append a b)
leaves_in-append (event.Begin node role place ∷ a) b = leaves_in-append a b
leaves_in-append (event.End node place ∷ a) b = leaves_in-append a b

-- bits of two parts, with the leaves of each
along_then : (place : ℕ) (w b c : List ℕ) (xs ys : List Leaf) → w ≡ b ++ c → LieAlong place b xs → LieAlong
    (place + length b) c ys → LieAlong place w (xs ++ ys)
along_then place w b c [] ys cut one others =
    let no_bits : b ≡ [] = one in
    let same : c ≡ w = sym (cut ∙ ap (λ l. l ++ c) no_bits) in
    let here : place + length b ≡ place = omega (arith, ap (λ l. length l) no_bits) in
    let P : ℕ → Type 0 = λ n. LieAlong n c ys in
    let Q : List ℕ → Type 0 = λ l. LieAlong place l ys in
    subst Q same (subst P here others)
along_then place w b c (leaf ∷ xs) ys cut (b1, b2, parts, at, long, number, rest) others =
    let all : w ≡ b1 ++ (b2 ++ c) = cut ∙ ap (λ l. l ++ c) parts ∙ append_assoc b1 b2 c in
    let far : place + length b ≡ (place + length b1) + length b2 = omega (arith, ap (λ l. length l) parts, length-append b1 b2) in
    let P : ℕ → Type 0 = λ n. LieAlong n c ys in
    (b1, b2 ++ c, all, at, long, number, along_then (place + length b1) (b2 ++ c) b2 c xs ys refl rest (subst P far others))

module _ (d : DescV) where
  -- bits from a place up to another, with their leaves
  pub record Along (from to : ℕ) (b : List ℕ) (events : List Event) : Type 0 where
    pub to_is : to ≡ from + length b
    pub along : LieAlong from b (leaves_in events)

  none_along : {from to : ℕ} {b : List ℕ} {events : List Event} → b ≡ [] → to ≡ from → events ≡ [] → Along from to b events
  none_along {from} {to} {b} {events} no_bits same are =
      let P : List Event → Type 0 = λ l. LieAlong from b (leaves_in l) in
      record { to_is = omega (arith, same, ap (λ l. length l) no_bits); along = subst P (sym are) no_bits }

  -- a part and the others behind it
  both_along : {from middle to : ℕ} {w b c : List ℕ} {events : List Event} (first rest : List Event) → w ≡ b ++ c → events ≡ first ++ rest
      → Along from middle b first → Along middle to c rest → Along from to w events
  both_along {from} {middle} {to} {w} {b} {c} {events} first rest cut are one next =
      let others : Along (from + length b) to c rest = subst (λ n. Along n to c rest) one.to_is next in
      let all : LieAlong from w (leaves_in first ++ leaves_in rest) = along_then from w b c (leaves_in first)
      (leaves_in rest) cut one.along others.along in
      let same : leaves_in first ++ leaves_in rest ≡ leaves_in events = sym (ap (λ l. leaves_in l) are ∙ leaves_in-append first rest) in
      let P : List Leaf → Type 0 = λ l. LieAlong from w l in
      record { to_is = omega (arith, others.to_is, ap (λ l. length l) cut, length-append b c); along = subst P same all }

  -- a leaf
  leaf_along : (i from to : ℕ) (role : Role) (kind : LeafKind) (b w : List ℕ) (events : List Event) → w ≡ b → to ≡ from + length b
      → events ≡ event.Leaf (leaf_with i kind role from b) ∷ [] → Along from to w events
  leaf_along i from to role kind b w events same far are =
      let P : List Event → Type 0 = λ l. LieAlong from w (leaves_in l) in
      record {
        to_is = far ∙ ap (λ l. from + length l) (sym same);
        along = subst P (sym are) (b, [], same ∙ sym (append-nil b), refl, refl, refl, refl);
      }

  -- the bits of a leaf are those that its tree tells
  leaf_bits : (n : Node) (kind : LeafKind) (o : ℕ) (v : Values) (b w : List ℕ) (t : TreeV) → kind_of n ≡ Some kind → bits_of_leaf n o t ≡ Some b
      → NodeMeans d n o v w t → w ≡ b
  leaf_bits (Lits run) kind o v b w empty is told (means_lits same) = let e : spelled run o ≡ b = cc in same ∙ e
  leaf_bits (Spare s) kind o v b w (bits_tree x) is told (means_spare long spare) = cc
  leaf_bits Pad kind o v b w (bits_tree x) is told (means_pad some spare) = cc
  leaf_bits (Field unit count) kind o v b w (bits_tree x) is told (means_field n counted long are) = cc
  leaf_bits Rest kind o v b w (bits_tree x) is told (means_rest are) = cc
  leaf_bits (Lits run) kind o v b w (bits_tree x) is told h = elim h [ ]
  leaf_bits (Lits run) kind o v b w (row ts) is told h = elim h [ ]
  leaf_bits (Lits run) kind o v b w (alt j t) is told h = elim h [ ]
  leaf_bits (Lits run) kind o v b w (named l t) is told h = elim h [ ]
  leaf_bits (Spare s) kind o v b w empty is told h = elim h [ ]
  leaf_bits (Spare s) kind o v b w (row ts) is told h = elim h [ ]
  leaf_bits (Spare s) kind o v b w (alt j t) is told h = elim h [ ]
  leaf_bits (Spare s) kind o v b w (named l t) is told h = elim h [ ]
  leaf_bits Pad kind o v b w empty is told h = elim h [ ]
  leaf_bits Pad kind o v b w (row ts) is told h = elim h [ ]
  leaf_bits Pad kind o v b w (alt j t) is told h = elim h [ ]
  leaf_bits Pad kind o v b w (named l t) is told h = elim h [ ]
  leaf_bits (Field unit count) kind o v b w empty is told h = elim h [ ]
  leaf_bits (Field unit count) kind o v b w (row ts) is told h = elim h [ ]
  leaf_bits (Field unit count) kind o v b w (alt j t) is told h = elim h [ ]
  leaf_bits (Field unit count) kind o v b w (named l t) is told h = elim h [ ]
  leaf_bits Rest kind o v b w empty is told h = elim h [ ]
  leaf_bits Rest kind o v b w (row ts) is told h = elim h [ ]
  leaf_bits Rest kind o v b w (alt j t) is told h = elim h [ ]
  leaf_bits Rest kind o v b w (named l t) is told h = elim h [ ]
  leaf_bits Null kind o v b w t is told h = absurd (cc)
  leaf_bits (Seq parts) kind o v b w t is told h = absurd (cc)
  leaf_bits (Choice parts) kind o v b w t is told h = absurd (cc)
  leaf_bits (Times count part) kind o v b w t is told h = absurd (cc)
  leaf_bits (Many part) kind o v b w t is told h = absurd (cc)
  leaf_bits (Trunc parts) kind o v b w t is told h = absurd (cc)
  leaf_bits (Window unit count part) kind o v b w t is told h = absurd (cc)
  leaf_bits (Named label part) kind o v b w t is told h = absurd (cc)

  cut_along : {parts : List ℕ} {from to : ℕ} {b : List ℕ} {events : List Event}
      → PartsEvents d parts from to none events → b ≡ [] → Along from to b events
  cut_along (spec.parts_end far are) cut = none_along cut far are

  mutual
    pub node_along : {i from to : ℕ} {role : Role} {v : Values} {b : List ℕ} {t : TreeV} {events : List Event}
        → EventsAt d i role from to t events → NMeans d i from v b t → Along from to b events
    node_along {i} {from} {to} {role} {v} {b} {t} {events} (events_leaf n kind x at kind_is told far are) (means_at m at2 h) =
        let twice : Some m ≡ Some n = sym at2 ∙ at in
        let same : m ≡ n = cc in
        let P : Node → Type 0 = λ y. NodeMeans d y from v b t in
        leaf_along i from to role kind x b events (leaf_bits n kind from v x b t kind_is told (subst P same h)) far are
    node_along {i} {from} {to} {role} {v} {b} {t} {events} (events_node n inside at h are) (means_at m at2 g) =
        let twice : Some m ≡ Some n = sym at2 ∙ at in
        let same : m ≡ n = cc in
        let P : Node → Type 0 = λ y. NodeMeans d y from v b t in
        let inner = inside_along n h (subst P same g) in
        let leaves : leaves_in inside ≡ leaves_in events =
        sym (ap (λ l. leaves_in l) are ∙ leaves_in-append inside (event.End i to ∷ []) ∙ append-nil (leaves_in inside)) in
        let Q : List Leaf → Type 0 = λ l. LieAlong from b l in
        record { to_is = inner.to_is; along = subst Q leaves inner.along }

    inside_along : (n : Node) {from to : ℕ} {v : Values} {b : List ℕ} {t : TreeV} {events : List Event}
        → InsideEvents d n from to t events → NodeMeans d n from v b t → Along from to b events
    inside_along Null (inside_null far are) (means_null no_bits) = none_along no_bits far are
    inside_along (Seq parts) (inside_seq h) (means_seq g) = parts_along h g
    inside_along (Trunc parts) (inside_trunc h) (means_cut cut) = cut_along h cut
    inside_along (Trunc parts) (inside_trunc h) (means_trunc g) = lead_along h g
    inside_along (Choice parts) {from} {v = v} {b = b} (inside_choice {t = t} i at h) (means_choice {i = k} at2 g) =
        let twice : Some k ≡ Some i = sym at2 ∙ at in
        let same : k ≡ i = cc in
        node_along h (subst (λ x. NMeans d x from v b t) same g)
    inside_along (Times count i) (inside_times h) (means_times n counted g) = times_along h g
    inside_along (Many i) (inside_many h) (means_many g) = many_along h g
    inside_along (Window unit count i) (inside_window h) (means_window n counted long g) = node_along h g
    inside_along (Named label i) (inside_named h) (means_named g) = node_along h g

    parts_along : {parts : List ℕ} {from to : ℕ} {v : Values} {b : List ℕ} {ts : Trees} {events : List Event}
        → PartsEvents d parts from to ts events → PartsMean d parts from v b ts → Along from to b events
    parts_along (spec.parts_end far are) (parts_end cut) = none_along cut far are
    parts_along {v = v} (spec.parts_next {i = i} {ts = ts} middle first rest are h hs) (parts_next {parts = parts} b1 b2 cut g gs) =
        let one = node_along h g in
        let P : ℕ → Type 0 = λ n. PartsMean d parts n (with_value d.nodes i b1 v) b2 ts in
        both_along first rest cut are one (parts_along hs (subst P (sym one.to_is) gs))

    lead_along : {parts : List ℕ} {from to : ℕ} {v : Values} {b : List ℕ} {ts : Trees} {events : List Event}
        → PartsEvents d parts from to ts events → LeadMean d parts from v b ts → Along from to b events
    lead_along (spec.parts_end far are) h = elim h [ ]
    lead_along {b = b} (spec.parts_next middle first rest are h hs) (lead_last some g) =
        let one = node_along h g in
        both_along first rest (sym (append-nil b)) are one (cut_along hs refl)
    lead_along {v = v} (spec.parts_next {i = i} {ts = ts} middle first rest are h hs) (lead_next {parts = parts} b1 b2 cut g gs) =
        let one = node_along h g in
        let P : ℕ → Type 0 = λ n. LeadMean d parts n (with_value d.nodes i b1 v) b2 ts in
        both_along first rest cut are one (lead_along hs (subst P (sym one.to_is) gs))

    times_along : {n i turn from to : ℕ} {v : Values} {b : List ℕ} {ts : Trees} {events : List Event}
        → TurnsEvents d i turn from to ts events → TimesMean d n i from v b ts → Along from to b events
    times_along (spec.turns_end far are) (times_end zero_is cut) = none_along cut far are
    times_along {i = i} {v = v} (spec.turns_next {ts = ts} middle first rest are h hs) (times_next m one_less b1 b2 cut g gs) =
        let one = node_along h g in
        let P : ℕ → Type 0 = λ n. TimesMean d m i n v b2 ts in
        both_along first rest cut are one (times_along hs (subst P (sym one.to_is) gs))

    many_along : {i turn from to : ℕ} {v : Values} {b : List ℕ} {ts : Trees} {events : List Event}
        → TurnsEvents d i turn from to ts events → ManyMean d i from v b ts → Along from to b events
    many_along (spec.turns_end far are) (many_end cut) = none_along cut far are
    many_along {i = i} {v = v} (spec.turns_next {ts = ts} middle first rest are h hs) (many_next b1 b2 cut some g gs) =
        let one = node_along h g in
        let P : ℕ → Type 0 = λ n. ManyMean d i n v b2 ts in
        both_along first rest cut are one (many_along hs (subst P (sym one.to_is) gs))

pub leaves_along : LeavesLieAlong
leaves_along d i from to role v b t events means are = (node_along d are means).along

pub blocks_tiled : BlocksAreTiled
blocks_tiled d b events are = (node_along d are.events_are are.means).along

-- the first of some leaves lie along the first bits
record Front (place : ℕ) (w : List ℕ) (xs : List Leaf) : Type 0 where
  pub front : List ℕ
  pub back : List ℕ
  pub cut : w ≡ front ++ back
  pub along : LieAlong place front xs

along_front : (place : ℕ) (w : List ℕ) (xs ys : List Leaf) → LieAlong place w (xs ++ ys) → Front place w xs
along_front place w [] ys h = record { front = []; back = w; cut = refl; along = refl }
along_front place w (leaf ∷ xs) ys (b1, b2, parts, at, long, number, rest) =
    let f = along_front (place + length b1) b2 xs ys rest in
    record {
      front = b1 ++ f.front;
      back = f.back;
      cut = parts ∙ ap (λ l. b1 ++ l) f.cut ∙ sym (append_assoc b1 f.front f.back);
      along = (b1, f.front, refl, at, long, number, f.along);
    }

pub fronts_along : FrontsLieAlong
fronts_along d b later tree events begin few means =
    let all = begin later tree few means in
    let lie : LieAlong 0 (b ++ later) (leaves_in (events ++ all.0)) = (node_along d all.1 means).along in
    let P : List Leaf → Type 0 = λ l. LieAlong 0 (b ++ later) l in
    let f = along_front 0 (b ++ later) (leaves_in events) (leaves_in all.0) (subst P (leaves_in-append events all.0) lie) in
    (f.front, f.back, f.cut, f.along)
