-- The moves of a tree grow it.
use Rattle.std.proofs.Common.{◌≡◌, ℕ, suc, false, List, [], ◌∷◌, ◌++◌, map, refl, sym, ap, subst, ◌∙◌, append_assoc, append-nil, Option, Some, None}
use Rattle.std.specs.Prelude.{slice_get, IfSome}
use Rattle.csn_desc.specs.declared.moves.Move.{Move}
use Rattle.csn_desc.specs.declared.moves.Move.TheVariants.{Enter, Bit, Leave}
use Rattle.csn_desc.specs.declared.node.Node.{Node}
use Rattle.csn_desc.specs.declared.node.Node.TheVariants.{Lits, Spare, Pad, Null, Field, Rest, Seq, Choice, Times, Many, Trunc, Window, Named}
use Rattle.csn_desc.specs.TreeV.{TreeV, empty, bits, row, alt, named, Trees, none, more, list_of, trees_of}
use Rattle.csn_desc.specs.Nodes.{DescV, parts_of}
use Rattle.csn_desc.specs.Formed.{Spans, PartsSpan, spans, span_next, IsDescription}
use Rattle.csn_desc.specs.Walks.{Walk, NodeWalk, PartsWalk, RepeatsWalk, LeadWalk, walk_at, walk_lits, walk_spare}
use Rattle.csn_desc.specs.Walks.{walk_pad, walk_null, walk_field, walk_rest, walk_seq, walk_choice, walk_times}
use Rattle.csn_desc.specs.Walks.{walk_many, walk_trunc, walk_window, walk_named, parts_end, parts_next, repeats_end}
use Rattle.csn_desc.specs.Walks.{repeats_next, lead_end, lead_next}
use Rattle.csn_desc.proofs.Numbering.{parts_distinct, part_spans}
use Rattle.csn_judge.specs.Told.{Tells, tells_none, tells_enter, tells_bit, tells_leave}
use Rattle.csn_decode.specs.declared.open.Open.{Open}
use Rattle.csn_decode.specs.declared.open.Ended.{Ended}
use Rattle.csn_decode.specs.declared.open.Inside.{Inside}
use Rattle.csn_decode.specs.declared.open.Inside.TheVariants.{Leaf, Row, Part}
use Rattle.csn_decode.specs.Built.{BuiltV, nothing, begun, entered, took_all, has_bits, bits_behind, bits_left, given, IsTree, Leaves, Grows, GrewFrom, Makes}
use Rattle.csn_decode.proofs.BuiltFacts.{took_none, took_more}

pub trees_of-list_of : (ts : Trees) → trees_of (list_of ts) ≡ ts
trees_of-list_of none = refl
trees_of-list_of (more t ts) = ap (λ us. more t us) (trees_of-list_of ts)

-- what there is of a tree is this, where no memory was refused
abbrev pub IsAt : BuiltV → Option BuiltV → Type 0
IsAt v state = (w : BuiltV) → state ≡ Some w → w ≡ v

-- one move more
pub next_at : (v u : BuiltV) (old next : Option BuiltV) (move : Move) (node : Node) → IsAt v old → Makes old move node next
    → ((w : BuiltV) → Grows v move node w → w ≡ u) → IsAt u next
next_at v u old next move node at makes one w e =
    let M : Option BuiltV → Type 0 = λ o. IfSome o (λ x. GrewFrom old move node x) in
    let grew = subst M e makes in
    let G : BuiltV → Type 0 = λ x. Grows x move node w in
    one w (subst G (at grew.before grew.old_is) grew.grows)

-- a node with some trees of its parts, inside the others, with these bits
abbrev inside_with : ℕ → Inside → List ℕ → BuiltV → BuiltV
inside_with i inside b v = record { nodes = record { node = i; inside = inside } ∷ v.nodes; bits = b; whole = v.whole }

-- it ends
left_at : (node : Node) (i : ℕ) (inside : Inside) (b : List ℕ) (t : TreeV) (v u : BuiltV) → bits_behind (has_bits node) b ≡ v.bits
    → ((tree : TreeV) → IsTree node inside b tree → tree ≡ t) → Leaves node (inside_with i inside b v) u → u ≡ given i t v
left_at node i inside b t v u behind one left =
    let old : BuiltV = inside_with i inside b v in
    let nodes : record { node = i; inside = inside } ∷ v.nodes ≡ left.last ∷ left.outer.nodes = ap (λ (x : BuiltV). x.nodes) left.opened in
    let top : left.last ≡ record { node = i; inside = inside } = cc in
    let outer : left.outer.nodes ≡ v.nodes = cc in
    let bits_are : left.outer.bits ≡ b = sym (ap (λ (x : BuiltV). x.bits) left.opened) in
    let whole_is : left.outer.whole ≡ v.whole = sym (ap (λ (x : BuiltV). x.whole) left.opened) in
    let I : Open → Type 0 = λ o. IsTree node o.inside left.outer.bits left.tree in
    let J : List ℕ → Type 0 = λ l. IsTree node inside l left.tree in
    let tree : left.tree ≡ t = one left.tree (subst J bits_are (subst I top left.tree_is)) in
    left.behind
    ∙ ap (λ (o : Open). given o.node left.tree (bits_left node left.outer)) top
    ∙ ap (λ x. given i x (bits_left node left.outer)) tree
    ∙ ap (λ l. given i t (record { nodes = l; bits = bits_behind (has_bits node) left.outer.bits; whole = left.outer.whole })) outer
    ∙ ap (λ l. given i t (record { nodes = v.nodes; bits = l; whole = left.outer.whole })) (ap (λ l. bits_behind (has_bits node) l) bits_are ∙ behind)
    ∙ ap (λ r. given i t (record { nodes = v.nodes; bits = v.bits; whole = r })) whole_is

module _ (d : DescV) where
  -- behind some moves: what there is then, and the moves that are left
  pub record After (v : BuiltV) (around : List ℕ) (rest : List Move) (others : List ℕ) (new : Option BuiltV) : Type 0 where
    pub state : Option BuiltV
    pub tells : Tells d Makes around rest others state new
    pub at : IsAt v state

  moved_after : {v u : BuiltV} {around : List ℕ} {rest : List Move} {others : List ℕ} {new : Option BuiltV}
      → v ≡ u → After v around rest others new → After u around rest others new
  moved_after {around = around} {rest = rest} {others = others} {new = new} e h =
      let P : BuiltV → Type 0 = λ x. After x around rest others new in
      subst P e h

  -- the same where all that a node does is behind it but its end, by which its tree is given to the node round it
  record Inner (node : Node) (i : ℕ) (t : TreeV) (v : BuiltV) (around : List ℕ) (rest : List Move) (others : List ℕ) (new : Option BuiltV) : Type 0 where
    pub before : BuiltV
    pub after : After before (i ∷ around) rest others new
    pub gives : (u : BuiltV) → Leaves node before u → u ≡ given i t v

  tells_moved : {a b : List Move} {around others : List ℕ} {old new : Option BuiltV}
      → a ≡ b → Tells d Makes around a others old new → Tells d Makes around b others old new
  tells_moved {around = around} {others = others} {old = old} {new = new} e h =
      let P : List Move → Type 0 = λ m. Tells d Makes around m others old new in
      subst P e h

  -- the first move
  entering : {i : ℕ} {n : Node} {v : BuiltV} {moves : List Move} {around others : List ℕ} {old new : Option BuiltV} → slice_get d.nodes i ≡ Some n → IsAt v old
      → Tells d Makes around (Enter i ∷ moves) others old new → After (entered i n v) (i ∷ around) moves others new
  entering {i} {n} {v} {old = old} at here (tells_enter node next at2 makes tells) =
      let same : node ≡ n = cc in
      let P : Node → Type 0 = λ m. Makes old (Enter i) m next in
      record { state = next; tells = tells; at = next_at v (entered i n v) old next (Enter i) n here (subst P same makes) (λ w g. g) }

  taking : {i bit : ℕ} {n : Node} {v : BuiltV} {moves : List Move} {around others : List ℕ} {old new : Option BuiltV}
      → slice_get d.nodes i ≡ Some n → IsAt v old
      → Tells d Makes (i ∷ around) (Bit bit ∷ moves) others old new → After (took_all n (bit ∷ []) v) (i ∷ around) moves others new
  taking {i} {bit} {n} {v} {old = old} at here (tells_bit node next at2 makes tells) =
      let same : node ≡ n = cc in
      let P : Node → Type 0 = λ m. Makes old (Bit bit) m next in
      record { state = next; tells = tells; at = next_at v (took_all n (bit ∷ []) v) old next (Bit bit) n here (subst P same makes) (λ w g. g) }

  leaving : {i : ℕ} {n : Node} {v u : BuiltV} {moves : List Move} {around others : List ℕ} {old new : Option BuiltV}
      → slice_get d.nodes i ≡ Some n → IsAt v old
      → ((w : BuiltV) → Leaves n v w → w ≡ u)
      → Tells d Makes (i ∷ around) (Leave ∷ moves) others old new → After u around moves others new
  leaving {n = n} {v} {u} {old = old} at here one (tells_leave node next at2 makes tells) =
      let same : node ≡ n = cc in
      let P : Node → Type 0 = λ m. Makes old Leave m next in
      record { state = next; tells = tells; at = next_at v u old next Leave n here (subst P same makes) one }

  -- the bits of a node
  bits_grow : {i : ℕ} {n : Node} (b : List ℕ) (v : BuiltV) (rest : List Move) {around others : List ℕ}
      {old new : Option BuiltV} → slice_get d.nodes i ≡ Some n → IsAt v old
      → Tells d Makes (i ∷ around) (map Bit b ++ rest) others old new → After (took_all n b v) (i ∷ around) rest others new
  bits_grow {n = n} [] v rest at here tells = moved_after (sym (took_none n v)) (record { state = _; tells = tells; at = here })
  bits_grow {n = n} (bit ∷ b) v rest at here tells =
      let first = taking {n = n} at here tells in
      moved_after (took_more n bit b v) (bits_grow b (took_all n (bit ∷ []) v) rest at first.at first.tells)

  leaf_grows : (n : Node) (i : ℕ) (b : List ℕ) (t : TreeV) (v : BuiltV) (rest moves : List Move)
      {around others : List ℕ} {old new : Option BuiltV} → slice_get d.nodes i ≡ Some n
      → begun n ≡ Leaf → bits_behind (has_bits n) (took_all n b v).bits ≡ v.bits → ((tree : TreeV) → IsTree n Leaf (took_all n b v).bits tree → tree ≡ t)
      → IsAt (entered i n v) old → moves ≡ map Bit b → Tells d Makes (i ∷ around) (moves ++ rest) others old new → Inner n i t v around rest others new
  leaf_grows n i b t v rest moves at leaf behind one here are tells =
      let S : Inside → BuiltV = λ x. inside_with i x v.bits v in
      let there = bits_grow {n = n} b (entered i n v) rest at here (tells_moved (ap (λ m. m ++ rest) are) tells) in
      record {
        before = inside_with i Leaf (took_all n b v).bits v;
        after = moved_after (ap (λ x. inside_with i x (took_all n b v).bits v) leaf) there;
        gives = λ u. left_at n i Leaf (took_all n b v).bits t v u behind one;
      }

  -- a part's tree alone
  part_grows : (n : Node) (i part : ℕ) (u t : TreeV) (v : BuiltV) {rest : List Move} {around others : List ℕ} {new : Option BuiltV}
      → has_bits n ≡ false → ((tree : TreeV) → IsTree n (Part (Some (record { node = part; tree = u }))) v.bits tree → tree ≡ t)
      → After (inside_with i (Part (Some (record { node = part; tree = u }))) v.bits v) (i ∷ around) rest others new → Inner n i t v around rest others new
  part_grows n i part u t v leafless one there =
      record {
        before = inside_with i (Part (Some (record { node = part; tree = u }))) v.bits v;
        after = there;
        gives = λ w. left_at n i (Part (Some (record { node = part; tree = u }))) v.bits t v w (ap (λ x. bits_behind x v.bits) leafless) one;
      }

  -- the trees of a row
  row_grows : (n : Node) (i : ℕ) (ts : Trees) (v : BuiltV) {rest : List Move} {around others : List ℕ} {new : Option BuiltV}
      → has_bits n ≡ false → ((tree : TreeV) → IsTree n (Row (list_of ts)) v.bits tree → (us : List TreeV)
      × (Row (list_of ts) ≡ Row us) × (tree ≡ row (trees_of us)))
      → After (inside_with i (Row (list_of ts)) v.bits v) (i ∷ around) rest others new → Inner n i (row ts) v around rest others new
  row_grows n i ts v leafless is there =
      record {
        before = inside_with i (Row (list_of ts)) v.bits v;
        after = there;
        gives = λ w. left_at n i (Row (list_of ts)) v.bits (row ts) v w (ap (λ x. bits_behind x v.bits) leafless)
            (λ tree h. let r = is tree h in let same : r.0 ≡ list_of ts = cc in r.2 ∙ ap (λ l. row (trees_of l)) same ∙ ap (λ l. row l) (trees_of-list_of ts));
      }

  -- one tree more before the others of a row
  one_more : (i : ℕ) (front : List TreeV) (t : TreeV) (ts : List TreeV) (v : BuiltV)
      → inside_with i (Row ((front ++ t ∷ []) ++ ts)) v.bits v ≡ inside_with i (Row (front ++ t ∷ ts)) v.bits v
  one_more i front t ts v = ap (λ l. inside_with i (Row l) v.bits v) (append_assoc front (t ∷ []) ts)

  no_more : (i : ℕ) (front : List TreeV) (v : BuiltV) → inside_with i (Row front) v.bits v ≡ inside_with i (Row (front ++ [])) v.bits v
  no_more i front v = ap (λ l. inside_with i (Row l) v.bits v) (sym (append-nil front))

  row_ends : (i : ℕ) (front : List TreeV) (v : BuiltV) (rest : List Move) {moves : List Move} {around others : List ℕ} {old new : Option BuiltV}
      → moves ≡ [] → IsAt (inside_with i (Row front) v.bits v) old → Tells d Makes (i ∷ around) (moves ++ rest) others old new
      → After (inside_with i (Row (front ++ [])) v.bits v) (i ∷ around) rest others new
  row_ends i front v rest are here tells =
      moved_after (no_more i front v) (record { state = _; tells = tells_moved (ap (λ l. l ++ rest) are) tells; at = here })

  only_part : {i at end : ℕ} → PartsSpan d.nodes (i ∷ []) at end → (middle : ℕ) × Spans d.nodes i middle
  only_part (span_next middle e h others) = (middle, h)

  mutual
    pub walk_grows : {i o end : ℕ} {t : TreeV} {moves : List Move} (v : BuiltV) (rest : List Move) {around others : List ℕ} {old new : Option BuiltV}
        → v.bits ≡ [] → Spans d.nodes i end → Walk d i o t moves → IsAt v old → Tells d Makes around (moves ++ rest) others old new
        → After (given i t v) around rest others new
    walk_grows {i} {end = end} {t = t} v rest clear (spans m at0 parts) (walk_at n inside at h are) here tells =
        let same : m ≡ n = cc in
        let P : Node → Type 0 = λ x. PartsSpan d.nodes (parts_of x) (suc i) end in
        let first = entering {n = n} {v = v} at here (tells_moved (ap (λ l. l ++ rest) are) tells) in
        let inner = node_grows n i v (Leave ∷ rest) clear at (subst P same parts) h first.at
        (tells_moved (append_assoc inside (Leave ∷ []) rest) first.tells) in
        leaving {n = n} {v = inner.before} {u = given i t v} at inner.after.at inner.gives inner.after.tells

    node_grows : (n : Node) (i : ℕ) {o at end : ℕ} {t : TreeV} {moves : List Move} (v : BuiltV) (rest : List Move)
        {around others : List ℕ} {old new : Option BuiltV}
        → v.bits ≡ [] → slice_get d.nodes i ≡ Some n → PartsSpan d.nodes (parts_of n) at end → NodeWalk d n o t moves → IsAt (entered i n v) old
        → Tells d Makes (i ∷ around) (moves ++ rest) others old new
        → Inner n i t v around rest others new
    node_grows (Lits run) i {moves = moves} v rest clear at parts (walk_lits are) here tells =
        leaf_grows (Lits run) i _ empty v rest moves at refl refl (λ tree e. e) here are tells
    node_grows (Spare s) i {moves = moves} v rest clear at parts (walk_spare {b = b} are) here tells =
        leaf_grows (Spare s) i b (bits b) v rest moves at refl (sym clear) (λ tree e. e ∙ ap (λ l. bits (l ++ b)) clear) here are tells
    node_grows Pad i {moves = moves} v rest clear at parts (walk_pad {b = b} are) here tells =
        leaf_grows Pad i b (bits b) v rest moves at refl (sym clear) (λ tree e. e ∙ ap (λ l. bits (l ++ b)) clear) here are tells
    node_grows Null i {moves = moves} v rest clear at parts (walk_null are) here tells =
        leaf_grows Null i [] empty v rest moves at refl (append-nil v.bits) (λ tree e. e) here are tells
    node_grows (Field unit count) i {moves = moves} v rest clear at parts (walk_field {b = b} are) here tells =
        leaf_grows (Field unit count) i b (bits b) v rest moves at refl (sym clear) (λ tree e. e ∙ ap (λ l. bits (l ++ b)) clear) here are tells
    node_grows Rest i {moves = moves} v rest clear at parts (walk_rest {b = b} are) here tells =
        leaf_grows Rest i b (bits b) v rest moves at refl (sym clear) (λ tree e. e ∙ ap (λ l. bits (l ++ b)) clear) here are tells
    node_grows (Seq ps) i v rest clear at parts (walk_seq {ts = ts} h) here tells =
        row_grows (Seq ps) i ts v refl (λ tree r. r) (parts_grow i [] v rest clear parts h here tells)
    node_grows (Choice ps) i v rest clear at parts (walk_choice {j = j} {t = u} part is h) here tells =
        let span = part_spans d.nodes j part parts is in
        part_grows (Choice ps) i part u (alt j u) v refl
        (λ tree r. let ended = r.0 in let place = r.1 in
        let same : ended ≡ record { node = part; tree = u } = cc in
        let there : slice_get ps place ≡ Some part = r.3 ∙ ap (λ (x : Ended). Some x.node) same in
        r.4 ∙ ap (λ (x : Ended). alt place x.tree) same ∙ ap (λ k. alt k u) (parts_distinct d.nodes place j part parts there is))
        (walk_grows (inside_with i (Part None) v.bits v) rest clear span.1 h here tells)
    node_grows (Times count part) i v rest clear at parts (walk_times {ts = ts} h) here tells =
        row_grows (Times count part) i ts v refl (λ tree r. r) (repeats_grow i [] v rest clear (only_part parts).1 h here tells)
    node_grows (Many part) i v rest clear at parts (walk_many {ts = ts} h) here tells =
        row_grows (Many part) i ts v refl (λ tree r. r) (repeats_grow i [] v rest clear (only_part parts).1 h here tells)
    node_grows (Trunc ps) i v rest clear at parts (walk_trunc {ts = ts} h) here tells =
        row_grows (Trunc ps) i ts v refl (λ tree r. r) (lead_grows i [] v rest clear h parts here tells)
    node_grows (Window unit count part) i {t = t} v rest clear at parts (walk_window h) here tells =
        part_grows (Window unit count part) i part t t v refl
        (λ tree r. let same : r.0 ≡ record { node = part; tree = t } = cc in r.2 ∙ ap (λ (x : Ended). x.tree) same)
        (walk_grows (inside_with i (Part None) v.bits v) rest clear (only_part parts).1 h here tells)
    node_grows (Named label part) i v rest clear at parts (walk_named {t = u} h) here tells =
        part_grows (Named label part) i part u (named label u) v refl
        (λ tree r. let same : r.0 ≡ record { node = part; tree = u } = cc in r.2 ∙ ap (λ (x : Ended). named label x.tree) same)
        (walk_grows (inside_with i (Part None) v.bits v) rest clear (only_part parts).1 h here tells)

    parts_grow : (i : ℕ) (front : List TreeV) {parts : List ℕ} {o at end : ℕ} {ts : Trees} {moves : List Move}
        (v : BuiltV) (rest : List Move) {around others : List ℕ} {old new : Option BuiltV}
        → v.bits ≡ [] → PartsSpan d.nodes parts at end → PartsWalk d parts o ts moves → IsAt (inside_with i (Row front) v.bits v) old
        → Tells d Makes (i ∷ around) (moves ++ rest) others old new
        → After (inside_with i (Row (front ++ list_of ts)) v.bits v) (i ∷ around) rest others new
    parts_grow i front v rest clear span (parts_end are) here tells = row_ends i front v rest are here tells
    parts_grow i front v rest clear (span_next middle e span others) (parts_next {t = t} {ts = ts} first later are h hs) here tells =
        let there = walk_grows (inside_with i (Row front) v.bits v) (later ++ rest) clear span h here
        (tells_moved (ap (λ l. l ++ rest) are ∙ append_assoc first later rest) tells) in
        moved_after (one_more i front t (list_of ts) v) (parts_grow i (front ++ t ∷ []) v rest clear others hs there.at there.tells)

    repeats_grow : (i : ℕ) (front : List TreeV) {part o end : ℕ} {ts : Trees} {moves : List Move} (v : BuiltV)
        (rest : List Move) {around others : List ℕ} {old new : Option BuiltV}
        → v.bits ≡ [] → Spans d.nodes part end → RepeatsWalk d part o ts moves → IsAt (inside_with i (Row front) v.bits v) old
        → Tells d Makes (i ∷ around) (moves ++ rest) others old new
        → After (inside_with i (Row (front ++ list_of ts)) v.bits v) (i ∷ around) rest others new
    repeats_grow i front v rest clear span (repeats_end are) here tells = row_ends i front v rest are here tells
    repeats_grow i front v rest clear span (repeats_next {t = t} {ts = ts} first later are h hs) here tells =
        let there = walk_grows (inside_with i (Row front) v.bits v) (later ++ rest) clear span h here
        (tells_moved (ap (λ l. l ++ rest) are ∙ append_assoc first later rest) tells) in
        moved_after (one_more i front t (list_of ts) v) (repeats_grow i (front ++ t ∷ []) v rest clear span hs there.at there.tells)

    lead_grows : (i : ℕ) (front : List TreeV) {parts : List ℕ} {o at end : ℕ} {ts : Trees} {moves : List Move}
        (v : BuiltV) (rest : List Move) {around others : List ℕ} {old new : Option BuiltV}
        → v.bits ≡ [] → LeadWalk d parts o ts moves → PartsSpan d.nodes parts at end → IsAt (inside_with i (Row front) v.bits v) old
        → Tells d Makes (i ∷ around) (moves ++ rest) others old new
        → After (inside_with i (Row (front ++ list_of ts)) v.bits v) (i ∷ around) rest others new
    lead_grows i front v rest clear (lead_end are) span here tells = row_ends i front v rest are here tells
    lead_grows i front v rest clear (lead_next {t = t} {ts = ts} first later are h hs) (span_next middle e span others) here tells =
        let there = walk_grows (inside_with i (Row front) v.bits v) (later ++ rest) clear span h here
        (tells_moved (ap (λ l. l ++ rest) are ∙ append_assoc first later rest) tells) in
        moved_after (one_more i front t (list_of ts) v) (lead_grows i (front ++ t ∷ []) v rest clear hs others there.at there.tells)

  -- ---- the moves of a block

  done : {others : List ℕ} {state new : Option BuiltV} → Tells d Makes [] [] others state new → new ≡ state
  done (tells_none open_is new_is) = new_is

  pub tree_grows : {tree : TreeV} {moves : List Move} {others : List ℕ} {new : Option BuiltV} → IsDescription d → Walk d 0 0 tree moves
      → Tells d Makes [] moves others (Some nothing) new → IsAt (given 0 tree nothing) new
  tree_grows {moves = moves} is walk tells w e =
      let there = walk_grows nothing [] refl is.numbered walk (λ x same. (cc)) (tells_moved (sym (append-nil moves)) tells) in
      there.at w (sym (done there.tells) ∙ e)

  -- ---- moves after others

  pub tells-then : {around middle others : List ℕ} {first second : List Move} {old state new : Option BuiltV}
      → Tells d Makes around first middle old state → Tells d Makes middle second others state new
      → Tells d Makes around (first ++ second) others old new
  tells-then {around = around} {others = others} {second = second} {state = state} {new = new} (tells_none open_is new_is) later =
      let P : List ℕ → Type 0 = λ a. Tells d Makes a second others state new in
      let Q : Option BuiltV → Type 0 = λ s. Tells d Makes around second others s new in
      subst Q new_is (subst P open_is later)
  tells-then (tells_enter node next at makes tells) later = tells_enter node next at makes (tells-then tells later)
  tells-then (tells_bit node next at makes tells) later = tells_bit node next at makes (tells-then tells later)
  tells-then (tells_leave node next at makes tells) later = tells_leave node next at makes (tells-then tells later)
