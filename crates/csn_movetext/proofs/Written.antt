-- The moves of a tree write it, in either form.
use Rattle.std.proofs.Common.{◌≡◌, ℕ, suc, ◌*◌, if◌then◌else◌, Bool, true, false, List, [], ◌∷◌, ◌++◌, length, refl}
use Rattle.std.proofs.Common.{sym, ◌∙◌, ap, subst, append_assoc, append-nil, Option, Some, None}
use Rattle.std.specs.Prelude.{codes, slice_get, map}
use Rattle.std.specs.Fmt.{decimal}
use Rattle.std.specs.Option.{option_and_then}
use Rattle.std.proofs.lemmas.Bool.{eq-eqb}
use Rattle.csn_desc.specs.declared.moves.Move.{Move}
use Rattle.csn_desc.specs.declared.moves.Move.TheVariants.{Enter, Bit, Leave}
use Rattle.csn_desc.specs.declared.node.Count.{Count}
use Rattle.csn_desc.specs.declared.node.Count.TheVariants.{Fixed, Counted}
use Rattle.csn_desc.specs.declared.node.Node.{Node}
use Rattle.csn_desc.specs.declared.node.Node.TheVariants as node
use Rattle.csn_desc.specs.declared.node.Node.TheVariants.{Lits, Spare, Pad, Null, Field, Seq, Choice, Times, Many, Trunc, Window, Named}
use Rattle.csn_desc.specs.declared.symbol.Symbol.{Symbol}
use Rattle.csn_desc.specs.Spelled.{spelled}
use Rattle.csn_desc.specs.TreeV.{TreeV, empty, bits, row, alt, named, Trees, none, more}
use Rattle.csn_desc.specs.Label.{IsLabel}
use Rattle.csn_desc.specs.Laws.{MeaningsAreBits}
use Rattle.csn_desc.specs.Nodes.{DescV, parts_of}
use Rattle.csn_bits.specs.Line.{written}
use Rattle.csn_bits.specs.Numbers.{number_of}
use Rattle.csn_bits.specs.Octets.{IsBits}
use Rattle.csn_desc.specs.Values.{Values, count_of}
use Rattle.csn_desc.specs.Means.{NMeans, NodeMeans, PartsMean, TimesMean, ManyMean, LeadMean, means_at, means_lits}
use Rattle.csn_desc.specs.Means.{means_spare, means_pad, means_null, means_field, means_rest, means_seq, means_choice}
use Rattle.csn_desc.specs.Means.{means_times, means_many, means_cut, means_trunc, means_window, means_named}
use Rattle.csn_desc.specs.Means.{times_end, times_next, many_end, many_next, lead_last}
use Rattle.csn_desc.specs.Means as mean
use Rattle.csn_desc.specs.Walks.{Walk, NodeWalk, PartsWalk, RepeatsWalk, LeadWalk, walk_at, walk_lits, walk_spare}
use Rattle.csn_desc.specs.Walks.{walk_pad, walk_null, walk_field, walk_rest, walk_seq, walk_choice, walk_times}
use Rattle.csn_desc.specs.Walks.{walk_many, walk_trunc, walk_window, walk_named, parts_end, parts_next, repeats_end}
use Rattle.csn_desc.specs.Walks.{repeats_next, lead_end, lead_next}
use Rattle.csn_desc.proofs.WalkFacts.{at_node}
use Rattle.csn_treetext.specs.declared.version.Version.TheVariants.{Second}
use Rattle.csn_treetext.specs.Text.{is_short, short_text, other_text, leaf_text, text_of, row_text, rest_text}
use Rattle.csn_json.specs.JsonText.{json_text}
use Rattle.csn_json.specs.JsonText.{row_text as json_row}
use Rattle.csn_json.specs.Laws.{TextsAreJoined}
use Rattle.csn_json.specs.declared.form.TreeForm.{TreeForm}
use Rattle.csn_json.specs.declared.form.TreeForm.TheVariants.{Text, Json}
use Rattle.csn_json.specs.Forms.{text_in, nothing_text, mark_text, label_text, width_text, leaf_opening, gap_after}
use Rattle.csn_movetext.specs.WithNodes.{with_nodes, inside, with_node}
use Rattle.csn_movetext.specs.Openings.{AreOpenings, number_at, number_text, told_width, leaf_width, node_opening}
use Rattle.csn_movetext.specs.Writing.{WritingV, ready, gathering, has_width, bits_text, took, part_left, closed, left_node, written_by}

-- ---- leaves

-- the two relations name one part
same_part : {d : DescV} {i k at : ℕ} {t : TreeV} {moves : List Move} (parts : List ℕ) (j : ℕ)
    → slice_get parts j ≡ Some k → slice_get parts j ≡ Some i → Walk d i at t moves → Walk d k at t moves
same_part {d} {i = i} {k = k} {at = at} {t = t} {moves = moves} parts j left right h = let same : i ≡ k = cc in subst (λ p. Walk d p at t moves) same h

told_text : (b : List ℕ) (short : Bool) → width_text (if short then Some (length b) else None) ++ bits_text
    (if short then Some (length b) else None) b ≡ (if short then short_text b else leaf_text Second b)
told_text b true = append_assoc (decimal (length b)) (39 ∷ []) (decimal (number_of b))
told_text b false = refl

same_either : (A : List ℕ) (b : Bool) (B : List ℕ) → (if b then A else (if b then A else B)) ≡ (if b then A else B)
same_either A true B = refl
same_either A false B = refl

-- bits are as many as were told, and their text is cut behind the width
pub record Told (width : Option ℕ) (b : List ℕ) : Type 0 where
  pub wide : has_width width b ≡ true
  pub text : width_text width ++ bits_text width b ≡ leaf_text Second b

width_kept : (b : List ℕ) (short : Bool) → has_width (if short then Some (length b) else None) b ≡ true
width_kept b true = eq-eqb (length b) (length b) refl
width_kept b false = refl

pub wide_leaf : (b : List ℕ) (width : ℕ) → length b ≡ width → Told (told_width width) b
wide_leaf b width e =
    let P : ℕ → Type 0 = λ w. Told (told_width w) b in
    subst P e (record { wide = width_kept b (is_short b); text = told_text b (is_short b) ∙ same_either (short_text b) (is_short b) (other_text Second b) })

pub field_leaf : (v : Values) (unit : ℕ) (count : Count) (n : ℕ) (b : List ℕ)
    → count_of v count ≡ Some n → length b ≡ unit * n → Told (leaf_width (Field unit count)) b
field_leaf v unit (Fixed m) n b count wide = let same : n ≡ m = cc in wide_leaf b (unit * m) (wide ∙ ap (λ k. unit * k) same)
field_leaf v unit (Counted m field c) n b count wide = record { wide = refl; text = refl }

-- what is written where a leaf is left stands behind its opening
record Whole (form : TreeForm) (width : Option ℕ) (b : List ℕ) : Type 0 where
  ending : List ℕ
  closes :
      (text : List ℕ) (left : Bool)
      → closed form width (record { text = text; left = left; gathered = b }) ≡ Some (ready (text ++ ending) true)
  whole : leaf_opening form width ++ ending ≡ text_in form (bits b)

whole_leaf : TextsAreJoined → (form : TreeForm) (width : Option ℕ) (b : List ℕ) → IsBits b → Told width b → Whole form width b
whole_leaf joined Text width b are told =
    record {
      ending = bits_text width b;
      closes = λ text left. ap (λ h. if h then Some (ready (text ++ bits_text width b) true) else None) told.wide;
      whole = told.text;
    }
whole_leaf joined Json width b are told =
    record { ending = written b ++ codes "\""; closes = λ text left. refl; whole = sym (joined.leaf b are) }

-- ---- what is written for a tree, by what is written for the trees in it

nothing_is : (form : TreeForm) → text_in form empty ≡ nothing_text form
nothing_is Text = refl
nothing_is Json = refl

-- the trees of a row, where a node was left before them or not
abbrev pub trees_text : TreeForm → Bool → Trees → List ℕ
trees_text form left none = []
trees_text form left (more t ts) = gap_after form left ++ (text_in form t ++ trees_text form true ts)

abbrev left_after : Bool → Trees → Bool
left_after left none = left
left_after left (more t ts) = true

left_is : (ts : Trees) → left_after true ts ≡ true
left_is none = refl
left_is (more t ts) = refl

rest_is : (ts : Trees) → rest_text Second ts ≡ trees_text Text true ts
rest_is none = refl
rest_is (more t ts) = ap (λ l. 32 ∷ (text_of Second t ++ l)) (rest_is ts)

pub first_is : (ts : Trees) → row_text Second ts ≡ trees_text Text false ts
first_is none = refl
first_is (more t ts) = ap (λ l. text_of Second t ++ l) (rest_is ts)

joined_is : (later : Bool) (ts : Trees) → json_row later ts ≡ trees_text Json later ts
joined_is later none = refl
joined_is false (more t ts) = ap (λ l. json_text t ++ l) (joined_is true ts)
joined_is true (more t ts) = ap (λ l. 44 ∷ (json_text t ++ l)) (joined_is true ts)

row_is : TextsAreJoined → (form : TreeForm) (ts : Trees) → text_in form (row ts) ≡ 91 ∷ (trees_text form false ts ++ 93 ∷ [])
row_is joined Text ts = ap (λ l. 91 ∷ (l ++ 93 ∷ [])) (first_is ts)
row_is joined Json ts = joined.rows ts ∙ ap (λ l. 91 ∷ (l ++ 93 ∷ [])) (joined_is false ts)

-- what stands behind a part that has a number or a label
abbrev part_end : TreeForm → List ℕ
part_end Text = []
part_end Json = codes "}"

part_is : (form : TreeForm) (text : List ℕ) (left : Bool) → part_left form (ready text left) ≡ Some (ready (text ++ part_end form) true)
part_is Text text left = ap (λ l. Some (ready l true)) (sym (append-nil text))
part_is Json text left = refl

alternative_is : TextsAreJoined → (form : TreeForm) (j : ℕ) (t : TreeV) → text_in form (alt j t) ≡ mark_text form j ++ (text_in form t ++ part_end form)
alternative_is joined Text j t =
    ap (λ l. 35 ∷ (decimal j ++ 58 ∷ l)) (sym (append-nil (text_of Second t)))
    ∙ ap (λ l. 35 ∷ l) (sym (append_assoc (decimal j) (58 ∷ []) (text_of Second t ++ [])))
alternative_is joined Json j t =
    joined.alternative j t
    ∙ ap (λ l. codes "{\"alt\":" ++ l) (sym (append_assoc (decimal j) (codes ",\"tree\":") (json_text t ++ codes "}")))

labelled_is : TextsAreJoined → (form : TreeForm) (label : List ℕ) (t : TreeV)
    → IsLabel label → text_in form (named label t) ≡ label_text form label ++ (text_in form t ++ part_end form)
labelled_is joined Text label t is =
    ap (λ l. 60 ∷ (label ++ 62 ∷ 61 ∷ l)) (sym (append-nil (text_of Second t)))
    ∙ ap (λ l. 60 ∷ l) (sym (append_assoc label (62 ∷ 61 ∷ []) (text_of Second t ++ [])))
labelled_is joined Json label t is =
    joined.labelled label t is
    ∙ ap (λ l. codes "{\"label\":\"" ++ l) (sym (append_assoc label (codes "\",\"tree\":") (json_text t ++ codes "}")))

module _ (joined : TextsAreJoined) (form : TreeForm) (d : DescV) (openings : ℕ → List ℕ) where
  -- what is written from here on
  abbrev run : WritingV → List Node → List Move → Option WritingV
  run w around moves = written_by form openings w (with_nodes d around moves)

  abbrev from : List ℕ → Bool → List Node → List Move → Option WritingV
  from text left around moves = run (ready text left) around moves

  -- these moves write this text, whatever stands before and behind
  abbrev Writes : List Move → (Bool → List ℕ) → (Bool → Bool) → Type 0
  Writes moves written leaves =
      (rest : List Move) (around : List Node) (text : List ℕ) (left : Bool)
      → from text left around (moves ++ rest) ≡ from (text ++ written left) (leaves left) around rest

  -- the bits of a leaf are gathered
  gathered_bits :
      (n : Node) → ((bit : ℕ) (w : WritingV) → took bit n w ≡ Some (gathering w (bit ∷ [])))
      → (b g text : List ℕ) (left : Bool) (around : List Node) (rest : List Move)
      → run (record { text = text; left = left; gathered = g }) (n ∷ around) (map Bit b ++ rest)
      ≡ run (record { text = text; left = left; gathered = g ++ b }) (n ∷ around) rest
  gathered_bits n gathers [] g text left around rest =
      ap (λ l. run (record { text = text; left = left; gathered = l }) (n ∷ around) rest) (sym (append-nil g))
  gathered_bits n gathers (x ∷ b) g text left around rest =
      ap (λ o. option_and_then (λ w. run w (n ∷ around) (map Bit b ++ rest)) o) (gathers x (record { text = text; left = left; gathered = g }))
      ∙ gathered_bits n gathers b (g ++ x ∷ []) text left around rest
      ∙ ap (λ l. run (record { text = text; left = left; gathered = l }) (n ∷ around) rest) (append_assoc g (x ∷ []) b)

  -- those of a literal are not
  passed_bits : (word : List Symbol) (b text : List ℕ) (left : Bool) (around : List Node) (rest : List Move)
      → from text left (Lits word ∷ around) (map Bit b ++ rest) ≡ from text left (Lits word ∷ around) rest
  passed_bits word [] text left around rest = refl
  passed_bits word (x ∷ b) text left around rest = passed_bits word b text left around rest

  -- all that is inside a node, and its end
  abbrev NodeWrites : Node → List Move → List ℕ → Type 0
  NodeWrites n moves written =
      (rest : List Move) (around : List Node) (text : List ℕ)
      → from (text ++ node_opening form n) false (n ∷ around) (moves ++ (Leave ∷ rest)) ≡ from (text ++ written) true around rest

  leaf_writes :
      (n : Node) → ((bit : ℕ) (w : WritingV) → took bit n w ≡ Some (gathering w (bit ∷ [])))
      → node_opening form n ≡ leaf_opening form (leaf_width n) → ((w : WritingV) → left_node form n w ≡ closed form (leaf_width n) w)
      → (b : List ℕ) → IsBits b → Told (leaf_width n) b
      → (moves : List Move) → moves ≡ map Bit b
      → NodeWrites n moves (text_in form (bits b))
  leaf_writes n gathers opens closes b are told moves e rest around text =
      let whole = whole_leaf joined form (leaf_width n) b are told in
      let after_close : Option WritingV → Option WritingV = λ o. option_and_then (λ w. run w around rest) o in
      let w : WritingV = record { text = text ++ node_opening form n; left = false; gathered = b } in
      ap (λ l. from (text ++ node_opening form n) false (n ∷ around) (l ++ (Leave ∷ rest))) e
      ∙ gathered_bits n gathers b [] (text ++ node_opening form n) false around (Leave ∷ rest)
      ∙ ap after_close (closes w ∙ whole.closes (text ++ node_opening form n) false)
      ∙ ap (λ l. from ((text ++ l) ++ whole.ending) true around rest) opens
      ∙ ap (λ l. from l true around rest) (append_assoc text (leaf_opening form (leaf_width n)) whole.ending ∙ ap (λ l. text ++ l) whole.whole)

  -- ---- all kinds of node

  three : (a b c e : List ℕ) → (a ++ (b ++ c)) ++ e ≡ a ++ (b ++ (c ++ e))
  three a b c e = append_assoc a (b ++ c) e ∙ ap (λ l. a ++ l) (append_assoc b c e)

  -- node i writes this mark before its own opening
  abbrev Opens : ℕ → List ℕ → Type 0
  Opens i mark = (m : Node) → slice_get d.nodes i ≡ Some m → openings i ≡ mark ++ node_opening form m

  enter_writes :
      (i : ℕ) (n : Node) (mark : List ℕ) → slice_get d.nodes i ≡ Some n → Opens i mark
      → (moves : List Move) (around : List Node) (text : List ℕ) (left : Bool)
      → from text left around (Enter i ∷ moves) ≡ from ((text ++ (gap_after form left ++ mark)) ++ node_opening form n) false (n ∷ around) moves
  enter_writes i n mark at opens moves around text left =
      ap (λ o. written_by form openings (ready text left) (with_node (Enter i) o (with_nodes d (inside o around) moves))) at
      ∙ ap (λ l. from (text ++ (gap_after form left ++ l)) false (n ∷ around) moves) (opens n at)
      ∙ ap (λ l. from l false (n ∷ around) moves) (sym (three text (gap_after form left) mark (node_opening form n)))

  row_writes :
      (n : Node) → node_opening form n ≡ 91 ∷ []
      → ((text : List ℕ) (left : Bool) (around : List Node) (rest : List Move) → from text left (n ∷ around)
      (Leave ∷ rest) ≡ from (text ++ 93 ∷ []) true around rest)
      → (ts : Trees) (moves : List Move) → Writes moves (λ left. trees_text form left ts) (λ left. left_after left ts)
      → NodeWrites n moves (text_in form (row ts))
  row_writes n opens closes ts moves h rest around text =
      ap (λ l. from (text ++ l) false (n ∷ around) (moves ++ (Leave ∷ rest))) opens
      ∙ h (Leave ∷ rest) (n ∷ around) (text ++ 91 ∷ []) false
      ∙ closes ((text ++ 91 ∷ []) ++ trees_text form false ts) (left_after false ts) around rest
      ∙ ap (λ l. from l true around rest)
      (append_assoc (text ++ 91 ∷ []) (trees_text form false ts) (93 ∷ []) ∙ append_assoc text (91 ∷ []) (trees_text form false ts ++ 93 ∷ [])
      ∙ ap (λ l. text ++ l) (sym (row_is joined form ts)))

  none_writes : (moves : List Move) → moves ≡ [] → Writes moves (λ left. []) (λ left. left)
  none_writes moves e rest around text left =
      ap (λ l. from text left around (l ++ rest)) e ∙ ap (λ l. from l left around rest) (sym (append-nil text))

  more_writes :
      (t : TreeV) (ts : Trees) (moves first others : List Move) → moves ≡ first ++ others
      → Writes first (λ left. gap_after form left ++ text_in form t) (λ left. true)
      → Writes others (λ left. trees_text form left ts) (λ left. left_after left ts)
      → Writes moves (λ left. trees_text form left (more t ts)) (λ left. true)
  more_writes t ts moves first others cut h later rest around text left =
      ap (λ l. from text left around (l ++ rest)) cut
      ∙ ap (λ l. from text left around l) (append_assoc first others rest)
      ∙ h (others ++ rest) around text left
      ∙ later rest around (text ++ (gap_after form left ++ text_in form t)) true
      ∙ ap (λ b. from ((text ++ (gap_after form left ++ text_in form t)) ++ trees_text form true ts) b around rest) (left_is ts)
      ∙ ap (λ l. from l true around rest) (three text (gap_after form left) (text_in form t) (trees_text form true ts))

  -- what is left behind a part that has a number or a label
  part_writes : (text : List ℕ) (around : List Node) (rest : List Move)
      → option_and_then (λ w. run w around rest) (part_left form (ready text true)) ≡ from (text ++ part_end form)
      true around rest
  part_writes text around rest = ap (λ o. option_and_then (λ w. run w around rest) o) (part_is form text true)

  module _ (are_bits : MeaningsAreBits) (are : AreOpenings form d openings) where
    -- the parts of a node, its label, and parts that are no alternatives
    abbrev Known : Node → Type 0
    Known n = (j p : ℕ) → slice_get (parts_of n) j ≡ Some p → Opens p (number_text form (number_at n j))

    abbrev Labelled : Node → Type 0
    Labelled n = (part : ℕ) (label : List ℕ) → n ≡ Named label part → IsLabel label

    abbrev Plain : List ℕ → Type 0
    Plain parts = (j p : ℕ) → slice_get parts j ≡ Some p → Opens p []

    mutual
      pub walk_writes :
          {i o at : ℕ} {v : Values} {b : List ℕ} {t u : TreeV} {moves : List Move} (mark : List ℕ) → Opens i mark
          → NMeans d i o v b t → Walk d i at u moves → t ≡ u
          → Writes moves (λ left. gap_after form left ++ (mark ++ text_in form u)) (λ left. true)
      walk_writes {i = i} {o = o} {v = v} {b = b} {t = t} {u = u} mark opens (means_at m at g) (walk_at n within here h e) same rest around text left =
          let one_node : m ≡ n = cc in
          ap (λ l. from text left around (l ++ rest)) e
          ∙ ap (λ l. from text left around (Enter i ∷ l)) (append_assoc within (Leave ∷ []) rest)
          ∙ enter_writes i m mark at opens (within ++ (Leave ∷ rest)) around text left
          ∙ node_writes g (at_node d one_node h) same (are_bits d i o v b t (means_at m at g))
          (λ j p get q is. are.parts i j p m q at get is) (λ part label is. are.labels i part label
          (at ∙ ap Some is)) rest around (text ++ (gap_after form left ++ mark))
          ∙ ap (λ l. from l true around rest) (three text (gap_after form left) mark (text_in form u))

      node_writes :
          {n : Node} {o at : ℕ} {v : Values} {b : List ℕ} {t u : TreeV} {moves : List Move} → NodeMeans d n o v b t → NodeWalk d n at u moves → t ≡ u
          → IsBits b → Known n → Labelled n
          → NodeWrites n moves (text_in form u)
      node_writes (means_lits h) (walk_lits {run = word} {o = place} e) same zeros_and_ones known labelled rest around text =
          ap (λ l. from (text ++ nothing_text form) false (Lits word ∷ around) (l ++ (Leave ∷ rest))) e
          ∙ passed_bits word (spelled word place) (text ++ nothing_text form) false around (Leave ∷ rest)
          ∙ ap (λ l. from (text ++ l) true around rest) (sym (nothing_is form))
      node_writes (means_null h) (walk_null e) same zeros_and_ones known labelled rest around text =
          ap (λ l. from (text ++ nothing_text form) false (Null ∷ around) (l ++ (Leave ∷ rest))) e
          ∙ ap (λ l. from (text ++ l) true around rest) (sym (nothing_is form))
      node_writes {b = b} {moves = moves} (means_spare one spare) (walk_spare {s = s} {b = c} e) same zeros_and_ones known labelled rest around text =
          let bits_same : b ≡ c = cc in
          leaf_writes (Spare s) (λ bit w. refl) refl (λ w. refl) c (subst IsBits bits_same zeros_and_ones)
          (wide_leaf c 1 (ap length (sym bits_same) ∙ one)) moves e rest around text
      node_writes {b = b} {moves = moves} (means_pad some spare) (walk_pad {b = c} e) same zeros_and_ones known labelled rest around text =
          let bits_same : b ≡ c = cc in
          leaf_writes Pad (λ bit w. refl) refl (λ w. refl) c (subst IsBits bits_same zeros_and_ones)
          (record { wide = refl; text = refl }) moves e rest around text
      node_writes {v = v} {b = b} {moves = moves} (means_field {unit = unit} {count = count} k is wide are)
          (walk_field {b = c} e) same zeros_and_ones known labelled rest around text =
          let bits_same : b ≡ c = cc in
          leaf_writes (Field unit count) (λ bit w. refl) refl (λ w. refl) c (subst IsBits bits_same zeros_and_ones)
          (field_leaf v unit count k c is (ap length (sym bits_same) ∙ wide)) moves e rest around text
      node_writes {b = b} {moves = moves} (means_rest are) (walk_rest {b = c} e) same zeros_and_ones known labelled rest around text =
          let bits_same : b ≡ c = cc in
          leaf_writes node.Rest (λ bit w. refl) refl (λ w. refl) c (subst IsBits bits_same zeros_and_ones)
          (record { wide = refl; text = refl }) moves e rest around text
      node_writes {moves = moves} (means_seq {parts = parts} g) (walk_seq {ts = us} h) same zeros_and_ones known labelled rest around text =
          row_writes (Seq parts) refl (λ text left around rest. refl) us moves (parts_write g h (cc) known) rest around text
      node_writes {moves = moves} (means_times {count = count} {i = i} k is g) (walk_times {ts = us} h) same zeros_and_ones known labelled rest around text =
          row_writes (Times count i) refl (λ text left around rest. refl) us moves (times_write g h (cc) (known 0 i refl)) rest around text
      node_writes {moves = moves} (means_many {i = i} g) (walk_many {ts = us} h) same zeros_and_ones known labelled rest around text =
          row_writes (Many i) refl (λ text left around rest. refl) us moves (many_write g h (cc) (known 0 i refl)) rest around text
      node_writes {moves = moves} (means_cut {parts = parts} g) (walk_trunc (lead_end e)) same zeros_and_ones known labelled rest around text =
          row_writes (Trunc parts) refl (λ text left around rest. refl) none moves (none_writes moves e) rest around text
      node_writes (means_cut g) (walk_trunc (lead_next first others cut h later)) same zeros_and_ones known labelled rest around text = cc
      node_writes {moves = moves} (means_trunc {parts = parts} g) (walk_trunc {ts = us} h) same zeros_and_ones known labelled rest around text =
          row_writes (Trunc parts) refl (λ text left around rest. refl) us moves (lead_writes g h (cc) known) rest around text
      node_writes {moves = moves} (means_choice {parts = parts} {j = j} {i = k} {t = t} at g)
          (walk_choice {j = m} {t = u} i here h) same zeros_and_ones known labelled rest around text =
          let number_same : m ≡ j = cc in
          let tree_same : t ≡ u = cc in
          ap (λ l. from l false (Choice parts ∷ around) (moves ++ (Leave ∷ rest))) (append-nil text)
          ∙ walk_writes (number_text form (Some j)) (known j k at) g
          (same_part parts j at (ap (λ x. slice_get parts x) (sym number_same) ∙ here) h) tree_same (Leave ∷ rest)
          (Choice parts ∷ around) text false
          ∙ part_writes (text ++ (mark_text form j ++ text_in form u)) around rest
          ∙ ap (λ l. from l true around rest)
          (append_assoc text (mark_text form j ++ text_in form u) (part_end form)
          ∙ ap (λ l. text ++ l) (append_assoc (mark_text form j) (text_in form u) (part_end form)))
          ∙ ap (λ x. from (text ++ (mark_text form x ++ (text_in form u ++ part_end form))) true around rest) (sym number_same)
          ∙ ap (λ l. from (text ++ l) true around rest) (sym (alternative_is joined form m u))
      node_writes {moves = moves} (means_window {unit = unit} {count = count} {i = i} k is wide g) (walk_window h)
          same zeros_and_ones known labelled rest around text =
          ap (λ l. from l false (Window unit count i ∷ around) (moves ++ (Leave ∷ rest))) (append-nil text)
          ∙ walk_writes [] (known 0 i refl) g h same (Leave ∷ rest) (Window unit count i ∷ around) text false
      node_writes {moves = moves} (means_named {label = label} {i = i} g) (walk_named {t = u} h) same zeros_and_ones known labelled rest around text =
          let opening : List ℕ = label_text form label in
          walk_writes [] (known 0 i refl) g h (cc) (Leave ∷ rest) (Named label i ∷ around) (text ++ opening) false
          ∙ part_writes ((text ++ opening) ++ text_in form u) around rest
          ∙ ap (λ l. from l true around rest)
          (append_assoc (text ++ opening) (text_in form u) (part_end form) ∙ append_assoc text opening (text_in form u ++ part_end form)
          ∙ ap (λ l. text ++ l) (sym (labelled_is joined form label u (labelled i label refl))))

      parts_write :
          {parts : List ℕ} {o at : ℕ} {v : Values} {b : List ℕ} {ts us : Trees} {moves : List Move}
          → PartsMean d parts o v b ts → PartsWalk d parts at us moves → ts ≡ us → Plain parts
          → Writes moves (λ left. trees_text form left us) (λ left. left_after left us)
      parts_write {moves = moves} (mean.parts_end g) (parts_end e) same plain = none_writes moves e
      parts_write {moves = moves} (mean.parts_next {i = i} b1 b2 split g behind) (parts_next {t = u} {ts = us} first others cut h later) same plain =
          more_writes u us moves first others cut (walk_writes [] (plain 0 i refl) g h (cc)) (parts_write behind later (cc) (λ j p get. plain (suc j) p get))

      times_write :
          {n i o at : ℕ} {v : Values} {b : List ℕ} {ts us : Trees} {moves : List Move}
          → TimesMean d n i o v b ts → RepeatsWalk d i at us moves → ts ≡ us → Opens i []
          → Writes moves (λ left. trees_text form left us) (λ left. left_after left us)
      times_write {moves = moves} (times_end is g) (repeats_end e) same plain = none_writes moves e
      times_write (times_end is g) (repeats_next first others cut h later) same plain = cc
      times_write (times_next m is b1 b2 split g behind) (repeats_end e) same plain = cc
      times_write {moves = moves} (times_next m is b1 b2 split g behind) (repeats_next {t = u} {ts = us} first others cut h later) same plain =
          more_writes u us moves first others cut (walk_writes [] plain g h (cc)) (times_write behind later (cc) plain)

      many_write :
          {i o at : ℕ} {v : Values} {b : List ℕ} {ts us : Trees} {moves : List Move}
          → ManyMean d i o v b ts → RepeatsWalk d i at us moves → ts ≡ us → Opens i []
          → Writes moves (λ left. trees_text form left us) (λ left. left_after left us)
      many_write {moves = moves} (many_end g) (repeats_end e) same plain = none_writes moves e
      many_write (many_end g) (repeats_next first others cut h later) same plain = cc
      many_write (many_next b1 b2 split some g behind) (repeats_end e) same plain = cc
      many_write {moves = moves} (many_next b1 b2 split some g behind) (repeats_next {t = u} {ts = us} first others cut h later) same plain =
          more_writes u us moves first others cut (walk_writes [] plain g h (cc)) (many_write behind later (cc) plain)

      lead_writes :
          {parts : List ℕ} {o at : ℕ} {v : Values} {b : List ℕ} {ts us : Trees} {moves : List Move}
          → LeadMean d parts o v b ts → LeadWalk d parts at us moves → ts ≡ us → Plain parts
          → Writes moves (λ left. trees_text form left us) (λ left. left_after left us)
      lead_writes (lead_last some g) (lead_end e) same plain = cc
      lead_writes {moves = moves} (lead_last {i = i} some g) (lead_next {t = u} first others cut h (lead_end e)) same plain =
          more_writes u none moves first others cut (walk_writes [] (plain 0 i refl) g h (cc)) (none_writes others e)
      lead_writes (lead_last some g) (lead_next first others cut h (lead_next first2 others2 cut2 h2 later)) same plain = cc
      lead_writes (mean.lead_next b1 b2 split g behind) (lead_end e) same plain = cc
      lead_writes {moves = moves} (mean.lead_next {i = i} b1 b2 split g behind) (lead_next {t = u} {ts = us} first others cut h later) same plain =
          more_writes u us moves first others cut (walk_writes [] (plain 0 i refl) g h (cc)) (lead_writes behind later (cc) (λ j p get. plain (suc j) p get))

    -- the moves of a block
    pub block_writes :
        {o at : ℕ} {v : Values} {b : List ℕ} {t : TreeV} {moves : List Move} (text : List ℕ) (left : Bool) → NMeans d 0 o v b t → Walk d 0 at t moves
        → from text left [] moves ≡ Some (ready (text ++ (gap_after form left ++ text_in form t)) true)
    block_writes {moves = moves} text left g h =
        ap (λ l. from text left [] l) (sym (append-nil moves)) ∙ walk_writes [] are.root g h refl [] [] text left
