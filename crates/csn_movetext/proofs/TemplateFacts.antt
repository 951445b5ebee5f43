-- Templates that are made of those of parts, and what they write.
use Rattle.std.proofs.Common.{◌≡◌, ℕ, zero, suc, ◌+◌, ◌*◌, ◌/◌, ◌%◌, ◌^◌, ◌<◌, ◌≤◌, Bool, true, false, List, [], ◌∷◌}
use Rattle.std.proofs.Common.{◌++◌, length, take, drop, set, get_or, ◌⊎◌, inl, inr, refl, sym, ap, subst, ◌∙◌, arith}
use Rattle.std.proofs.Common.{append_assoc, append-nil, length-append, Option, Some, None}
use Rattle.std.specs.Prelude.{slice_get, Result, Ok, Err, IfOk, IfSome, IsTrue}
use Rattle.std.specs.Fmt.{decimal}
use Rattle.std.proofs.lemmas.List.{append_cancel_left}
use Rattle.std.proofs.lemmas.Nat.{shr-shr}
use Rattle.std.proofs.lemmas.Option.{slice_get_read}
use Rattle.std.proofs.Math.Seq.{take-append_seam}
use Rattle.csn_bits.specs.Numbers.{number_of, low_bits}
use Rattle.csn_bits.proofs.NumberFacts.{length-low_bits, number_of-low_bits, low_bits-split}
use Rattle.csn_desc.specs.declared.node.Count.{Count}
use Rattle.csn_desc.specs.declared.node.Node.{Node}
use Rattle.csn_desc.specs.declared.node.Node.TheVariants.{Lits, Null, Field, Seq, Named}
use Rattle.csn_desc.specs.TreeV.{TreeV, bits, row, named, Trees}
use Rattle.csn_desc.specs.Nodes.{DescV, parts_of}
use Rattle.csn_desc.specs.Values.{Values}
use Rattle.csn_desc.specs.Means.{NMeans, NodeMeans, PartsMean, means_at, means_lits, means_spare, means_pad}
use Rattle.csn_desc.specs.Means.{means_null, means_field, means_rest, means_seq, means_choice, means_times}
use Rattle.csn_desc.specs.Means.{means_many, means_cut, means_trunc, means_window, means_named, parts_end, parts_next}
use Rattle.csn_certify.specs.declared.layouts.Layout.{Layout}
use Rattle.csn_certify.specs.Layouts.{HasLayout}
use Rattle.csn_treetext.specs.declared.version.Version.TheVariants.{Second}
use Rattle.csn_treetext.specs.Text.{leaf_text, text_of}
use Rattle.csn_json.specs.declared.form.TreeForm.{TreeForm}
use Rattle.csn_json.specs.declared.form.TreeForm.TheVariants.{Text}
use Rattle.csn_movetext.specs.declared.template.Piece.{Piece}
use Rattle.csn_movetext.specs.declared.template.Template.{Template}
use Rattle.csn_json.specs.Forms.{gap_after, label_text, text_in, width_text}
use Rattle.csn_movetext.specs.Openings.{OpeningsV, AreOpened, AreTemplates, HasOpenings, IsMark, IsTemplate}
use Rattle.csn_movetext.specs.Openings.{leaf_width, node_opening, number_at, opening_in, opening_of}
use Rattle.csn_movetext.specs.Templates.{EndsIn, filled, is_later, piece_text, pieces_text, template_at}
use Rattle.csn_movetext.specs.Making.{AreReady, EndsAt, HasPart, WritesLeaf, WritesNode, WritesParts}
use Rattle.csn_movetext.specs.Writing.{bits_text}
use Rattle.csn_movetext.proofs.Written.{Told, wide_leaf, field_leaf, first_is, trees_text}

-- ---- pieces

pub pieces-push : (pieces : List Piece) (piece : Piece) (number : ℕ)
    → pieces_text (pieces ++ piece ∷ []) number ≡ pieces_text pieces number ++ piece_text piece number
pieces-push [] piece number = append-nil (piece_text piece number)
pieces-push (p ∷ pieces) piece number =
    ap (λ l. piece_text p number ++ l) (pieces-push pieces piece number)
    ∙ sym (append_assoc (piece_text p number) (pieces_text pieces number) (piece_text piece number))

take-next : {X : Type 0} (xs : List X) (k : ℕ) (x : X) → slice_get xs k ≡ Some x → take (suc k) xs ≡ take k xs ++ x ∷ []
take-next [] k x at = absurd (cc)
take-next (y ∷ xs) zero x at = let same : y ≡ x = cc in ap (λ z. z ∷ []) same
take-next (y ∷ xs) (suc k) x at = ap (λ l. y ∷ l) (take-next xs k x at)

-- one piece more
pub pieces-next : (pieces : List Piece) (k : ℕ) (piece : Piece) (number : ℕ) → slice_get pieces k ≡ Some piece
    → pieces_text (take (k + 1) pieces) number ≡ pieces_text (take k pieces) number ++ piece_text piece number
pieces-next pieces k piece number at =
    let next : k + 1 ≡ suc k = omega arith in
    ap (λ j. pieces_text (take j pieces) number) next
    ∙ ap (λ l. pieces_text l number) (take-next pieces k piece at)
    ∙ pieces-push (take k pieces) piece number

-- what a loop reads of a list is there in the same list by another name
pub read_piece : {X : Type 0} (xs ys : List X) (k : ℕ) (x : X) → xs ≡ ys → k < length xs → x ≡ get_or xs k x → slice_get ys k ≡ Some x
read_piece {X} xs ys k x same low is = let P : List X → Type 0 = λ l. slice_get l k ≡ Some x in subst P same (slice_get_read xs (length xs) k x refl low is)

-- a piece of a part is added
pub piece_added :
    (old now mid new : Template) (pieces : List Piece) (k : ℕ) (piece : Piece) (text : List ℕ) (behind number : ℕ)
    → slice_get pieces k ≡ Some piece → text ≡ piece.text.items
    → filled mid number ≡ filled now number ++ text
    → filled new number ≡ filled mid number ++ decimal (number / 2 ^ (piece.behind + behind) % 2 ^ piece.width)
    → filled now number ≡ filled old number ++ pieces_text (take k pieces) (number / 2 ^ behind)
    → filled new number ≡ filled old number ++ pieces_text (take (k + 1) pieces) (number / 2 ^ behind)
piece_added old now mid new pieces k piece text behind number at is text_added number_added before =
    let front : List ℕ = filled old number in
    let others : List ℕ = pieces_text (take k pieces) (number / 2 ^ behind) in
    let field : List ℕ = decimal (number / 2 ^ (piece.behind + behind) % 2 ^ piece.width) in
    let shift : number / 2 ^ (piece.behind + behind) ≡ number / 2 ^ behind / 2 ^ piece.behind =
    ap (λ j. number / 2 ^ j) (omega arith) ∙ sym (shr-shr number behind piece.behind) in
    number_added
    ∙ ap (λ l. l ++ field) (text_added ∙ ap (λ l. filled now number ++ l) is ∙ ap (λ l. l ++ piece.text.items) before)
    ∙ append_assoc (front ++ others) piece.text.items field
    ∙ append_assoc front others (piece.text.items ++ field)
    ∙ ap (λ n. front ++ (others ++ (piece.text.items ++ decimal (n % 2 ^ piece.width)))) shift
    ∙ ap (λ l. front ++ l) (sym (pieces-next pieces k piece (number / 2 ^ behind) at))

-- a field is added behind the tail
pub field_added :
    (pieces new : List Piece) (tail rest : List ℕ) (piece : Piece) (number : ℕ) → new ≡ pieces ++ piece ∷ [] → piece.text.items ≡ tail → rest ≡ []
    → pieces_text new number ++ rest ≡ (pieces_text pieces number ++ tail) ++ decimal (number / 2 ^ piece.behind % 2 ^ piece.width)
field_added pieces new tail rest piece number is text_is none =
    let field : List ℕ = decimal (number / 2 ^ piece.behind % 2 ^ piece.width) in
    ap (λ l. pieces_text new number ++ l) none
    ∙ append-nil (pieces_text new number)
    ∙ ap (λ l. pieces_text l number) is
    ∙ pieces-push pieces piece number
    ∙ ap (λ l. pieces_text pieces number ++ (l ++ field)) text_is
    ∙ sym (append_assoc (pieces_text pieces number) tail field)

-- ---- the last bits of a number

pub same_number : (number : ℕ) (b : List ℕ) (width : ℕ) → length b ≡ width → EndsIn number b → number / 2 ^ 0 % 2 ^ width ≡ number_of b
same_number number b width wide ends =
    let one : 2 ^ 0 ≡ 1 = refl in
    let whole : number / 2 ^ 0 ≡ number = omega (arith, one) in
    ap (λ n. n % 2 ^ width) whole ∙ ap (λ k. number % 2 ^ k) (sym wide) ∙ sym (number_of-low_bits (length b) number) ∙ ap number_of ends

pub ends_none : (number : ℕ) (b : List ℕ) → EndsIn number b → EndsIn (number / 2 ^ 0) b
ends_none number b ends =
    let one : 2 ^ 0 ≡ 1 = refl in
    let whole : number / 2 ^ 0 ≡ number = omega (arith, one) in
    ap (λ n. low_bits (length b) n) whole ∙ ends

-- bits in two parts
record Parted (number : ℕ) (b1 b2 : List ℕ) : Type 0 where
  pub first : EndsIn (number / 2 ^ length b2) b1
  pub second : EndsIn number b2

parted : (number : ℕ) (b1 b2 : List ℕ) → EndsIn number (b1 ++ b2) → Parted number b1 b2
parted number b1 b2 ends =
    let high : List ℕ = low_bits (length b1) (number / 2 ^ length b2) in
    let low : List ℕ = low_bits (length b2) number in
    let both : high ++ low ≡ b1 ++ b2 = sym (low_bits-split (length b1) (length b2) number) ∙ ap (λ k. low_bits k number) (sym (length-append b1 b2)) ∙ ends in
    let size : length high ≡ length b1 = length-low_bits (length b1) (number / 2 ^ length b2) in
    let front : high ≡ b1 = sym (take-append_seam high low) ∙ ap (λ k. take k (high ++ low)) size
    ∙ ap (λ l. take (length b1) l) both ∙ take-append_seam b1 b2 in
    record { first = front; second = append_cancel_left b1 low b2 (ap (λ l. l ++ low) (sym front) ∙ both) }

-- ---- a leaf

record IsLeaf (n : Node) (b : List ℕ) (t : TreeV) : Type 0 where
  tree : t ≡ bits b
  opens : node_opening Text n ≡ width_text (leaf_width n)
  told : Told (leaf_width n) b

is_leaf : (d : DescV) {n : Node} {o : ℕ} {v : Values} {b : List ℕ} {t : TreeV} (width : ℕ) → NodeMeans d n o v b t → leaf_width n ≡ Some width → IsLeaf n b t
is_leaf d width (means_lits h) is = absurd (cc)
is_leaf d {b = b} width (means_spare one spare) is = record { tree = refl; opens = refl; told = wide_leaf b 1 one }
is_leaf d width (means_pad some spare) is = absurd (cc)
is_leaf d width (means_null h) is = absurd (cc)
is_leaf d {v = v} {b = b} width (means_field {unit = unit} {count = count} k counts wide are) is =
    record { tree = refl; opens = refl; told = field_leaf v unit count k b counts wide }
is_leaf d width (means_rest are) is = absurd (cc)
is_leaf d width (means_seq g) is = absurd (cc)
is_leaf d width (means_choice at g) is = absurd (cc)
is_leaf d width (means_times k counts g) is = absurd (cc)
is_leaf d width (means_many g) is = absurd (cc)
is_leaf d width (means_cut e) is = absurd (cc)
is_leaf d width (means_trunc g) is = absurd (cc)
is_leaf d width (means_window k counts wide g) is = absurd (cc)
is_leaf d width (means_named g) is = absurd (cc)

pub leaf_written :
    (n : Node) (told width : ℕ) (old new : Template) → leaf_width n ≡ Some told
    → ((number : ℕ) → filled new number ≡ filled old number ++ decimal (number / 2 ^ 0 % 2 ^ width)) → WritesLeaf n width old new
leaf_written n told width old new is added d o v b t number means wide ends front before =
    let leaf = is_leaf d told means is in
    let field : List ℕ = decimal (number_of b) in
    let text : width_text (leaf_width n) ++ field ≡ leaf_text Second b =
    ap (λ w. width_text (leaf_width n) ++ bits_text w b) (sym is) ∙ leaf.told.text in
    added number
    ∙ ap (λ l. l ++ decimal (number / 2 ^ 0 % 2 ^ width)) before
    ∙ append_assoc front (node_opening Text n) (decimal (number / 2 ^ 0 % 2 ^ width))
    ∙ ap (λ l. front ++ (l ++ decimal (number / 2 ^ 0 % 2 ^ width))) leaf.opens
    ∙ ap (λ k. front ++ (width_text (leaf_width n) ++ decimal k)) (same_number number b width wide ends)
    ∙ ap (λ l. front ++ l) text
    ∙ ap (λ x. front ++ text_of Second x) (sym leaf.tree)

-- ---- nodes of no bits that are told, and a labelled part

pub lits_written : (d : DescV) (run : List _) (width : ℕ) (templates : List (Option Template)) (old new : Template)
    → new ≡ old → WritesNode d (Lits run) width templates old new
lits_written d run width templates old new same o v b t number ready (means_lits h) wide ends front before = ap (λ x. filled x number) same ∙ before

pub null_written : (d : DescV) (width : ℕ) (templates : List (Option Template)) (old new : Template) → new ≡ old → WritesNode d Null width templates old new
null_written d width templates old new same o v b t number ready (means_null h) wide ends front before = ap (λ x. filled x number) same ∙ before

-- the mark of a part of a node that is no choice
no_mark : (d : DescV) (n : Node) (templates : List (Option Template)) (ready : AreReady d n templates) (j part : ℕ)
    → slice_get (parts_of n) j ≡ Some part → number_at n j ≡ None → IsMark d ready.openings part []
no_mark d n templates ready j part at none m here =
    ready.opened j part m at here ∙ ap (λ k. opening_of Text k m) none ∙ ap (λ f. node_opening f m) (sym ready.form)

-- what the template of a part writes
part_written :
    (d : DescV) (n : Node) (templates : List (Option Template)) (ready : AreReady d n templates) (j part behind : ℕ)
    (old new : Template) → slice_get (parts_of n) j ≡ Some part → number_at n j ≡ None
    → HasPart templates part behind old new
    → {o : ℕ} {v : Values} {b : List ℕ} {t : TreeV} (number : ℕ) → NMeans d part o v b t → EndsIn (number / 2 ^ behind) b
    → filled new number ≡ filled old number ++ text_of Second t
part_written d n templates ready j part behind old new at none has {o} {v} {b} {t} number means ends =
    let is = ready.made part has.made has.there in
    has.added number ∙ ap (λ l. filled old number ++ l) (is.writes [] (no_mark d n templates ready j part at none) o v b t (number / 2 ^ behind) means ends)

pub named_written : (d : DescV) (label : List ℕ) (part width : ℕ) (templates : List (Option Template))
    (old new : Template) → HasPart templates part 0 old new → WritesNode d (Named label part) width templates old new
named_written d label part width templates old new has o v b t number ready (means_named {t = u} h) wide ends front before =
    part_written d (Named label part) templates ready 0 part 0 old new refl refl has number h (ends_none number b ends)
    ∙ ap (λ l. l ++ text_of Second u) before
    ∙ append_assoc front (label_text Text label) (text_of Second u)
    ∙ ap (λ l. front ++ 60 ∷ l) (append_assoc label (62 ∷ 61 ∷ []) (text_of Second u))

-- ---- the parts of a sequence

-- the first k parts are written: what is left of their bits and trees
pub record Behind (d : DescV) (parts : List ℕ) (k behind number : ℕ) (text all : List ℕ) : Type 0 where
  pub place : ℕ
  pub values : Values
  pub rest : List ℕ
  pub trees : Trees
  pub means : PartsMean d (drop k parts) place values rest trees
  pub ends : EndsIn number rest
  pub wide : length rest ≡ behind
  pub whole : all ≡ text ++ trees_text Text (is_later k) trees

abbrev pub PartsBehind : DescV → List ℕ → ℕ → List (Option Template) → ℕ → ℕ → Template → Template → Type 0
PartsBehind d parts width templates k behind old new =
    (o : ℕ) (v : Values) (b : List ℕ) (ts : Trees) (number : ℕ) → AreReady d (Seq parts) templates
    → PartsMean d parts o v b ts → length b ≡ width → EndsIn number b
    → Behind d parts k behind number (filled new number) (filled old number ++ trees_text Text false ts)

pub none_behind : (d : DescV) (parts : List ℕ) (width : ℕ) (templates : List (Option Template)) (template : Template)
    → PartsBehind d parts width templates 0 width template template
none_behind d parts width templates template o v b ts number ready means wide ends =
    record { place = o; values = v; rest = b; trees = ts; means = means; ends = ends; wide = wide; whole = refl }

drop-next : {X : Type 0} (xs : List X) (k : ℕ) (x : X) → slice_get xs k ≡ Some x → drop k xs ≡ x ∷ drop (suc k) xs
drop-next [] k x at = absurd (cc)
drop-next (y ∷ xs) zero x at = let same : y ≡ x = cc in ap (λ z. z ∷ xs) same
drop-next (y ∷ xs) (suc k) x at = drop-next xs k x at

later_next : (k : ℕ) → is_later (k + 1) ≡ true
later_next k = let next : k + 1 ≡ suc k = omega arith in ap is_later next

pub part_behind :
    (d : DescV) (parts : List ℕ) (width : ℕ) (templates : List (Option Template)) (k behind part left : ℕ) (old now mid new : Template)
    → slice_get parts k ≡ Some part → EndsAt d part behind left
    → ((number : ℕ) → filled mid number ≡ filled now number ++ gap_after Text (is_later k))
    → HasPart templates part left mid new
    → PartsBehind d parts width templates k behind old now → PartsBehind d parts width templates (k + 1) left old new
part_behind d parts width templates k behind part left old now mid new at ends_at gap has before o v b ts number ready means wide ends =
    let it = before o v b ts number ready means wide ends in
    let P : List ℕ → Type 0 = λ l. PartsMean d l it.place it.values it.rest it.trees in
    let next : suc k ≡ k + 1 = omega arith in
    by it.wide it.ends it.whole (subst P (drop-next parts k part at ∙ ap (λ j. part ∷ drop j parts) next) it.means)
  where
    all : List ℕ
    all = filled old number ++ trees_text Text false ts

    by : {p : ℕ} {w : Values} {rest : List ℕ} {us : Trees} → length rest ≡ behind → EndsIn number rest
        → all ≡ filled now number ++ trees_text Text (is_later k) us
        → PartsMean d (part ∷ drop (k + 1) parts) p w rest us → Behind d parts (k + 1) left number (filled new number) all
    by {p} {w} {rest} count last is (parts_next {t = t} {ts = us} b1 b2 cut g later) =
        let sizes = length-append b1 b2 in
        let mine : length b1 + left ≡ behind = ends_at p w b1 t g in
        let size : length b2 ≡ left = omega (arith, mine, count, ap length cut, sizes) in
        let two = parted number b1 b2 (subst (λ l. EndsIn number l) cut last) in
        let first : EndsIn (number / 2 ^ left) b1 = subst (λ n. EndsIn (number / 2 ^ n) b1) size two.first in
        let text : List ℕ = text_of Second t in
        let gap_text : List ℕ = gap_after Text (is_later k) in
        let others : List ℕ = trees_text Text true us in
        let written : filled new number ≡ (filled now number ++ gap_text) ++ text =
        part_written d (Seq parts) templates ready k part left mid new at refl has number g first ∙ ap (λ l. l ++ text) (gap number) in
        record {
          place = p + length b1;
          values = _;
          rest = b2;
          trees = us;
          means = later;
          ends = two.second;
          wide = size;
          whole =
              is
              ∙ sym (append_assoc (filled now number) gap_text (text ++ others))
              ∙ sym (append_assoc (filled now number ++ gap_text) text others)
              ∙ ap (λ l. l ++ others) (sym written)
              ∙ ap (λ b. filled new number ++ trees_text Text b us) (sym (later_next k));
        }

drop_all : {X : Type 0} (xs : List X) (k : ℕ) → length xs ≤ k → drop k xs ≡ []
drop_all [] zero h = refl
drop_all [] (suc k) h = refl
drop_all (x ∷ xs) zero h = absurd (omega (arith, h))
drop_all (x ∷ xs) (suc k) h = drop_all xs k (omega (arith, h))

pub parts_written :
    (d : DescV) (parts : List ℕ) (width : ℕ) (templates : List (Option Template)) (k behind : ℕ) (old now new : Template) → length parts ≤ k
    → ((number : ℕ) → filled new number ≡ filled now number ++ 93 ∷ [])
    → PartsBehind d parts width templates k behind old now → WritesParts d parts width templates old new
parts_written d parts width templates k behind old now new done closes before o v b ts number ready means wide ends front opens =
    let it = before o v b ts number ready means wide ends in
    let P : List ℕ → Type 0 = λ l. PartsMean d l it.place it.values it.rest it.trees in
    by it.whole (subst P (drop_all parts k done) it.means)
  where
    all : List ℕ
    all = filled old number ++ trees_text Text false ts

    by : {p : ℕ} {w : Values} {rest : List ℕ} {us : Trees}
        → all ≡ filled now number ++ trees_text Text (is_later k) us → PartsMean d [] p w rest us
        → filled new number ≡ front ++ text_of Second (row ts)
    by is (parts_end e) =
        closes number
        ∙ ap (λ l. l ++ 93 ∷ []) (sym (append-nil (filled now number)) ∙ sym is ∙ ap (λ l. l ++ trees_text Text false ts) opens)
        ∙ append_assoc (front ++ 91 ∷ []) (trees_text Text false ts) (93 ∷ [])
        ∙ append_assoc front (91 ∷ []) (trees_text Text false ts ++ 93 ∷ [])
        ∙ ap (λ l. front ++ 91 ∷ (l ++ 93 ∷ [])) (sym (first_is ts))

pub seq_written : (d : DescV) (parts : List ℕ) (width : ℕ) (templates : List (Option Template)) (old new : Template)
    → WritesParts d parts width templates old new → WritesNode d (Seq parts) width templates old new
seq_written d parts width templates old new writes o v b t number ready (means_seq {ts = ts} g)
    wide ends front before = writes o v b ts number ready g wide ends front before

pub leaf_node : (d : DescV) (n : Node) (width : ℕ) (templates : List (Option Template)) (old new : Template)
    → WritesLeaf n width old new → WritesNode d n width templates old new
leaf_node d n width templates old new writes o v b t number ready means wide ends = writes d o v b t number means wide ends

-- ---- the templates of nodes

-- the strings of a node that is laid out have as many bits
pub laid_wide : (d : DescV) (i : ℕ) (layout : Layout)
    → HasLayout d i layout → (o : ℕ) (v : Values) (b : List ℕ) (t : TreeV)
    → NMeans d i o v b t → length b ≡ layout.width
laid_wide d i layout has o v b t means =
    let s = has.laid.string o v b t means in
    omega (arith, has.within, s.count, ap length s.cut, length-append (low_bits layout.fixed layout.number) s.rest, length-low_bits layout.fixed layout.number)

pub node_template :
    (d : DescV) (openings : OpeningsV) (i : ℕ) (n : Node) (layout : Layout) (templates : List (Option Template)) (old new : Template)
    → openings.form ≡ Text → AreOpened d openings → slice_get d.nodes i ≡ Some n → HasLayout d i layout → AreTemplates d openings templates
    → ((number : ℕ) → filled old number ≡ opening_in openings i) → WritesNode d n layout.width templates old new
    → IsTemplate d openings i new
node_template d openings i n layout templates old new form are at laid made begins writes =
    let found = are.marks i n at in
    record { form = form; mark = found.0; marked = found.1; writes = all }
  where
    ready : AreReady d n templates
    ready =
        record {
          openings = openings;
          form = form;
          opened = λ j part m get here. are.opened.parts i j part n m at get here ∙ ap (λ f. opening_of f (number_at n j) m) form;
          made = made;
        }

    all : (front : List ℕ) → IsMark d openings i front → (o : ℕ) (v : Values) (b : List ℕ) (t : TreeV) (number : ℕ)
        → NMeans d i o v b t → EndsIn number b → filled new number ≡ front ++ text_in Text t
    all front marked o v b t number (means_at m there g) ends =
        let twice : Some m ≡ Some n = sym there ∙ at in
        let same : m ≡ n = cc in
        let means : NodeMeans d n o v b t = subst (λ x. NodeMeans d x o v b t) same g in
        writes o v b t number ready means (laid_wide d i layout laid o v b t (means_at m there g)) ends front
        (begins number ∙ marked n at ∙ ap (λ f. front ++ node_opening f n) form)

-- ---- where it could be

pub if_had :
    {E : Type 0} (r : Result Bool E) (templates : List (Option Template)) (part behind : ℕ) (made old new : Template) → template_at templates part ≡ Some made
    → IfOk r (λ done. IsTrue done → (number : ℕ) → filled new number ≡ filled old number ++ filled made (number / 2 ^ behind))
    → IfOk r (λ done. IsTrue done → HasPart templates part behind old new)
if_had (Ok done) templates part behind made old new there added = λ yes. record { made = made; there = there; added = added yes }
if_had (Err e) templates part behind made old new there added = tt

pub if_named :
    {E : Type 0} (r : Result Bool E) (d : DescV) (n : Node) (label : List ℕ) (part width : ℕ)
    (templates : List (Option Template)) (old new : Template) → n ≡ Named label part
    → IfOk r (λ done. IsTrue done → HasPart templates part 0 old new) → IfOk r (λ done. IsTrue done → WritesNode d n width templates old new)
if_named (Ok done) d n label part width templates old new is has = λ yes.
    subst (λ m. WritesNode d m width templates old new) (sym is) (named_written d label part width templates old new (has yes))
if_named (Err e) d n label part width templates old new is has = tt

pub if_seq :
    {E : Type 0} (r : Result Bool E) (d : DescV) (n : Node) (parts : List ℕ) (width : ℕ)
    (templates : List (Option Template)) (old new : Template) → n ≡ Seq parts
    → IfOk r (λ done. IsTrue done → WritesParts d parts width templates old new) → IfOk r (λ done. IsTrue done → WritesNode d n width templates old new)
if_seq (Ok done) d n parts width templates old new is writes = λ yes.
    subst (λ m. WritesNode d m width templates old new) (sym is) (seq_written d parts width templates old new (writes yes))
if_seq (Err e) d n parts width templates old new is writes = tt

pub if_leaf :
    {E : Type 0} (r : Result Bool E) (d : DescV) (n : Node) (width : ℕ) (templates : List (Option Template)) (old new : Template)
    → IfOk r (λ done. IsTrue done → WritesLeaf n width old new) → IfOk r (λ done. IsTrue done → WritesNode d n width templates old new)
if_leaf (Ok done) d n width templates old new writes = λ yes. leaf_node d n width templates old new (writes yes)
if_leaf (Err e) d n width templates old new writes = tt

-- ---- the list of templates

pub set_at : (templates : List (Option Template)) (k i : ℕ) (made : Option Template) (t : Template)
    → template_at (set templates k made) i ≡ Some t → ((i ≡ k) × (made ≡ Some t)) ⊎ (template_at templates i ≡ Some t)
set_at [] k i made t e = inr e
set_at (x ∷ templates) zero zero made t e = inl (refl, e)
set_at (x ∷ templates) zero (suc i) made t e = inr e
set_at (x ∷ templates) (suc k) zero made t e = inr e
set_at (x ∷ templates) (suc k) (suc i) made t e = elim (set_at templates k i made t e) [
  | inl here ↦ inl (ap suc here.0, here.1)
  | inr there ↦ inr there
]

pub templates_set : (d : DescV) (openings : OpeningsV) (templates : List (Option Template)) (k : ℕ)
    (made : Option Template) → AreTemplates d openings templates
    → ((t : Template) → made ≡ Some t → IsTemplate d openings k t) → AreTemplates d openings (set templates k made)
templates_set d openings templates k made are is i t e = elim (set_at templates k i made t e) [
  | inl here ↦ subst (λ j. IsTemplate d openings j t) (sym here.0) (is t here.1)
  | inr there ↦ are i t there
]

pub none_pushed : (templates : List (Option Template)) → ((i : ℕ) → template_at templates i ≡ None) → (i : ℕ) → template_at (templates ++ None ∷ []) i ≡ None
none_pushed [] none zero = refl
none_pushed [] none (suc i) = refl
none_pushed (x ∷ templates) none zero = none 0
none_pushed (x ∷ templates) none (suc i) = none_pushed templates (λ j. none (suc j)) i

-- a template that is kept is the one that was made
pub kept_template : (kept made : Option Template) (P : Template → Type 0) → IfSome kept (λ t. made ≡ Some t)
    → IfSome made P → (t : Template) → kept ≡ Some t → P t
kept_template None made P same holds t e = absurd (cc)
kept_template (Some x) made P same holds t e =
    let one : x ≡ t = cc in
    subst P one (subst (λ o. IfSome o P) same holds)

none_at : (i : ℕ) → template_at [] i ≡ None
none_at zero = refl
none_at (suc i) = refl

-- openings with templates, and with none
pub with_templates : (d : DescV) (openings : OpeningsV) (templates : List (Option Template)) → AreOpened d openings → AreTemplates d openings templates
    → HasOpenings d (record { form = openings.form; texts = openings.texts; templates = templates })
with_templates d openings templates are made =
    record {
      opened = are.opened;
      templates = λ i t e. let is = made i t e in record { form = is.form; mark = is.mark; marked = is.marked; writes = is.writes };
    }

pub with_none : (d : DescV) (openings : OpeningsV) → AreOpened d openings → openings.templates ≡ [] → HasOpenings d openings
with_none d openings are empty =
    record {
      opened = are.opened;
      templates = λ i t e. let clash : None ≡ Some t = sym (none_at i) ∙ ap (λ l. template_at l i) (sym empty) ∙ e in absurd (cc);
    }
