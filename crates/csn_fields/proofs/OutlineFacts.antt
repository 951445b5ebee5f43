-- The marks of a node, made of those of its parts, are its events.
use Rattle.std.proofs.Common.{◌≡◌, ℕ, true, if◌then◌else◌, zero, suc, ◌+◌, ◌-◌, ◌*◌, ◌/◌, ◌%◌, ◌^◌, ◌<◌, ◌≤◌, List, [], ◌∷◌, ◌++◌, length, map, reverse, take, drop, set, get_or}
use Rattle.std.proofs.Common.{◌⊎◌, inl, inr, refl, sym, ap, subst, ◌∙◌, arith, append_assoc, append-nil, length-append, Option, Some, None}
use Rattle.std.specs.Prelude.{nat_lt, slice_get, Bool, Result, Ok, Err, IfOk, IfSome, IsTrue}
use Rattle.std.proofs.lemmas.List.{append_cancel_left, reverse-append, reverse-reverse, take_all}
use Rattle.std.proofs.lemmas.Nat.{one_shl, shr-shr}
use Rattle.std.proofs.lemmas.Bool.{lt-ltb}
use Rattle.std.proofs.lemmas.Option.{slice_get_read}
use Rattle.std.proofs.Math.Seq.{take-append_seam}
use Rattle.csn_bits.specs.Octets.{IsBits}
use Rattle.csn_bits.specs.Numbers.{low_bits, number_of}
use Rattle.csn_bits.proofs.NumberFacts.{length-low_bits, low_bits-split, IsBits-low_bits, number_of-low_bits}
use Rattle.csn_desc.specs.declared.moves.Move.{Move}
use Rattle.csn_desc.specs.declared.moves.Move.TheVariants.{Enter, Bit, Leave}
use Rattle.csn_desc.specs.declared.node.Node.{Node}
use Rattle.csn_desc.specs.declared.node.Node.TheVariants.{Null, Seq, Named}
use Rattle.csn_desc.specs.TreeV.{TreeV, named}
use Rattle.csn_desc.specs.Nodes.{DescV}
use Rattle.csn_desc.specs.Values.{Values}
use Rattle.csn_desc.specs.Means.{NMeans, NodeMeans, PartsMean, means_at, means_lits, means_spare, means_pad}
use Rattle.csn_desc.specs.Means.{means_null, means_field, means_rest, means_seq, means_choice, means_times}
use Rattle.csn_desc.specs.Means.{means_many, means_cut, means_trunc, means_window, means_named}
use Rattle.csn_desc.specs.Means as means
use Rattle.csn_desc.specs.Walks.{bits_of, Walk, NodeWalk, PartsWalk, walk_at, walk_lits, walk_spare, walk_pad, walk_null, walk_field, walk_rest}
use Rattle.csn_desc.specs.Walks.{walk_seq, walk_named}
use Rattle.csn_desc.specs.Walks as walks
use Rattle.csn_certify.specs.declared.layouts.Layout.{Layout}
use Rattle.csn_certify.specs.Layouts.{HasLayout}
use Rattle.csn_judge.specs.Told.{Tells}
use Rattle.csn_fields.specs.declared.leaf.LeafKind.{LeafKind}
use Rattle.csn_fields.specs.declared.leaf.Role.{Role}
use Rattle.csn_fields.specs.declared.leaf.Role.TheVariants.{Part}
use Rattle.csn_fields.specs.declared.event.Event.{Event}
use Rattle.csn_fields.specs.declared.event.Event.TheVariants as event
use Rattle.csn_fields.specs.declared.outline.Form.{Form}
use Rattle.csn_fields.specs.declared.outline.Form.TheVariants as form
use Rattle.csn_fields.specs.declared.outline.Mark.{Mark}
use Rattle.csn_fields.specs.declared.refusal.OpenNode.{OpenNode}
use Rattle.csn_fields.specs.declared.places.Begun.{Begun}
use Rattle.csn_fields.specs.declared.places.Inside.TheVariants as next
use Rattle.csn_fields.specs.Leaves.{kind_of, number_in}
use Rattle.csn_fields.specs.Events.{leaf_with}
use Rattle.csn_fields.specs.Places.{role_in, advanced, begun_as, inside_of}
use Rattle.csn_fields.specs.Telling.{Goes}
use Rattle.csn_fields.specs.Outlines.{IsMark, mark_event, form_event, filled, EndsIn, told_at, Outlined, IsOutline, outline_at, AreOutlines, Precedes}
use Rattle.csn_fields.specs.Outlines.{HasPart, HasWidth, TellsNode, Within, WithinNode, WithinParts, with_parts}
use Rattle.csn_fields.proofs.TellingTrees.{bits_of-append, bits_of-map, inside_bits, leaf_moves, length-advanced, node_moves, nothing_tells}
use Rattle.csn_fields.proofs.TellingTrees.{tells_by, tells_then, tells_to}

-- ---- one mark

-- the event of a leaf, as it is reckoned in 64 bits
pub mark_leaf : (role : Role) (mark : Mark) (kind : LeafKind) (place end number : ℕ) → mark.form ≡ form.Leaf kind
    → place ≡ end - (mark.behind + mark.width) → mark.width ≤ 56
    → event.Leaf (record {
      node = mark.node;
      kind = kind;
      role = role;
      place = place;
      bits = mark.width;
      number = Some (number / 2 ^ mark.behind % (1 * 2 ^ mark.width % 18446744073709551616));
    })
    ≡ mark_event role mark end number
mark_leaf role mark kind place end number form_is place_is few =
    let width : ℕ = mark.width in
    let n : ℕ = number / 2 ^ mark.behind in
    let b : List ℕ = low_bits width n in
    let wide : length b ≡ width = length-low_bits width n in
    let mask : 1 * 2 ^ width % 18446744073709551616 ≡ 2 ^ width = one_shl width 64 (omega (arith, few)) in
    let short : nat_lt (length b) 65 ≡ true = lt-ltb (length b) 65 (omega (arith, wide, few)) in
    let told : Some (n % (1 * 2 ^ width % 18446744073709551616)) ≡ number_in b =
    ap (λ m. Some (n % m)) mask ∙ ap (λ m. Some m) (sym (number_of-low_bits width n))
    ∙ sym (ap (λ c. if c then Some (number_of b) else None) short) in
    ap (λ m. event.Leaf (record { node = mark.node; kind = kind; role = role; place = place; bits = width; number = m })) told
    ∙ ap (λ m. event.Leaf (record { node = mark.node; kind = kind; role = role; place = place; bits = m; number = number_in b })) (sym wide)
    ∙ ap (λ m. event.Leaf (leaf_with mark.node kind role m b)) place_is
    ∙ ap (λ f. form_event f mark.node role (end - (mark.behind + width)) b) (sym form_is)

-- ---- marks of a part

event_is : (role : Role) (mark : Mark) (i : ℕ) (f : Form) (width behind end number : ℕ) → IsMark mark i f width behind
    → mark_event role mark end number ≡ form_event f i role (end - (behind + width)) (low_bits width (number / 2 ^ behind))
event_is role mark i f width behind end number is =
    ap (λ x. form_event x mark.node role (end - (mark.behind + mark.width)) (low_bits mark.width (number / 2 ^ mark.behind))) is.form_is
    ∙ ap (λ x. form_event f x role (end - (mark.behind + mark.width)) (low_bits mark.width (number / 2 ^ mark.behind))) is.node_is
    ∙ ap (λ x. form_event f i role (end - (mark.behind + x)) (low_bits x (number / 2 ^ mark.behind))) is.width_is
    ∙ ap (λ x. form_event f i role (end - (x + width)) (low_bits width (number / 2 ^ x))) is.behind_is

-- a mark behind which more bits stand
moved_event : (role : Role) (mark moved : Mark) (behind end number : ℕ) → IsMark moved mark.node mark.form mark.width (mark.behind + behind)
    → mark_event role moved end number ≡ mark_event role mark (end - behind) (number / 2 ^ behind)
moved_event role mark moved behind end number is =
    let place : end - ((mark.behind + behind) + mark.width) ≡ (end - behind) - (mark.behind + mark.width) = omega arith in
    let shift : number / 2 ^ (mark.behind + behind) ≡ number / 2 ^ behind / 2 ^ mark.behind =
    ap (λ j. number / 2 ^ j) (omega arith) ∙ sym (shr-shr number behind mark.behind) in
    event_is role moved mark.node mark.form mark.width (mark.behind + behind) end number is
    ∙ ap (λ p. form_event mark.form mark.node role p (low_bits mark.width (number / 2 ^ (mark.behind + behind)))) place
    ∙ ap (λ n. form_event mark.form mark.node role ((end - behind) - (mark.behind + mark.width)) (low_bits mark.width n)) shift

take-next : {X : Type 0} (xs : List X) (k : ℕ) (x : X) → slice_get xs k ≡ Some x → take (suc k) xs ≡ take k xs ++ x ∷ []
take-next [] k x at = absurd (cc)
take-next (y ∷ xs) zero x at = let same : y ≡ x = cc in ap (λ z. z ∷ []) same
take-next (y ∷ xs) (suc k) x at = ap (λ l. y ∷ l) (take-next xs k x at)

-- in the order of the list one more stands before the others
turned : (marks : List Mark) (k : ℕ) (mark : Mark) → slice_get marks k ≡ Some mark → reverse (take (k + 1) marks) ≡ mark ∷ reverse (take k marks)
turned marks k mark at =
    let one_more : k + 1 ≡ suc k = omega arith in
    ap (λ j. reverse (take j marks)) one_more ∙ ap (λ l. reverse l) (take-next marks k mark at) ∙ reverse-append (take k marks) (mark ∷ [])

pub none_precedes : (behind : ℕ) (old : List Mark) → Precedes [] behind old old
none_precedes behind old = record { count = omega arith; told = λ end number. refl }

pub mark_precedes : (marks : List Mark) (k : ℕ) (mark moved : Mark) (behind : ℕ) (old now new : List Mark) → slice_get marks k ≡ Some mark
    → IsMark moved mark.node mark.form mark.width (mark.behind + behind) → new ≡ moved ∷ now
    → Precedes (reverse (take k marks)) behind old now → Precedes (reverse (take (k + 1) marks)) behind old new
mark_precedes marks k mark moved behind old now new at moved_is is before =
    let P : List Mark → Type 0 = λ l. Precedes l behind old new in
    subst P (sym (turned marks k mark at))
    (record {
      count = omega (arith, ap (λ l. length l) is, before.count);
      told = λ end number.
          ap (λ l. filled Part l end number) is
          ∙ ap (λ e. e ∷ filled Part now end number) (moved_event Part mark moved behind end number moved_is)
          ∙ ap (λ l. mark_event Part mark (end - behind) (number / 2 ^ behind) ∷ l) (before.told end number);
    })

-- ---- the last bits of a number

ends_none : (number : ℕ) (b : List ℕ) → EndsIn number b → EndsIn (number / 2 ^ 0) b
ends_none number b ends =
    let one : 2 ^ 0 ≡ 1 = refl in
    let whole : number / 2 ^ 0 ≡ number = omega (arith, one) in
    ap (λ n. low_bits (length b) n) whole ∙ ends

-- bits in two parts
record Parted (number : ℕ) (b1 b2 : List ℕ) : Type 0 where
  pub first : EndsIn (number / 2 ^ length b2) b1
  pub second : EndsIn number b2

parted : (number : ℕ) (b1 b2 : List ℕ) → EndsIn number (b1 ++ b2) → Parted number b1 b2
parted number b1 b2 ends =
    let high : List ℕ = low_bits (length b1) (number / 2 ^ length b2) in
    let low : List ℕ = low_bits (length b2) number in
    let both : high ++ low ≡ b1 ++ b2 = sym (low_bits-split (length b1) (length b2) number) ∙ ap (λ k. low_bits k number) (sym (length-append b1 b2)) ∙ ends in
    let size : length high ≡ length b1 = length-low_bits (length b1) (number / 2 ^ length b2) in
    let front : high ≡ b1 = sym (take-append_seam high low) ∙ ap (λ k. take k (high ++ low)) size
    ∙ ap (λ l. take (length b1) l) both ∙ take-append_seam b1 b2 in
    record { first = front; second = append_cancel_left b1 low b2 (ap (λ l. l ++ low) (sym front) ∙ both) }

-- the strings of a node that is laid out have as many bits
pub laid_wide : (d : DescV) (i : ℕ) (layout : Layout) → HasLayout d i layout → (o : ℕ) (v : Values) (b : List ℕ) (t : TreeV)
    → NMeans d i o v b t → length b ≡ layout.width
laid_wide d i layout has o v b t means =
    let s = has.laid.string o v b t means in
    omega (arith, has.within, s.count, ap length s.cut, length-append (low_bits layout.fixed layout.number) s.rest, length-low_bits layout.fixed layout.number)

-- ---- between the beginning and the end of a node

within_none : (d : DescV) (old : List Mark) (b : List ℕ) (moves : List Move) (number : ℕ) → b ≡ [] → moves ≡ [] → Within d old old b moves number
within_none d old b moves number no_bits no_moves =
    let P : List ℕ → Type 0 = λ l. Within d old old l moves number in
    let Q : List Move → Type 0 = λ m. Within d old old [] m number in
    subst P (sym no_bits)
    (subst Q (sym no_moves)
    (record {
      takes = refl;
      tells = λ numbers node nodes place events around room small.
          ([], refl, nothing_tells d numbers (with_parts node ∷ nodes) place 0 events around);
    }))

-- a part, and what stands behind it
first_within :
    (d : DescV) (i number : ℕ) (part old now new : List Mark) (b1 b2 b : List ℕ) (first rest moves : List Move)
    → Outlined d i part b1 first (number / 2 ^ length b2) → Within d old now b2 rest number → Precedes part (length b2) now new
    → b ≡ b1 ++ b2 → moves ≡ first ++ rest → Within d old new b moves number
first_within d i number part old now new b1 b2 b first rest moves one others before cut are =
    record {
      takes = ap (λ m. bits_of m) are ∙ bits_of-append first rest ∙ ap (λ l. l ++ bits_of rest) one.takes
          ∙ ap (λ l. b1 ++ l) others.takes ∙ sym cut;
      tells = by;
    }
  where
    long : length b ≡ length b1 + length b2
    long = ap length cut ∙ length-append b1 b2

    by :
        (numbers : List (Option ℕ)) (node : OpenNode) (nodes : List Begun) (place : ℕ) (events : List Event) (around : List ℕ)
        → suc (length nodes) + length new ≤ 64 → place + length b < 4294967296
        → (more : List Event) × (filled Part new (place + length b) number ≡ more ++ filled Part old (place + length b) number)
        × Tells d Goes around moves around (told_at numbers (with_parts node ∷ nodes) place 0 events)
        (told_at numbers (with_parts node ∷ nodes) (place + length b) 0 (events ++ more))
    by numbers node nodes place events around room small =
        let middle : ℕ = place + length b1 in
        let mine : List Event = filled Part part middle (number / 2 ^ length b2) in
        let ends : middle + length b2 ≡ place + length b = omega (arith, long) in
        let back : (place + length b) - length b2 ≡ middle = omega (arith, long) in
        let tells_one = one.tells numbers (with_parts node ∷ nodes) place 0 events around
        (omega (arith, room, before.count)) (omega (arith, small, long)) in
        let behind = others.tells numbers node nodes middle (events ++ mine) around
        (omega (arith, room, before.count)) (omega (arith, small, ends)) in (
          mine ++ behind.0,
          before.told (place + length b) number
              ∙ ap (λ e. filled Part part e (number / 2 ^ length b2) ++ filled Part now (place + length b) number) back
              ∙ ap (λ l. mine ++ l)
              (ap (λ e. filled Part now e number) (sym ends) ∙ behind.1 ∙ ap (λ e. behind.0 ++ filled Part old e number) ends)
              ∙ sym (append_assoc mine behind.0 (filled Part old (place + length b) number)),
          tells_by d (sym are)
              (tells_to d (ap (λ e. told_at numbers (with_parts node ∷ nodes) e 0 ((events ++ mine) ++ behind.0)) ends
              ∙ ap (λ l. told_at numbers (with_parts node ∷ nodes) (place + length b) 0 l) (append_assoc events mine behind.0))
              (tells_then d tells_one behind.2)),
        )

pub null_within : (d : DescV) (outlines : List (Option (List Mark))) (old : List Mark) → WithinNode d Null outlines old old
null_within d outlines old o v b t moves number are (means_null no_bits) (walk_null no_moves) ends = within_none d old b moves number no_bits no_moves

named_means : (d : DescV) (label : List ℕ) (part o : ℕ) (v : Values) (b : List ℕ) (t : TreeV) → NodeMeans d (Named label part) o v b t
    → (u : TreeV) × (t ≡ named label u) × NMeans d part o v b u
named_means d label part o v b t (means_named {t = u} g) = (u, refl, g)

named_walks : (d : DescV) (label : List ℕ) (part o : ℕ) (t : TreeV) (moves : List Move) → NodeWalk d (Named label part) o t moves
    → (u : TreeV) × (t ≡ named label u) × Walk d part o u moves
named_walks d label part o t moves (walk_named {t = u} w) = (u, refl, w)

pub named_within : (d : DescV) (label : List ℕ) (part : ℕ) (outlines : List (Option (List Mark))) (old new : List Mark)
    → HasPart outlines part 0 old new → WithinNode d (Named label part) outlines old new
named_within d label part outlines old new has o v b t moves number are means walk ends =
    let m = named_means d label part o v b t means in
    let w = named_walks d label part o t moves walk in
    let both : named label m.0 ≡ named label w.0 = sym m.1 ∙ w.1 in
    let same : w.0 ≡ m.0 = cc in
    let inner : Walk d part o m.0 moves = subst (λ u. Walk d part o u moves) same w.2 in
    first_within d part number has.marks old old new b [] b moves [] moves
    (are part has.marks has.there o v b m.0 moves (number / 2 ^ 0) m.2 inner (ends_none number b ends))
    (within_none d old [] [] number refl refl) has.before (sym (append-nil b)) (sym (append-nil moves))

-- ---- the parts of a sequence

pub parts_none : (d : DescV) (outlines : List (Option (List Mark))) (old : List Mark) → WithinParts d [] 0 outlines old old
parts_none d outlines old o v b ts moves number are (means.parts_end no_bits) (walks.parts_end no_moves) ends =
    (ap length no_bits, within_none d old b moves number no_bits no_moves)

pub part_first : (d : DescV) (part : ℕ) (parts : List ℕ) (behind width : ℕ) (outlines : List (Option (List Mark))) (old now new : List Mark)
    → HasWidth d part behind width → HasPart outlines part behind now new → WithinParts d parts behind outlines old now
    → WithinParts d (part ∷ parts) width outlines old new
part_first d part parts behind width outlines old now new wide has later o v b ts moves number are
    (means.parts_next {t = t} {ts = us} b1 b2 cut g gs) (walks.parts_next first rest cut_moves w ws) ends =
    let two = parted number b1 b2 (subst (λ l. EndsIn number l) cut ends) in
    let one = are part has.marks has.there o v b1 t first (number / 2 ^ length b2) g w two.first in
    let P : ℕ → Type 0 = λ n. PartsWalk d parts (o + n) us rest in
    let others = later (o + length b1) _ b2 us rest number are gs (subst P (ap length one.takes) ws) two.second in
    let Q : ℕ → Type 0 = λ n. Precedes has.marks n now new in (
      omega (arith, ap length cut, length-append b1 b2, others.0, wide o v b1 t g),
      first_within d part number has.marks old now new b1 b2 b first rest moves one others.1 (subst Q (sym others.0) has.before) cut cut_moves,
    )

drop-next : {X : Type 0} (xs : List X) (k : ℕ) (x : X) → slice_get xs k ≡ Some x → drop k xs ≡ x ∷ drop (suc k) xs
drop-next [] k x at = absurd (cc)
drop-next (y ∷ xs) zero x at = let same : y ≡ x = cc in ap (λ z. z ∷ xs) same
drop-next (y ∷ xs) (suc k) x at = drop-next xs k x at

drop_all : {X : Type 0} (xs : List X) (k : ℕ) → length xs ≤ k → drop k xs ≡ []
drop_all [] zero h = refl
drop_all [] (suc k) h = refl
drop_all (x ∷ xs) zero h = absurd (omega (arith, h))
drop_all (x ∷ xs) (suc k) h = drop_all xs k (omega (arith, h))

pub no_parts_left : (d : DescV) (parts : List ℕ) (k : ℕ) (outlines : List (Option (List Mark))) (old : List Mark) → length parts ≤ k
    → WithinParts d (drop k parts) 0 outlines old old
no_parts_left d parts k outlines old all =
    subst (λ l. WithinParts d l 0 outlines old old) (sym (drop_all parts k all)) (parts_none d outlines old)

pub part_before : (d : DescV) (parts : List ℕ) (k at part : ℕ) (behind width : ℕ) (outlines : List (Option (List Mark))) (old now new : List Mark)
    → suc at ≡ k → slice_get parts at ≡ Some part → HasWidth d part behind width → HasPart outlines part behind now new
    → WithinParts d (drop k parts) behind outlines old now → WithinParts d (drop at parts) width outlines old new
part_before d parts k at part behind width outlines old now new same get wide has later =
    subst (λ l. WithinParts d l width outlines old new) (sym (drop-next parts at part get))
    (part_first d part (drop (suc at) parts) behind width outlines old now new wide has
    (subst (λ j. WithinParts d (drop j parts) behind outlines old now) (sym same) later))

pub seq_within : (d : DescV) (parts : List ℕ) (width : ℕ) (outlines : List (Option (List Mark))) (old new : List Mark)
    → WithinParts d parts width outlines old new → WithinNode d (Seq parts) outlines old new
seq_within d parts width outlines old new has o v b t moves number are (means_seq {ts = ts} g) (walk_seq w) ends =
    (has o v b ts moves number are g w ends).1

-- ---- whole nodes

-- the moves of a leaf take its bits
leaf_takes : (d : DescV) {n : Node} {o : ℕ} {v : Values} {b : List ℕ} {t : TreeV} {inside : List Move} (kind : LeafKind)
    → kind_of n ≡ Some kind → NodeMeans d n o v b t → NodeWalk d n o t inside → inside ≡ map Bit b
leaf_takes d kind is (means_lits e) (walk_lits w) = w ∙ ap (λ l. map Bit l) (sym e)
leaf_takes d kind is (means_spare one spare) (walk_spare w) = w
leaf_takes d kind is (means_pad some spare) (walk_pad w) = w
leaf_takes d kind is (means_null e) w = absurd (cc)
leaf_takes d kind is (means_field n counts wide are) (walk_field w) = w
leaf_takes d kind is (means_rest are) (walk_rest w) = w
leaf_takes d kind is (means_seq g) w = absurd (cc)
leaf_takes d kind is (means_choice at g) w = absurd (cc)
leaf_takes d kind is (means_times n counts g) w = absurd (cc)
leaf_takes d kind is (means_many g) w = absurd (cc)
leaf_takes d kind is (means_cut e) w = absurd (cc)
leaf_takes d kind is (means_trunc g) w = absurd (cc)
leaf_takes d kind is (means_window n counts wide g) w = absurd (cc)
leaf_takes d kind is (means_named g) w = absurd (cc)

-- its event
leaf_event : (i width number place : ℕ) (kind : LeafKind) (role : Role) (mark : Mark) (b : List ℕ) → IsMark mark i (form.Leaf kind) width 0
    → length b ≡ width → EndsIn number b
    → event.Leaf (leaf_with i kind role place b) ∷ [] ≡ filled role (mark ∷ []) (place + length b) number
leaf_event i width number place kind role mark b is wide ends =
    let back : place ≡ (place + length b) - (0 + width) = omega (arith, wide) in
    let bits : b ≡ low_bits width (number / 2 ^ 0) = sym (ends_none number b ends) ∙ ap (λ k. low_bits k (number / 2 ^ 0)) wide in
    ap (λ p. event.Leaf (leaf_with i kind role p b) ∷ []) back
    ∙ ap (λ l. event.Leaf (leaf_with i kind role ((place + length b) - (0 + width)) l) ∷ []) bits
    ∙ ap (λ e. e ∷ []) (sym (event_is role mark i (form.Leaf kind) width 0 (place + length b) number is))

pub leaf_tells : (d : DescV) (i : ℕ) (n : Node) (kind : LeafKind) (width : ℕ) (outlines : List (Option (List Mark))) (mark : Mark) (marks : List Mark)
    → kind_of n ≡ Some kind → IsMark mark i (form.Leaf kind) width 0 → marks ≡ mark ∷ [] → TellsNode d i n width outlines marks
leaf_tells d i n kind width outlines mark marks is mark_is marks_are o v b t moves number are at g (walk_at m inside there w are_moves) wide ends =
    let twice : Some m ≡ Some n = sym there ∙ at in
    let same : m ≡ n = cc in
    let walk : NodeWalk d n o t inside = subst (λ x. NodeWalk d x o t inside) same w in
    let bits : inside ≡ map Bit b = leaf_takes d kind is g walk in
    let P : List Mark → Type 0 = λ l. Outlined d i l b moves number in
    subst P (sym marks_are)
    (record {
      takes = inside_bits inside are_moves ∙ ap (λ l. bits_of l) bits ∙ bits_of-map b;
      tells = λ numbers nodes place last events around room small.
          tells_to d (ap (λ l. told_at numbers (advanced nodes) (place + length b) 0 (events ++ l))
          (leaf_event i width number place kind (role_in numbers i nodes) mark b mark_is wide ends))
          (leaf_moves d numbers n kind i place b inside moves nodes last events around at is bits are_moves (omega (arith, room))
          (record { are = subst (λ l. IsBits l) ends (IsBits-low_bits (length b) number); small = small }));
    })

pub node_tells : (d : DescV) (i : ℕ) (n : Node) (width : ℕ) (outlines : List (Option (List Mark))) (first last : Mark) (inner marks : List Mark)
    → kind_of n ≡ None → inside_of n ≡ next.Part → IsMark first i form.Begin 0 width → IsMark last i form.End 0 0 → marks ≡ first ∷ inner
    → WithinNode d n outlines (last ∷ []) inner → TellsNode d i n width outlines marks
node_tells d i n width outlines begins_at ends_at inner marks no_kind parts first_is last_is marks_are within o v b t moves number are at g (walk_at m inside there w are_moves) wide ends =
    let twice : Some m ≡ Some n = sym there ∙ at in
    let same : m ≡ n = cc in
    let walk : NodeWalk d n o t inside = subst (λ x. NodeWalk d x o t inside) same w in
    let h = within o v b t inside number are g walk ends in
    let P : List Mark → Type 0 = λ l. Outlined d i l b moves number in
    subst P (sym marks_are)
    (record {
      takes = inside_bits inside are_moves ∙ h.takes;
      tells = by h.tells are_moves;
    })
  where
    by : {inside : List Move}
        → ((numbers : List (Option ℕ)) (node : OpenNode) (nodes : List Begun) (place : ℕ) (events : List Event) (around : List ℕ)
        → suc (length nodes) + length inner ≤ 64 → place + length b < 4294967296
        → (more : List Event) × (filled Part inner (place + length b) number ≡ more ++ filled Part (ends_at ∷ []) (place + length b) number)
        × Tells d Goes around inside around (told_at numbers (with_parts node ∷ nodes) place 0 events)
        (told_at numbers (with_parts node ∷ nodes) (place + length b) 0 (events ++ more)))
        → moves ≡ Enter i ∷ (inside ++ Leave ∷ [])
        → (numbers : List (Option ℕ)) (nodes : List Begun) (place last : ℕ) (events : List Event) (around : List ℕ)
        → length nodes + length (begins_at ∷ inner) ≤ 64 → place + length b < 4294967296
        → Tells d Goes around moves around (told_at numbers nodes place last events)
        (told_at numbers (advanced nodes) (place + length b) 0
        (events ++ filled (role_in numbers i nodes) (begins_at ∷ inner) (place + length b) number))
    by {inside} tells are_moves numbers nodes place last events around room small =
        let role : Role = role_in numbers i nodes in
        let begun : Begun = begun_as i role place n in
        let first : Event = event.Begin i role place in
        let to : ℕ = place + length b in
        let h = tells numbers begun.node (advanced nodes) place (events ++ first ∷ []) (i ∷ around)
        (omega (arith, room, length-advanced nodes)) small in
        let starts : with_parts begun.node ≡ begun = ap (λ k. record { node = begun.node; inside = k }) (sym parts) in
        let R : Begun → Type 0 = λ x. Tells d Goes (i ∷ around) inside (i ∷ around) (told_at numbers (x ∷ advanced nodes) place 0 (events ++ first ∷ []))
        (told_at numbers (with_parts begun.node ∷ advanced nodes) to 0 ((events ++ first ∷ []) ++ h.0)) in
        let told = node_moves d numbers n i place to last inside moves nodes next.Part 0 events h.0 around at no_kind are_moves
        (omega (arith, room)) (subst R starts h.2) in
        let begins : first ≡ mark_event role begins_at to number =
        ap (λ p. event.Begin i role p) (omega (arith, wide)) ∙ sym (event_is role begins_at i form.Begin 0 width to number first_is) in
        let ended : event.End i to ∷ [] ≡ filled Part (ends_at ∷ []) to number =
        ap (λ p. event.End i p ∷ []) (omega arith) ∙ ap (λ e. e ∷ []) (sym (event_is Part ends_at i form.End 0 0 to number last_is)) in
        tells_to d (ap (λ l. told_at numbers (advanced nodes) to 0 (events ++ l))
        (ap (λ l. first ∷ (h.0 ++ l)) ended ∙ ap (λ l. first ∷ l) (sym h.1) ∙ ap (λ e. e ∷ filled Part inner to number) begins)) told

pub is_outline : (d : DescV) (i : ℕ) (n : Node) (layout : Layout) (outlines : List (Option (List Mark))) (marks : List Mark)
    → slice_get d.nodes i ≡ Some n → HasLayout d i layout → AreOutlines d outlines → TellsNode d i n layout.width outlines marks
    → IsOutline d i marks
is_outline d i n layout outlines marks at laid are tells o v b t moves number (means_at m there g) walk ends =
    let twice : Some m ≡ Some n = sym there ∙ at in
    let same : m ≡ n = cc in
    let means : NodeMeans d n o v b t = subst (λ x. NodeMeans d x o v b t) same g in
    tells o v b t moves number are at means walk (laid_wide d i layout laid o v b t (means_at m there g)) ends

-- ---- the list of outlines

set_at : (outlines : List (Option (List Mark))) (k i : ℕ) (made : Option (List Mark)) (marks : List Mark)
    → outline_at (set outlines k made) i ≡ Some marks → ((i ≡ k) × (made ≡ Some marks)) ⊎ (outline_at outlines i ≡ Some marks)
set_at [] k i made t e = inr e
set_at (x ∷ outlines) zero zero made t e = inl (refl, e)
set_at (x ∷ outlines) zero (suc i) made t e = inr e
set_at (x ∷ outlines) (suc k) zero made t e = inr e
set_at (x ∷ outlines) (suc k) (suc i) made t e = elim (set_at outlines k i made t e) [
  | inl here ↦ inl (ap suc here.0, here.1)
  | inr there ↦ inr there
]

pub outlines_set : (d : DescV) (outlines : List (Option (List Mark))) (k : ℕ) (made : Option (List Mark)) → AreOutlines d outlines
    → ((marks : List Mark) → made ≡ Some marks → IsOutline d k marks) → AreOutlines d (set outlines k made)
outlines_set d outlines k made are is i marks e = elim (set_at outlines k i made marks e) [
  | inl here ↦ subst (λ j. IsOutline d j marks) (sym here.0) (is marks here.1)
  | inr there ↦ are i marks there
]

pub none_pushed : (outlines : List (Option (List Mark))) → ((i : ℕ) → outline_at outlines i ≡ None) → (i : ℕ) → outline_at (outlines ++ None ∷ []) i ≡ None
none_pushed [] none zero = refl
none_pushed [] none (suc i) = refl
none_pushed (x ∷ outlines) none zero = none 0
none_pushed (x ∷ outlines) none (suc i) = none_pushed outlines (λ j. none (suc j)) i

-- an outline that is kept is the one that was made
pub kept_outline : (kept made : Option (List Mark)) (P : List Mark → Type 0) → IfSome kept (λ t. made ≡ Some t)
    → IfSome made P → (t : List Mark) → kept ≡ Some t → P t
kept_outline None made P same holds t e = absurd (cc)
kept_outline (Some x) made P same holds t e =
    let one : x ≡ t = cc in
    subst P one (subst (λ o. IfSome o P) same holds)

-- the marks that are left to tell, by the list in which the last one is the first
pub all_left : (marks : List Mark) (count : ℕ) → length (reverse marks) ≤ count → reverse (take count (reverse marks)) ≡ marks
all_left marks count many = ap (λ l. reverse l) (take_all count (reverse marks) many) ∙ reverse-reverse marks

pub next_left : (marks items : List Mark) (at : ℕ) (mark : Mark) → reverse items ≡ marks → slice_get items at ≡ Some mark
    → reverse (take (at + 1) (reverse marks)) ≡ mark ∷ reverse (take at (reverse marks))
next_left marks items at mark same get =
    let turn : reverse marks ≡ items = ap (λ l. reverse l) (sym same) ∙ reverse-reverse items in
    ap (λ l. reverse (take (at + 1) l)) turn ∙ turned items at mark get ∙ ap (λ l. mark ∷ reverse (take at l)) (sym turn)

-- what a loop reads of a list is there
pub read_mark : {X : Type 0} (xs : List X) (k : ℕ) (x : X) → k < length xs → x ≡ get_or xs k x → slice_get xs k ≡ Some x
read_mark xs k x low is = slice_get_read xs (length xs) k x refl low is

-- ---- where they could be added

pub if_had :
    {E : Type 0} (r : Result Bool E) (outlines : List (Option (List Mark))) (part behind : ℕ) (made old new : List Mark)
    → outline_at outlines part ≡ Some made
    → IfOk r (λ done. IsTrue done → Precedes made behind old new) → IfOk r (λ done. IsTrue done → HasPart outlines part behind old new)
if_had (Ok done) outlines part behind made old new there before = λ yes. record { marks = made; there = there; before = before yes }
if_had (Err e) outlines part behind made old new there before = tt

pub if_named :
    {E : Type 0} (r : Result Bool E) (d : DescV) (n : Node) (label : List ℕ) (part : ℕ) (outlines : List (Option (List Mark)))
    (old new : List Mark) → n ≡ Named label part
    → IfOk r (λ done. IsTrue done → HasPart outlines part 0 old new) → IfOk r (λ done. IsTrue done → WithinNode d n outlines old new)
if_named (Ok done) d n label part outlines old new is has = λ yes.
    subst (λ m. WithinNode d m outlines old new) (sym is) (named_within d label part outlines old new (has yes))
if_named (Err e) d n label part outlines old new is has = tt

pub if_seq :
    {E : Type 0} (r : Result Bool E) (d : DescV) (n : Node) (parts : List ℕ) (outlines : List (Option (List Mark)))
    (old new : List Mark) → n ≡ Seq parts
    → IfOk r (λ done. IsTrue done → (width : ℕ) × WithinParts d parts width outlines old new)
    → IfOk r (λ done. IsTrue done → WithinNode d n outlines old new)
if_seq (Ok done) d n parts outlines old new is has = λ yes.
    subst (λ m. WithinNode d m outlines old new) (sym is) (seq_within d parts (has yes).0 outlines old new (has yes).1)
if_seq (Err e) d n parts outlines old new is has = tt
