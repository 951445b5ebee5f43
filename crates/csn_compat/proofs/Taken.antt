-- What the new description takes has a tree by it.
use Rattle.std.proofs.Common.{◌≡◌, ℕ, suc, List, [], length, refl, sym, ◌∙◌, ap, subst, arith, append-nil, Some}
use Rattle.std.specs.Prelude.{slice_get}
use Rattle.csn_bits.specs.Octets.{IsBits}
use Rattle.csn_desc.specs.declared.reading.Reading.{Reading}
use Rattle.csn_desc.specs.declared.symbol.Symbol.{Symbol}
use Rattle.csn_desc.specs.declared.symbol.Symbol.TheVariants.{Low}
use Rattle.csn_desc.specs.declared.node.Count.TheVariants.{Fixed}
use Rattle.csn_desc.specs.declared.node.Node.{Node}
use Rattle.csn_desc.specs.declared.node.Node.TheVariants.{Lits, Spare, Pad, Null, Field, Rest, Choice, Times, Many, Trunc, Window, Named}
use Rattle.csn_desc.specs.TreeV.{TreeV, empty, bits, row, alt, named, Trees, none, more}
use Rattle.csn_desc.specs.Nodes.{DescV}
use Rattle.csn_desc.specs.Spelled.{spelled, IsSpare}
use Rattle.csn_desc.specs.Values.{Values}
use Rattle.csn_desc.specs.Means.{NMeans, NodeMeans, PartsMean, TimesMean, ManyMean, LeadMean, means_at, means_lits}
use Rattle.csn_desc.specs.Means.{means_spare, means_pad, means_null, means_field, means_rest, means_seq, means_choice}
use Rattle.csn_desc.specs.Means.{means_times, means_many, means_cut, means_trunc, means_window, means_named}
use Rattle.csn_desc.specs.Means.{parts_end, parts_next, times_end, times_next, many_end, many_next, lead_last}
use Rattle.csn_desc.specs.Means.{lead_next}
use Rattle.csn_desc.specs.Formed.{Spans, PartsSpan, span_next}
use Rattle.csn_desc.proofs.Nodewise.{meaning_at}
use Rattle.csn_desc.proofs.MeantBits.{meant_bits}
use Rattle.csn_desc.proofs.BitFacts.{IsBits-along, IsBits-split, IsBits-spelled, IsBits-spare, length-spelled}
use Rattle.csn_desc.proofs.Numbering.{span_grows, span_parts}
use Rattle.csn_compat.specs.declared.pairs.Pair.{Pair}
use Rattle.csn_compat.specs.Takes.{LeafTakes, takes_leaf, IsAnyBits, Takes, NodeTakes, PartsTake, LeadTake, any_bits}
use Rattle.csn_compat.specs.Takes.{any_bits_labelled, takes_at, takes_labelled, takes_by_labelled, takes_by_rest}
use Rattle.csn_compat.specs.Takes.{takes_choice, takes_by_choice, takes_seq, takes_times, takes_many, takes_trunc}
use Rattle.csn_compat.specs.Takes.{takes_window, parts_taken, parts_take, parts_taken_by_rest, lead_taken, lead_takes}
use Rattle.csn_compat.specs.Laws.{BlocksAreTaken}
use Rattle.csn_compat.proofs.Below.{below}
use Rattle.csn_compat.proofs.PairFacts.{AreEarlier, AgreeOn, none_earlier, none_agree, later_still, next_earlier, next_agree, as_many}

-- some tree, or some trees, of the bits
pub record HasTree (d : DescV) (j o : ℕ) (w : Values) (b : List ℕ) : Type 0 where
  pub tree : TreeV
  pub means : NMeans d j o w b tree

record HasNodeTree (d : DescV) (m : Node) (o : ℕ) (w : Values) (b : List ℕ) : Type 0 where
  tree : TreeV
  means : NodeMeans d m o w b tree

record HasParts (d : DescV) (others : List ℕ) (o : ℕ) (w : Values) (b : List ℕ) : Type 0 where
  trees : Trees
  means : PartsMean d others o w b trees

record HasLead (d : DescV) (others : List ℕ) (o : ℕ) (w : Values) (b : List ℕ) : Type 0 where
  trees : Trees
  means : LeadMean d others o w b trees

record HasTimes (d : DescV) (n j o : ℕ) (w : Values) (b : List ℕ) : Type 0 where
  trees : Trees
  means : TimesMean d n j o w b trees

record HasMany (d : DescV) (j o : ℕ) (w : Values) (b : List ℕ) : Type 0 where
  trees : Trees
  means : ManyMean d j o w b trees

-- any bits have a tree where any are taken
any_tree : (now : DescV) (o : ℕ) (w : Values) (b : List ℕ) {j : ℕ} → IsAnyBits now j → IsBits b → HasTree now j o w b
any_tree now o w b (any_bits at) is = record { tree = bits b; means = means_at Rest at (means_rest is) }
any_tree now o w b (any_bits_labelled label part at h) is =
    let inner = any_tree now o w b h is in
    record { tree = named label inner.tree; means = means_at (Named label part) at (means_named inner.means) }

-- turn by turn
times_tree : (was now : DescV) (p q : ℕ) (v w : Values)
    → ((o : ℕ) (b : List ℕ) (t : TreeV) → NMeans was p o v b t → HasTree now q o w b)
    → {n o : ℕ} {b : List ℕ} {ts : Trees} → TimesMean was n p o v b ts → HasTimes now n q o w b
times_tree was now p q v w turn (times_end is_none void) = record { trees = none; means = times_end is_none void }
times_tree was now p q v w turn {o = o} (times_next {t = t} m is b1 b2 cut h others) =
    let first = turn o b1 t h in
    let rest = times_tree was now p q v w turn others in
    record { trees = more first.tree rest.trees; means = times_next m is b1 b2 cut first.means rest.means }

many_tree : (was now : DescV) (p q : ℕ) (v w : Values)
    → ((o : ℕ) (b : List ℕ) (t : TreeV) → NMeans was p o v b t → HasTree now q o w b)
    → {o : ℕ} {b : List ℕ} {ts : Trees} → ManyMean was p o v b ts → HasMany now q o w b
many_tree was now p q v w turn (many_end void) = record { trees = none; means = many_end void }
many_tree was now p q v w turn {o = o} (many_next {t = t} b1 b2 cut some h others) =
    let first = turn o b1 t h in
    let rest = many_tree was now p q v w turn others in
    record { trees = more first.tree rest.trees; means = many_next b1 b2 cut some first.means rest.means }

-- a sequence of parts is bits
parts_are_bits : (d : DescV) {parts : List ℕ} {o : ℕ} {v : Values} {b : List ℕ} {ts : Trees} → PartsMean d parts o v b ts → IsBits b
parts_are_bits d (parts_end void) = IsBits-along void tt
parts_are_bits d (parts_next b1 b2 cut h others) = IsBits-split b1 b2 cut (meant_bits d h) (parts_are_bits d others)

spare_along : (r s : Reading) (x y : Symbol) (o : ℕ) (b : List ℕ) → r ≡ s → x ≡ y → IsSpare r x o b → IsSpare s y o b
spare_along r s x y o b same equal is =
    let P : Reading → Type 0 = λ k. IsSpare k y o b in
    let Q : Symbol → Type 0 = λ k. IsSpare r k o b in
    subst P same (subst Q equal is)

-- pairs that are earlier than some parts are earlier than the first of them
start : (pairs : List Pair) (at to p q : ℕ) → p ≡ at → q ≡ to → AreEarlier pairs at to → AreEarlier pairs p q
start pairs at to p q is_p is_q = later_still pairs at to p q (omega arith) (omega arith)

-- the tree of the new node, whose meaning has one at its number
node_tree : (now : DescV) {j o : ℕ} {w : Values} {b : List ℕ} {m : Node} → slice_get now.nodes j ≡ Some m → HasTree now j o w b → HasNodeTree now m o w b
node_tree now at h = record { tree = h.tree; means = meaning_at now at h.means }

module _ (was now : DescV) (readings : was.reading ≡ now.reading) where
  -- a leaf that is taken
  leaf_carried : (n m : Node) {pairs : List Pair}
      → LeafTakes pairs n m → {o : ℕ} {v w : Values} {b : List ℕ} {t : TreeV}
      → AgreeOn pairs v w → NodeMeans was n o v b t → HasNodeTree now m o w b
  leaf_carried Null Null h agree (means_null void) = record { tree = empty; means = means_null void }
  leaf_carried Null (Many other) h agree (means_null void) = record { tree = row none; means = means_many (many_end void) }
  leaf_carried Null (Trunc others) h agree (means_null void) = record { tree = row none; means = means_cut void }
  leaf_carried (Lits run) (Lits other) same {o = o} agree (means_lits is) = record { tree = empty; means = means_lits (is ∙ ap (λ run. spelled run o) same) }
  leaf_carried (Lits run) (Field unit (Fixed n)) wide {o = o} {b = b} agree (means_lits is) =
      record { tree = bits b; means = means_field n refl (ap length is ∙ length-spelled run o ∙ sym wide) (IsBits-along is (IsBits-spelled run o)) }
  leaf_carried (Spare x) (Spare y) same {o = o} {b = b} agree (means_spare one is) =
      record { tree = bits b; means = means_spare one (spare_along was.reading now.reading x y o b readings same is) }
  leaf_carried (Spare x) (Field unit (Fixed n)) wide {o = o} {b = b} agree (means_spare one is) =
      record { tree = bits b; means = means_field n refl (one ∙ sym wide) (IsBits-spare was.reading x o b is) }
  leaf_carried Pad Pad h {o = o} {b = b} agree (means_pad some is) =
      record { tree = bits b; means = means_pad some (spare_along was.reading now.reading Low Low o b readings refl is) }
  leaf_carried (Field unit count) (Field other taker) {pairs = pairs} counts {v = v} {w = w} {b = b} agree (means_field n is_n wide is) =
      let many = as_many pairs v w unit other n count taker agree counts is_n in
      record { tree = bits b; means = means_field many.amount many.counted (wide ∙ many.equal) is }
  leaf_carried _ _ h agree means = absurd h

  mutual
    carried : {i j : ℕ} {pairs : List Pair} → Takes was now i j pairs → (e f : ℕ)
        → Spans was.nodes i e → Spans now.nodes j f → AreEarlier pairs i j → {o : ℕ} {v w : Values} {b : List ℕ}
        {t : TreeV} → AgreeOn pairs v w → NMeans was i o v b t → HasTree now j o w b
    carried (takes_at n m at_i at_j h) e f old new earlier agree means =
        let inner = node_carried h e f at_i at_j old new earlier agree (meaning_at was at_i means) in
        record { tree = inner.tree; means = means_at m at_j inner.means }

    node_carried : {i j : ℕ} {n m : Node} {pairs : List Pair} → NodeTakes was now i n j m pairs → (e f : ℕ)
        → slice_get was.nodes i ≡ Some n → slice_get now.nodes j ≡ Some m → Spans was.nodes i e → Spans now.nodes j f
        → AreEarlier pairs i j → {o : ℕ} {v w : Values} {b : List ℕ} {t : TreeV}
        → AgreeOn pairs v w → NodeMeans was n o v b t → HasNodeTree now m o w b
    node_carried (takes_labelled {i = i} {j = j} {part = part} {label = label} {pairs = pairs} h) e f at_i at_j old new earlier agree (means_named means) =
        let down = below was.nodes i e 0 part (Named label part) at_i old refl in
        let inner = carried h down.end f down.span new (later_still pairs i j part j (omega (arith, down.behind)) (omega arith) earlier) agree means in
        node_tree now at_j inner
    node_carried (takes_by_labelled {i = i} {j = j} {part = part} {label = label} {n = n} {pairs = pairs} not_label h)
        e f at_i at_j old new earlier agree means =
        let down = below now.nodes j f 0 part (Named label part) at_j new refl in
        let inner = carried h e down.end old down.span (later_still pairs i j i part (omega arith)
        (omega (arith, down.behind)) earlier) agree (means_at n at_i means) in
        record { tree = named label inner.tree; means = means_named inner.means }
    node_carried (takes_by_rest {n = n} not_label) e f at_i at_j old new earlier {b = b} agree means =
        record { tree = bits b; means = means_rest (meant_bits was (means_at n at_i means)) }
    node_carried (takes_choice {i = i} {j = j} {parts = parts} {pairs = pairs} other each)
        e f at_i at_j old new earlier agree (means_choice {j = k} {i = p} at means) =
        let down = below was.nodes i e k p (Choice parts) at_i old at in
        let inner = carried (each k p at) down.end f down.span new
        (later_still pairs i j p j (omega (arith, down.behind)) (omega arith) earlier) agree means in
        node_tree now at_j inner
    node_carried (takes_by_choice {i = i} {j = j} {others = others} {n = n} {pairs = pairs} k q other at h) e f at_i at_j old new earlier agree means =
        let down = below now.nodes j f k q (Choice others) at_j new at in
        let inner = carried h e down.end old down.span (later_still pairs i j i q (omega arith)
        (omega (arith, down.behind)) earlier) agree (means_at n at_i means) in
        record { tree = alt k inner.tree; means = means_choice at inner.means }
    node_carried (takes_leaf {n = n} {m = m} h) e f at_i at_j old new earlier agree means = leaf_carried n m h agree means
    node_carried (takes_seq {i = i} {j = j} {pairs = pairs} h) e f at_i at_j old new earlier agree (means_seq means) =
        let inner = parts_carried h e f (span_parts was.nodes at_i old) (span_parts now.nodes at_j new)
        (later_still pairs i j (suc i) (suc j) (omega arith) (omega arith) earlier) agree means in
        record { tree = row inner.trees; means = means_seq inner.means }
    node_carried (takes_times {i = i} {j = j} {p = p} {q = q} {count = count} {taker = taker} {pairs = pairs}
        counts h) e f at_i at_j old new earlier {v = v} {w = w} agree (means_times n is_n means) =
        let many = as_many pairs v w 1 1 n count taker agree counts is_n in
        let down = below was.nodes i e 0 p (Times count p) at_i old refl in
        let across = below now.nodes j f 0 q (Times taker q) at_j new refl in
        let still = later_still pairs i j p q (omega (arith, down.behind)) (omega (arith, across.behind)) earlier in
        let same : n ≡ many.amount = (let equal = many.equal in omega arith) in
        let inner = times_tree was now p q v w (λ place piece tree part. carried h down.end across.end down.span across.span still agree part) means in
        record { tree = row inner.trees; means = means_times n (many.counted ∙ ap (λ k. Some k) (sym same)) inner.means }
    node_carried (takes_many {i = i} {j = j} {p = p} {q = q} {pairs = pairs} h) e f at_i at_j old new earlier {v = v} {w = w} agree (means_many means) =
        let down = below was.nodes i e 0 p (Many p) at_i old refl in
        let across = below now.nodes j f 0 q (Many q) at_j new refl in
        let still = later_still pairs i j p q (omega (arith, down.behind)) (omega (arith, across.behind)) earlier in
        let inner = many_tree was now p q v w (λ place piece tree part. carried h down.end across.end down.span across.span still agree part) means in
        record { tree = row inner.trees; means = means_many inner.means }
    node_carried (takes_trunc h) e f at_i at_j old new earlier agree (means_cut void) = record { tree = row none; means = means_cut void }
    node_carried (takes_trunc {i = i} {j = j} {pairs = pairs} h) e f at_i at_j old new earlier agree (means_trunc means) =
        let inner = lead_carried h e f (span_parts was.nodes at_i old) (span_parts now.nodes at_j new)
        (later_still pairs i j (suc i) (suc j) (omega arith) (omega arith) earlier) agree means in
        record { tree = row inner.trees; means = means_trunc inner.means }
    node_carried (takes_window {i = i} {j = j} {p = p} {q = q} {unit = unit} {other = other} {count = count}
        {taker = taker} {pairs = pairs} counts h) e f at_i at_j old new earlier {v = v} {w = w} agree
        (means_window n is_n wide means) =
        let many = as_many pairs v w unit other n count taker agree counts is_n in
        let down = below was.nodes i e 0 p (Window unit count p) at_i old refl in
        let across = below now.nodes j f 0 q (Window other taker q) at_j new refl in
        let still = later_still pairs i j p q (omega (arith, down.behind)) (omega (arith, across.behind)) earlier in
        let inner = carried h down.end across.end down.span across.span still agree means in
        record { tree = inner.tree; means = means_window many.amount many.counted (wide ∙ many.equal) inner.means }

    parts_carried : {parts others : List ℕ} {pairs : List Pair} → PartsTake was now parts others pairs
        → {at to : ℕ} (e f : ℕ) → PartsSpan was.nodes parts at e → PartsSpan now.nodes others to f
        → AreEarlier pairs at to → {o : ℕ} {v w : Values} {b : List ℕ} {ts : Trees}
        → AgreeOn pairs v w → PartsMean was parts o v b ts → HasParts now others o w b
    parts_carried parts_taken e f old new earlier agree (parts_end void) = record { trees = none; means = parts_end void }
    parts_carried (parts_take {p = p} {q = q} {pairs = pairs} h rest) {at = at} {to = to} e f
        (span_next middle is_at span later) (span_next center is_to wide behind) earlier {v = v} {w = w} agree
        (parts_next b1 b2 cut first others) =
        let here = start pairs at to p q is_at is_to earlier in
        let inner = carried h middle center span wide here agree first in
        let others_tree = parts_carried rest e f later behind (next_earlier was now pairs p q middle center
        (span_grows was.nodes span) (span_grows now.nodes wide) here)
        (next_agree was now pairs p q v w b1 here agree) others in
        record { trees = more inner.tree others_tree.trees; means = parts_next b1 b2 cut inner.means others_tree.means }
    parts_carried (parts_taken_by_rest any) e f old new earlier {o = o} {w = w} {b = b} agree means =
        let inner = any_tree now o w b any (parts_are_bits was means) in
        record { trees = more inner.tree none; means = parts_next b [] (sym (append-nil b)) inner.means (parts_end refl) }

    lead_carried : {parts others : List ℕ} {pairs : List Pair} → LeadTake was now parts others pairs
        → {at to : ℕ} (e f : ℕ) → PartsSpan was.nodes parts at e → PartsSpan now.nodes others to f
        → AreEarlier pairs at to → {o : ℕ} {v w : Values} {b : List ℕ} {ts : Trees}
        → AgreeOn pairs v w → LeadMean was parts o v b ts → HasLead now others o w b
    lead_carried lead_taken e f old new earlier agree means = elim means [ ]
    lead_carried (lead_takes {p = p} {q = q} {pairs = pairs} h rest) {at = at} {to = to} e f
        (span_next middle is_at span later) (span_next center is_to wide behind) earlier {v = v} {w = w} agree
        (lead_last some means) =
        let here = start pairs at to p q is_at is_to earlier in
        let inner = carried h middle center span wide here agree means in
        record { trees = more inner.tree none; means = lead_last some inner.means }
    lead_carried (lead_takes {p = p} {q = q} {pairs = pairs} h rest) {at = at} {to = to} e f
        (span_next middle is_at span later) (span_next center is_to wide behind) earlier {v = v} {w = w} agree
        (lead_next b1 b2 cut first others) =
        let here = start pairs at to p q is_at is_to earlier in
        let inner = carried h middle center span wide here agree first in
        let others_tree = lead_carried rest e f later behind (next_earlier was now pairs p q middle center
        (span_grows was.nodes span) (span_grows now.nodes wide) here)
        (next_agree was now pairs p q v w b1 here agree) others in
        record { trees = more inner.tree others_tree.trees; means = lead_next b1 b2 cut inner.means others_tree.means }

pub blocks_taken : BlocksAreTaken
blocks_taken was now old new readings h b t means =
    let inner = carried was now readings h (length was.nodes) (length now.nodes) old.numbered new.numbered (none_earlier 0 0) (none_agree [] []) means in
    (inner.tree, inner.means)
