-- Where a description has no windows, bits that are followed begin a string: each part that is still to come has one.
use Rattle.std.proofs.Common.{◌≡◌, ℕ, zero, suc, ◌+◌, ◌*◌, true, List, [], ◌∷◌, ◌++◌, length, refl, sym, ◌∙◌, ap}
use Rattle.std.proofs.Common.{subst, arith, append_assoc, append-nil, Some, slice_get}
use Rattle.std.specs.Prelude.{replicate}
use Rattle.std.proofs.lemmas.List.{length-replicate}
use Rattle.csn_bits.proofs.Packing.{IsBits-zeros}
use Rattle.csn_desc.specs.declared.symbol.Symbol.TheVariants.{Low}
use Rattle.csn_desc.specs.declared.node.Node.{Node}
use Rattle.csn_desc.specs.declared.node.Node.TheVariants.{Lits, Spare, Pad, Null, Field, Rest, Seq, Choice, Times, Many, Trunc, Window, Named}
use Rattle.csn_desc.specs.TreeV.{TreeV, row, alt, named, Trees, none, more}
use Rattle.csn_desc.specs.Nodes.{DescV, parts_of}
use Rattle.csn_desc.specs.Spelled.{spelled}
use Rattle.csn_desc.specs.Values.{Values, with_value}
use Rattle.csn_desc.specs.Means.{NMeans, NodeMeans, PartsMean, TimesMean, ManyMean, LeadMean, means_at, means_lits}
use Rattle.csn_desc.specs.Means.{means_spare, means_pad, means_null, means_field, means_rest, means_seq, means_choice}
use Rattle.csn_desc.specs.Means.{means_times, means_many, means_cut, means_trunc, means_named, parts_end, parts_next}
use Rattle.csn_desc.specs.Means.{times_end, times_next, many_end, many_next, lead_last, lead_next}
use Rattle.csn_desc.specs.Follows.{NFollow, NodeFollows, PartsFollow, TimesFollow, ManyFollow, follows_at}
use Rattle.csn_desc.specs.Follows.{follows_whole, follows_lits, follows_spare, follows_pad, follows_field}
use Rattle.csn_desc.specs.Follows.{follows_seq, follows_choice, follows_times, follows_many, follows_trunc}
use Rattle.csn_desc.specs.Follows.{follows_window, follows_named, parts_here, parts_later, times_here, times_later}
use Rattle.csn_desc.specs.Follows.{many_here, many_later}
use Rattle.csn_desc.specs.Formed.{shows_earlier, Formed, PartsFormed, formed, formed_end, formed_next, HaveValues, IsDescription}
use Rattle.csn_desc.proofs.BitFacts.{spelled_is_spare}
use Rattle.csn_desc.proofs.Nodewise.{held_along, choice_formed}
use Rattle.csn_certify.specs.Laws.{HasNoWindow}
use Rattle.csn_certify.specs.Known.{Known}

module _ (d : DescV) where
  -- ---- strings

  record AString (i o : ℕ) (v : Values) : Type 0 where
    word : List ℕ
    tree : TreeV
    means : NMeans d i o v word tree

  record Strings (parts : List ℕ) (o : ℕ) (v : Values) : Type 0 where
    word : List ℕ
    trees : Trees
    means : PartsMean d parts o v word trees

  record Turns (n i o : ℕ) (v : Values) : Type 0 where
    word : List ℕ
    trees : Trees
    means : TimesMean d n i o v word trees

  turns : (n i o : ℕ) (v : Values) → ((p : ℕ) → AString i p v) → Turns n i o v
  turns zero i o v h = record { word = []; trees = none; means = times_end refl refl }
  turns (suc n) i o v h =
      let first = h o in
      let others = turns n i (o + length first.word) v h in
      record {
        word = first.word ++ others.word;
        trees = more first.tree others.trees;
        means = times_next n refl first.word others.word refl first.means others.means;
      }

  at_node : {n : Node} {i o : ℕ} {v : Values} {t : TreeV} (w : List ℕ) → slice_get d.nodes i ≡ Some n → NodeMeans d n o v w t → AString i o v
  at_node {n} {t = t} w at h = record { word = w; tree = t; means = means_at n at h }

  -- ---- followed bits with what makes them a string

  record Extended (i o : ℕ) (v : Values) (b : List ℕ) : Type 0 where
    rest : List ℕ
    tree : TreeV
    means : NMeans d i o v (b ++ rest) tree

  record NodeExtended (n : Node) (o : ℕ) (v : Values) (b : List ℕ) : Type 0 where
    rest : List ℕ
    tree : TreeV
    means : NodeMeans d n o v (b ++ rest) tree

  record PartsExtended (parts : List ℕ) (o : ℕ) (v : Values) (b : List ℕ) : Type 0 where
    rest : List ℕ
    trees : Trees
    means : PartsMean d parts o v (b ++ rest) trees

  record TimesExtended (n i o : ℕ) (v : Values) (b : List ℕ) : Type 0 where
    rest : List ℕ
    trees : Trees
    means : TimesMean d n i o v (b ++ rest) trees

  record ManyExtended (i o : ℕ) (v : Values) (b : List ℕ) : Type 0 where
    rest : List ℕ
    trees : Trees
    means : ManyMean d i o v (b ++ rest) trees

  -- of a truncation: no bits, or its first parts
  data LeadExtended (parts : List ℕ) (o : ℕ) (v : Values) (b : List ℕ) : Type 0 where
    lead_empty : b ≡ [] → LeadExtended parts o v b
    lead_some : {ts : Trees} (rest : List ℕ) → LeadMean d parts o v (b ++ rest) ts → LeadExtended parts o v b

  whole_of : {n : Node} {o : ℕ} {v : Values} {t : TreeV} (b rest : List ℕ) {whole : List ℕ}
      → whole ≡ b ++ rest → NodeMeans d n o v whole t → NodeExtended n o v b
  whole_of {n} {o} {v} {t} b rest is h =
      let P : List ℕ → Type 0 = λ l. NodeMeans d n o v l t in record { rest = rest; tree = t; means = subst P is h }

  -- one turn of a free repetition, where it has a bit
  one_turn : {i o : ℕ} {v : Values} {t : TreeV} (b rest w : List ℕ) → b ++ rest ≡ w → NMeans d i o v (b ++ rest) t → ManyExtended i o v b
  one_turn b rest [] is h = record { rest = rest; trees = none; means = many_end is }
  one_turn {t = t} b rest (a ∷ w) is h =
      let size = ap length is in
      record { rest = rest; trees = more t none; means = many_next (b ++ rest) [] (sym (append-nil (b ++ rest))) (omega arith) h (many_end refl) }

  last_lead : {i o : ℕ} {v : Values} {t : TreeV} (parts b rest w : List ℕ) → b ++ rest ≡ w → NMeans d i o v (b ++ rest) t → LeadExtended (i ∷ parts) o v b
  last_lead parts [] rest [] is h = lead_empty refl
  last_lead parts (x ∷ b) rest [] is h = absurd (cc)
  last_lead parts b rest (a ∷ w) is h = let size = ap length is in lead_some rest (lead_last (omega arith) h)

  next_lead : {i : ℕ} {parts : List ℕ} {o : ℕ} {v : Values} {b : List ℕ} {t : TreeV} (b1 b2 : List ℕ)
      → b ≡ b1 ++ b2 → NMeans d i o v b1 t → LeadExtended parts (o + length b1) (with_value d.nodes i b1 v) b2
      → LeadExtended (i ∷ parts) o v b
  next_lead [] b2 is h (lead_empty nothing) = lead_empty (is ∙ nothing)
  next_lead {i} {o = o} {v = v} {b = b} {t = t} (x ∷ b1) b2 is h (lead_empty nothing) =
      let same : b ++ [] ≡ x ∷ b1 = append-nil b ∙ is ∙ ap (λ l. (x ∷ b1) ++ l) nothing ∙ append-nil (x ∷ b1) in
      let P : List ℕ → Type 0 = λ l. NMeans d i o v l t in
      let size = ap length same in
      lead_some [] (lead_last (omega arith) (subst P (sym same) h))
  next_lead b1 b2 is h (lead_some rest others) =
      lead_some rest (lead_next b1 (b2 ++ rest) (ap (λ l. l ++ rest) is ∙ append_assoc b1 b2 rest) h others)

  lead_node : {parts : List ℕ} {o : ℕ} {v : Values} {b : List ℕ} → LeadExtended parts o v b → NodeExtended (Trunc parts) o v b
  lead_node (lead_empty nothing) = record { rest = []; tree = row none; means = means_cut (ap (λ l. l ++ []) nothing) }
  lead_node (lead_some {ts = ts} rest h) = record { rest = rest; tree = row ts; means = means_trunc h }

module _ (known : Known) (d : DescV) (no_window : HasNoWindow d) where
  mutual
    has_string : {seen : List ℕ} {round i : ℕ} (o : ℕ) (v : Values) → HaveValues v seen → Formed d.nodes seen round i → AString d i o v
    has_string o v values (formed (Lits run) at few head have room held) = at_node d (spelled run o) at (means_lits refl)
    has_string o v values (formed (Spare s) at few head have room held) = at_node d (spelled (s ∷ []) o) at (means_spare refl (spelled_is_spare d.reading s o))
    has_string o v values (formed Pad at few head have room held) = at_node d (spelled (Low ∷ []) o) at
        (means_pad (omega arith) (spelled_is_spare d.reading Low o))
    has_string o v values (formed Null at few head have room held) = at_node d [] at (means_null refl)
    has_string {seen = seen} o v values (formed (Field unit count) at few head have room held) =
        let c = known.counts d.nodes seen v count values head.1 in
        at_node d (replicate (unit * c.0) 0) at (means_field c.0 c.1 (length-replicate (unit * c.0) 0) (IsBits-zeros (unit * c.0)))
    has_string o v values (formed Rest at few head have room held) = at_node d [] at (means_rest tt)
    has_string o v values (formed (Seq parts) at few head have room held) =
        let h = has_strings o v values held in at_node d h.word at (means_seq h.means)
    has_string o v values (formed (Choice []) at few head have room held) = absurd (omega arith)
    has_string o v values (formed (Choice (p ∷ ps)) at few head have room (formed_next first others)) =
        let h = has_string o v values first in at_node d h.word at (means_choice {j = 0} refl h.means)
    has_string {seen = seen} o v values (formed (Times count p) at few head have room (formed_next first others)) =
        let c = known.counts d.nodes seen v count values head in
        let h = turns d c.0 p o v (λ q. has_string q v values first) in
        at_node d h.word at (means_times c.0 c.1 h.means)
    has_string o v values (formed (Many p) at few head have room held) = at_node d [] at (means_many (many_end refl))
    has_string o v values (formed (Trunc parts) at few head have room held) = at_node d [] at (means_cut refl)
    has_string {i = i} o v values (formed (Window unit count p) at few head have room held) = absurd (no_window i unit p count at)
    has_string o v values (formed (Named label p) at few head have room (formed_next first others)) =
        let h = has_string o v values first in at_node d h.word at (means_named h.means)

    has_strings : {seen : List ℕ} {round : ℕ} {parts : List ℕ} (o : ℕ) (v : Values)
        → HaveValues v seen → PartsFormed d.nodes true seen round parts → Strings d parts o v
    has_strings o v values formed_end = record { word = []; trees = none; means = parts_end refl }
    has_strings {seen = seen} o v values (formed_next {i = i} first others) =
        let h = has_string o v values first in
        let hs = has_strings (o + length h.word) (with_value d.nodes i h.word v) (known.there d.nodes i v h.word seen values) others in
        record {
          word = h.word ++ hs.word;
          trees = more h.tree hs.trees;
          means = parts_next h.word hs.word refl h.means hs.means;
        }

  mutual
    extend : {seen : List ℕ} {round i o : ℕ} {b : List ℕ} (v : Values)
        → HaveValues v seen → Formed d.nodes seen round i → NFollow d i o v b → Extended d i o v b
    extend {i = i} v values (formed n at few head have room held) (follows_at m is h) =
        let same : n ≡ m = cc in
        let e = node_extend i v values is (held_along d.nodes same held) h in
        record { rest = e.rest; tree = e.tree; means = means_at m is e.means }

    node_extend : {seen : List ℕ} {round o : ℕ} {n : Node} {b : List ℕ} (i : ℕ) (v : Values)
        → HaveValues v seen → slice_get d.nodes i ≡ Some n → PartsFormed d.nodes (shows_earlier n) seen round
        (parts_of n) → NodeFollows d n o v b → NodeExtended d n o v b
    node_extend {b = b} i v values at held (follows_whole t h) = whole_of d b [] (sym (append-nil b)) h
    node_extend {b = b} i v values at held (follows_lits whole rest is h) = whole_of d b rest is h
    node_extend {b = b} i v values at held (follows_spare whole rest is h) = whole_of d b rest is h
    node_extend {b = b} i v values at held (follows_pad whole rest is h) = whole_of d b rest is h
    node_extend {b = b} i v values at held (follows_field whole rest is h) = whole_of d b rest is h
    node_extend i v values at held (follows_seq h) = let e = parts_extend v values held h in
        record { rest = e.rest; tree = row e.trees; means = means_seq e.means }
    node_extend i v values at held (follows_choice {i = p} j is h) =
        let e = extend v values (choice_formed d.nodes j p held is) h in record { rest = e.rest; tree = alt j e.tree; means = means_choice is e.means }
    node_extend i v values at (formed_next first others) (follows_times n counts h) =
        let e = times_extend v values first h in record { rest = e.rest; tree = row e.trees; means = means_times n counts e.means }
    node_extend i v values at (formed_next first others) (follows_many h) =
        let e = many_extend v values first h in record { rest = e.rest; tree = row e.trees; means = means_many e.means }
    node_extend i v values at held (follows_trunc h) = lead_node d (lead_extend v values held h)
    node_extend i v values at held (follows_window {unit = unit} {count = count} {i = p} n counts few h) = absurd (no_window i unit p count at)
    node_extend i v values at (formed_next first others) (follows_named {label = label} h) =
        let e = extend v values first h in record { rest = e.rest; tree = named label e.tree; means = means_named e.means }

    parts_extend : {seen : List ℕ} {round o : ℕ} {parts b : List ℕ} (v : Values)
        → HaveValues v seen → PartsFormed d.nodes true seen round parts → PartsFollow d parts o v b
        → PartsExtended d parts o v b
    parts_extend v values formed_end h = elim h [ ]
    parts_extend {seen = seen} {o = o} {b = b} v values (formed_next {i = i} first others) (parts_here h) =
        let e = extend v values first h in
        let front = b ++ e.rest in
        let hs = has_strings (o + length front) (with_value d.nodes i front v) (known.there d.nodes i v front seen values) others in
        record {
          rest = e.rest ++ hs.word;
          trees = more e.tree hs.trees;
          means = parts_next front hs.word (sym (append_assoc b e.rest hs.word)) e.means hs.means;
        }
    parts_extend {seen = seen} v values (formed_next {i = i} first others) (parts_later {t = t} b1 b2 is h hs) =
        let e = parts_extend (with_value d.nodes i b1 v) (known.there d.nodes i v b1 seen values) others hs in
        record {
          rest = e.rest;
          trees = more t e.trees;
          means = parts_next b1 (b2 ++ e.rest) (ap (λ l. l ++ e.rest) is ∙ append_assoc b1 b2 e.rest) h e.means;
        }

    times_extend : {seen : List ℕ} {round n i o : ℕ} {b : List ℕ} (v : Values)
        → HaveValues v seen → Formed d.nodes seen round i → TimesFollow d n i o v b → TimesExtended d n i o v b
    times_extend {n = zero} v values first (times_here some h) = absurd (omega arith)
    times_extend {n = suc m} {i = i} {o = o} {b = b} v values first (times_here some h) =
        let e = extend v values first h in
        let front = b ++ e.rest in
        let hs = turns d m i (o + length front) v (λ q. has_string q v values first) in
        record {
          rest = e.rest ++ hs.word;
          trees = more e.tree hs.trees;
          means = times_next m refl front hs.word (sym (append_assoc b e.rest hs.word)) e.means hs.means;
        }
    times_extend v values first (times_later {t = t} m over b1 b2 is h hs) =
        let e = times_extend v values first hs in
        record {
          rest = e.rest;
          trees = more t e.trees;
          means = times_next m over b1 (b2 ++ e.rest) (ap (λ l. l ++ e.rest) is ∙ append_assoc b1 b2 e.rest) h e.means;
        }

    many_extend : {seen : List ℕ} {round i o : ℕ} {b : List ℕ} (v : Values)
        → HaveValues v seen → Formed d.nodes seen round i → ManyFollow d i o v b → ManyExtended d i o v b
    many_extend {b = b} v values first (many_here h) = let e = extend v values first h in one_turn d b e.rest (b ++ e.rest) refl e.means
    many_extend v values first (many_later {t = t} b1 b2 is some h hs) =
        let e = many_extend v values first hs in
        record {
          rest = e.rest;
          trees = more t e.trees;
          means = many_next b1 (b2 ++ e.rest) (ap (λ l. l ++ e.rest) is ∙ append_assoc b1 b2 e.rest) some h e.means;
        }

    lead_extend : {seen : List ℕ} {round o : ℕ} {parts b : List ℕ} (v : Values)
        → HaveValues v seen → PartsFormed d.nodes true seen round parts → PartsFollow d parts o v b
        → LeadExtended d parts o v b
    lead_extend v values formed_end h = elim h [ ]
    lead_extend {b = b} v values (formed_next {parts = parts} first others) (parts_here h) =
        let e = extend v values first h in last_lead d parts b e.rest (b ++ e.rest) refl e.means
    lead_extend {seen = seen} v values (formed_next {i = i} first others) (parts_later b1 b2 is h hs) =
        next_lead d b1 b2 is h (lead_extend (with_value d.nodes i b1 v) (known.there d.nodes i v b1 seen values) others hs)

pub string_of : Known → (d : DescV) → IsDescription d → HasNoWindow d → {b : List ℕ}
    → NFollow d 0 0 [] b → (rest : List ℕ) × (t : TreeV) × NMeans d 0 0 [] (b ++ rest) t
string_of known d is no_window h = let e = extend known d no_window [] (known.no_values d).0 is.well_formed h in (e.rest, e.tree, e.means)
