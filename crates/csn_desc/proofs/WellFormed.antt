-- Nodes that are laid out behind one another are numbered through and well formed, and the other way round.
-- Other crates cite this.
use Rattle.std.proofs.Common.{◌≡◌, ℕ, zero, suc, ◌<◌, ◌≤◌, Bool, List, [], length, refl, sym, subst, arith, Some, inl, inr}
use Rattle.std.specs.Prelude.{slice_get}
use Rattle.std.proofs.lemmas.Bool.{cases_order, cases_lt}
use Rattle.std.proofs.lemmas.Option.{slice_get_within}
use Rattle.csn_desc.specs.declared.node.Node.{Node}
use Rattle.csn_desc.specs.Nodes.{head_of, parts_of}
use Rattle.csn_desc.specs.Formed.{IsHead, HasParts, shows_earlier, Spans, PartsSpan, spans, span_end, span_next}
use Rattle.csn_desc.specs.Overfull.{PartSees, part_here, part_later, Sees, sees_none, sees_parts}
use Rattle.csn_desc.specs.Laid.{Laid, PartsLaid, laid, laid_end, laid_next}
use Rattle.csn_desc.specs.WellFormed.{IsInside, inside_none, inside_one, AreWellFormed}
use Rattle.csn_desc.proofs.Numbering.{span_grows, parts_span_grow}

module _ (nodes : List Node) where
  mutual
    pub laid_spans : {seen : List ℕ} {round i end : ℕ} → Laid nodes seen round i end → Spans nodes i end
    laid_spans (laid n at deep head has parts) = spans n at (parts_laid_span parts)

    pub parts_laid_span : {shows : Bool} {seen : List ℕ} {round at end : ℕ} {parts : List ℕ}
        → PartsLaid nodes shows seen round parts at end → PartsSpan nodes parts at end
    parts_laid_span (laid_end e) = span_end e
    parts_laid_span (laid_next middle e h rest) = span_next middle e (laid_spans h) (parts_laid_span rest)

  pub laid_behind : {seen : List ℕ} {round i end : ℕ} → Laid nodes seen round i end → i < end
  laid_behind h = span_grows nodes (laid_spans h)

  pub laid_deep : {seen : List ℕ} {round i end : ℕ} → Laid nodes seen round i end → round < 64
  laid_deep (laid n at deep head has parts) = deep

  pub parts_behind : {shows : Bool} {seen : List ℕ} {round at end : ℕ} {parts : List ℕ} → PartsLaid nodes shows seen round parts at end → at ≤ end
  parts_behind h = parts_span_grow nodes (parts_laid_span h)

  -- ---- well-formed nodes that are numbered through are laid out

  mutual
    laid_from : {i end : ℕ} (seen : List ℕ) (round : ℕ) → AreWellFormed nodes → Sees nodes i seen
        → IsInside nodes i round → Spans nodes i end → Laid nodes seen round i end
    laid_from {i = i} seen round well sees inside (spans n at parts) =
        laid n at (well.deep i round inside) (well.heads i n seen at sees) (well.parts i n at)
        (parts_from (shows_earlier n) seen (suc round) well (λ k shown p. sees_parts n at sees p) (λ j k get. inside_one i round j n at get inside refl) parts)

    parts_from :
        {parts : List ℕ} {at end : ℕ} (shows : Bool) (seen : List ℕ) (round : ℕ) → AreWellFormed nodes
        → ((k : ℕ) (shown : List ℕ) → PartSees nodes shows seen parts k shown → Sees nodes k shown)
        → ((j k : ℕ) → slice_get parts j ≡ Some k → IsInside nodes k round)
        → PartsSpan nodes parts at end → PartsLaid nodes shows seen round parts at end
    parts_from shows seen round well sees inside (span_end e) = laid_end e
    parts_from shows seen round well sees inside (span_next {i = i} middle e h rest) =
        laid_next middle e (laid_from seen round well (sees i seen (part_here refl refl)) (inside 0 i refl) h)
        (parts_from shows _ round well (λ k shown p. sees k shown (part_later p)) (λ j k get. inside (suc j) k get) rest)

  pub laid_out : {end : ℕ} → AreWellFormed nodes → Spans nodes 0 end → Laid nodes [] 0 0 end
  laid_out well h = laid_from [] 0 well (sees_none refl refl) (inside_none refl refl) h

  -- ---- nodes that are laid out are well formed

  -- node i is laid out where it sees `seen`
  record LaidSeeing (i : ℕ) (seen : List ℕ) : Type 0 where
    round : ℕ
    end : ℕ
    is : Laid nodes seen round i end

  -- node i is laid out inside `round` others
  record LaidInside (i round : ℕ) : Type 0 where
    seen : List ℕ
    end : ℕ
    is : Laid nodes seen round i end

  seeing_part : {shows : Bool} {seen shown parts : List ℕ} {round at end k : ℕ}
      → PartSees nodes shows seen parts k shown → PartsLaid nodes shows seen round parts at end → LaidSeeing k shown
  seeing_part {round = round} {k = k} (part_here {round = seen} {seen = shown} e f) (laid_next {i = i} middle g h rest) =
      let P : ℕ → Type 0 = λ j. Laid nodes seen round j middle in
      let Q : List ℕ → Type 0 = λ l. Laid nodes l round k middle in
      record { round = round; end = middle; is = subst Q (sym f) (subst P e h) }
  seeing_part (part_later p) (laid_next middle g h rest) = seeing_part p rest

  seeing_inner : {i above : ℕ} {seen shown : List ℕ} (n : Node) → slice_get nodes above ≡ Some n
      → PartSees nodes (shows_earlier n) seen (parts_of n) i shown → LaidSeeing above seen → LaidSeeing i shown
  seeing_inner {i = i} {above = above} {seen = seen} {shown = shown} n at p around = inner around.is
    where
      inner : {round end : ℕ} → Laid nodes seen round above end → LaidSeeing i shown
      inner (laid m is deep head has parts) =
          let same : n ≡ m = cc (at, is) in
          let P : Node → Type 0 = λ k. PartSees nodes (shows_earlier k) seen (parts_of k) i shown in
          seeing_part (subst P same p) parts

  seeing : {end i : ℕ} {shown : List ℕ} → Laid nodes [] 0 0 end → Sees nodes i shown → LaidSeeing i shown
  seeing {end = end} {i = i} all (sees_none e f) =
      let P : ℕ → Type 0 = λ j. Laid nodes [] 0 j end in
      let Q : List ℕ → Type 0 = λ l. Laid nodes l 0 i end in
      record { round = 0; end = end; is = subst Q (sym f) (subst P (sym e) all) }
  seeing all (sees_parts n at s p) = seeing_inner n at p (seeing all s)

  -- what sees something is a node
  pub sees_within : {end i : ℕ} {shown : List ℕ} → Laid nodes [] 0 0 end → Sees nodes i shown → i < length nodes
  sees_within {i = i} all h = within (seeing all h).is
    where
      within : {seen : List ℕ} {round end : ℕ} → Laid nodes seen round i end → i < length nodes
      within (laid n at deep head has parts) = slice_get_within nodes i n at

  inside_part : {shows : Bool} {seen parts : List ℕ} {round at end : ℕ} (j k : ℕ)
      → slice_get parts j ≡ Some k → PartsLaid nodes shows seen round parts at end → LaidInside k round
  inside_part j k get (laid_end e) = cc
  inside_part {round = round} zero k get (laid_next {seen = seen} {i = i} middle e h rest) =
      let same : i ≡ k = cc in
      let P : ℕ → Type 0 = λ m. Laid nodes seen round m middle in
      record { seen = seen; end = middle; is = subst P same h }
  inside_part (suc j) k get (laid_next middle e h rest) = inside_part j k get rest

  inside_inner : {i above around : ℕ} (j : ℕ) (n : Node) → slice_get nodes above ≡ Some n
      → slice_get (parts_of n) j ≡ Some i → LaidInside above around → LaidInside i (suc around)
  inside_inner {i = i} {above = above} {around = around} j n at get h = inner h.is
    where
      inner : {seen : List ℕ} {end : ℕ} → Laid nodes seen around above end → LaidInside i (suc around)
      inner (laid m is deep head has parts) =
          let same : n ≡ m = cc (at, is) in
          let P : Node → Type 0 = λ k. slice_get (parts_of k) j ≡ Some i in
          inside_part j i (subst P same get) parts

  inside : {end i round : ℕ} → Laid nodes [] 0 0 end → IsInside nodes i round → LaidInside i round
  inside {end = end} {i = i} all (inside_none e f) =
      let P : ℕ → Type 0 = λ j. Laid nodes [] 0 j end in
      let Q : ℕ → Type 0 = λ r. Laid nodes [] r i end in
      record { seen = []; end = end; is = subst Q (sym f) (subst P (sym e) all) }
  inside {i = i} all (inside_one above around j n at get h e) =
      let P : ℕ → Type 0 = λ r. LaidInside i r in subst P (sym e) (inside_inner j n at get (inside all h))

  abbrev HasItsParts : Node → Type 0
  HasItsParts n = HasParts (head_of n) (length (parts_of n))

  mutual
    has_parts : {seen : List ℕ} {round i end : ℕ} (k : ℕ) (n : Node) → Laid nodes seen round i end → i ≤ k → k < end
        → slice_get nodes k ≡ Some n → HasItsParts n
    has_parts {i = i} k n (laid m at deep head has parts) low high get =
        elim (cases_order i k) [
          | inl same ↦ (let one : m ≡ n = cc (at, get, same) in let P : Node → Type 0 = λ q. HasItsParts q in subst P one has)
          | inr order ↦ elim order [
            | inl later ↦ have_parts k n parts (omega arith) high get
            | inr earlier ↦ absurd (omega arith)
          ]
        ]

    have_parts : {shows : Bool} {seen parts : List ℕ} {round at end : ℕ} (k : ℕ) (n : Node)
        → PartsLaid nodes shows seen round parts at end → at ≤ k → k < end → slice_get nodes k ≡ Some n
        → HasItsParts n
    have_parts k n (laid_end e) low high get = absurd (omega arith)
    have_parts k n (laid_next middle e h rest) low high get =
        elim (cases_lt k middle) [
          | inl before ↦ has_parts k n h (omega arith) before get
          | inr behind ↦ have_parts k n rest behind high get
        ]

  pub well_formed : Laid nodes [] 0 0 (length nodes) → AreWellFormed nodes
  well_formed all =
      record {
        heads = λ i n seen at sees. head_is n at (seeing all sees).is;
        parts = λ i n at. has_parts i n all (omega arith) (slice_get_within nodes i n at) at;
        deep = λ i round h. laid_deep (inside all h).is;
      }
    where
      head_is : {seen : List ℕ} {round i end : ℕ} (n : Node) → slice_get nodes i ≡ Some n → Laid nodes seen round i end → IsHead nodes seen (head_of n)
      head_is {seen} n at (laid m is deep head has parts) =
          let same : m ≡ n = cc (at, is) in let P : Node → Type 0 = λ k. IsHead nodes seen (head_of k) in subst P same head
