-- A label that counts stand on is a part of a sequence or truncation.
use Rattle.std.proofs.Common.{◌≡◌, ℕ, suc, ◌<◌, ◌≤◌, inl, inr, Bool, true, false, if◌then◌else◌, eqb-true, List, []}
use Rattle.std.proofs.Common.{◌∷◌, ◌++◌, length, refl, sym, ◌∙◌, ap, subst, arith, append_assoc, Option, Some}
use Rattle.std.proofs.Common.{slice_get, Contains}
use Rattle.std.proofs.lemmas.Bool.Decides.{leb_tells}
use Rattle.std.proofs.lemmas.Option.{slice_get_within}
use Rattle.csn_desc.specs.declared.node.Count.{Count}
use Rattle.csn_desc.specs.declared.node.Count.TheVariants.{Fixed, Counted as CountedBy}
use Rattle.csn_desc.specs.declared.node.Node.{Node}
use Rattle.csn_desc.specs.declared.node.Node.TheVariants.{Lits, Spare, Pad, Null, Field, Rest, Seq, Choice, Times, Many, Trunc, Window, Named}
use Rattle.csn_desc.specs.Nodes.{DescV, head_of, parts_of}
use Rattle.csn_desc.specs.Values.{Values, is_named}
use Rattle.csn_desc.specs.Formed.{is_counted, counts_on, node_counts_on, shows_earlier, with_seen, Spans, PartsSpan}
use Rattle.csn_desc.specs.Formed.{spans, span_end, span_next, IsCount, IsHead, Formed, PartsFormed, formed}
use Rattle.csn_desc.specs.Formed.{formed_next, IsDescription}
use Rattle.csn_desc.proofs.Numbering.{part_from, span_inside}
use Rattle.csn_desc.proofs.Parents.{one_parent}
use Rattle.csn_certify.proofs.CountedValues.{contains_cases, counter, formed_head}
use Rattle.csn_judge.specs.Left.{Left}
use Rattle.csn_judge.specs.Inside.{Inside, inside_none, inside_choice, inside_label, inside_window, inside_parts, inside_turns, inside_free, inside_lead}
use Rattle.csn_judge.specs.Shown.{BeganAt, began_part, began_lead}

module _ (nodes : List Node) where
  -- node i is a part of a node whose later parts see the earlier ones
  pub record ShownBy (i : ℕ) : Type 0 where
    pub parent : ℕ
    pub place : ℕ
    pub node : Node
    pub at : slice_get nodes parent ≡ Some node
    pub shows : shows_earlier node ≡ true
    pub part : slice_get (parts_of node) place ≡ Some i

  abbrev AllShown : List ℕ → Type 0
  AllShown seen = (i : ℕ) → Contains seen i → ShownBy i

  record Placed (k : ℕ) : Type 0 where
    pub seen : List ℕ
    pub round : ℕ
    pub is : Formed nodes seen round k
    pub shown : AllShown seen

  none_shown : AllShown []
  none_shown i h = absurd (omega (arith, h.1))

  more_shown : (i : ℕ) (seen : List ℕ) → ShownBy i → AllShown seen → AllShown (i ∷ seen)
  more_shown i seen shown all j h = elim (contains_cases i seen j h) [
    | inl same ↦ let P : ℕ → Type 0 = λ k. ShownBy k in subst P same shown
    | inr later ↦ all j later
  ]

  seen_shown : (i : ℕ) (seen : List ℕ) (shows : Bool) → (shows ≡ true → ShownBy i) → AllShown seen → AllShown (with_seen nodes shows i seen)
  seen_shown i seen false by all = all
  seen_shown i seen true by all = named (is_named nodes i)
    where
      named : (labelled : Bool) → AllShown (if labelled then i ∷ seen else seen)
      named true = more_shown i seen (by refl) all
      named false = all

  part_at : (before : List ℕ) (i : ℕ) (after : List ℕ) → slice_get (before ++ i ∷ after) (length before) ≡ Some i
  part_at [] i after = refl
  part_at (x ∷ before) i after = part_at before i after

  mutual
    placed : {i end : ℕ} {seen : List ℕ} {round : ℕ} (k : ℕ) → Spans nodes i end → Formed nodes seen round i → AllShown seen → i ≤ k → k < end → Placed k
    placed {i = i} {end = end} {seen = seen} {round = round} k (spans n at parts) (formed m is few head have room others) shown from within =
        elim (leb_tells k i) [
          | inl low ↦
              let same : i ≡ k = omega (arith, low.1) in
              let P : ℕ → Type 0 = λ j. Formed nodes seen round j in
              record { seen = seen; round = round; is = subst P same (formed m is few head have room others); shown = shown }
          | inr high ↦
              let same : n ≡ m = cc in
              let P : Node → Type 0 = λ x. PartsSpan nodes (parts_of x) (suc i) end in
              parts_placed i k m is [] (parts_of m) refl refl (subst P same parts) others shown (omega (arith, high.1)) within
        ]

    parts_placed : (K : ℕ) {at end : ℕ} {shows : Bool} {seen : List ℕ} {round : ℕ} (k : ℕ) (n : Node)
        → slice_get nodes K ≡ Some n → (before parts : List ℕ) → parts_of n ≡ before ++ parts
        → shows ≡ shows_earlier n → PartsSpan nodes parts at end → PartsFormed nodes shows seen round parts → AllShown seen → at ≤ k → k < end → Placed k
    parts_placed K k n look before [] split same (span_end e) others shown from within = absurd (omega (arith, e))
    parts_placed K {shows = shows} {seen = seen} k n look before (i ∷ parts) split same (span_next middle e h others)
        (formed_next first rest) shown from within =
        let own : shows ≡ true → ShownBy i = λ e. record {
          parent = K;
          place = length before;
          node = n;
          at =
              look;
          shows = sym same ∙ e;
          part = ap (λ l. slice_get l (length before)) split
              ∙ part_at before i parts;
        } in
        elim (leb_tells middle k) [
          | inl behind ↦ parts_placed K k n look (before ++ i ∷ []) parts
              (split ∙ sym (append_assoc before (i ∷ []) parts)) same others rest (seen_shown i seen shows own shown)
              behind.1 within
          | inr inside ↦ placed k h first shown (omega (arith, e, from)) inside.1
        ]

  -- a count sees its field
  count_sees : (seen : List ℕ) (k : ℕ) (count : Count) → counts_on k count ≡ true → IsCount nodes seen count → Contains seen k
  count_sees seen k (Fixed n) counts is = absurd (cc)
  count_sees seen k (CountedBy m field c) counts is =
      let same : field ≡ k = eqb-true field k counts in
      let P : ℕ → Type 0 = λ j. Contains seen j in
      subst P same is.2

  node_sees : (seen : List ℕ) (k : ℕ) (n : Node) → node_counts_on k n ≡ true → IsHead nodes seen (head_of n) → Contains seen k
  node_sees seen k (Field unit count) counts is = count_sees seen k count counts is.1
  node_sees seen k (Times count part) counts is = count_sees seen k count counts is
  node_sees seen k (Window unit count part) counts is = count_sees seen k count counts is.1
  node_sees seen k (Lits run) counts is = absurd (cc)
  node_sees seen k (Spare symbol) counts is = absurd (cc)
  node_sees seen k Pad counts is = absurd (cc)
  node_sees seen k Null counts is = absurd (cc)
  node_sees seen k Rest counts is = absurd (cc)
  node_sees seen k (Seq parts) counts is = absurd (cc)
  node_sees seen k (Choice parts) counts is = absurd (cc)
  node_sees seen k (Many part) counts is = absurd (cc)
  node_sees seen k (Trunc parts) counts is = absurd (cc)
  node_sees seen k (Named label part) counts is = absurd (cc)

  part_rises : {K end : ℕ} (n : Node) (place i : ℕ) → slice_get nodes K ≡ Some n → Spans nodes K end → slice_get (parts_of n) place ≡ Some i → K < i
  part_rises {K} {end} n place i at (spans m look parts) get =
      let same : m ≡ n = cc in
      let P : Node → Type 0 = λ x. PartsSpan nodes (parts_of x) (suc K) end in
      omega (arith, part_from nodes place i (subst P same parts) get)

module _ (d : DescV) (is : IsDescription d) where
  pub counted_shown : (i : ℕ) → is_counted d.nodes i ≡ true → ShownBy d.nodes i
  counted_shown i counted =
      let c = counter (node_counts_on i) d.nodes counted in
      let p = placed d.nodes c.at is.numbered is.well_formed (none_shown d.nodes) (omega arith) (slice_get_within d.nodes c.at c.node c.look) in
      p.shown i (node_sees d.nodes p.seen i c.node c.holds (formed_head d c.node c.look p.is))

  other_parent : {i : ℕ} (k j : ℕ) {n : Node} → is_counted d.nodes i ≡ true → slice_get d.nodes k ≡ Some n
      → slice_get (parts_of n) j ≡ Some i → shows_earlier n ≡ false → ⊥
  other_parent {i} k j {n} counted at part hides =
      let s = counted_shown i counted in
      let same = one_parent d k s.parent j s.place i n s.node is at s.at part s.part in
      let look : slice_get d.nodes k ≡ Some s.node = ap (λ x. slice_get d.nodes x) same.0 ∙ s.at in
      let shows = s.shows in
      let node : n ≡ s.node = cc in
      let contrary : shows_earlier n ≡ true = ap (λ x. shows_earlier x) node ∙ shows in
      absurd (cc)

  -- the root is a part of none
  root_alone : {i : ℕ} → ShownBy d.nodes i → i ≡ 0 → ⊥
  root_alone {i} s root =
      let inner = span_inside d.nodes s.parent is.numbered (omega arith) (slice_get_within d.nodes s.parent s.node s.at) in
      absurd (omega (arith, root, part_rises d.nodes s.node s.place i s.at inner.span s.part))

  -- it begins inside one
  pub counted_began : {fresh : Option ℕ} {outer : List Left} {i from : ℕ} {v : Values}
      → is_counted d.nodes i ≡ true → Inside d fresh outer i from v → BeganAt d i from outer
  counted_began counted (inside_none none root start sees) = absurd (root_alone (counted_shown _ counted) root)
  counted_began counted (inside_choice k j parts at here ready inner) = absurd (other_parent k j counted at here refl)
  counted_began counted (inside_label k at ready inner) = absurd (other_parent k 0 counted at refl refl)
  counted_began counted (inside_window k n at counts end ready inner) = absurd (other_parent k 0 counted at refl refl)
  counted_began counted (inside_parts k start v0 parts before at split so_far order none fits well ready0 inner) = began_part
  counted_began counted (inside_turns k start at turn order none ready was turns inner) = absurd (other_parent k 0 counted at refl refl)
  counted_began counted (inside_free k start at so_far order ready was turns inner) = absurd (other_parent k 0 counted at refl refl)
  counted_began counted (inside_lead k start v0 parts before at split so_far order fits well ready0 inner) = began_lead
