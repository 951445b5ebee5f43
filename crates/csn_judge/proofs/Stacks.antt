-- The nodes that are open stay where they are: what is kept by each step.
use Rattle.std.proofs.Common.{◌≡◌, ℕ, zero, suc, ◌+◌, ◌*◌, ◌%◌, ◌<◌, ◌≤◌, ◌⊎◌, inl, inr, Bool, true, false, List, []}
use Rattle.std.proofs.Common.{◌∷◌, ◌++◌, length, drop, refl, sym, ◌∙◌, ap, subst, arith, append_assoc, mul-suc}
use Rattle.std.proofs.Common.{Option, Some, None, option_map, slice_get}
use Rattle.csn_bits.specs.Octets.{IsBits}
use Rattle.csn_desc.specs.declared.symbol.Symbol.{Symbol}
use Rattle.csn_desc.specs.declared.node.Count.{Count}
use Rattle.csn_desc.specs.declared.node.Count.TheVariants.{Fixed, Counted}
use Rattle.csn_desc.specs.declared.node.Node.{Node}
use Rattle.csn_desc.specs.declared.node.Node.TheVariants.{Lits, Spare, Pad, Null, Field, Rest, Seq, Choice, Times, Many, Trunc, Window, Named}
use Rattle.csn_desc.specs.Nodes.{DescV, parts_of}
use Rattle.csn_desc.specs.Values.{Values, value_of, count_of}
use Rattle.csn_desc.specs.Formed.{width_of, with_seen, Formed, Spans, PartsSpan, span_next, PartsFormed, FitWidths, IsDescription}
use Rattle.std.proofs.lemmas.Bool.Decides.{leb_tells}
use Rattle.std.proofs.lemmas.Option.{slice_get_within}
use Rattle.csn_desc.specs.Laws.{NodesAreWellFormed}
use Rattle.csn_desc.proofs.Empties.{nothing_seen}
use Rattle.csn_desc.proofs.Nodewise.{parts_formed, first_formed, rest_formed, choice_formed}
use Rattle.csn_desc.proofs.Placed.{node_placed}
use Rattle.csn_desc.proofs.ValuesKept.{no_values_fit, fits_kept}
use Rattle.csn_desc.proofs.Numbering.{span_grows, parts_span_grow, part_from, span_inside, span_parts}
use Rattle.csn_look.specs.Nullable.{Nullable, nullable_null, nullable_rest, nullable_many}
use Rattle.csn_look.specs.Nullable.{nullable_trunc, nullable_field, nullable_no_times, nullable_window, nullable_seq}
use Rattle.csn_look.specs.Nullable.{nullable_choice, nullable_named, AllNullable, all_end, all_next}
use Rattle.csn_look.specs.Ends.{InEnds, ends_lits, ends_spare, ends_null, ends_pad, ends_rest, ends_field}
use Rattle.csn_look.specs.Ends.{ends_window, ends_seq, ends_choice, ends_times, ends_counted, ends_many, ends_trunc}
use Rattle.csn_look.specs.Ends.{ends_named, PartsEnd, parts_end, parts_next, TimesEnd, ManyEnd, many_end, LeadEnd}
use Rattle.csn_look.specs.Ends.{lead_end, lead_next}
use Rattle.csn_look.specs.Reached.{Reached, Turn, turn_fixed, turn_counted}
use Rattle.csn_look.proofs.Meaning.LeastSets.{nullable_at, ends_at}
use Rattle.csn_look.proofs.Meaning.ReachFacts.{parts_end_more, many_end_more, turn_first, turn_next, seq_reached}
use Rattle.csn_look.proofs.Meaning.ReachFacts.{lead_reached, choice_reached, window_reached, named_reached}
use Rattle.csn_look.proofs.Meaning.ReachFacts.{many_reached, turn_reached}
use Rattle.csn_look.proofs.Meaning.FollowFacts.{cuts}
use Rattle.csn_look.proofs.Meaning.ShapeFacts.{CountIs, NodeIs, shaped, may_count}
use Rattle.csn_certify.specs.declared.conflict.Conflict.TheVariants.{NotFirm}
use Rattle.csn_certify.specs.Conflicts.{times_not_firm, many_not_firm, Certified}
use Rattle.csn_certify.specs.CountedValues.{fields_of}
use Rattle.csn_certify.proofs.CountedValues.{fields_behind}
use Rattle.csn_judge.specs.Left.{Left, all_left, bits_left, symbols_left, spare_left, pad_left, rest_left}
use Rattle.csn_judge.specs.Left.{choice_left, none_left, window_left, parts_left, turns_left, free_left, cut_left}
use Rattle.csn_judge.specs.Left.{lead_left, behind}
use Rattle.csn_judge.specs.Inside.{IsReady, Inside, inside_none, inside_choice, inside_label, inside_window}
use Rattle.csn_judge.specs.Inside.{inside_parts, inside_turns, inside_free, inside_lead, IsRead, IsFresh, fresh_as}
use Rattle.csn_judge.specs.Inside.{fresh_turn, UpTo, of_all, of_field, of_literal, of_spare, of_pad, of_rest, of_read}
use Rattle.csn_judge.specs.Inside.{of_choice, of_window, of_parts, of_turns, of_free, of_cut, of_lead, IsStack}
use Rattle.csn_judge.specs.Inside.{stack_end, stack_node}
use Rattle.csn_judge.proofs.Standing.{sequence_width, choice_width, times_width, many_width, truncation_width, window_width, label_width, fits_behind}

module _ (d : DescV) where
  seen_along : {seen other : List ℕ} {shows : Bool} {round : ℕ} (parts : List ℕ)
      → seen ≡ other → PartsFormed d.nodes shows seen round parts → PartsFormed d.nodes shows other round parts
  seen_along {shows = shows} {round = round} parts e h = let P : List ℕ → Type 0 = λ l. PartsFormed d.nodes shows l round parts in subst P e h

  -- ---- where a node begins

  pub record Begun (fresh : Option ℕ) (i : ℕ) (v : Values) (outer : List Left) (done : List ℕ) : Type 0 where
    pub good : IsBits done
    pub ready : IsReady d i (length done) (length outer) v
    pub inner : Inside d fresh outer i (length done) v

  -- where it is reached and may be, inside these
  begins : {fresh : Option ℕ} {i : ℕ} {v : Values} {outer : List Left} {done : List ℕ}
      → IsBits done → Reached d i (length done % 8) → FitWidths d v → Formed d.nodes (fields_of v) (length outer) i → Inside d fresh outer i (length done) v
      → Begun fresh i v outer done
  begins good reached widths well inner = record { good = good; ready = record { reached = reached; widths = widths; formed = well }; inner = inner }

  pub begun_of : {next : ℕ} {fresh : Option ℕ} {i : ℕ} {v : Values} {outer : List Left} {done : List ℕ}
      → IsStack d next fresh (all_left i v ∷ outer) done → Begun fresh i v outer done
  begun_of {fresh = fresh} {i} {v} {outer} {done} (stack_node k from w good ready (of_all same place just) inner) =
      let P : Values → Type 0 = λ x. IsReady d k from (length outer) x in
      let Q : ℕ → Type 0 = λ x. IsReady d k x (length outer) v in
      let R : Values → Type 0 = λ x. Inside d fresh outer k from x in
      let S : ℕ → Type 0 = λ x. Inside d fresh outer k x v in
      record { good = good; ready = subst Q place (subst P (sym same) ready); inner = subst S place (subst R (sym same) inner) }

  pub just_begun : {next : ℕ} {fresh : Option ℕ} {i : ℕ} {v : Values} {outer : List Left} {done : List ℕ}
      → IsStack d next fresh (all_left i v ∷ outer) done → next ≡ suc i
  just_begun (stack_node k from w good ready (of_all same place just) inner) = just

  pub of_begun : {fresh : Option ℕ} {i : ℕ} {v : Values} {outer : List Left} {done : List ℕ}
      → Begun fresh i v outer done → IsStack d (suc i) fresh (all_left i v ∷ outer) done
  of_begun {fresh} {i} {v} {outer} {done} b = stack_node i (length done) v b.good b.ready (of_all refl refl refl) b.inner

  -- ---- numbers of nodes

  -- the part of a node that stands behind these
  record PartAt (before : List ℕ) (p : ℕ) (after : List ℕ) (end : ℕ) : Type 0 where
    pub stop : ℕ
    pub span : Spans d.nodes p stop
    pub others : PartsSpan d.nodes after stop end

  part_at : {at end : ℕ} (before : List ℕ) (p : ℕ) (after : List ℕ) → PartsSpan d.nodes (before ++ p ∷ after) at end → PartAt before p after end
  part_at [] p after (span_next middle e h others) = record { stop = middle; span = h; others = others }
  part_at (b ∷ before) p after (span_next middle e h others) =
      let found = part_at before p after others in record { stop = found.stop; span = found.span; others = found.others }

  pub up_here : (i : ℕ) → UpTo d (suc i) i
  up_here i end h = span_grows d.nodes h

  parts_span_along : {parts others : List ℕ} {at end : ℕ} → parts ≡ others → PartsSpan d.nodes parts at end → PartsSpan d.nodes others at end
  parts_span_along {at = at} {end = end} e h = let P : List ℕ → Type 0 = λ l. PartsSpan d.nodes l at end in subst P e h

  -- what began inside a part began inside the node
  pub up_part : {next k : ℕ} {n : Node} (before : List ℕ) (p : ℕ) (after : List ℕ) → slice_get d.nodes k ≡ Some n
      → parts_of n ≡ before ++ p ∷ after → UpTo d next p → UpTo d next k
  up_part before p after at split up end h =
      let found = part_at before p after (parts_span_along split (span_parts d.nodes at h)) in
      let grows = parts_span_grow d.nodes found.others in
      omega (arith, up found.stop found.span, grows)

  -- the part of a choice that is the alternative j
  record Cut (parts : List ℕ) (p : ℕ) : Type 0 where
    pub before : List ℕ
    pub after : List ℕ
    pub is : parts ≡ before ++ p ∷ after

  cut_at : (parts : List ℕ) (j p : ℕ) → slice_get parts j ≡ Some p → Cut parts p
  cut_at [] j p at = absurd (cc)
  cut_at (q ∷ parts) zero p at = let same : q ≡ p = cc in record { before = []; after = parts; is = ap (λ k. k ∷ parts) same }
  cut_at (q ∷ parts) (suc j) p at = let found = cut_at parts j p at in record { before = q ∷ found.before; after = found.after; is = ap (λ l. q ∷ l) found.is }

  pub up_alternative : {next k : ℕ} {parts : List ℕ} (j p : ℕ) → slice_get d.nodes k ≡ Some (Choice parts)
      → slice_get parts j ≡ Some p → UpTo d next p → UpTo d next k
  up_alternative {parts = parts} j p at here up = let cut = cut_at parts j p here in up_part cut.before p cut.after at cut.is up

  -- a turn that went back began where the block is, or before
  pub fresh_place : {outer : List Left} {i from mark : ℕ} {v : Values} {fresh : Option ℕ} → Inside d fresh outer i from v → fresh ≡ Some mark → mark ≤ from
  fresh_place (inside_none stale root start sees) same = absurd (cc)
  fresh_place (inside_choice k j parts at here ready inner) same = fresh_place inner same
  fresh_place (inside_label k at ready inner) same = fresh_place inner same
  fresh_place (inside_window k n at counts ends ready inner) same = fresh_place inner same
  fresh_place (inside_parts k start v0 parts before at split so_far order none fits well ready inner) same = omega (arith, order, fresh_place inner same)
  fresh_place (inside_turns k start at turn order none ready was (fresh_as e) inner) same = omega (arith, order, fresh_place inner (sym e ∙ same))
  fresh_place {from = from} {mark = mark} (inside_turns k start at turn order none ready was (fresh_turn e) inner)
      same = let there : from ≡ mark = cc in omega (arith, there)
  fresh_place (inside_free k start at so_far order ready was (fresh_as e) inner) same = omega (arith, order, fresh_place inner (sym e ∙ same))
  fresh_place {from = from} {mark = mark} (inside_free k start at so_far order ready was (fresh_turn e) inner) same =
      let there : from ≡ mark = cc in omega (arith, there)
  fresh_place (inside_lead k start v0 parts before at split so_far order fits well ready inner) same = omega (arith, order, fresh_place inner same)

  -- once a bit is taken no turn is fresh
  pub stale : {fresh : Option ℕ} {outer : List Left} {i from : ℕ} {v : Values} → Inside d fresh outer i from v → Inside d None outer i from v
  stale (inside_none none root start sees) = inside_none refl root start sees
  stale (inside_choice k j parts at here ready inner) = inside_choice k j parts at here ready (stale inner)
  stale (inside_label k at ready inner) = inside_label k at ready (stale inner)
  stale (inside_window k n at counts ends ready inner) = inside_window k n at counts ends ready (stale inner)
  stale (inside_parts k start v0 parts before at split so_far order none fits well ready inner) =
      inside_parts k start v0 parts before at split so_far order none fits well ready (stale inner)
  stale (inside_turns k start at turn order none ready was turns inner) = inside_turns k start at turn order none ready None (fresh_as refl) (stale inner)
  stale (inside_free k start at so_far order ready was turns inner) = inside_free k start at so_far order ready None (fresh_as refl) (stale inner)
  stale (inside_lead k start v0 parts before at split so_far order fits well ready inner) =
      inside_lead k start v0 parts before at split so_far order fits well ready (stale inner)

module _ (d : DescV) (most : ℕ) (is : IsDescription d) (certified : Certified d most) where
  -- each node has a span
  span_of : {k : ℕ} {n : Node} → slice_get d.nodes k ≡ Some n → (end : ℕ) × Spans d.nodes k end
  span_of {k} {n} at =
      let found = span_inside d.nodes k is.numbered (omega arith) (slice_get_within d.nodes k n at) in (found.stop, found.span)

  parts_of_span : {k : ℕ} {n : Node} → slice_get d.nodes k ≡ Some n → (end : ℕ) × PartsSpan d.nodes (parts_of n) (suc k) end
  parts_of_span at = let span = span_of at in (span.0, span_parts d.nodes at span.1)

  -- the first part is the node behind it
  pub first_next : {k p : ℕ} {ps : List ℕ} {n : Node} → slice_get d.nodes k ≡ Some n → parts_of n ≡ p ∷ ps → p ≡ suc k
  first_next {k} {p} {ps} at is_parts = by (parts_span_along d is_parts (parts_of_span at).1)
    where
      by : {end : ℕ} → PartsSpan d.nodes (p ∷ ps) (suc k) end → p ≡ suc k
      by (span_next middle e h others) = e

  -- each later one is a later node than all that is inside the one before it
  pub later_rises : (k : ℕ) {next p j : ℕ} (ps : List ℕ) {n : Node} (before : List ℕ) → slice_get d.nodes k ≡ Some n
      → parts_of n ≡ before ++ p ∷ (j ∷ ps) → UpTo d next p → next ≤ j
  later_rises k {next} {p} {j} ps before at is_parts up =
      let found = part_at d before p (j ∷ ps) (parts_span_along d is_parts (parts_of_span at).1) in
      by found.others (up found.stop found.span)
    where
      by : {stop end : ℕ} → PartsSpan d.nodes (j ∷ ps) stop end → next ≤ stop → next ≤ j
      by (span_next middle e h others) less = omega (arith, e, less)

  -- each alternative is a later node than its choice
  pub alternative_rises : {k p : ℕ} {parts : List ℕ} (j : ℕ) → slice_get d.nodes k ≡ Some (Choice parts) → slice_get parts j ≡ Some p → suc k ≤ p
  alternative_rises {k} {p} j at here = part_from d.nodes j p (parts_of_span at).1 here

  only_next : {k p : ℕ} {n : Node} → slice_get d.nodes k ≡ Some n → parts_of n ≡ p ∷ [] → p ≡ suc k
  only_next at one = first_next at one

  up_first : {k p : ℕ} {n : Node} → slice_get d.nodes k ≡ Some n → parts_of n ≡ p ∷ [] → UpTo d (suc k) p
  up_first {k} {p} at one end h = let same = only_next at one in omega (arith, same, span_grows d.nodes h)

  -- ---- a node is entered

  pub field_stack : {fresh : Option ℕ} {i unit n : ℕ} {count : Count} {v : Values} {outer : List Left} {done : List ℕ}
      → slice_get d.nodes i ≡ Some (Field unit count) → count_of v count ≡ Some n → Begun d fresh i v outer done
      → IsStack d (suc i) fresh (bits_left (unit * n) ∷ outer) done
  field_stack {i = i} {unit = unit} {n = n} {v = v} {done = done} at counts b =
      stack_node i (length done) v b.good b.ready (of_field n at counts refl (omega arith) (up_here d i)) b.inner

  pub literal_stack : {fresh : Option ℕ} {i : ℕ} {run : List Symbol} {v : Values} {outer : List Left} {done : List ℕ}
      → slice_get d.nodes i ≡ Some (Lits run) → Begun d fresh i v outer done
      → IsStack d (suc i) fresh (symbols_left run ∷ outer) done
  literal_stack {i = i} {run = run} {v = v} {done = done} at b = stack_node i (length done) v b.good b.ready
      (of_literal [] at (omega arith) (up_here d i)) b.inner

  pub spare_stack : {fresh : Option ℕ} {i : ℕ} {s : Symbol} {v : Values} {outer : List Left} {done : List ℕ}
      → slice_get d.nodes i ≡ Some (Spare s) → Begun d fresh i v outer done
      → IsStack d (suc i) fresh (spare_left s ∷ outer) done
  spare_stack {i = i} {v = v} {done = done} at b = stack_node i (length done) v b.good b.ready (of_spare at refl (up_here d i)) b.inner

  pub pad_stack : {fresh : Option ℕ} {i : ℕ} {v : Values} {outer : List Left} {done : List ℕ}
      → slice_get d.nodes i ≡ Some Pad → Begun d fresh i v outer done
      → IsStack d (suc i) fresh (pad_left false ∷ outer) done
  pad_stack {i = i} {v = v} {done = done} at b = stack_node i (length done) v b.good b.ready (of_pad at refl (up_here d i)) b.inner

  pub rest_stack : {fresh : Option ℕ} {i : ℕ} {v : Values} {outer : List Left} {done : List ℕ}
      → slice_get d.nodes i ≡ Some Rest → Begun d fresh i v outer done → IsStack d (suc i) fresh (rest_left ∷ outer)
      done
  rest_stack {i = i} {v = v} {done = done} at b = stack_node i (length done) v b.good b.ready (of_rest at (omega arith) (up_here d i)) b.inner

  pub null_stack : {fresh : Option ℕ} {i : ℕ} {v : Values} {outer : List Left} {done : List ℕ}
      → slice_get d.nodes i ≡ Some Null → Begun d fresh i v outer done → IsStack d (suc i) fresh (none_left ∷ outer)
      done
  null_stack {i = i} {v = v} {done = done} at b =
      stack_node i (length done) v b.good b.ready
      (of_read (record {
        order = omega arith;
        ends = ends_at Null at (ends_null refl);
        empty =
            λ e. nullable_at Null at nullable_null;
        width =
            record { field = λ w e. absurd (grind (arith, at, e)); label = λ w e. absurd (grind (arith, at, e)) };
      })
      (up_here d i)) b.inner

  pub choice_stack : {fresh : Option ℕ} {i : ℕ} {parts : List ℕ} {v : Values} {outer : List Left} {done : List ℕ}
      → slice_get d.nodes i ≡ Some (Choice parts) → Begun d fresh i v outer done
      → IsStack d (suc i) fresh (choice_left parts v ∷ outer) done
  choice_stack {i = i} {v = v} {done = done} at b = stack_node i (length done) v b.good b.ready (of_choice at refl refl refl) b.inner

  pub turns_stack : {fresh : Option ℕ} {i part n : ℕ} {count : Count} {v : Values} {outer : List Left} {done : List ℕ}
      → slice_get d.nodes i ≡ Some (Times count part) → count_of v count ≡ Some n → Begun d fresh i v outer done
      → IsStack d (suc i) fresh (turns_left n part v ∷ outer) done
  turns_stack {i = i} {count = count} {v = v} {done = done} at counts b = stack_node i (length done) v b.good b.ready
      (of_turns at refl (turn_first d v count (length done % 8) counts) (omega arith) (λ e. counts) (up_first at refl)
      (inl (omega (arith, only_next at refl)))) b.inner

  pub free_stack : {fresh : Option ℕ} {i part : ℕ} {v : Values} {outer : List Left} {done : List ℕ}
      → slice_get d.nodes i ≡ Some (Many part) → Begun d fresh i v outer done
      → IsStack d (suc i) fresh (free_left part v ∷ outer) done
  free_stack {i = i} {v = v} {done = done} at b = stack_node i (length done) v b.good b.ready
      (of_free at refl (many_end refl) (omega arith) (up_first at refl) (inl (omega (arith, only_next at refl))))
      b.inner

  pub cut_stack : {fresh : Option ℕ} {i : ℕ} {parts : List ℕ} {v : Values} {outer : List Left} {done : List ℕ}
      → slice_get d.nodes i ≡ Some (Trunc parts) → Begun d fresh i v outer done
      → IsStack d (suc i) fresh (cut_left parts v ∷ outer) done
  cut_stack {i = i} {v = v} {done = done} at b = stack_node i (length done) v b.good b.ready (of_cut at refl refl refl) b.inner

  -- ---- and its part begins

  pub label_begun : {fresh : Option ℕ} {i part : ℕ} {label : List ℕ} {v : Values} {outer : List Left} {done : List ℕ}
      → slice_get d.nodes i ≡ Some (Named label part) → Begun d fresh i v outer done
      → Begun d fresh part v (none_left ∷ outer) done
  label_begun {i = i} at b =
      begins d b.good (named_reached d at b.ready.reached) b.ready.widths (first_formed d.nodes (parts_formed d.nodes at b.ready.formed))
      (inside_label i at b.ready b.inner)

  pub window_begun : {fresh : Option ℕ} {i part unit n : ℕ} {count : Count} {v : Values} {outer : List Left}
      {done : List ℕ} → slice_get d.nodes i ≡ Some (Window unit count part)
      → count_of v count ≡ Some n → Begun d fresh i v outer done
      → Begun d fresh part v (window_left (length done + unit * n) ∷ outer) done
  window_begun {i = i} {n = n} at counts b =
      begins d b.good (window_reached d at b.ready.reached) b.ready.widths (first_formed d.nodes (parts_formed d.nodes at b.ready.formed))
      (inside_window i n at counts refl b.ready b.inner)

  pub alternative_begun : {fresh : Option ℕ} {i part : ℕ} {parts : List ℕ} {v : Values} {outer : List Left}
      {done : List ℕ} (j : ℕ) → slice_get d.nodes i ≡ Some (Choice parts) → slice_get parts j ≡ Some part
      → Begun d fresh i v outer done → Begun d fresh part v (none_left ∷ outer) done
  alternative_begun {i = i} {part = part} {parts = parts} j at here b =
      begins d b.good (choice_reached d at (cuts parts j part here) b.ready.reached) b.ready.widths
      (choice_formed d.nodes j _ (parts_formed d.nodes at b.ready.formed) here)
      (inside_choice i j parts at here b.ready b.inner)

  pub sequence_begun : {fresh : Option ℕ} {i j : ℕ} {ps : List ℕ} {v : Values} {outer : List Left} {done : List ℕ}
      → slice_get d.nodes i ≡ Some (Seq (j ∷ ps)) → Begun d fresh i v outer done
      → Begun d fresh j v (parts_left j (length done) ps v ∷ outer) done
  sequence_begun {i = i} {j = j} {ps = ps} {v = v} {done = done} at b =
      let parts = parts_formed d.nodes at b.ready.formed in
      begins d b.good (seq_reached d ps at refl b.ready.reached (parts_end refl)) b.ready.widths (first_formed d.nodes parts)
      (inside_parts i (length done) v (j ∷ ps) [] at refl (parts_end refl) (omega arith) (λ e. all_end) b.ready.widths
      (rest_formed d.nodes parts) b.ready b.inner)

  all_more : {before : List ℕ} {i : ℕ} → AllNullable d before → Nullable d i → AllNullable d (before ++ i ∷ [])
  all_more all_end h = all_next h all_end
  all_more (all_next first rest) h = all_next first (all_more rest h)

  none_more : {before : List ℕ} {part from at_part : ℕ} {done : List ℕ} → (from ≡ at_part → AllNullable d before)
      → IsRead d part at_part done → from ≤ at_part → from ≡ length done → AllNullable d (before ++ part ∷ [])
  none_more none read order e =
      let longer = read.order in
      all_more (none (omega (arith, order, longer, e))) (read.empty (omega (arith, order, longer, e)))

  -- the parts behind one that is read, which began at a place
  record PartsOn (parts before ps : List ℕ) (part at_part j from round : ℕ) (w : Values) (done : List ℕ) : Type 0 where
    pub cut : parts ≡ (before ++ part ∷ []) ++ (j ∷ ps)
    pub ended : PartsEnd d (before ++ part ∷ []) (from % 8) (length done % 8)
    pub fits : FitWidths d (behind d part at_part w done)
    pub formed : PartsFormed d.nodes true (fields_of (behind d part at_part w done)) round (j ∷ ps)

  parts_on : {parts ps : List ℕ} {part at_part j from round : ℕ} {w : Values} {done : List ℕ} (before : List ℕ)
      → parts ≡ before ++ part ∷ (j ∷ ps) → PartsEnd d before (from % 8) (at_part % 8)
      → FitWidths d w → PartsFormed d.nodes true (with_seen d.nodes true part (fields_of w)) round (j ∷ ps)
      → IsRead d part at_part done → PartsOn parts before ps part at_part j from round w done
  parts_on {ps = ps} {part} {at_part} {j} {w = w} {done = done} before split so_far fits well read =
      record {
        cut = split ∙ sym (append_assoc before (part ∷ []) (j ∷ ps));
        ended = parts_end_more d so_far read.ends;
        fits = fits_behind d part (drop at_part done) w read.width fits;
        formed = seen_along d (j ∷ ps) (sym (fields_behind d part (drop at_part done) w)) well;
      }

  -- the next part of a sequence
  pub next_begun : {fresh : Option ℕ} {i part at_part j : ℕ} {ps : List ℕ} {w v0 : Values} {from : ℕ}
      {outer : List Left} {done : List ℕ} (parts before : List ℕ) → slice_get d.nodes i ≡ Some (Seq parts)
      → parts ≡ before ++ part ∷ (j ∷ ps) → PartsEnd d before (from % 8) (at_part % 8)
      → from ≤ at_part → (from ≡ at_part → AllNullable d before)
      → FitWidths d w → PartsFormed d.nodes true (with_seen d.nodes true part (fields_of w)) (suc (length outer))
      (j ∷ ps) → IsRead d part at_part done → IsBits done → IsReady d i from (length outer) v0
      → Inside d fresh outer i from v0 → Begun d fresh j (behind d part at_part w done)
      (parts_left j (length done) ps (behind d part at_part w done) ∷ outer) done
  next_begun {fresh} {i} {part} {at_part} {j} {ps} {w} {v0} {from} {outer} {done} parts before at split so_far order none fits well read good ready inner =
      let on = parts_on before split so_far fits well read in
      begins d good (seq_reached d ps at on.cut ready.reached on.ended) on.fits (first_formed d.nodes on.formed)
      (inside_parts i from v0 parts (before ++ part ∷ []) at on.cut on.ended (omega (arith, order, read.order))
      (λ e. none_more none read order e) on.fits (rest_formed d.nodes on.formed) ready inner)

  -- a turn; it goes back where one was there before it
  pub turn_begun : {was : Option ℕ} (fresh : Option ℕ) {i part n from : ℕ} {count : Count} {v : Values}
      {outer : List Left} {done : List ℕ} → IsFresh d was (length done) fresh
      → slice_get d.nodes i ≡ Some (Times count part) → Turn d count part (suc n) (from % 8) (length done % 8)
      → from ≤ length done → (from ≡ length done → count_of v count ≡ Some (suc n))
      → IsBits done → IsReady d i from (length outer) v → Inside d was outer i from v
      → Begun d fresh part v (turns_left n part v ∷ outer) done
  turn_begun {was} fresh {i} {from = from} turns at turn order none good ready inner =
      begins d good (turn_reached d at ready.reached refl turn) ready.widths (first_formed d.nodes (parts_formed d.nodes at ready.formed))
      (inside_turns i from at turn order none ready was turns inner)

  pub free_begun : {was : Option ℕ} (fresh : Option ℕ) {i part from : ℕ} {v : Values} {outer : List Left}
      {done : List ℕ} → IsFresh d was (length done) fresh → slice_get d.nodes i ≡ Some (Many part)
      → ManyEnd d part (from % 8) (length done % 8) → from ≤ length done → IsBits done
      → IsReady d i from (length outer) v → Inside d was outer i from v
      → Begun d fresh part v (free_left part v ∷ outer) done
  free_begun {was} fresh {i} {from = from} turns at so_far order good ready inner =
      begins d good (many_reached d at ready.reached so_far) ready.widths (first_formed d.nodes (parts_formed d.nodes at ready.formed))
      (inside_free i from at so_far order ready was turns inner)

  -- where a turn went back and no bit was taken since, none goes back
  pub no_second_jump : {outer : List Left} {i from next part : ℕ} {v : Values} (done : List ℕ)
      → Inside d (Some (length done)) outer i from v → (next ≤ part) ⊎ (from < length done) → next ≤ part
  no_second_jump done inner (inl rises) = rises
  no_second_jump done inner (inr some) = absurd (omega (arith, fresh_place d inner refl, some))

  -- the first and the next component of a truncation
  pub component_begun : {fresh : Option ℕ} {i j : ℕ} {ps : List ℕ} {v : Values} {outer : List Left} {done : List ℕ}
      → slice_get d.nodes i ≡ Some (Trunc (j ∷ ps)) → Begun d fresh i v outer done
      → Begun d fresh j v (lead_left j (length done) ps v ∷ outer) done
  component_begun {i = i} {j = j} {ps = ps} {v = v} {done = done} at b =
      let parts = parts_formed d.nodes at b.ready.formed in
      begins d b.good (lead_reached d ps at refl b.ready.reached (parts_end refl)) b.ready.widths (first_formed d.nodes parts)
      (inside_lead i (length done) v (j ∷ ps) [] at refl (parts_end refl) (omega arith) b.ready.widths (rest_formed d.nodes parts) b.ready b.inner)

  pub next_component_begun : {fresh : Option ℕ} {i part at_part j : ℕ} {ps : List ℕ} {w v0 : Values} {from : ℕ}
      {outer : List Left} {done : List ℕ} (parts before : List ℕ) → slice_get d.nodes i ≡ Some (Trunc parts)
      → parts ≡ before ++ part ∷ (j ∷ ps) → PartsEnd d before (from % 8) (at_part % 8)
      → from ≤ at_part → FitWidths d w → PartsFormed d.nodes true (with_seen d.nodes true part (fields_of w))
      (suc (length outer)) (j ∷ ps) → IsRead d part at_part done → IsBits done → IsReady d i from (length outer) v0
      → Inside d fresh outer i from v0 → Begun d fresh j (behind d part at_part w done)
      (lead_left j (length done) ps (behind d part at_part w done) ∷ outer) done
  next_component_begun {fresh} {i} {part} {at_part} {j} {ps} {w} {v0} {from} {outer} {done}
      parts before at split so_far order fits well read good ready inner =
      let on = parts_on before split so_far fits well read in
      begins d good (lead_reached d ps at on.cut ready.reached on.ended) on.fits (first_formed d.nodes on.formed)
      (inside_lead i from v0 parts (before ++ part ∷ []) at on.cut on.ended (omega (arith, order, read.order)) on.fits
      (rest_formed d.nodes on.formed) ready inner)

  -- ---- a node is left

  -- a turn has a bit
  turn_taken : (k : ℕ) {i from : ℕ} {count : Count} {done : List ℕ} → slice_get d.nodes k ≡ Some (Times count i)
      → IsRead d i from done → from ≡ length done → ⊥
  turn_taken k at read e = certified (NotFirm k 0) (times_not_firm at refl (read.empty e))

  free_taken : (k : ℕ) {i from : ℕ} {done : List ℕ} → slice_get d.nodes k ≡ Some (Many i) → IsRead d i from done → from ≡ length done → ⊥
  free_taken k at read e = certified (NotFirm k 0) (many_not_firm at refl (inl (read.empty e)))

  -- no turn is fresh, or one that began where the block so far ends
  pub data IsNow (fresh : Option ℕ) (done : List ℕ) : Type 0 where
    not_fresh : fresh ≡ None → IsNow fresh done
    now_fresh : fresh ≡ Some (length done) → IsNow fresh done

  stays : {was fresh : Option ℕ} {from : ℕ} {done : List ℕ} → IsNow fresh done → (from ≡ length done → ⊥) → IsFresh d was from fresh → fresh ≡ was
  stays now took (fresh_as e) = e
  stays {from = from} {done} (not_fresh none) took (fresh_turn e) = absurd (cc)
  stays {from = from} {done} (now_fresh there) took (fresh_turn e) = let same : from ≡ length done = cc in absurd (took same)

  inside_as : {was fresh : Option ℕ} {outer : List Left} {k start : ℕ} {v : Values}
      → fresh ≡ was → Inside d was outer k start v → Inside d fresh outer k start v
  inside_as {outer = outer} {k} {start} {v} e h = let P : Option ℕ → Type 0 = λ f. Inside d f outer k start v in subst P (sym e) h

  longer_by : (from at : ℕ) → from ≤ at → (from ≡ at → ⊥) → from < at
  longer_by from at less not = elim (leb_tells at from) [ inl same ↦ absurd (not (omega (arith, same.1, less))) | inr some ↦ some.1 ]

  -- the node round a part that is read goes on
  pub popped_stack : {next : ℕ} {fresh : Option ℕ} {outer : List Left} {i from : ℕ} {v : Values} {done : List ℕ}
      → Inside d fresh outer i from v → IsNow fresh done → IsRead d i from done → UpTo d next i → IsBits done
      → IsStack d next fresh outer done
  popped_stack (inside_none none root start sees) now read up good = stack_end good
  popped_stack {i = i} {from = from} (inside_choice {v = v} k j parts at here ready inner) now read up good =
      stack_node k from v good ready
      (of_read (record {
        order = read.order;
        ends = ends_at (Choice parts) at (ends_choice j here read.ends);
        empty = λ e. nullable_at (Choice parts) at (nullable_choice j here (read.empty e));
        width =
            choice_width d at;
      }) (up_alternative d j i at here up)) inner
  popped_stack {i = i} {from = from} (inside_label {v = v} {label = label} k at ready inner) now read up good =
      stack_node k from v good ready
      (of_read (record {
        order = read.order;
        ends = ends_at (Named label i) at (ends_named read.ends);
        empty =
            λ e. nullable_at (Named label i) at (nullable_named (read.empty e));
        width = label_width d at read.width;
      })
      (up_part d [] i [] at refl up)) inner
  popped_stack {from = from} (inside_window {v = v} k n at counts ends ready inner) now read up good =
      stack_node k from v good ready (of_window n at counts ends read up) inner
  popped_stack (inside_parts k start v0 parts before at split so_far order none fits well ready inner) now read up good =
      stack_node k start v0 good ready (of_parts parts before at split so_far order none fits well read up) inner
  popped_stack {from = from} {done = done} (inside_turns {v = v} k start at turn order none ready was turns inner) now read up good =
      let longer = read.order in
      let took : from < length done = longer_by from (length done) longer (turn_taken k at read) in
      stack_node k start v good ready (of_turns at refl (turn_next d refl turn read.ends)
      (omega (arith, order, longer)) (λ e. absurd (turn_taken k at read (omega (arith, order, longer, e)))) up
      (inr (omega (arith, took, order)))) (inside_as (stays now (turn_taken k at read) turns) inner)
  popped_stack {from = from} {done = done} (inside_free {v = v} k start at so_far order ready was turns inner) now read up good =
      let longer = read.order in
      let took : from < length done = longer_by from (length done) longer (free_taken k at read) in
      stack_node k start v good ready (of_free at refl (many_end_more d so_far read.ends)
      (omega (arith, order, longer)) up (inr (omega (arith, took, order))))
      (inside_as (stays now (free_taken k at read) turns) inner)
  popped_stack (inside_lead k start v0 parts before at split so_far order fits well ready inner) now read up good =
      stack_node k start v0 good ready (of_lead parts before at split so_far order fits well read up) inner

  -- ---- a node that has what it wants is read

  shape : (i : ℕ) (n : Node) → slice_get d.nodes i ≡ Some n → NodeIs d.nodes n
  shape i n at =
      let well : NodesAreWellFormed = λ e j m holds here. let placed = node_placed e holds j m here in (placed.seen, placed.round, placed.is) in
      (shaped well (λ e. (nothing_seen, no_values_fit e)) (λ e j o v b t fits h. fits_kept e fits h) d is).node i n at

  bits_from : (n : ℕ) (done : List ℕ) → IsBits done → IsBits (drop n done)
  bits_from zero done good = good
  bits_from (suc n) [] good = tt
  bits_from (suc n) (a ∷ done) good = bits_from n done good.1

  length_from : (n : ℕ) (done : List ℕ) → n ≤ length done → n + length (drop n done) ≡ length done
  length_from zero done less = omega arith
  length_from (suc n) [] less = absurd (omega arith)
  length_from (suc n) (a ∷ done) less = omega (arith, length_from n done (omega arith))

  on_mod : (a b : ℕ) → a ≡ b → a % 8 ≡ b % 8
  on_mod a b e = ap (λ k. k % 8) e

  mod_sum : (a k : ℕ) → (a + k) % 8 ≡ (a % 8 + k) % 8
  mod_sum a k = omega arith

  -- no units
  no_units : (unit n : ℕ) → 0 < unit → unit * n ≡ 0 → n ≡ 0
  no_units unit zero some e = refl
  no_units (suc unit) (suc n) some e = absurd (omega (arith, mul-suc (suc unit) n, e))
  no_units zero (suc n) some e = absurd (omega (arith, some))

  -- a count of none is one that stands on a field, and adds nothing
  data ZeroCount : Count → Type 0 where
    zero_counted : {m field c : ℕ} → c ≡ 0 → ZeroCount (Counted m field c)

  count_is_zero : (v : Values) (count : Count) (n : ℕ) → CountIs d.nodes count → count_of v count ≡ Some n → n ≡ 0 → ZeroCount count
  count_is_zero v (Fixed k) n some counts none = let same : k ≡ n = cc in absurd (omega (arith, some, same, none))
  count_is_zero v (Counted m field c) n some counts none = by (value_of v field) counts
    where
      by : (value : Option ℕ) → option_map (λ x. m * x + c) value ≡ Some n → ZeroCount (Counted m field c)
      by None counts = absurd (cc)
      by (Some x) counts = let sum : m * x + c ≡ n = cc in zero_counted (omega (arith, sum, none))

  pub field_read : {i from unit all : ℕ} {count : Count} {v : Values} {done : List ℕ}
      → slice_get d.nodes i ≡ Some (Field unit count) → count_of v count ≡ Some all → from + unit * all ≡ length done
      → from ≤ length done → FitWidths d v → IsBits done → IsRead d i from done
  field_read {i} {from} {unit} {all} {count} {v} {done} at counts place order fits good =
      let may = may_count d v count (shape i (Field unit count) at).1 fits counts in
      let own = length_from from done order in
      record {
        order = order;
        empty = λ e. no_field e;
        ends = ends_at (Field unit count) at (ends_field all may (on_mod (length done) (from + unit * all) (sym place) ∙ mod_sum from (unit * all)));
        width = record {
          field = λ w e. (wide w e, bits_from from done good);
          label = λ w e. absurd (grind (arith, at, e));
        };
      }
    where
      no_field : from ≡ length done → Nullable d i
      no_field e =
          let zero_count = count_is_zero v count all (shape i (Field unit count) at).1 counts
          (no_units unit all (shape i (Field unit count) at).0 (omega (arith, place, e))) in
          by zero_count at
        where
          by : {c : Count} → ZeroCount c → slice_get d.nodes i ≡ Some (Field unit c) → Nullable d i
          by (zero_counted none) at_c = nullable_at (Field unit _) at_c (nullable_field none)

      wide : (w : ℕ) → width_of (slice_get d.nodes i) ≡ Some w → length (drop from done) ≡ w
      wide w e = as_wide count counts (sym (ap width_of at) ∙ e)
        where
          as_wide : (c : Count) → count_of v c ≡ Some all → width_of (Some (Field unit c)) ≡ Some w → length (drop from done) ≡ w
          as_wide (Fixed n) same is_width =
              let number : n ≡ all = cc in
              let width : unit * n ≡ w = cc in
              let product = ap (λ k. unit * k) number in
              omega (arith, length_from from done order, place, width, product)
          as_wide (Counted m f c) same is_width = absurd (cc)

  pub literal_read : {i from : ℕ} {run : List Symbol} {done : List ℕ} → slice_get d.nodes i ≡ Some (Lits run)
      → from + length run ≡ length done → IsRead d i from done
  literal_read {i} {from} {run} {done} at place =
      record {
        order = omega (arith, place);
        empty = λ e. absurd (omega (arith, place, e, shape i (Lits run) at));
        ends = ends_at (Lits run) at (ends_lits (on_mod (length done) (from + length run) (sym place) ∙ mod_sum from (length run)));
        width = record { field = λ w e. absurd (grind (arith, at, e)); label = λ w e. absurd (grind (arith, at, e)) };
      }

  pub spare_read : {i from : ℕ} {s : Symbol} {done : List ℕ} → slice_get d.nodes i ≡ Some (Spare s) → suc from ≡ length done → IsRead d i from done
  spare_read {i} {from} {s} {done} at place =
      record {
        order = omega (arith, place);
        empty = λ e. absurd (omega (arith, place, e));
        ends = ends_at (Spare s) at (ends_spare (on_mod (length done) (from + 1) (omega (arith, place)) ∙ mod_sum from 1));
        width = record { field = λ w e. absurd (grind (arith, at, e)); label = λ w e. absurd (grind (arith, at, e)) };
      }

  under_eight : (n : ℕ) → n % 8 < 8
  under_eight n = omega arith

  pub pad_read : {i from : ℕ} {done : List ℕ} → slice_get d.nodes i ≡ Some Pad → from < length done → IsRead d i from done
  pad_read {i} {from} {done} at some =
      record {
        order = omega (arith, some);
        empty = λ e. absurd (omega (arith, some, e));
        ends = ends_at Pad at (ends_pad (under_eight (length done)));
        width = record { field = λ w e. absurd (grind (arith, at, e)); label = λ w e. absurd (grind (arith, at, e)) };
      }

  pub rest_read : {i from : ℕ} {done : List ℕ} → slice_get d.nodes i ≡ Some Rest → from ≤ length done → IsRead d i from done
  rest_read {i} {from} {done} at order =
      record {
        order = order;
        empty = λ e. nullable_at Rest at nullable_rest;
        ends = ends_at Rest at (ends_rest (under_eight (length done)));
        width = record { field = λ w e. absurd (grind (arith, at, e)); label = λ w e. absurd (grind (arith, at, e)) };
      }

  pub window_read : {i from part unit n : ℕ} {count : Count} {v : Values} {done : List ℕ}
      → slice_get d.nodes i ≡ Some (Window unit count part)
      → count_of v count ≡ Some n → from + unit * n ≡ length done → FitWidths d v → IsRead d part from done
      → IsRead d i from done
  window_read {i} {from} {part} {unit} {n} {count} {v} {done} at counts place fits read =
      let may = may_count d v count (shape i (Window unit count part) at).1 fits counts in
      record {
        order = omega (arith, place);
        empty = λ e. no_window e;
        ends = ends_at (Window unit count part) at (ends_window n may (on_mod (length done) (from + unit * n) (sym place) ∙ mod_sum from (unit * n)));
        width = window_width d at;
      }
    where
      no_window : from ≡ length done → Nullable d i
      no_window e =
          let zero_count = count_is_zero v count n (shape i (Window unit count part) at).1 counts
          (no_units unit n (shape i (Window unit count part) at).0 (omega (arith, place, e))) in
          by zero_count at
        where
          by : {c : Count} → ZeroCount c → slice_get d.nodes i ≡ Some (Window unit c part) → Nullable d i
          by (zero_counted none) at_c = nullable_at (Window unit _ part) at_c (nullable_window none (read.empty e))

  pub sequence_read : {i part from at_part : ℕ} {done : List ℕ} (parts before : List ℕ)
      → slice_get d.nodes i ≡ Some (Seq parts) → parts ≡ before ++ part ∷ [] → PartsEnd d before (from % 8)
      (at_part % 8) → from ≤ at_part → (from ≡ at_part → AllNullable d before)
      → IsRead d part at_part done → IsRead d i from done
  sequence_read {i} {part} {from} {at_part} {done} parts before at split so_far order none read =
      let longer = read.order in
      let P : List ℕ → Type 0 = λ l. PartsEnd d l (from % 8) (length done % 8) in
      record {
        order = omega (arith, order, longer);
        empty = λ e. nullable_at (Seq parts) at (nullable_seq (subst (λ l. AllNullable d l) (sym split) (none_more none read order e)));
        ends = ends_at (Seq parts) at (ends_seq (subst P (sym split) (parts_end_more d so_far read.ends)));
        width = sequence_width d at;
      }

  pub turns_read : {i part from : ℕ} {count : Count} {done : List ℕ} → slice_get d.nodes i ≡ Some (Times count part)
      → Turn d count part 0 (from % 8) (length done % 8) → from ≤ length done → (v : Values)
      → (from ≡ length done → count_of v count ≡ Some 0) → IsRead d i from done
  turns_read {i} {part} {from} {count} {done} at turn order v none =
      record {
        order = order;
        ends = by turn at;
        empty =
            λ e. no_turn (count_is_zero v count 0 (shape i (Times count part) at) (none e) refl) at;
        width =
            times_width d at;
      }
    where
      no_turn : {c : Count} → ZeroCount c → slice_get d.nodes i ≡ Some (Times c part) → Nullable d i
      no_turn (zero_counted zero_added) at_c = nullable_at (Times _ part) at_c (nullable_no_times zero_added)

      by : {c : Count} → Turn d c part 0 (from % 8) (length done % 8) → slice_get d.nodes i ≡ Some (Times c part) → InEnds d i (from % 8) (length done % 8)
      by (turn_fixed {n = n} m sum h) at_c =
          let same : m ≡ n = omega arith in
          let P : ℕ → Type 0 = λ k. TimesEnd d k part (from % 8) (length done % 8) in
          ends_at (Times (Fixed n) part) at_c (ends_times (subst P same h))
      by (turn_counted h) at_c = ends_at (Times _ part) at_c (ends_counted h)

  pub free_read : {i part from : ℕ} {done : List ℕ} → slice_get d.nodes i ≡ Some (Many part)
      → ManyEnd d part (from % 8) (length done % 8) → from ≤ length done → IsRead d i from done
  free_read {i} {part} at so_far order =
      record {
        order = order;
        ends = ends_at (Many part) at (ends_many so_far);
        empty =
            λ e. nullable_at (Many part) at nullable_many;
        width = many_width d at;
      }

  lead_of : {before : List ℕ} {o p : ℕ} (after : List ℕ) → PartsEnd d before o p → LeadEnd d (before ++ after) o p
  lead_of after (parts_end same) = lead_end same
  lead_of after (parts_next middle first rest) = lead_next middle first (lead_of after rest)

  pub truncation_read : {i from : ℕ} {done : List ℕ} (parts before after : List ℕ)
      → slice_get d.nodes i ≡ Some (Trunc parts)
      → parts ≡ before ++ after → PartsEnd d before (from % 8) (length done % 8)
      → from ≤ length done → IsRead d i from done
  truncation_read {i} {from} {done} parts before after at split so_far order =
      let P : List ℕ → Type 0 = λ l. LeadEnd d l (from % 8) (length done % 8) in
      record {
        order = order;
        empty = λ e. nullable_at (Trunc parts) at nullable_trunc;
        ends =
            ends_at (Trunc parts) at (ends_trunc (subst P (sym split) (lead_of after so_far)));
        width =
            truncation_width d at;
      }
