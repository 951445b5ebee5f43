-- Claims that hold contain what look-ahead knows of a description, but for what may follow a node: which nodes may have
-- no bits, where nodes begin, and there, where their bits may end, with which bits they may begin, and their keys.
use Rattle.std.proofs.Common.{◌≡◌, ℕ, ◌+◌, ◌%◌, ◌<◌, Bool, true, List, [], ◌++◌, length, refl, sym, subst, arith, Some, slice_get}
use Rattle.std.specs.Prelude.{IsTrue}
use Rattle.csn_desc.specs.declared.node.Count.{Count}
use Rattle.csn_desc.specs.declared.node.Count.TheVariants.{Fixed, Counted}
use Rattle.csn_desc.specs.declared.node.Node.{Node}
use Rattle.csn_desc.specs.declared.node.Node.TheVariants.{Times, Many}
use Rattle.csn_desc.specs.Nodes.{DescV}
use Rattle.csn_look.specs.Nullable as null
use Rattle.csn_look.specs.Ends as end
use Rattle.csn_look.specs.Starts as start
use Rattle.csn_look.specs.Keys as key
use Rattle.csn_look.specs.Reached.{Reached}
use Rattle.csn_look.specs.Reached as reach
use Rattle.csn_equations.specs.Ends as equation
use Rattle.csn_equations.specs.Starts as start_equation
use Rattle.csn_equations.specs.Keys as key_equation
use Rattle.csn_equations.proofs.NullableLate.{all_moved, node_moved}
use Rattle.csn_equations.proofs.StartsLate.{parts_moved}
use Rattle.csn_look.proofs.Meaning.LeastSets.{NullableWith, EndsWith, StartWith, KeysWith, each_nullable, each_ends}
use Rattle.csn_look.proofs.Meaning.LeastSets.{each_start, each_key}
use Rattle.csn_look.proofs.Meaning.ShapeFacts.{CountIs, NodeIs, Shaped}
use Rattle.csn_look.proofs.Meaning.EndsFacts.{ends}
use Rattle.csn_look.proofs.Meaning.KeyMeant.{key_meant}
use Rattle.csn_claims.specs.Claims.{Claims}
use Rattle.csn_claims.specs.Nullable.{AllNullable}
use Rattle.csn_claims.specs.Ends.{NodeEnds, PartsEnd, TimesEnd, ManyEnd, LeadEnd, ends_lits, ends_spare, ends_null}
use Rattle.csn_claims.specs.Ends.{ends_pad, ends_rest, ends_field, ends_window, ends_seq, ends_choice, ends_times}
use Rattle.csn_claims.specs.Ends.{ends_counted, ends_many, ends_trunc, ends_named}
use Rattle.csn_claims.specs.Ends as claimed
use Rattle.csn_claims.specs.Starts.{NodeStarts, PartsStart, starts_lits, starts_spare, starts_pad, starts_field}
use Rattle.csn_claims.specs.Starts.{starts_rest, starts_seq, starts_trunc, starts_choice, starts_times, starts_many}
use Rattle.csn_claims.specs.Starts.{starts_window, starts_named, starts_here, starts_later}
use Rattle.csn_claims.specs.Keys.{NodeKeys, PartsKeys, TimesKeys, keys_lits, keys_spare, keys_field, keys_pad}
use Rattle.csn_claims.specs.Keys.{keys_null, keys_rest, keys_many, keys_trunc, keys_window, keys_counted_field}
use Rattle.csn_claims.specs.Keys.{keys_counted_times, keys_seq, keys_times, keys_choice, keys_named, parts_none}
use Rattle.csn_claims.specs.Keys.{parts_cut, parts_whole, times_none, times_cut, times_whole}
use Rattle.csn_claims.specs.Reached.{PartReached, reached_seq, reached_trunc, reached_choice, reached_window}
use Rattle.csn_claims.specs.Reached.{reached_named, reached_times, reached_counted, reached_many}
use Rattle.csn_claims.specs.Holding.{IsPart, Holds}
use Rattle.csn_claims.proofs.Reaching.{PartsReached, TurnsReached, FreeReached, first_part, later_parts, front_parts}
use Rattle.csn_claims.proofs.Reaching.{first_turn, later_turns, first_free, later_free, seq_reached, lead_reached}
use Rattle.csn_claims.proofs.Reaching.{choice_reached, window_reached, named_reached, free_reached, counted_reached}
use Rattle.csn_claims.proofs.Reaching.{turns_reached}

-- ---- where nodes may end

module _ (d : DescV) (most : ℕ) (claims : Claims) (holds : Holds d most claims) (P : ℕ → ℕ → ℕ → Type 0)
    (said : (i o p : ℕ) → P i o p → IsTrue (claims.reached i o) → IsTrue (claims.ends i o p)) where
  parts_said : {parts : List ℕ} {o p : ℕ} → PartsReached claims parts o → equation.PartsEnd P parts o p → PartsEnd claims parts o p
  parts_said reached (end.parts_end is) = claimed.parts_end is
  parts_said reached (end.parts_next middle h others) =
      let first = said _ _ _ h (first_part claims reached) in claimed.parts_next middle first (parts_said (later_parts claims reached first) others)

  times_said : {n i o p : ℕ} → TurnsReached claims n i o → equation.TimesEnd P n i o p → TimesEnd claims n i o p
  times_said reached (end.times_end over is) = claimed.times_end over is
  times_said reached (end.times_next m middle over h others) =
      let first = said _ _ _ h (first_turn claims (omega arith) reached) in
      claimed.times_next m middle over first (times_said (later_turns claims over reached first) others)

  many_said : {i o p : ℕ} → FreeReached claims i o → equation.ManyEnd P i o p → ManyEnd claims i o p
  many_said reached (end.many_end is) = claimed.many_end is
  many_said reached (end.many_next middle h others) =
      let first = said _ _ _ h (first_free claims reached) in claimed.many_next middle first (many_said (later_free claims reached first) others)

  lead_said : {parts : List ℕ} {o p : ℕ} → PartsReached claims parts o → equation.LeadEnd P parts o p → LeadEnd claims parts o p
  lead_said reached (end.lead_end is) = claimed.lead_end is
  lead_said reached (end.lead_next middle h others) =
      let first = said _ _ _ h (first_part claims reached) in claimed.lead_next middle first (lead_said (later_parts claims reached first) others)

  node_said : {n : Node} {i o p : ℕ} → slice_get d.nodes i ≡ Some n → IsTrue (claims.reached i o) → equation.NodeEnds d P n o p → NodeEnds d claims n o p
  node_said at reached (end.ends_lits is) = ends_lits is
  node_said at reached (end.ends_spare is) = ends_spare is
  node_said at reached (end.ends_null is) = ends_null is
  node_said at reached (end.ends_pad less) = ends_pad less
  node_said at reached (end.ends_rest less) = ends_rest less
  node_said at reached (end.ends_field n may is) = ends_field n may is
  node_said at reached (end.ends_window n may is) = ends_window n may is
  node_said at reached (end.ends_seq h) = ends_seq (parts_said (seq_reached d most claims holds at reached) h)
  node_said at reached (end.ends_choice j part h) = ends_choice j part (said _ _ _ h (choice_reached d most claims holds j at part reached))
  node_said at reached (end.ends_times h) = ends_times (times_said (turns_reached d most claims holds at reached) h)
  node_said at reached (end.ends_counted h) = ends_counted (many_said (counted_reached d most claims holds at reached) h)
  node_said at reached (end.ends_many h) = ends_many (many_said (free_reached d most claims holds at reached) h)
  node_said at reached (end.ends_trunc h) = ends_trunc (lead_said (lead_reached d most claims holds at reached) h)
  node_said at reached (end.ends_named h) = ends_named (said _ _ _ h (named_reached d most claims holds at reached))

module _ (d : DescV) (most : ℕ) (claims : Claims) (holds : Holds d most claims) where
  -- ---- which nodes may have no bits

  pub has_nullable : {i : ℕ} → null.Nullable d i → IsTrue (claims.nullable i)
  has_nullable h =
      each_nullable (λ i. IsTrue (claims.nullable i)) (λ i made. holds.nullable i made.node made.at
      (node_moved (NullableWith d (λ j. IsTrue (claims.nullable j))) (λ j. IsTrue (claims.nullable j)) (λ j part. part.1) made.has)) h

  pub all_nullable : {parts : List ℕ} → null.AllNullable d parts → AllNullable claims parts
  all_nullable h = all_moved (null.Nullable d) (λ j. IsTrue (claims.nullable j)) (λ j part. has_nullable part) h

  -- ---- where they may end

  abbrev EndsClaimed : ℕ → ℕ → ℕ → Type 0
  EndsClaimed i o p = IsTrue (claims.reached i o) → IsTrue (claims.ends i o p)

  pub has_ends : {i o p : ℕ} → IsTrue (claims.reached i o) → end.InEnds d i o p → IsTrue (claims.ends i o p)
  has_ends reached h =
      each_ends EndsClaimed (λ i o p made here. holds.ends i o p made.node made.at here
      (node_said d most claims holds (EndsWith d EndsClaimed) (λ j r s over. over.1) made.at here made.has)) h reached

  parts_ends : {parts : List ℕ} {o p : ℕ} → PartsReached claims parts o → end.PartsEnd d parts o p → PartsEnd claims parts o p
  parts_ends reached h = parts_said d most claims holds (end.InEnds d) (λ i o p over here. has_ends here over) reached h

  times_ends : {n i o p : ℕ} → TurnsReached claims n i o → end.TimesEnd d n i o p → TimesEnd claims n i o p
  times_ends reached h = times_said d most claims holds (end.InEnds d) (λ i o p over here. has_ends here over) reached h

  pub many_ends : {i o p : ℕ} → FreeReached claims i o → end.ManyEnd d i o p → ManyEnd claims i o p
  many_ends reached h = many_said d most claims holds (end.InEnds d) (λ i o p over here. has_ends here over) reached h

  -- parts begin behind those before them
  pub parts_behind : {before rest : List ℕ} {from o : ℕ} → PartsReached claims (before ++ rest) from
      → end.PartsEnd d before from o → PartsReached claims rest o
  parts_behind {rest = rest} reached (end.parts_end is) = let P : ℕ → Type 0 = λ p. PartsReached claims rest p in subst P (sym is) reached
  parts_behind reached (end.parts_next middle h others) = parts_behind (later_parts claims reached (has_ends (first_part claims reached) h)) others

  -- ---- where they begin

  part_reached : {n : Node} {before : List ℕ} {i from o : ℕ} (k : ℕ) (after : List ℕ)
      → IsPart d k n before i after → IsTrue (claims.reached k from) → reach.PartReached d n before i from o
      → PartReached claims n before i from o
  part_reached {i = i} k after is above (reach.reached_seq h) =
      reached_seq (parts_ends (front_parts claims i after is.split (seq_reached d most claims holds is.at above)) h)
  part_reached {i = i} k after is above (reach.reached_trunc h) =
      reached_trunc (parts_ends (front_parts claims i after is.split (lead_reached d most claims holds is.at above))
      h)
  part_reached k after is above (reach.reached_choice same) = reached_choice same
  part_reached k after is above (reach.reached_window same) = reached_window same
  part_reached k after is above (reach.reached_named same) = reached_named same
  part_reached {before = before} {i = i} {from = from} k after is above (reach.reached_times {n = n} {part = part} m less h) =
      reached_times m less
      (times_ends (record {
        each = λ l p fewer e. holds.reached k from i p (Times (Fixed n) part)
            before after is above (reached_times l (omega arith) e);
      }) h)
  part_reached {before = before} {i = i} {from = from} k after is above (reach.reached_counted {m = m} {field = field} {c = c} {part = part} h) =
      reached_counted
      (many_ends (record {
        each = λ p e. holds.reached k from i p (Times (Counted m field c) part)
            before after is above (reached_counted e);
      }) h)
  part_reached {before = before} {i = i} {from = from} k after is above (reach.reached_many {part = part} h) =
      reached_many (many_ends (record { each = λ p e. holds.reached k from i p (Many part) before after is above (reached_many e) }) h)

  pub has_reached : {i o : ℕ} → Reached d i o → IsTrue (claims.reached i o)
  has_reached {i} {o} (reach.reached_root root first) =
      let P : ℕ → Type 0 = λ j. IsTrue (claims.reached j 0) in
      let Q : ℕ → Type 0 = λ p. IsTrue (claims.reached i p) in
      subst Q (sym first) (subst P (sym root) holds.root_reached)
  has_reached {i} {o} (reach.reached_part k from n before after at split h step) =
      let is : IsPart d k n before i after = record { at = at; split = split } in
      let above = has_reached h in
      holds.reached k from i o n before after is above (part_reached k after is above step)

module _ (d : DescV) (most : ℕ) (claims : Claims) (shaped : Shaped d) (holds : Holds d most claims) where
  -- ---- with which bits they may begin

  -- the first turn of a repetition by number
  turn_begins : {k i o : ℕ} (count : Count) → CountIs d.nodes count → slice_get d.nodes k ≡ Some (Times count i)
      → IsTrue (claims.reached k o) → IsTrue (claims.reached i o)
  turn_begins (Fixed n) some at reached = first_turn claims some (turns_reached d most claims holds at reached)
  turn_begins (Counted m field c) is at reached = first_free claims (counted_reached d most claims holds at reached)

  abbrev StartClaimed : ℕ → ℕ → ℕ → Type 0
  StartClaimed i o bit = IsTrue (claims.reached i o) → IsTrue (claims.starts i o bit)

  begins_claimed : {parts : List ℕ} {o bit : ℕ} → PartsReached claims parts o
      → start_equation.PartsStart (null.Nullable d) (end.InEnds d) (StartWith d StartClaimed) parts o bit → PartsStart claims parts o bit
  begins_claimed reached (start.starts_here h) = starts_here (h.1 (first_part claims reached))
  begins_claimed reached (start.starts_later middle none h others) =
      let first = has_ends d most claims holds (first_part claims reached) h in
      starts_later middle (has_nullable d most claims holds none) first (begins_claimed (later_parts claims reached first) others)

  node_starts : {n : Node} {i o bit : ℕ} → NodeIs d.nodes n → slice_get d.nodes i ≡ Some n
      → IsTrue (claims.reached i o) → start_equation.NodeStarts d (null.Nullable d) (end.InEnds d) (StartWith d StartClaimed) n o bit
      → NodeStarts d claims n o bit
  node_starts is at reached (start.starts_lits same) = starts_lits same
  node_starts is at reached (start.starts_spare h) = starts_spare h
  node_starts is at reached (start.starts_pad h) = starts_pad h
  node_starts is at reached (start.starts_field low) = starts_field low
  node_starts is at reached (start.starts_rest low) = starts_rest low
  node_starts is at reached (start.starts_seq h) = starts_seq (begins_claimed (seq_reached d most claims holds at reached) h)
  node_starts is at reached (start.starts_trunc h) = starts_trunc (begins_claimed (lead_reached d most claims holds at reached) h)
  node_starts is at reached (start.starts_choice j part h) = starts_choice j part (h.1 (choice_reached d most claims holds j at part reached))
  node_starts is at reached (start.starts_times {count = count} h) = starts_times (h.1 (turn_begins count is at reached))
  node_starts is at reached (start.starts_many h) = starts_many (h.1 (first_free claims (free_reached d most claims holds at reached)))
  node_starts is at reached (start.starts_window h) = starts_window (h.1 (window_reached d most claims holds at reached))
  node_starts is at reached (start.starts_named h) = starts_named (h.1 (named_reached d most claims holds at reached))

  pub has_start : {i o bit : ℕ} → IsTrue (claims.reached i o) → start.InStart d i o bit → IsTrue (claims.starts i o bit)
  has_start reached h =
      each_start StartClaimed (λ i o bit made here. holds.starts i o bit made.node made.at here
      (node_starts (shaped.node i made.node made.at) made.at here made.has)) h reached

  pub has_parts_start : {parts : List ℕ} {o bit : ℕ} → PartsReached claims parts o → start.PartsStart d parts o bit → PartsStart claims parts o bit
  has_parts_start reached h =
      begins_claimed reached (parts_moved (null.Nullable d) (null.Nullable d) (end.InEnds d) (end.InEnds d) (start.InStart d)
      (StartWith d StartClaimed) (λ i none. none) (λ i o p over. over) (λ i o bit first. (first, λ here. has_start here first)) h)

  -- ---- their keys

  -- a node may end where a whole key of it does
  key_ends : {i o : ℕ} {w : List ℕ} → o < 8 → IsTrue (claims.reached i o) → key.InKeys d most i o w true → IsTrue (claims.ends i o ((o + length w) % 8))
  key_ends {i} {o} {w} low reached h =
      let octet : o ≡ o % 8 = omega arith in
      let meant = key_meant d most o o [] octet refl h in
      let P : ℕ → Type 0 = λ q. end.InEnds d i q ((o + length w) % 8) in
      has_ends d most claims holds reached (subst P (sym octet) (ends d shaped (o + length w) refl shaped.none_fit meant.1))

  abbrev KeyClaimed : ℕ → ℕ → List ℕ → Bool → Type 0
  KeyClaimed i o x mark = o < 8 → IsTrue (claims.reached i o) → IsTrue (claims.keys i o x mark)

  parts_keys : {parts : List ℕ} {o : ℕ} {x : List ℕ} {mark : Bool} → o < 8 → PartsReached claims parts o
      → key_equation.PartsKeys most (KeysWith d most KeyClaimed) parts o x mark → PartsKeys most claims parts o x mark
  parts_keys low reached (key.parts_none is mark) = parts_none is mark
  parts_keys low reached (key.parts_cut h mark) = parts_cut (h.1 low (first_part claims reached)) mark
  parts_keys low reached (key.parts_whole w1 w2 rest h others c) =
      let here = first_part claims reached in
      let later = later_parts claims reached (key_ends low here h.0) in
      parts_whole w1 w2 rest (h.1 low here) (parts_keys (omega arith) later others) c

  times_keys : {n i o : ℕ} {x : List ℕ} {mark : Bool} → o < 8 → TurnsReached claims n i o
      → key_equation.TimesKeys most (KeysWith d most KeyClaimed) n i o x mark → TimesKeys most claims n i o x mark
  times_keys low reached (key.times_none over is mark) = times_none over is mark
  times_keys low reached (key.times_cut m over h mark) = times_cut m over (h.1 low (first_turn claims (omega arith) reached)) mark
  times_keys low reached (key.times_whole m over w1 w2 rest h others c) =
      let here = first_turn claims (omega arith) reached in
      let later = later_turns claims over reached (key_ends low here h.0) in
      times_whole m over w1 w2 rest (h.1 low here) (times_keys (omega arith) later others) c

  node_keys : {n : Node} {i o : ℕ} {x : List ℕ} {mark : Bool} → o < 8 → slice_get d.nodes i ≡ Some n
      → IsTrue (claims.reached i o) → key_equation.NodeKeys d most (KeysWith d most KeyClaimed) n o x mark → NodeKeys d most claims n o x mark
  node_keys low at reached (key.keys_lits c) = keys_lits c
  node_keys low at reached (key.keys_spare w one spare c) = keys_spare w one spare c
  node_keys low at reached (key.keys_field w wide are c) = keys_field w wide are c
  node_keys low at reached (key.keys_pad w one spare c) = keys_pad w one spare c
  node_keys low at reached (key.keys_null is mark) = keys_null is mark
  node_keys low at reached (key.keys_rest is mark) = keys_rest is mark
  node_keys low at reached (key.keys_many is mark) = keys_many is mark
  node_keys low at reached (key.keys_trunc is mark) = keys_trunc is mark
  node_keys low at reached (key.keys_window is mark) = keys_window is mark
  node_keys low at reached (key.keys_counted_field is mark) = keys_counted_field is mark
  node_keys low at reached (key.keys_counted_times is mark) = keys_counted_times is mark
  node_keys low at reached (key.keys_seq h) = keys_seq (parts_keys low (seq_reached d most claims holds at reached) h)
  node_keys low at reached (key.keys_times h) = keys_times (times_keys low (turns_reached d most claims holds at reached) h)
  node_keys low at reached (key.keys_choice j part h) = keys_choice j part (h.1 low (choice_reached d most claims holds j at part reached))
  node_keys low at reached (key.keys_named h) = keys_named (h.1 low (named_reached d most claims holds at reached))

  pub has_key : {i o : ℕ} {x : List ℕ} {mark : Bool} → o < 8 → IsTrue (claims.reached i o) → key.InKeys d most i o x mark → IsTrue (claims.keys i o x mark)
  has_key low reached h =
      each_key KeyClaimed (λ i o x mark made small here. holds.keys i o x mark made.node made.at here
      (node_keys small made.at here made.has)) h low reached
