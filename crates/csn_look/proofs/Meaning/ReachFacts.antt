-- Where the parts of a node that may begin at an octet position may begin.
use Rattle.std.proofs.Common.{◌≡◌, ℕ, suc, ◌+◌, ◌%◌, ◌<◌, List, [], ◌∷◌, ◌++◌, length, refl, subst, arith, Some, slice_get}
use Rattle.csn_desc.specs.declared.node.Count.{Count}
use Rattle.csn_desc.specs.declared.node.Count.TheVariants.{Fixed, Counted}
use Rattle.csn_desc.specs.declared.node.Node.TheVariants.{Seq, Choice, Times, Many, Trunc, Window, Named}
use Rattle.csn_desc.specs.TreeV.{Trees}
use Rattle.csn_desc.specs.Nodes.{DescV}
use Rattle.csn_desc.specs.Values.{Values, count_of}
use Rattle.csn_desc.specs.Means.{TimesMean}
use Rattle.csn_desc.specs.Formed.{FitWidths}
use Rattle.csn_look.specs.Ends.{InEnds, PartsEnd, TimesEnd, ManyEnd, parts_end, parts_next, times_end, times_next, many_end, many_next}
use Rattle.csn_look.specs.Reached.{Reached, Turn, turn_fixed, turn_counted, reached_part, reached_seq, reached_trunc}
use Rattle.csn_look.specs.Reached.{reached_choice, reached_window, reached_named, reached_times, reached_counted}
use Rattle.csn_look.specs.Reached.{reached_many}
use Rattle.csn_look.proofs.Meaning.ShapeFacts.{Shaped}
use Rattle.csn_look.proofs.Meaning.EndsFacts.{times_ends, counted_ends}
use Rattle.csn_look.proofs.Meaning.FollowFacts.{Cuts}

module _ (d : DescV) where
  -- ---- one part more

  pub parts_end_more : {before : List ℕ} {i from o p : ℕ} → PartsEnd d before from o → InEnds d i o p → PartsEnd d (before ++ i ∷ []) from p
  parts_end_more {i = i} {from = from} {o = o} {p = p} (parts_end same) h =
      let P : ℕ → Type 0 = λ q. InEnds d i q p in parts_next p (subst P same h) (parts_end refl)
  parts_end_more (parts_next middle first others) h = parts_next middle first (parts_end_more others h)

  pub times_end_more : {m i from o p : ℕ} → TimesEnd d m i from o → InEnds d i o p → TimesEnd d (suc m) i from p
  times_end_more {m} {i} {from} {o} {p} (times_end none same) h =
      let P : ℕ → Type 0 = λ q. InEnds d i q p in times_next m p refl (subst P same h) (times_end none refl)
  times_end_more {m} (times_next k middle is first others) h = times_next m middle refl first (along (times_end_more others h))
    where
      along : {i middle p : ℕ} → TimesEnd d (suc k) i middle p → TimesEnd d m i middle p
      along {i} {middle} {p} h = let P : ℕ → Type 0 = λ n. TimesEnd d n i middle p in let same : suc k ≡ m = cc in subst P same h

  pub many_end_more : {i from o p : ℕ} → ManyEnd d i from o → InEnds d i o p → ManyEnd d i from p
  many_end_more {i} {from} {o} {p} (many_end same) h =
      let P : ℕ → Type 0 = λ q. InEnds d i q p in many_next p (subst P same h) (many_end refl)
  many_end_more (many_next middle first others) h = many_next middle first (many_end_more others h)

  -- ---- turns of a repetition by number

  pub turn_first : {i n : ℕ} (v : Values) (count : Count) (o : ℕ) → count_of v count ≡ Some n → Turn d count i n o o
  turn_first {n = n} v (Fixed k) o counts =
      let same : k ≡ n = cc in turn_fixed 0 (omega arith) (times_end refl refl)
  turn_first v (Counted m field c) o counts = turn_counted (many_end refl)

  pub turn_next : {count : Count} {i n left from o p : ℕ} → n ≡ suc left → Turn d count i n from o → InEnds d i o p → Turn d count i left from p
  turn_next is (turn_fixed m sum h) ends = turn_fixed (suc m) (omega arith) (times_end_more h ends)
  turn_next is (turn_counted h) ends = turn_counted (many_end_more h ends)

  -- ---- parts are reached

  pub seq_reached : {k i from o : ℕ} {parts before : List ℕ} (after : List ℕ) → slice_get d.nodes k ≡ Some (Seq parts)
      → parts ≡ before ++ i ∷ after → Reached d k from → PartsEnd d before from o → Reached d i o
  seq_reached {k} {from = from} {parts = parts} {before = before} after at is h ends = reached_part k from (Seq parts) before after at is h (reached_seq ends)

  pub lead_reached : {k i from o : ℕ} {parts before : List ℕ} (after : List ℕ)
      → slice_get d.nodes k ≡ Some (Trunc parts) → parts ≡ before ++ i ∷ after → Reached d k from
      → PartsEnd d before from o → Reached d i o
  lead_reached {k} {from = from} {parts = parts} {before = before} after at is h ends =
      reached_part k from (Trunc parts) before after at is h (reached_trunc ends)

  pub choice_reached : {k i o : ℕ} {parts : List ℕ} → slice_get d.nodes k ≡ Some (Choice parts) → Cuts parts i → Reached d k o → Reached d i o
  choice_reached {k} {o = o} {parts = parts} at cut h = reached_part k o (Choice parts) cut.before cut.after at cut.is h (reached_choice refl)

  pub window_reached : {k i unit o : ℕ} {count : Count} → slice_get d.nodes k ≡ Some (Window unit count i) → Reached d k o → Reached d i o
  window_reached {k} {i} {unit} {o} {count} at h = reached_part k o (Window unit count i) [] [] at refl h (reached_window refl)

  pub named_reached : {k i o : ℕ} {label : List ℕ} → slice_get d.nodes k ≡ Some (Named label i) → Reached d k o → Reached d i o
  named_reached {k} {i} {o} {label} at h = reached_part k o (Named label i) [] [] at refl h (reached_named refl)

  pub many_reached : {k i from o : ℕ} → slice_get d.nodes k ≡ Some (Many i) → Reached d k from → ManyEnd d i from o → Reached d i o
  many_reached {k} {i} {from} at h ends = reached_part k from (Many i) [] [] at refl h (reached_many ends)

  pub turn_reached : {k i n left from o : ℕ} {count : Count} → slice_get d.nodes k ≡ Some (Times count i)
      → Reached d k from → n ≡ suc left → Turn d count i n from o → Reached d i o
  turn_reached {k} {i} {from = from} at h is (turn_fixed {n = all} m sum ends) =
      reached_part k from (Times (Fixed all) i) [] [] at refl h (reached_times m (omega arith) ends)
  turn_reached {k} {i} {from = from} at h is (turn_counted {m = m} {field = field} {c = c} ends) =
      reached_part k from (Times (Counted m field c) i) [] [] at refl h (reached_counted ends)

module _ (d : DescV) (shaped : Shaped d) where
  -- behind fewer turns than there are
  pub times_reached : {k i o m n : ℕ} {b : List ℕ} {ts : Trees} (count : Count) (v : Values) (p : ℕ)
      → p ≡ o + length b → slice_get d.nodes k ≡ Some (Times count i) → count_of v count ≡ Some n → m < n
      → FitWidths d v → Reached d k (o % 8) → TimesMean d m i o v b ts → Reached d i (p % 8)
  times_reached {k} {i} {o} {m} {n} (Fixed all) v p is at counts less fits h meant =
      let same : all ≡ n = cc in
      reached_part k (o % 8) (Times (Fixed all) i) [] [] at refl h (reached_times m (omega arith) (times_ends d shaped p is fits meant))
  times_reached {k} {i} {o} (Counted m field c) v p is at counts less fits h meant =
      reached_part k (o % 8) (Times (Counted m field c) i) [] [] at refl h (reached_counted (counted_ends d shaped p is fits meant))
