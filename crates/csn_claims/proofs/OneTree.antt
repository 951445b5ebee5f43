-- In a clear description any bits have at most one tree, at the root and, whatever may stand behind, at each node.
use Rattle.std.proofs.Common.{◌≡◌, ℕ, ◌+◌, ◌*◌, ◌%◌, ◌<◌, List, [], ◌∷◌, ◌++◌, length, refl, sym, ◌∙◌, ap, subst}
use Rattle.std.proofs.Common.{arith, append_assoc, append-nil, length-append, Some, slice_get}
use Rattle.csn_desc.specs.declared.node.Count.{Count}
use Rattle.csn_desc.specs.declared.node.Node.{Node}
use Rattle.csn_desc.specs.declared.node.Node.TheVariants.{Pad, Rest, Seq, Times, Many, Trunc}
use Rattle.csn_desc.specs.TreeV.{TreeV, bits, row, alt, named, Trees, none, more}
use Rattle.csn_desc.specs.Nodes.{DescV}
use Rattle.csn_desc.specs.Values.{Values, with_value}
use Rattle.csn_desc.specs.Means.{NMeans, NodeMeans, PartsMean, TimesMean, ManyMean, LeadMean, means_at, means_lits}
use Rattle.csn_desc.specs.Means.{means_spare, means_pad, means_null, means_field, means_rest, means_seq, means_choice}
use Rattle.csn_desc.specs.Means.{means_times, means_many, means_cut, means_trunc, means_window, means_named}
use Rattle.csn_desc.specs.Means.{parts_end, parts_next, times_end, times_next, many_end, many_next, lead_last}
use Rattle.csn_desc.specs.Means.{lead_next}
use Rattle.csn_desc.specs.Formed.{FitWidths}
use Rattle.csn_desc.proofs.Nodewise.{meaning_at}
use Rattle.csn_look.specs.Ends.{PartsEnd, ManyEnd}
use Rattle.csn_look.specs.Ends as end
use Rattle.csn_look.specs.Reached.{Reached, reached_root, Turn}
use Rattle.csn_look.proofs.Basics.Places.{fronts}
use Rattle.csn_look.proofs.Meaning.ShapeFacts.{kept}
use Rattle.csn_look.proofs.Meaning.EndsFacts.{ends}
use Rattle.csn_look.proofs.Meaning.FollowFacts.{cuts}
use Rattle.csn_look.proofs.Meaning.ReachFacts.{turn_first, turn_next, turn_reached, parts_end_more, many_end_more}
use Rattle.csn_look.proofs.Meaning.ReachFacts.{seq_reached, lead_reached, choice_reached, window_reached}
use Rattle.csn_look.proofs.Meaning.ReachFacts.{named_reached, many_reached}
use Rattle.csn_claims.proofs.Pieces.{order, equal_numbers, first_less, second_less, same_ends, cut_first, cut_rest}
use Rattle.csn_claims.proofs.Clear.{Lies, Stands, Clear}
use Rattle.csn_claims.proofs.FollowFacts.{end_stands, behind_first, stands_along, stands_moved, seq_stands}
use Rattle.csn_claims.proofs.FollowFacts.{lead_stands, last_stands, times_stands, many_stands, choice_stands}
use Rattle.csn_claims.proofs.FollowFacts.{named_stands}
use Rattle.csn_claims.proofs.Decisions.{nothing_behind, no_loop, no_two}

-- the bits are the same, and so are the trees
pub record Same {T : Type 0} (b c : List ℕ) (t u : T) : Type 0 where
  pub words : b ≡ c
  pub trees : t ≡ u

joined : {b c : List ℕ} {t u : TreeV} {ts us : Trees} (b1 b2 c1 c2 : List ℕ)
    → b ≡ b1 ++ b2 → c ≡ c1 ++ c2 → Same b1 c1 t u → Same b2 c2 ts us → Same b c (more t ts) (more u us)
joined b1 b2 c1 c2 left right first others =
    let tree_same = first.trees in let rest_same = others.trees in
    record { words = left ∙ ap (λ l. l ++ b2) first.words ∙ ap (λ l. c1 ++ l) others.words ∙ sym right; trees = cc }

module _ (d : DescV) where
  -- some first parts of a truncation have a bit
  pub lead_some : {parts : List ℕ} {o : ℕ} {v : Values} {b : List ℕ} {ts : Trees} → LeadMean d parts o v b ts → 0 < length b
  lead_some (lead_last some h) = some
  lead_some (lead_next b1 b2 cut h others) = let size = ap length cut in omega (arith, lead_some others, length-append b1 b2)

  -- the later parts, from where the first piece ends
  parts_moved : (i : ℕ) (parts : List ℕ) (o : ℕ) (v : Values) {c : List ℕ} {us : Trees} (b1 c1 : List ℕ)
      → b1 ≡ c1 → PartsMean d parts (o + length c1) (with_value d.nodes i c1 v) c us
      → PartsMean d parts (o + length b1) (with_value d.nodes i b1 v) c us
  parts_moved i parts o v {c} {us} b1 c1 same h = let P : List ℕ → Type 0 = λ l. PartsMean d parts (o + length l)
      (with_value d.nodes i l v) c us in subst P (sym same) h

  lead_moved : (i : ℕ) (parts : List ℕ) (o : ℕ) (v : Values) {c : List ℕ} {us : Trees} (b1 c1 : List ℕ)
      → b1 ≡ c1 → LeadMean d parts (o + length c1) (with_value d.nodes i c1 v) c us → LeadMean d parts (o + length b1)
      (with_value d.nodes i b1 v) c us
  lead_moved i parts o v {c} {us} b1 c1 same h = let P : List ℕ → Type 0 = λ l. LeadMean d parts (o + length l)
      (with_value d.nodes i l v) c us in subst P (sym same) h

  many_moved : {i : ℕ} (o : ℕ) {v : Values} {c : List ℕ} {us : Trees} (b1 c1 : List ℕ)
      → b1 ≡ c1 → ManyMean d i (o + length c1) v c us → ManyMean d i (o + length b1) v c us
  many_moved {i} o {v} {c} {us} b1 c1 same h = let P : List ℕ → Type 0 = λ l. ManyMean d i (o + length l) v c us in subst P (sym same) h

  times_moved : {i m n : ℕ} (o : ℕ) {v : Values} {c : List ℕ} {us : Trees} (b1 c1 : List ℕ)
      → m ≡ n → b1 ≡ c1 → TimesMean d n i (o + length c1) v c us → TimesMean d m i (o + length b1) v c us
  times_moved {i} {m} {n} o {v} {c} {us} b1 c1 count same h =
      let P : List ℕ → Type 0 = λ l. TimesMean d n i (o + length l) v c us in
      let Q : ℕ → Type 0 = λ k. TimesMean d k i (o + length b1) v c us in
      subst Q (sym count) (subst P (sym same) h)

  pub meaning_along : {i k o : ℕ} {v : Values} {c : List ℕ} {u : TreeV} → i ≡ k → NMeans d k o v c u → NMeans d i o v c u
  meaning_along {o = o} {v = v} {c = c} {u = u} same h = let P : ℕ → Type 0 = λ i. NMeans d i o v c u in subst P (sym same) h

module _ (d : DescV) (most : ℕ) (Follow : ℕ → ℕ → ℕ → Type 0) (clear : Clear d most Follow) where
  lies : {i o : ℕ} {v : Values} {b : List ℕ} {t : TreeV} → FitWidths d v → Reached d i (o % 8) → NMeans d i o v b t → Lies d i (o % 8) ((o + length b) % 8)
  lies {o = o} {b = b} widths reached h = record { begins = reached; ends = ends d clear.shaped (o + length b) refl widths h }

  -- ---- one tree

  alternative : {b c : List ℕ} {t u : TreeV} (j k : ℕ) → j ≡ k → Same b c t u → Same b c (alt j t) (alt k u)
  alternative j k same h = let tree = h.trees in record { words = h.words; trees = cc }

  mutual
    -- bits of one node that go on alike, each with what may stand behind them, are the same, with one tree
    pub one_tree : {i o : ℕ} {v : Values} {b : List ℕ} {t : TreeV}
        → NMeans d i o v b t → {c : List ℕ} {u : TreeV} (x y : List ℕ) → Reached d i (o % 8)
        → FitWidths d v → NMeans d i o v c u → b ++ x ≡ c ++ y → Stands Follow i o b x → Stands Follow i o c y
        → Same b c t u
    one_tree (means_at n at h) x y reached widths other e s1 s2 = one_node h at x y reached widths (meaning_at d at other) e s1 s2

    one_node : {n : Node} {i o : ℕ} {v : Values} {b : List ℕ} {t : TreeV}
        → NodeMeans d n o v b t → slice_get d.nodes i ≡ Some n → {c : List ℕ} {u : TreeV} (x y : List ℕ)
        → Reached d i (o % 8) → FitWidths d v → NodeMeans d n o v c u → b ++ x ≡ c ++ y → Stands Follow i o b x
        → Stands Follow i o c y → Same b c t u
    one_node (means_lits left) at x y reached widths (means_lits right) e s1 s2 = record { words = left ∙ sym right; trees = refl }
    one_node {b = b} (means_spare left h1) at {c = c} x y reached widths (means_spare right h2) e s1 s2 =
        let agree = fronts b c x y e (left ∙ sym right) in record { words = agree; trees = ap bits agree }
    one_node {b = b} (means_pad some1 h1) at {c = c} x y reached widths (means_pad some2 h2) e s1 s2 =
        let left = nothing_behind d most Follow clear Pad x at tt reached widths (means_at Pad at (means_pad some1 h1)) s1 in
        let right = nothing_behind d most Follow clear Pad y at tt reached widths (means_at Pad at (means_pad some2 h2)) s2 in
        let agree = same_ends b c x y left right e in
        record { words = agree; trees = ap bits agree }
    one_node (means_null left) at x y reached widths (means_null right) e s1 s2 = record { words = left ∙ sym right; trees = refl }
    one_node {b = b} (means_field {unit = unit} n counts1 wide1 h1) at {c = c} x y reached widths (means_field m counts2 wide2 h2) e s1 s2 =
        let count : n ≡ m = cc in
        let agree = fronts b c x y e (wide1 ∙ ap (λ k. unit * k) count ∙ sym wide2) in
        record { words = agree; trees = ap bits agree }
    one_node {b = b} (means_rest h1) at {c = c} x y reached widths (means_rest h2) e s1 s2 =
        let left = nothing_behind d most Follow clear Rest x at tt reached widths (means_at Rest at (means_rest h1)) s1 in
        let right = nothing_behind d most Follow clear Rest y at tt reached widths (means_at Rest at (means_rest h2)) s2 in
        let agree = same_ends b c x y left right e in
        record { words = agree; trees = ap bits agree }
    one_node (means_seq h1) at x y reached widths (means_seq h2) e s1 s2 =
        let same = one_parts h1 at [] refl reached (end.parts_end refl) widths x y h2 e s1 s2 in
        record { words = same.words; trees = ap row same.trees }
    one_node (means_choice {parts = parts} {j = j} {i = p} at1 h1) at x y reached widths (means_choice {j = k} {i = q} at2 h2) e s1 s2 =
        elim (order j k) [
          | equal_numbers same ↦
              let part : p ≡ q = cc in
              let here = choice_reached d at (cuts parts j p at1) reached in
              let other = meaning_along d part h2 in
              alternative j k same (one_tree h1 x y here widths other e (choice_stands d most Follow clear j at at1
              (lies widths here h1) s1) (choice_stands d most Follow clear j at at1 (lies widths here other) s2))
          | first_less less ↦ absurd (no_two d most Follow clear x y at less at1 at2 reached widths h1 h2 e s1 s2)
          | second_less less ↦ absurd (no_two d most Follow clear y x at less at2 at1 reached widths h2 h1 (sym e) s2 s1)
        ]
    one_node {o = o} {v = v} (means_times {count = count} {i = p} n counts1 h1) at {c = c} x y reached widths (means_times {ts = us} m counts2 h2) e s1 s2 =
        let same_times : n ≡ m = cc in
        let P : ℕ → Type 0 = λ n. TimesMean d n p o v c us in
        let same = one_times h1 at reached (turn_first d v count (o % 8) counts1) widths x y (subst P (sym same_times) h2) e s1 s2 in
        record { words = same.words; trees = ap row same.trees }
    one_node (means_many h1) at x y reached widths (means_many h2) e s1 s2 =
        let same = one_many h1 at reached (end.many_end refl) widths x y h2 e s1 s2 in
        record { words = same.words; trees = ap row same.trees }
    one_node (means_cut left) at x y reached widths (means_cut right) e s1 s2 = record { words = left ∙ sym right; trees = refl }
    one_node {b = b} (means_cut {parts = parts} left) at {c = c} x y reached widths (means_trunc h2) e s1 s2 =
        let agree = same_ends b c x y (nothing_behind d most Follow clear (Trunc parts) x at tt reached widths
        (means_at (Trunc parts) at (means_cut left)) s1) (nothing_behind d most Follow clear (Trunc parts)
        y at tt reached widths (means_at (Trunc parts) at (means_trunc h2)) s2) e in
        let size = ap length (sym left ∙ agree) in
        absurd (omega (arith, lead_some d h2))
    one_node {b = b} (means_trunc {parts = parts} h1) at {c = c} x y reached widths (means_cut right) e s1 s2 =
        let agree = same_ends b c x y (nothing_behind d most Follow clear (Trunc parts) x at tt reached widths
        (means_at (Trunc parts) at (means_trunc h1)) s1) (nothing_behind d most Follow clear (Trunc parts)
        y at tt reached widths (means_at (Trunc parts) at (means_cut right)) s2) e in
        let size = ap length (agree ∙ right) in
        absurd (omega (arith, lead_some d h1))
    one_node {i = i} {o = o} {b = b} (means_trunc {parts = parts} h1) at {c = c} x y reached widths (means_trunc h2) e s1 s2 =
        let left = nothing_behind d most Follow clear (Trunc parts) x at tt reached widths (means_at (Trunc parts) at (means_trunc h1)) s1 in
        let right = nothing_behind d most Follow clear (Trunc parts) y at tt reached widths (means_at (Trunc parts) at (means_trunc h2)) s2 in
        let agree = same_ends b c x y left right e in
        let P : List ℕ → Type 0 = λ l. Stands Follow i o b l in
        let same = one_lead h1 at [] refl reached (end.parts_end refl) widths h2 agree (subst P left s1) in
        record { words = agree; trees = ap row same }
    one_node {o = o} {b = b} (means_window {unit = unit} {i = p} n counts1 wide1 h1) at {c = c} x y reached widths (means_window m counts2 wide2 h2) e s1 s2 =
        let count : n ≡ m = cc in
        let agree = fronts b c x y e (wide1 ∙ ap (λ k. unit * k) count ∙ sym wide2) in
        one_tree h1 [] [] (window_reached d at reached) widths h2 (ap (λ l. l ++ []) agree) (end_stands Follow p o b) (end_stands Follow p o c)
    one_node (means_named {label = label} h1) at x y reached widths (means_named h2) e s1 s2 =
        let here = named_reached d at reached in
        let same = one_tree h1 x y here widths h2 e (named_stands d most Follow clear at (lies widths here h1) s1)
        (named_stands d most Follow clear at (lies widths here h2) s2) in
        record { words = same.words; trees = ap (named label) same.trees }

    -- the later parts of a sequence
    pub one_parts : {k from o : ℕ} {parts after : List ℕ} {v : Values} {b : List ℕ} {ts : Trees}
        → PartsMean d after o v b ts → slice_get d.nodes k ≡ Some (Seq parts) → (before : List ℕ)
        → parts ≡ before ++ after → Reached d k from → PartsEnd d before from (o % 8)
        → FitWidths d v → {c : List ℕ} {us : Trees} (x y : List ℕ) → PartsMean d after o v c us → b ++ x ≡ c ++ y
        → Stands Follow k o b x → Stands Follow k o c y → Same b c ts us
    one_parts (parts_end left) at before is reached ended widths x y (parts_end right) e s1 s2 = record { words = left ∙ sym right; trees = refl }
    one_parts {o = o} {v = v} (parts_next {i = i} {parts = after} b1 b2 left h1 others1)
        at before is reached ended widths x y (parts_next c1 c2 right h2 others2) e s1 s2 =
        let t1 = behind_first Follow b1 b2 left s1 in
        let t2 = behind_first Follow c1 c2 right s2 in
        let whole = cut_first b1 b2 x c1 c2 y left right e in
        let here = seq_reached d after at is reached ended in
        let lies1 = lies widths here h1 in
        let lies2 = lies widths here h2 in
        let fits1 = kept d clear.shaped widths h1 in
        let first = one_tree h1 (b2 ++ x) (c2 ++ y) here widths h2 whole
        (seq_stands d most Follow clear before b1 at is reached ended lies1 fits1 others1 t1)
        (seq_stands d most Follow clear before c1 at is reached ended lies2 (kept d clear.shaped widths h2)
        others2 t2) in
        let rest = one_parts others1 at (before ++ i ∷ []) (is ∙ sym (append_assoc before (i ∷ []) after)) reached
        (parts_end_more d ended lies1.ends) fits1 x y (parts_moved d i after o v b1 c1 first.words others2)
        (cut_rest b1 b2 x c1 c2 y first.words whole) t1 (stands_moved Follow o b1 c1 first.words t2) in
        joined b1 b2 c1 c2 left right first rest

    -- the turns that are left of a repetition by number
    pub one_times : {k i n from o : ℕ} {count : Count} {v : Values} {b : List ℕ} {ts : Trees}
        → TimesMean d n i o v b ts → slice_get d.nodes k ≡ Some (Times count i)
        → Reached d k from → Turn d count i n from (o % 8) → FitWidths d v → {c : List ℕ} {us : Trees} (x y : List ℕ)
        → TimesMean d n i o v c us → b ++ x ≡ c ++ y → Stands Follow k o b x → Stands Follow k o c y → Same b c ts us
    one_times (times_end over1 left) at reached turn widths x y (times_end over2 right) e s1 s2 = record { words = left ∙ sym right; trees = refl }
    one_times (times_end over1 left) at reached turn widths x y (times_next m over2 c1 c2 right h2 others2) e s1 s2 = absurd (omega arith)
    one_times (times_next m over1 b1 b2 left h1 others1) at reached turn widths x y (times_end over2 right) e s1 s2 = absurd (omega arith)
    one_times {o = o} (times_next m over1 b1 b2 left h1 others1) at reached turn widths x y (times_next l over2 c1 c2 right h2 others2) e s1 s2 =
        let t1 = behind_first Follow b1 b2 left s1 in
        let t2 = behind_first Follow c1 c2 right s2 in
        let whole = cut_first b1 b2 x c1 c2 y left right e in
        let here = turn_reached d at reached over1 turn in
        let lies1 = lies widths here h1 in
        let lies2 = lies widths here h2 in
        let next1 = turn_next d over1 turn lies1.ends in
        let first = one_tree h1 (b2 ++ x) (c2 ++ y) here widths h2 whole
        (times_stands d most Follow clear b1 at reached next1 lies1 widths others1 t1)
        (times_stands d most Follow clear c1 at reached (turn_next d over2 turn lies2.ends)
        lies2 widths others2 t2) in
        let count : m ≡ l = omega arith in
        let rest = one_times others1 at reached next1 widths x y (times_moved d o b1 c1 count first.words others2)
        (cut_rest b1 b2 x c1 c2 y first.words whole) t1 (stands_moved Follow o b1 c1 first.words t2) in
        joined b1 b2 c1 c2 left right first rest

    -- the turns that are left of a free repetition
    pub one_many : {k i from o : ℕ} {v : Values} {b : List ℕ} {ts : Trees}
        → ManyMean d i o v b ts → slice_get d.nodes k ≡ Some (Many i) → Reached d k from → ManyEnd d i from (o % 8)
        → FitWidths d v → {c : List ℕ} {us : Trees} (x y : List ℕ) → ManyMean d i o v c us → b ++ x ≡ c ++ y
        → Stands Follow k o b x → Stands Follow k o c y → Same b c ts us
    one_many (many_end left) at reached ended widths x y (many_end right) e s1 s2 = record { words = left ∙ sym right; trees = refl }
    one_many (many_end left) at reached ended widths x y (many_next c1 c2 right some h2 others2) e s1 s2 =
        let size = ap length right in
        absurd (no_loop d most Follow clear x y at reached ended widths left (omega (arith, length-append c1 c2)) (many_next c1 c2 right some h2 others2) e s1)
    one_many (many_next b1 b2 left some h1 others1) at reached ended widths x y (many_end right) e s1 s2 =
        let size = ap length left in
        absurd (no_loop d most Follow clear y x at reached ended widths right (omega (arith, length-append b1 b2))
        (many_next b1 b2 left some h1 others1) (sym e) s2)
    one_many {o = o} (many_next b1 b2 left some1 h1 others1) at reached ended widths x y (many_next c1 c2 right some2 h2 others2) e s1 s2 =
        let t1 = behind_first Follow b1 b2 left s1 in
        let t2 = behind_first Follow c1 c2 right s2 in
        let whole = cut_first b1 b2 x c1 c2 y left right e in
        let here = many_reached d at reached ended in
        let lies1 = lies widths here h1 in
        let lies2 = lies widths here h2 in
        let ended1 = many_end_more d ended lies1.ends in
        let first = one_tree h1 (b2 ++ x) (c2 ++ y) here widths h2 whole
        (many_stands d most Follow clear b1 at reached ended1 lies1 widths others1 t1)
        (many_stands d most Follow clear c1 at reached (many_end_more d ended lies2.ends) lies2 widths others2 t2)
        in
        let rest = one_many others1 at reached ended1 widths x y (many_moved d o b1 c1 first.words others2)
        (cut_rest b1 b2 x c1 c2 y first.words whole) t1 (stands_moved Follow o b1 c1 first.words t2) in
        joined b1 b2 c1 c2 left right first rest

    -- the later parts of a truncation, behind which nothing stands
    pub one_lead : {k from o : ℕ} {parts after : List ℕ} {v : Values} {b : List ℕ} {ts : Trees}
        → LeadMean d after o v b ts → slice_get d.nodes k ≡ Some (Trunc parts) → (before : List ℕ)
        → parts ≡ before ++ after → Reached d k from → PartsEnd d before from (o % 8)
        → FitWidths d v → {c : List ℕ} {us : Trees} → LeadMean d after o v c us → b ≡ c → Stands Follow k o b []
        → ts ≡ us
    one_lead {b = b} (lead_last {parts = after} some1 h1) at before is reached ended widths {c = c} (lead_last some2 h2) agree s =
        let here = lead_reached d after at is reached ended in
        let last = last_stands d most Follow clear before after at is (lies widths here h1) s in
        let first = one_tree h1 [] [] here widths h2 (ap (λ l. l ++ []) agree) last
        (last_stands d most Follow clear before after at is (lies widths here h2)
        (stands_along Follow b c agree s)) in
        ap (λ t. more t none) first.trees
    one_lead {b = b} (lead_last {parts = after} some1 h1) at before is reached ended widths {c = c} (lead_next c1 c2 right h2 others2) agree s =
        let t2 = behind_first Follow c1 c2 right (stands_along Follow b c agree s) in
        let whole : b ++ [] ≡ c1 ++ (c2 ++ []) = cut_first b [] [] c1 c2 [] (sym (append-nil b)) right (ap (λ l. l ++ []) agree) in
        let here = lead_reached d after at is reached ended in
        let lies2 = lies widths here h2 in
        let first = one_tree h1 [] (c2 ++ []) here widths h2 whole (last_stands d most Follow clear before after at is
        (lies widths here h1) s) (lead_stands d most Follow clear before c1 at is reached ended lies2
        (kept d clear.shaped widths h2) others2 t2) in
        let size = ap length (sym first.words ∙ agree ∙ right) in
        absurd (omega (arith, lead_some d others2, length-append c1 c2))
    one_lead {b = b} (lead_next {parts = after} b1 b2 left h1 others1) at before is reached ended widths {c = c} (lead_last some2 h2) agree s =
        let t1 = behind_first Follow b1 b2 left s in
        let whole : b1 ++ (b2 ++ []) ≡ c ++ [] = cut_first b1 b2 [] c [] [] left (sym (append-nil c)) (ap (λ l. l ++ []) agree) in
        let here = lead_reached d after at is reached ended in
        let lies1 = lies widths here h1 in
        let first = one_tree h1 (b2 ++ []) [] here widths h2 whole
        (lead_stands d most Follow clear before b1 at is reached ended lies1 (kept d clear.shaped widths h1)
        others1 t1) (last_stands d most Follow clear before after at is (lies widths here h2)
        (stands_along Follow b c agree s)) in
        let size = ap length (first.words ∙ sym agree ∙ left) in
        absurd (omega (arith, lead_some d others1, length-append b1 b2))
    one_lead {o = o} {v = v} {b = b} (lead_next {i = i} {parts = after} b1 b2 left h1 others1)
        at before is reached ended widths {c = c} (lead_next c1 c2 right h2 others2) agree s =
        let t1 = behind_first Follow b1 b2 left s in
        let t2 = behind_first Follow c1 c2 right (stands_along Follow b c agree s) in
        let whole = cut_first b1 b2 [] c1 c2 [] left right (ap (λ l. l ++ []) agree) in
        let here = lead_reached d after at is reached ended in
        let lies1 = lies widths here h1 in
        let lies2 = lies widths here h2 in
        let fits1 = kept d clear.shaped widths h1 in
        let first = one_tree h1 (b2 ++ []) (c2 ++ []) here widths h2 whole
        (lead_stands d most Follow clear before b1 at is reached ended lies1 fits1 others1 t1)
        (lead_stands d most Follow clear before c1 at is reached ended lies2 (kept d clear.shaped widths h2)
        others2 t2) in
        let same_rest = same_ends b2 c2 [] [] refl refl (cut_rest b1 b2 [] c1 c2 [] first.words whole) in
        let rest = one_lead others1 at (before ++ i ∷ []) (is ∙ sym (append_assoc before (i ∷ []) after)) reached
        (parts_end_more d ended lies1.ends) fits1 (lead_moved d i after o v b1 c1 first.words others2)
        same_rest t1 in
        let tree = first.trees in
        cc

-- at the root, where nothing stands behind
pub one_block : (d : DescV) (most : ℕ) (Follow : ℕ → ℕ → ℕ → Type 0)
    → Clear d most Follow → {b : List ℕ} {t u : TreeV} → NMeans d 0 0 [] b t → NMeans d 0 0 [] b u → t ≡ u
one_block d most Follow clear {b = b} h1 h2 =
    let same = one_tree d most Follow clear h1 [] [] (reached_root refl refl) clear.shaped.none_fit h2 refl
    (end_stands Follow 0 0 b) (end_stands Follow 0 0 b) in
    same.trees
