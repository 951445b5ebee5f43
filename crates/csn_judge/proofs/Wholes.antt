-- Labels, windows and repetitions: the part that is read, and what is left behind it; and where nothing is left.
use Rattle.std.proofs.Common.{◌≡◌, ℕ, suc, ◌+◌, ◌*◌, List, [], ◌∷◌, ◌++◌, length, refl, sym, ◌∙◌, ap, subst, arith}
use Rattle.std.proofs.Common.{append_assoc, append-nil, length-append, Some, slice_get}
use Rattle.csn_desc.specs.declared.moves.Move.{Move}
use Rattle.csn_desc.specs.declared.moves.Move.TheVariants.{Enter, Leave}
use Rattle.csn_desc.specs.declared.node.Count.{Count}
use Rattle.csn_desc.specs.declared.node.Node.TheVariants.{Window, Named}
use Rattle.csn_desc.specs.TreeV.{TreeV, Trees, named, more}
use Rattle.csn_desc.specs.TreeV as tree
use Rattle.csn_desc.specs.Nodes.{DescV}
use Rattle.csn_desc.specs.Values.{Values, count_of}
use Rattle.csn_desc.specs.Means.{NMeans, NodeMeans, TimesMean, means_window, means_named, parts_end, times_end, times_next}
use Rattle.csn_desc.specs.Follows.{NodeFollows, TimesFollow, follows_at, follows_whole, follows_window, follows_named, times_here, times_later}
use Rattle.csn_desc.specs.Walks.{bits_of, Walk, NodeWalk, PartsWalk, RepeatsWalk, walk_window, walk_named, repeats_end, repeats_next}
use Rattle.csn_desc.specs.Walks as walk
use Rattle.csn_judge.specs.Left.{all_left, parts_left, turns_left, window_left, none_left, Completes, completes_all}
use Rattle.csn_judge.specs.Left.{completes_parts, completes_turns, completes_window, completes_none, Begins}
use Rattle.csn_judge.specs.Left.{begins_whole, begins_all, begins_parts, begins_turns, begins_window}
use Rattle.csn_judge.proofs.StepFacts.{Both, takes_all, BeginsBoth, begins_inner, begins_left, Splits, Alike}
use Rattle.csn_judge.proofs.Entering.{opened, closed, follows_node}
use Rattle.csn_judge.proofs.Parts.{Moving, walk_takes, follow_whole, followed_all, ended, walk_on, walk_off, part_apart}

module _ (d : DescV) (laws : Moving) where
  -- a completed part with no bits and a leaving behind it
  only_first : (b1 b2 : List ℕ) {b : List ℕ} → b ≡ b1 ++ b2 → b2 ≡ [] → b ≡ b1
  only_first b1 b2 cut none = cut ∙ ap (λ l. b1 ++ l) none ∙ append-nil b1

  means_only : {i o : ℕ} {v : Values} {t : TreeV} {b c : List ℕ} → b ≡ c → NMeans d i o v c t → NMeans d i o v b t
  means_only {i} {o} {v} {t} e h = let P : List ℕ → Type 0 = λ l. NMeans d i o v l t in subst P (sym e) h

  -- ---- a label

  pub enter_label : (i part : ℕ) (label : List ℕ) (v : Values) (done : List ℕ)
      → slice_get d.nodes i ≡ Some (Named label part)
      → Splits d (all_left i v) (all_left part v) none_left done (Enter i ∷ [])
  enter_label i part label v done at =
      record { completes = on; completed = back; begins = forth; begun = home; up_old = λ place. tt; up_inner = λ place. tt }
    where
      on : (b : List ℕ) (moves : List Move) → Completes d (all_left i v) done b moves → (rest : List Move)
          × (moves ≡ (Enter i ∷ []) ++ rest) × Both d (all_left part v) none_left done b rest
      on b moves h = let o = opened d at h in (o.inside ++ Leave ∷ [], o.is, by o.told.means o.told.walks refl)
        where
          by : {l : List ℕ} {k : ℕ} {inside : List Move} {t u : TreeV} → NodeMeans d (Named l k) (length done) v b t
              → NodeWalk d (Named l k) (length done) u inside → t ≡ u → Both d (all_left k v) none_left done b
              (inside ++ Leave ∷ [])
          by {k = k} {inside} (means_named {t = t} h) (walk_named {t = u} w) e =
              let same : t ≡ u = cc in
              let P : TreeV → Type 0 = λ x. NMeans d k (length done) v b x in
              takes_all d b inside refl (completes_all u (subst P same h) w) (completes_none refl refl)

      back : (b : List ℕ) (rest : List Move) → Both d (all_left part v) none_left done b rest → Completes d (all_left i v) done b ((Enter i ∷ []) ++ rest)
      back b rest both = by both.b1 both.b2 both.first both.others both.cut both.is both.inside both.outside
        where
          by : (b1 b2 : List ℕ) (first others : List Move) → b ≡ b1 ++ b2 → rest ≡ first ++ others
              → Completes d (all_left part v) done b1 first → Completes d none_left (done ++ b1) b2 others
              → Completes d (all_left i v) done b ((Enter i ∷ []) ++ rest)
          by b1 b2 first others cut is (completes_all t h w) (completes_none none leave) =
              closed d at (record {
                inside = first;
                told =
                    record {
                      tree = named label t;
                      means = means_named (means_only (only_first b1 b2 cut none) h);
                      walks = walk_named w;
                    };
                is = ap (λ l. Enter i ∷ l) (is ∙ ap (λ l. first ++ l) leave);
              })

      by_node : (b : List ℕ) → NodeFollows d (Named label part) (length done) v b → BeginsBoth d (all_left part v) none_left done b
      by_node b (follows_named f) = begins_inner (begins_all f) tt
      by_node b (follows_whole t (means_named h)) = begins_inner (begins_all (follow_whole d laws h)) tt

      forth : (b : List ℕ) → Begins d (all_left i v) done b → BeginsBoth d (all_left part v) none_left done b
      forth b h = by_node b (follows_node d at h)

      home : (b : List ℕ) → BeginsBoth d (all_left part v) none_left done b → Begins d (all_left i v) done b
      home b (begins_inner h up) = begins_all (follows_at (Named label part) at (follows_named (followed_all d laws h)))
      home b (begins_left b1 b2 first cut h rest up) = by h rest
        where
          by : Completes d (all_left part v) done b1 first → Begins d none_left (done ++ b1) b2 → Begins d (all_left i v) done b
          by (completes_all t means w) (begins_whole moves (completes_none none leave)) =
              begins_all (follows_at (Named label part) at (follows_named (follow_whole d laws (means_only (only_first b1 b2 cut none) means))))

  -- ---- a window

  pub enter_window : (i part unit : ℕ) (count : Count) (n : ℕ) (v : Values) (done : List ℕ)
      → slice_get d.nodes i ≡ Some (Window unit count part)
      → count_of v count ≡ Some n → Splits d (all_left i v) (all_left part v) (window_left (length done + unit * n))
      done (Enter i ∷ [])
  enter_window i part unit count n v done at counts =
      record { completes = on; completed = back; begins = forth; begun = home; up_old = λ place. tt; up_inner = λ place. tt }
    where
      end : ℕ
      end = length done + unit * n

      wide : {m : ℕ} → count_of v count ≡ Some m → m ≡ n
      wide count_m = cc

      on : (b : List ℕ) (moves : List Move) → Completes d (all_left i v) done b moves → (rest : List Move)
          × (moves ≡ (Enter i ∷ []) ++ rest) × Both d (all_left part v) (window_left end) done b rest
      on b moves h = let o = opened d at h in (o.inside ++ Leave ∷ [], o.is, by o.told.means o.told.walks refl)
        where
          by : {inside : List Move} {t u : TreeV} → NodeMeans d (Window unit count part) (length done) v b t
              → NodeWalk d (Window unit count part) (length done) u inside → t ≡ u
              → Both d (all_left part v) (window_left end) done b (inside ++ Leave ∷ [])
          by {inside} (means_window {t = t} m count_m size h) (walk_window {t = u} w) e =
              let same : t ≡ u = cc in
              let P : TreeV → Type 0 = λ x. NMeans d part (length done) v b x in
              takes_all d b inside refl (completes_all u (subst P same h) w)
              (completes_window refl (length-append done b ∙ ap (λ k. length done + k)
              (size ∙ ap (λ k. unit * k) (wide count_m))) refl)

      back : (b : List ℕ) (rest : List Move) → Both d (all_left part v) (window_left end) done b rest
          → Completes d (all_left i v) done b ((Enter i ∷ []) ++ rest)
      back b rest both = by both.b1 both.b2 both.first both.others both.cut both.is both.inside both.outside
        where
          by : (b1 b2 : List ℕ) (first others : List Move) → b ≡ b1 ++ b2 → rest ≡ first ++ others
              → Completes d (all_left part v) done b1 first → Completes d (window_left end) (done ++ b1) b2 others
              → Completes d (all_left i v) done b ((Enter i ∷ []) ++ rest)
          by b1 b2 first others cut is (completes_all t h w) (completes_window none place leave) =
              let same = only_first b1 b2 cut none in
              let size : length b ≡ unit * n = omega (arith, ap length same, length-append done b1, place) in
              closed d at (record {
                inside = first;
                told =
                    record { tree = t; means = means_window n counts size (means_only same h); walks = walk_window w };
                is = ap (λ l. Enter i ∷ l) (is ∙ ap (λ l. first ++ l) leave);
              })

      by_node : (b : List ℕ) → NodeFollows d (Window unit count part) (length done) v b → BeginsBoth d (all_left part v) (window_left end) done b
      by_node b (follows_window m count_m few f) = begins_inner (begins_all f) (omega (arith, few, ap (λ k. unit * k) (wide count_m)))
      by_node b (follows_whole t (means_window m count_m size h)) = begins_inner (begins_all (follow_whole d laws h))
          (omega (arith, size, ap (λ k. unit * k) (wide count_m)))

      forth : (b : List ℕ) → Begins d (all_left i v) done b → BeginsBoth d (all_left part v) (window_left end) done b
      forth b h = by_node b (follows_node d at h)

      home : (b : List ℕ) → BeginsBoth d (all_left part v) (window_left end) done b → Begins d (all_left i v) done b
      home b (begins_inner h up) = begins_all (follows_at (Window unit count part) at (follows_window n counts (omega (arith, up)) (followed_all d laws h)))
      home b (begins_left b1 b2 first cut h rest up) = by h rest
        where
          whole : {t : TreeV} → NMeans d part (length done) v b1 t → b2 ≡ [] → Begins d (all_left i v) done b
          whole means none =
              begins_all (follows_at (Window unit count part) at (follows_window n counts (omega (arith, up))
              (follow_whole d laws (means_only (only_first b1 b2 cut none) means))))

          by : Completes d (all_left part v) done b1 first → Begins d (window_left end) (done ++ b1) b2 → Begins d (all_left i v) done b
          by (completes_all t means w) (begins_window none place) = whole means none
          by (completes_all t means w) (begins_whole moves (completes_window none place leave)) = whole means none

  -- ---- the turns of a repetition by number

  pub next_turn : (n j : ℕ) (v : Values) (done : List ℕ) → Splits d (turns_left (suc n) j v) (all_left j v) (turns_left n j v) done []
  next_turn n j v done =
      record { completes = on; completed = back; begins = forth; begun = home; up_old = λ place. tt; up_inner = λ place. tt }
    where
      apart : {m : ℕ} {b : List ℕ} {inside : List Move} {ts us : Trees}
          → m ≡ suc n → TimesMean d m j (length done) v b ts → RepeatsWalk d j (length done) us inside → ts ≡ us
          → Both d (all_left j v) (turns_left n j v) done b (inside ++ Leave ∷ [])
      apart is_m (times_end zero_turns h) walks e = absurd (omega arith)
      apart is_m (times_next k is_k b1 b2 cut h others) (repeats_end none) e = absurd (cc)
      apart is_m (times_next {t = t} {ts = ts} k is_k b1 b2 cut h others) (repeats_next {t = u} {ts = us} first rest is w ws) e =
          let tree : t ≡ u = cc in
          let trees : ts ≡ us = cc in
          let left : k ≡ n = omega arith in
          let Q : Trees → Type 0 = λ x. TimesMean d k j (length done + length b1) v b2 x in
          let R : ℕ → Type 0 = λ x. TimesMean d x j (length done + length b1) v b2 us in
          let O : ℕ → Type 0 = λ o. TimesMean d n j o v b2 us in
          part_apart d laws rest cut h w tree refl is
          (λ takes. completes_turns us
          (subst O (sym (length-append done b1)) (subst R left (subst Q trees others)))
          (walk_on d laws (λ o. RepeatsWalk d j o us rest) done b1 first takes ws) refl)

      on : (b : List ℕ) (moves : List Move) → Completes d (turns_left (suc n) j v) done b moves → (rest : List Move)
          × (moves ≡ [] ++ rest) × Both d (all_left j v) (turns_left n j v) done b rest
      on b moves (completes_turns {inside = inside} ts h ws is) = (inside ++ Leave ∷ [], is, apart refl h ws refl)

      back : (b : List ℕ) (rest : List Move) → Both d (all_left j v) (turns_left n j v) done b rest → Completes d (turns_left (suc n) j v) done b ([] ++ rest)
      back b rest both = by both.b1 both.b2 both.first both.others both.cut both.is both.inside both.outside
        where
          by : (b1 b2 : List ℕ) (first others : List Move) → b ≡ b1 ++ b2 → rest ≡ first ++ others
              → Completes d (all_left j v) done b1 first → Completes d (turns_left n j v) (done ++ b1) b2 others
              → Completes d (turns_left (suc n) j v) done b rest
          by b1 b2 first others cut is (completes_all t h w) (completes_turns {inside = inside} ts turns ws is_others) =
              let O : ℕ → Type 0 = λ o. TimesMean d n j o v b2 ts in
              completes_turns (more t ts) (times_next n refl b1 b2 cut h (subst O (length-append done b1) turns))
              (repeats_next first inside refl w (walk_off d laws (λ o. RepeatsWalk d j o ts inside) done b1 first
              (walk_takes laws d h w) ws)) (is ∙ ap (λ l. first ++ l) is_others ∙ sym
              (append_assoc first inside (Leave ∷ [])))

      forth : (b : List ℕ) → Begins d (turns_left (suc n) j v) done b → BeginsBoth d (all_left j v) (turns_left n j v) done b
      forth b (begins_turns f) = by f refl
        where
          by : {m : ℕ} → TimesFollow d m j (length done) v b → m ≡ suc n → BeginsBoth d (all_left j v) (turns_left n j v) done b
          by (times_here some f) is_m = begins_inner (begins_all f) tt
          by (times_later k is_k b1 b2 cut h rest) is_m =
              let first = ended d laws h in
              let left : k ≡ n = omega arith in
              let P : ℕ → Type 0 = λ o. TimesFollow d k j o v b2 in
              let Q : ℕ → Type 0 = λ x. TimesFollow d x j (length (done ++ b1)) v b2 in
              begins_left b1 b2 first.moves cut (completes_all first.tree first.means first.walks)
              (begins_turns (subst Q left (subst P (sym (length-append done b1)) rest))) tt
      forth b (begins_whole moves h) = let both =
          (on b moves h).2 in begins_left both.b1 both.b2 both.first both.cut both.inside
          (begins_whole both.others both.outside) tt

      home : (b : List ℕ) → BeginsBoth d (all_left j v) (turns_left n j v) done b → Begins d (turns_left (suc n) j v) done b
      home b (begins_inner h up) = begins_turns (times_here (omega arith) (followed_all d laws h))
      home b (begins_left b1 b2 first cut h rest up) = by h rest
        where
          by : Completes d (all_left j v) done b1 first → Begins d (turns_left n j v) (done ++ b1) b2 → Begins d (turns_left (suc n) j v) done b
          by (completes_all t means w) (begins_turns f) =
              let P : ℕ → Type 0 = λ o. TimesFollow d n j o v b2 in
              begins_turns (times_later n refl b1 b2 cut means (subst P (length-append done b1) f))
          by h (begins_whole others k) = begins_whole (first ++ others)
              (back b (first ++ others) (record {
                b1 = b1;
                b2 = b2;
                first = first;
                others = others;
                cut = cut;
                is =
                    refl;
                inside = h;
                outside = k;
              }))

  -- ---- nothing is left

  pub no_parts : (i from : ℕ) (v : Values) (done : List ℕ) → Alike d (parts_left i from [] v) none_left done
  no_parts i from v done =
      record { completes = on; completed = back; begins = forth; begun = home; up_old = λ place. tt; up_new = λ place. tt }
    where
      on : (b : List ℕ) (moves : List Move) → Completes d (parts_left i from [] v) done b moves → Completes d none_left done b moves
      on b moves (completes_parts ts (parts_end none) (walk.parts_end stays) is) = completes_none none (is ∙ ap (λ l. l ++ Leave ∷ []) stays)

      back : (b : List ℕ) (moves : List Move) → Completes d none_left done b moves → Completes d (parts_left i from [] v) done b moves
      back b moves (completes_none nothing is) = completes_parts tree.none (parts_end nothing) (walk.parts_end refl) is

      forth : (b : List ℕ) → Begins d (parts_left i from [] v) done b → Begins d none_left done b
      forth b (begins_whole moves h) = begins_whole moves (on b moves h)
      forth b (begins_parts f) = elim f [ ]

      home : (b : List ℕ) → Begins d none_left done b → Begins d (parts_left i from [] v) done b
      home b (begins_whole moves h) = begins_whole moves (back b moves h)

  pub no_turns : (j : ℕ) (v : Values) (done : List ℕ) → Alike d (turns_left 0 j v) none_left done
  no_turns j v done =
      record { completes = on; completed = back; begins = forth; begun = home; up_old = λ place. tt; up_new = λ place. tt }
    where
      on : (b : List ℕ) (moves : List Move) → Completes d (turns_left 0 j v) done b moves → Completes d none_left done b moves
      on b moves (completes_turns {inside = inside} ts h ws is) = by refl h ws refl
        where
          by : {m : ℕ} {us vs : Trees} → m ≡ 0 → TimesMean d m j (length done) v b us → RepeatsWalk d j (length done)
              vs inside → us ≡ vs → Completes d none_left done b moves
          by is_m (times_end zero_turns nothing) (repeats_end stays) e = completes_none nothing (is ∙ ap (λ l. l ++ Leave ∷ []) stays)
          by is_m (times_end zero_turns nothing) (repeats_next first rest is w ws) e = absurd (cc)
          by is_m (times_next k is_k b1 b2 cut h others) walks e = absurd (omega arith)

      back : (b : List ℕ) (moves : List Move) → Completes d none_left done b moves → Completes d (turns_left 0 j v) done b moves
      back b moves (completes_none nothing is) = completes_turns tree.none (times_end refl nothing) (repeats_end refl) is

      forth : (b : List ℕ) → Begins d (turns_left 0 j v) done b → Begins d none_left done b
      forth b (begins_whole moves h) = begins_whole moves (on b moves h)
      forth b (begins_turns f) = by f refl
        where
          by : {m : ℕ} → TimesFollow d m j (length done) v b → m ≡ 0 → Begins d none_left done b
          by (times_here some f) is_m = absurd (omega arith)
          by (times_later k is_k b1 b2 cut h rest) is_m = absurd (omega arith)

      home : (b : List ℕ) → Begins d none_left done b → Begins d (turns_left 0 j v) done b
      home b (begins_whole moves h) = begins_whole moves (back b moves h)
