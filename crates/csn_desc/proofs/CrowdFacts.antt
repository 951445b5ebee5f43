-- What the counted fields that see 64 counted fields are, node by node and part by part.
use Rattle.std.proofs.Common.{◌≡◌, ℕ, zero, suc, ◌+◌, ◌<◌, ◌≤◌, Bool, true, false, if◌then◌else◌, List, [], ◌∷◌}
use Rattle.std.proofs.Common.{length, drop, refl, sym, ◌∙◌, ap, subst, arith, Some, IsTrue, min, count_by, cond, ◌&&◌}
use Rattle.std.proofs.Common.{nat_lt, ltb-true, ltb-false}
use Rattle.std.proofs.lemmas.List.Sums.{sum_by-cons}
use Rattle.std.specs.Prelude.{slice_get}
use Rattle.csn_desc.specs.declared.node.Node.{Node}
use Rattle.csn_desc.specs.Nodes.{parts_of}
use Rattle.csn_desc.specs.Values.{is_named}
use Rattle.csn_desc.specs.Formed.{is_counted, shows_earlier, with_seen}
use Rattle.csn_desc.specs.Overfull.{PartSees, part_here, part_later}
use Rattle.csn_desc.specs.Laid.{Laid, PartsLaid, laid, laid_end, laid_next}
use Rattle.csn_desc.specs.Crowds.{Below, below_here, below_part, Amounts, Crowded, Counting, Counts, NoneCrowded}
use Rattle.csn_desc.specs.Crowds.{FirstCrowded, CountingAmong, PartsCount, BelowPart, NoneCrowdedAmong, IsFirstAmong}
use Rattle.csn_desc.specs.Crowds.{FirstCrowdedAmong}
use Rattle.csn_desc.proofs.WellFormed.{laid_behind, laid_deep, parts_behind}
use Rattle.csn_desc.proofs.Entering.{get_within}

module _ (nodes : List Node) where
  -- ---- from a node to its parts

  pub data First (i : ℕ) (seen : List ℕ) (k : ℕ) (shown : List ℕ) : Type 0 where
    first_here : k ≡ i → shown ≡ seen → First i seen k shown
    first_part : (n : Node) → slice_get nodes i ≡ Some n → BelowPart nodes (parts_of n) (shows_earlier n) seen k shown → First i seen k shown

  sees_round : {shows : Bool} {parts : List ℕ} {k : ℕ} {shown : List ℕ} (round seen : List ℕ)
      → round ≡ seen → PartSees nodes shows round parts k shown → PartSees nodes shows seen parts k shown
  sees_round {shows} {parts} {k} {shown} round seen e h = let P : List ℕ → Type 0 = λ l. PartSees nodes shows l parts k shown in subst P e h

  step_more :
      {i above k : ℕ} {seen round shown : List ℕ} (n : Node) → slice_get nodes above ≡ Some n
      → PartSees nodes (shows_earlier n) round (parts_of n) k shown → First i seen above round → First i seen k shown
  step_more {k = k} {seen = seen} {round = round} {shown = shown} n at sees (first_here e f) =
      first_part n (ap (λ j. slice_get nodes j) (sym e) ∙ at)
      (record { part = k; round = shown; sees = sees_round round seen f sees; below = below_here refl refl })
  step_more n at sees (first_part m is h) =
      first_part m is (record { part = h.part; round = h.round; sees = h.sees; below = below_part n at h.below sees })

  pub below_step : {i : ℕ} {seen : List ℕ} {k : ℕ} {shown : List ℕ} → Below nodes i seen k shown → First i seen k shown
  below_step (below_here e f) = first_here e f
  below_step (below_part n at h sees) = step_more n at sees (below_step h)

  pub below_join :
      {i : ℕ} {seen : List ℕ} (n : Node) (p : ℕ) (round : List ℕ) → slice_get nodes i ≡ Some n
      → PartSees nodes (shows_earlier n) seen (parts_of n) p round
      → {k : ℕ} {shown : List ℕ} → Below nodes p round k shown → Below nodes i seen k shown
  below_join {seen = seen} n p round at sees {k} (below_here e f) =
      let P : ℕ → Type 0 = λ j. PartSees nodes (shows_earlier n) seen (parts_of n) j round in
      let Q : List ℕ → Type 0 = λ l. PartSees nodes (shows_earlier n) seen (parts_of n) k l in
      below_part n at (below_here refl refl) (subst Q (sym f) (subst P (sym e) sees))
  below_join n p round at sees {k} (below_part m is h more) = below_part m is (below_join n p round at sees h) more

  -- ---- where they are

  pub data FirstPart (p : ℕ) (rest : List ℕ) (shows : Bool) (seen : List ℕ) (k : ℕ) (shown : List ℕ) : Type 0 where
    in_first : Below nodes p seen k shown → FirstPart p rest shows seen k shown
    in_rest : BelowPart nodes rest shows (with_seen nodes shows p seen) k shown → FirstPart p rest shows seen k shown

  pub sees_step :
      {p part k : ℕ} {rest : List ℕ} {shows : Bool} {seen round shown : List ℕ}
      → PartSees nodes shows seen (p ∷ rest) part round → Below nodes part round k shown → FirstPart p rest shows seen k shown
  sees_step {k = k} {shown = shown} (part_here {round = seen} {j = p} {i = part} {seen = round} e f) h =
      let P : ℕ → Type 0 = λ j. Below nodes j round k shown in
      let Q : List ℕ → Type 0 = λ l. Below nodes p l k shown in
      in_first (subst Q f (subst P (sym e) h))
  sees_step {part = part} {round = round} (part_later sees) h = in_rest (record { part = part; round = round; sees = sees; below = h })

  pub none_sees : {A : Type 0} {shows : Bool} {seen : List ℕ} {k : ℕ} {shown : List ℕ} → BelowPart nodes [] shows seen k shown → A
  none_sees h = elim h.sees [ ]

  abbrev Within : ℕ → ℕ → ℕ → Type 0
  Within i end k = (i ≤ k) × (k < end)

  within_first :
      {i end : ℕ} (n : Node) → slice_get nodes i ≡ Some n → i < end
      → ((sees : Bool) (k : ℕ) (o s : List ℕ) → BelowPart nodes (parts_of n) sees o k s → Within (suc i) end k)
      → (j : ℕ) (o s : List ℕ) → First i o j s → Within i end j
  within_first n at ends inside j o s (first_here e f) = (omega (arith, e), omega (arith, e, ends))
  within_first n at ends inside j o s (first_part m is h) =
      let one : parts_of m ≡ parts_of n = let same : m ≡ n = cc in ap parts_of same in
      let P : List ℕ → Type 0 = λ l. BelowPart nodes l (shows_earlier m) o j s in
      let there = inside (shows_earlier m) j o s (subst P one h) in (omega (arith, there.0), there.1)

  within_part :
      {i at middle end : ℕ} {parts : List ℕ} → i ≡ at → i < middle → middle ≤ end
      → ((k : ℕ) (o s : List ℕ) → Below nodes i o k s → Within i middle k)
      → ((sees : Bool) (k : ℕ) (o s : List ℕ) → BelowPart nodes parts sees o k s → Within middle end k)
      → (sees : Bool) (k : ℕ) (o s : List ℕ) → FirstPart i parts sees o k s → Within at end k
  within_part e some ends below later sees k o s (in_first b) =
      let there = below k o s b in (omega (arith, there.0, e), omega (arith, there.1, ends))
  within_part {i = i} e some ends below later sees k o s (in_rest b) =
      let there = later sees k (with_seen nodes sees i o) s b in (omega (arith, there.0, e, some), there.1)

  mutual
    pub below_within : {seen : List ℕ} {round i end : ℕ}
        → Laid nodes seen round i end → (k : ℕ) (others shown : List ℕ) → Below nodes i others k shown
        → Within i end k
    below_within (laid n at deep head has parts) k others shown h =
        within_first n at (omega (arith, parts_behind nodes parts)) (λ sees j o s b. among_within parts sees j o s b) k others shown (below_step h)

    pub among_within : {seen parts : List ℕ} {shows : Bool} {round at end : ℕ}
        → PartsLaid nodes shows seen round parts at end → (sees : Bool) (k : ℕ) (others shown : List ℕ)
        → BelowPart nodes parts sees others k shown → Within at end k
    among_within (laid_end e) sees k others shown h = none_sees h
    among_within (laid_next middle e h rest) sees k others shown b =
        within_part e (laid_behind nodes h) (parts_behind nodes rest) (λ j o s c. below_within h j o s c) (λ t j o s c. among_within rest t j o s c)
        sees k others shown (sees_step b.sees b.below)

  -- ---- where a node has no part

  pub none_among : {shows : Bool} {before deep : ℕ} → NoneCrowdedAmong nodes [] shows before deep
  none_among seen c k shown b crowded = none_sees b

  -- ---- from parts to their node

  counting_laid : {i deep end : ℕ} {seen : List ℕ} (n : Node)
      → slice_get nodes i ≡ Some n → Laid nodes seen deep i end → PartsLaid nodes (shows_earlier n) seen (suc deep)
      (parts_of n) (suc i) end
  counting_laid {i} {deep} {end} {seen} n at (laid m is few head has parts) =
      let same : m ≡ n = cc in
      let P : Node → Type 0 = λ k. PartsLaid nodes (shows_earlier k) seen (suc deep) (parts_of k) (suc i) end in
      subst P same parts

  counting_parts :
      {i before deep : ℕ} {parts : List ℕ} {shows : Bool} {seen : List ℕ} (n : Node)
      → slice_get nodes i ≡ Some n → parts_of n ≡ parts → shows_earlier n ≡ shows
      → Counting nodes i before deep seen → CountingAmong nodes parts shows before (suc deep) seen
  counting_parts {i} {before} {deep} {parts} {shows} {seen} n at parts_are shows_is c =
      let P : List ℕ → Type 0 = λ l. PartsLaid nodes shows seen (suc deep) l (suc i) c.end in
      let Q : Bool → Type 0 = λ b. PartsLaid nodes b seen (suc deep) (parts_of n) (suc i) c.end in
      record { at = suc i; end = c.end; laid = subst P parts_are (subst Q shows_is (counting_laid n at c.laid)); amount = c.amount }

  pub parts_count :
      {i before deep : ℕ} {parts : List ℕ} {shows : Bool} (n : Node) → slice_get nodes i ≡ Some n → parts_of n ≡ parts → shows_earlier n ≡ shows
      → Counts nodes i before deep → PartsCount nodes parts shows before (suc deep)
  parts_count n at parts_are shows_is c = (c.0, counting_parts n at parts_are shows_is c.1)

  -- no count of the node itself stands in its way
  abbrev pub NotHere : ℕ → ℕ → Type 0
  NotHere i before = 64 ≤ before → IsTrue (is_counted nodes i) → ⊥

  full_before : {i before : ℕ} {seen shown : List ℕ} {k : ℕ} → NotHere i before → Amounts nodes seen before → k ≡ i → shown ≡ seen → Crowded nodes k shown → ⊥
  full_before {i} {before} {seen} {shown} {k} apart amount here same crowded =
      let counts : count_by (is_counted nodes) shown ≡ count_by (is_counted nodes) seen = ap (λ l. count_by (is_counted nodes) l) same in
      let full : 64 ≤ count_by (is_counted nodes) shown = crowded.full in
      let P : ℕ → Type 0 = λ j. IsTrue (is_counted nodes j) in
      apart (omega (arith, amount, full, counts)) (subst P here crowded.counted)

  in_parts :
      (i : ℕ) {parts seen : List ℕ} {shows : Bool} {k : ℕ} {shown : List ℕ} (n : Node)
      → slice_get nodes i ≡ Some n → parts_of n ≡ parts → shows_earlier n ≡ shows
      → (m : Node) → slice_get nodes i ≡ Some m → BelowPart nodes (parts_of m) (shows_earlier m) seen k shown → BelowPart nodes parts shows seen k shown
  in_parts i {parts = parts} {seen = seen} {shows = shows} {k = k} {shown = shown} n at parts_are shows_is m is b =
      let same : m ≡ n = cc in
      let P : List ℕ → Type 0 = λ l. BelowPart nodes l shows seen k shown in
      let Q : Bool → Type 0 = λ s. BelowPart nodes (parts_of n) s seen k shown in
      let R : Node → Type 0 = λ x. BelowPart nodes (parts_of x) (shows_earlier x) seen k shown in
      subst P parts_are (subst Q shows_is (subst R same b))

  module _ (i before deep : ℕ) (parts : List ℕ) (shows : Bool) (n : Node) (at : slice_get nodes i ≡ Some n)
      (parts_are : parts_of n ≡ parts) (shows_is : shows_earlier n ≡ shows) (apart : NotHere i before) where
    none_first : (seen : List ℕ) → Counting nodes i before deep seen → NoneCrowdedAmong nodes parts shows before
        (suc deep) → (k : ℕ) (shown : List ℕ) → First i seen k shown → Crowded nodes k shown → ⊥
    none_first seen c none k shown (first_here e f) crowded = full_before apart c.amount e f crowded
    none_first seen c none k shown (first_part m is b) crowded =
        none seen (counting_parts n at parts_are shows_is c) k shown (in_parts i n at parts_are shows_is m is b) crowded

    pub none_up : NoneCrowdedAmong nodes parts shows before (suc deep) → NoneCrowded nodes i before deep
    none_up none seen c k shown b crowded = none_first seen c none k shown (below_step b) crowded

    join_part : {seen shown : List ℕ} {j : ℕ} → BelowPart nodes parts shows seen j shown → Below nodes i seen j shown
    join_part {seen} {shown} {j} b =
        let P : List ℕ → Type 0 = λ l. PartSees nodes (shows_earlier n) seen l b.part b.round in
        let Q : Bool → Type 0 = λ s. PartSees nodes s seen parts b.part b.round in
        below_join n b.part b.round at (subst P (sym parts_are) (subst Q (sym shows_is) b.sees)) b.below

    first_of_all : (seen : List ℕ) (j : ℕ) → Counting nodes i before deep seen → IsFirstAmong nodes parts shows seen j
        → (k : ℕ) (others : List ℕ) → First i seen k others → Crowded nodes k others → j ≤ k
    first_of_all seen j c f k others (first_here e same) crowded = absurd (full_before apart c.amount e same crowded)
    first_of_all seen j c f k others (first_part m is b) crowded = f.first k others (in_parts i n at parts_are shows_is m is b) crowded

    pub first_up : (j : ℕ) → FirstCrowdedAmong nodes parts shows before (suc deep) j → FirstCrowded nodes i before deep j
    first_up j first seen c =
        let f = first seen (counting_parts n at parts_are shows_is c) in
        record {
          shown = f.shown;
          below = join_part f.below;
          crowded = f.crowded;
          first = λ k others b crowded. first_of_all seen j c f k others (below_step b) crowded;
        }

  -- the node itself
  pub first_itself : (i before deep : ℕ) → 64 ≤ before → IsTrue (is_counted nodes i) → FirstCrowded nodes i before deep i
  first_itself i before deep full counted seen c =
      let many : 64 ≤ count_by (is_counted nodes) seen = omega (arith, c.amount) in
      record {
        shown = seen;
        below = below_here refl refl;
        crowded = record { counted = counted; full = many };
        first = λ k others b crowded. (below_within c.laid k seen others b).0;
      }

  -- ---- one part

  only_part : {p k : ℕ} {seen shown : List ℕ} → FirstPart p [] false seen k shown → Below nodes p seen k shown
  only_part (in_first b) = b
  only_part (in_rest b) = none_sees b

  counting_only : {p before deep : ℕ} {shows : Bool} {rest seen : List ℕ} {at end : ℕ}
      → Amounts nodes seen before → PartsLaid nodes shows seen deep (p ∷ rest) at end
      → Counting nodes p before deep seen
  counting_only amount (laid_next middle e h rest) = record { end = middle; laid = h; amount = amount }

  pub counts_only : {p before deep : ℕ} {shows : Bool} {rest : List ℕ} → PartsCount nodes (p ∷ rest) shows before deep → Counts nodes p before deep
  counts_only c = (c.0, counting_only c.1.amount c.1.laid)

  pub none_only : (p before deep : ℕ) → NoneCrowded nodes p before deep → NoneCrowdedAmong nodes (p ∷ []) false before deep
  none_only p before deep none seen c k shown b crowded =
      none seen (counting_only c.amount c.laid) k shown (only_part (sees_step b.sees b.below)) crowded

  pub first_only : (p before deep j : ℕ) → FirstCrowded nodes p before deep j → FirstCrowdedAmong nodes (p ∷ []) false before deep j
  first_only p before deep j first seen c =
      let f = first seen (counting_only c.amount c.laid) in
      record {
        shown = f.shown;
        below = record { part = p; round = seen; sees = part_here refl refl; below = f.below };
        crowded = f.crowded;
        first = λ k others b crowded. f.first k others (only_part (sees_step b.sees b.below)) crowded;
      }

  -- ---- part by part

  -- what stands behind the first parts, of which none is crowded: the others see `now`
  pub record Going (parts : List ℕ) (shows : Bool) (deep : ℕ) (seen : List ℕ) (done : ℕ) (before : ℕ) : Type 0 where
    pub now : List ℕ
    pub at : ℕ
    pub end : ℕ
    pub laid : PartsLaid nodes shows now deep (drop done parts) at end
    pub amount : Amounts nodes now before
    pub later : (k : ℕ) (shown : List ℕ) → BelowPart nodes parts shows seen k shown → Crowded nodes k shown
        → BelowPart nodes (drop done parts) shows now k shown
    pub into : (k : ℕ) (shown : List ℕ) → BelowPart nodes (drop done parts) shows now k shown → BelowPart nodes parts shows seen k shown

  abbrev pub GoesOn : List ℕ → Bool → ℕ → ℕ → ℕ → ℕ → Type 0
  GoesOn parts shows start deep done before =
      (seen : List ℕ) → CountingAmong nodes parts shows start deep seen → Going parts shows deep seen done before

  pub begins : (parts : List ℕ) (shows : Bool) (start deep : ℕ) → GoesOn parts shows start deep 0 start
  begins parts shows start deep seen c =
      record { now = seen; at = c.at; end = c.end; laid = c.laid; amount = c.amount; later = λ k shown b crowded. b; into = λ k shown b. b }

  drop_step : (parts : List ℕ) (done part : ℕ) → slice_get parts done ≡ Some part → drop done parts ≡ part ∷ drop (suc done) parts
  drop_step [] done part at = cc
  drop_step (p ∷ parts) zero part at = let same : p ≡ part = cc in ap (λ k. k ∷ parts) same
  drop_step (p ∷ parts) (suc done) part at = drop_step parts done part at

  pub later_sees : {part : ℕ} {rest : List ℕ} {shows : Bool} {now : List ℕ} {k : ℕ} {shown : List ℕ}
      → BelowPart nodes rest shows (with_seen nodes shows part now) k shown → BelowPart nodes (part ∷ rest)
      shows now k shown
  later_sees b = record { part = b.part; round = b.round; sees = part_later b.sees; below = b.below }

  not_first : {part : ℕ} {rest : List ℕ} {shows : Bool} {now : List ℕ} {k : ℕ} {shown : List ℕ}
      → (Below nodes part now k shown → ⊥) → FirstPart part rest shows now k shown
      → BelowPart nodes rest shows (with_seen nodes shows part now) k shown
  not_first apart (in_first b) = absurd (apart b)
  not_first apart (in_rest b) = b

  module _ (parts : List ℕ) (shows : Bool) (deep done part : ℕ) (at : slice_get parts done ≡ Some part) where
    split : drop done parts ≡ part ∷ drop (suc done) parts
    split = drop_step parts done part at

    laid_split : {now : List ℕ} {from end : ℕ} → PartsLaid nodes shows now deep (drop done parts) from end
        → PartsLaid nodes shows now deep (part ∷ drop (suc done) parts) from end
    laid_split {now} {from} {end} h = let P : List ℕ → Type 0 = λ l. PartsLaid nodes shows now deep l from end in subst P split h

    below_split : {now : List ℕ} {k : ℕ} {shown : List ℕ} → BelowPart nodes (drop done parts) shows now k shown
        → BelowPart nodes (part ∷ drop (suc done) parts) shows now k shown
    below_split {now} {k} {shown} b = let P : List ℕ → Type 0 = λ l. BelowPart nodes l shows now k shown in subst P split b

    below_whole : {now : List ℕ} {k : ℕ} {shown : List ℕ}
        → BelowPart nodes (part ∷ drop (suc done) parts) shows now k shown → BelowPart nodes (drop done parts)
        shows now k shown
    below_whole {now} {k} {shown} b = let P : List ℕ → Type 0 = λ l. BelowPart nodes l shows now k shown in subst P (sym split) b

    pub counts_next : {start before : ℕ} → GoesOn parts shows start deep done before → PartsCount nodes parts shows start deep → Counts nodes part before deep
    counts_next goes c = let g = goes c.0 c.1 in (g.now, counting_only g.amount (laid_split g.laid))

    rest_laid : {now : List ℕ} {from end : ℕ} → PartsLaid nodes shows now deep (part ∷ drop (suc done) parts) from end
        → (middle : ℕ) × Laid nodes now deep part middle × PartsLaid nodes shows (with_seen nodes shows part now) deep
        (drop (suc done) parts) middle end
    rest_laid (laid_next middle e h rest) = (middle, h, rest)

    pub goes_on :
        (start before after : ℕ) → ((now : List ℕ) → Amounts nodes now before → Amounts nodes (with_seen nodes shows part now) after)
        → NoneCrowded nodes part before deep → GoesOn parts shows start deep done before → GoesOn parts shows start deep (suc done) after
    goes_on start before after more none goes seen c =
        let g = goes seen c in
        let whole = laid_split g.laid in
        let rest = rest_laid whole in
        record {
          now = with_seen nodes shows part g.now;
          at = rest.0;
          end = g.end;
          laid = rest.2;
          amount = more g.now g.amount;
          later = λ k shown b crowded.
              let split_b = below_split (g.later k shown b crowded) in
              not_first (λ first. none g.now (counting_only g.amount whole) k shown first crowded) (sees_step split_b.sees split_b.below);
          into = λ k shown b. g.into k shown (below_whole (later_sees b));
        }

    first_or_later :
        {now : List ℕ} (j middle end : ℕ) → ((k : ℕ) (others : List ℕ) → Below nodes part now k others → Crowded nodes k others → j ≤ k)
        → j < middle → PartsLaid nodes shows (with_seen nodes shows part now) deep (drop (suc done) parts) middle end
        → (k : ℕ) (others : List ℕ) → FirstPart part (drop (suc done) parts) shows now k others → Crowded nodes k others → j ≤ k
    first_or_later j middle end first before rest k others (in_first b) crowded = first k others b crowded
    first_or_later {now} j middle end first before rest k others (in_rest b) crowded =
        let there = among_within rest shows k (with_seen nodes shows part now) others b in omega (arith, there.0, before)

    pub first_found :
        (start before j : ℕ) → FirstCrowded nodes part before deep j → GoesOn parts shows start deep done before
        → FirstCrowdedAmong nodes parts shows start deep j
    first_found start before j first goes seen c =
        let g = goes seen c in
        let whole = laid_split g.laid in
        let rest = rest_laid whole in
        let f = first g.now (counting_only g.amount whole) in
        record {
          shown = f.shown;
          below = g.into j f.shown (below_whole (record { part = part; round = g.now; sees = part_here refl refl; below = f.below }));
          crowded = f.crowded;
          first = λ k others b crowded.
              let split_b = below_split (g.later k others b crowded) in
              first_or_later j rest.0 g.end f.first (below_within rest.1 j g.now f.shown f.below).1 rest.2 k others
              (sees_step split_b.sees split_b.below) crowded;
        }

  drop_all : (parts : List ℕ) (done : ℕ) → length parts ≤ done → drop done parts ≡ []
  drop_all [] zero h = refl
  drop_all [] (suc done) h = refl
  drop_all (p ∷ parts) zero h = absurd (omega (arith, h))
  drop_all (p ∷ parts) (suc done) h = drop_all parts done (omega (arith, h))

  pub none_found : (parts : List ℕ) (shows : Bool) (start deep done before : ℕ)
      → length parts ≤ done → GoesOn parts shows start deep done before
      → NoneCrowdedAmong nodes parts shows start deep
  none_found parts shows start deep done before all goes seen c k shown b crowded =
      let g = goes seen c in
      let P : List ℕ → Type 0 = λ l. BelowPart nodes l shows g.now k shown in
      none_sees (subst P (drop_all parts done all) (g.later k shown b crowded))

  -- ---- where the recursion stands

  pub counts_within : {i before deep : ℕ} → Counts nodes i before deep → i < length nodes
  counts_within c = laid_here c.1.laid
    where
      laid_here : {seen : List ℕ} {round i end : ℕ} → Laid nodes seen round i end → i < length nodes
      laid_here {i = i} (laid n at deep head has parts) = get_within nodes i n at

  pub counts_deep : {i before deep : ℕ} → Counts nodes i before deep → deep < 64
  counts_deep c = laid_deep nodes c.1.laid

  abbrev pub NodeGoesOn : Node → ℕ → ℕ → ℕ → ℕ → Type 0
  NodeGoesOn n start deep done before = GoesOn (parts_of n) (shows_earlier n) start deep done before

  -- ---- one counted field more

  count_more : (p : ℕ → Bool) (x : ℕ) (xs : List ℕ) → count_by p (x ∷ xs) ≡ cond (p x) 1 0 + count_by p xs
  count_more p x xs = sum_by-cons (λ k. cond (p k) 1 0) x xs

  amount_more : (b : Bool) (part seen after : ℕ) (now : List ℕ) → is_counted nodes part ≡ b → Amounts nodes now seen
      → after ≡ (if b && nat_lt seen 64 then seen + 1 else seen) → Amounts nodes (part ∷ now) after
  amount_more true part seen after now counted amount is =
      let more : count_by (is_counted nodes) (part ∷ now) ≡ 1 + count_by (is_counted nodes) now =
      count_more (is_counted nodes) part now ∙ ap (λ b. cond b 1 0 + count_by (is_counted nodes) now) counted in
      by_room (nat_lt seen 64) refl more
    where
      by_room : (b : Bool) → nat_lt seen 64 ≡ b → count_by (is_counted nodes) (part ∷ now) ≡ 1 + count_by
          (is_counted nodes) now → after ≡ min 64 (count_by (is_counted nodes) (part ∷ now))
      by_room true e more =
          let room : seen < 64 = ltb-true seen 64 e in
          let next : after ≡ seen + 1 = is ∙ ap (λ b. if b then seen + 1 else seen) e in
          omega (arith, amount, more, room, next)
      by_room false e more =
          let full : 64 ≤ seen = ltb-false seen 64 e in
          let next : after ≡ seen = is ∙ ap (λ b. if b then seen + 1 else seen) e in
          omega (arith, amount, more, full, next)
  amount_more false part seen after now counted amount is =
      let more : count_by (is_counted nodes) (part ∷ now) ≡ 0 + count_by (is_counted nodes) now =
      count_more (is_counted nodes) part now ∙ ap (λ b. cond b 1 0 + count_by (is_counted nodes) now) counted in
      omega (arith, amount, more, is)

  amount_named : (named : Bool) (part seen after : ℕ) (now : List ℕ)
      → is_named nodes part ≡ named → Amounts nodes now seen
      → after ≡ (if named && (is_counted nodes part && nat_lt seen 64) then seen + 1 else seen)
      → Amounts nodes (if named then part ∷ now else now) after
  amount_named true part seen after now is amount next = amount_more (is_counted nodes part) part seen after now refl amount next
  amount_named false part seen after now is amount next = next ∙ amount

  -- what the next part sees
  pub amount_goes_on :
      (shows : Bool) (part seen after : ℕ)
      → after ≡ (if shows && (is_named nodes part && (is_counted nodes part && nat_lt seen 64)) then seen + 1 else seen)
      → (now : List ℕ) → Amounts nodes now seen → Amounts nodes (with_seen nodes shows part now) after
  amount_goes_on true part seen after next now amount = amount_named (is_named nodes part) part seen after now refl amount next
  amount_goes_on false part seen after next now amount = next ∙ amount
