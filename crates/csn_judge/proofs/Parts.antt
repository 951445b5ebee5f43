-- The parts of a sequence: the first of them, and what is left behind it.
use Rattle.std.proofs.Common.{◌≡◌, ℕ, ◌+◌, List, [], ◌∷◌, ◌++◌, length, refl, sym, ◌∙◌, ap, subst, append_assoc, length-append, Some, slice_get}
use Rattle.std.proofs.Math.Seq.{drop-append_seam}
use Rattle.csn_desc.specs.declared.moves.Move.{Move}
use Rattle.csn_desc.specs.declared.moves.Move.TheVariants.{Enter, Leave}
use Rattle.csn_desc.specs.declared.node.Node.TheVariants.{Seq}
use Rattle.csn_desc.specs.TreeV.{TreeV, Trees, row, more}
use Rattle.csn_desc.specs.Nodes.{DescV}
use Rattle.csn_desc.specs.Values.{Values, with_value}
use Rattle.csn_desc.specs.Laws.{TreesHaveMoves, TreesHaveOneListOfMoves}
use Rattle.csn_desc.specs.Means.{NMeans, NodeMeans, PartsMean, means_at, means_seq, parts_next}
use Rattle.csn_desc.specs.Follows.{NFollow, NodeFollows, PartsFollow, follows_at, follows_whole, follows_seq, parts_here, parts_later}
use Rattle.csn_desc.specs.Walks.{bits_of, Walk, NodeWalk, PartsWalk, walk_at, walk_seq}
use Rattle.csn_desc.specs.Walks as walk
use Rattle.csn_judge.specs.Left.{Left, all_left, parts_left, behind, Completes, completes_all, completes_parts, Begins, begins_whole, begins_all, begins_parts}
use Rattle.csn_judge.proofs.StepFacts.{Both, BeginsBoth, begins_inner, begins_left, Splits}
use Rattle.csn_judge.proofs.Entering.{Told, opened, closed, follows_node}

-- the laws of moves that are used
pub record Moving : Type 0 where
  pub some : TreesHaveMoves
  pub one : TreesHaveOneListOfMoves

-- the moves of a tree that bits have take these bits
pub walk_takes : Moving → (d : DescV) {i o : ℕ} {v : Values} {b : List ℕ} {t : TreeV} {moves : List Move}
    → NMeans d i o v b t → Walk d i o t moves → bits_of moves ≡ b
walk_takes laws d {i} {o} {v} {b} {t} {moves} h w =
    let found = laws.some d i o v b t h in
    ap bits_of (laws.one d i o t moves found.0 w found.1) ∙ found.2

module _ (d : DescV) (laws : Moving) where
  -- bits that are followed whole
  pub follow_whole : {i o : ℕ} {v : Values} {b : List ℕ} {t : TreeV} → NMeans d i o v b t → NFollow d i o v b
  follow_whole {t = t} (means_at n at h) = follows_at n at (follows_whole t h)

  pub followed_all : {i : ℕ} {v : Values} {done b : List ℕ} → Begins d (all_left i v) done b → NFollow d i (length done) v b
  followed_all (begins_all f) = f
  followed_all (begins_whole moves (completes_all t h w)) = follow_whole h

  -- a part, behind which the block goes on
  pub record Ended (i o : ℕ) (v : Values) (b : List ℕ) : Type 0 where
    pub tree : TreeV
    pub moves : List Move
    pub means : NMeans d i o v b tree
    pub walks : Walk d i o tree moves

  pub ended : {i o : ℕ} {v : Values} {b : List ℕ} {t : TreeV} → NMeans d i o v b t → Ended i o v b
  ended {i} {o} {v} {b} {t} h = let found = laws.some d i o v b t h in record { tree = t; moves = found.0; means = h; walks = found.1 }

  -- parts with their moves
  pub record PartsTold (parts : List ℕ) (o : ℕ) (v : Values) (b : List ℕ) (inside : List Move) : Type 0 where
    pub trees : Trees
    pub means : PartsMean d parts o v b trees
    pub walks : PartsWalk d parts o trees inside

  -- what the later parts see, and where they begin, told by the bits of the part or by those of the block
  sees_behind : (j : ℕ) (v : Values) (done b1 : List ℕ) → behind d j (length done) v (done ++ b1) ≡ with_value d.nodes j b1 v
  sees_behind j v done b1 = ap (λ l. with_value d.nodes j l v) (drop-append_seam done b1)

  pub later_on : (P : ℕ → Values → Type 0) (j : ℕ) (v : Values) (done b1 : List ℕ)
      → P (length done + length b1) (with_value d.nodes j b1 v)
      → P (length (done ++ b1)) (behind d j (length done) v (done ++ b1))
  later_on P j v done b1 h =
      let Q : ℕ → Type 0 = λ o. P o (with_value d.nodes j b1 v) in
      subst (P (length (done ++ b1))) (sym (sees_behind j v done b1)) (subst Q (sym (length-append done b1)) h)

  pub later_off : (P : ℕ → Values → Type 0) (j : ℕ) (v : Values) (done b1 : List ℕ)
      → P (length (done ++ b1)) (behind d j (length done) v (done ++ b1))
      → P (length done + length b1) (with_value d.nodes j b1 v)
  later_off P j v done b1 h =
      let Q : ℕ → Type 0 = λ o. P o (with_value d.nodes j b1 v) in
      subst Q (length-append done b1) (subst (P (length (done ++ b1))) (sees_behind j v done b1) h)

  -- and where they begin, told by the moves of the part
  pub walk_on : (P : ℕ → Type 0) (done b1 : List ℕ) (first : List Move)
      → bits_of first ≡ b1 → P (length done + length (bits_of first)) → P (length (done ++ b1))
  walk_on P done b1 first takes w = subst P (ap (λ l. length done + length l) takes ∙ sym (length-append done b1)) w

  pub walk_off : (P : ℕ → Type 0) (done b1 : List ℕ) (first : List Move)
      → bits_of first ≡ b1 → P (length (done ++ b1)) → P (length done + length (bits_of first))
  walk_off P done b1 first takes w = subst P (length-append done b1 ∙ ap (λ l. length done + length l) (sym takes)) w

  -- a part that has its moves, and what is left behind it
  pub part_apart : {j : ℕ} {v : Values} {t u : TreeV} {left : Left} {done b b1 b2 : List ℕ}
      {inside first moves : List Move} (rest : List Move) → b ≡ b1 ++ b2 → NMeans d j (length done) v b1 t
      → Walk d j (length done) u first → t ≡ u → moves ≡ inside ++ Leave ∷ [] → inside ≡ first ++ rest
      → (bits_of first ≡ b1 → Completes d left (done ++ b1) b2 (rest ++ Leave ∷ []))
      → Both d (all_left j v) left done b moves
  part_apart {j} {v} {u = u} {done = done} {b1 = b1} {b2 = b2} {first = first} rest cut h w same leave is outside =
      let P : TreeV → Type 0 = λ k. NMeans d j (length done) v b1 k in
      let means = subst P same h in
      record {
        b1 = b1;
        b2 = b2;
        first = first;
        others = rest ++ Leave ∷ [];
        cut = cut;
        is = leave ∙ ap (λ l. l ++ Leave ∷ []) is ∙ append_assoc first rest (Leave ∷ []);
        inside = completes_all u means w;
        outside = outside (walk_takes laws d means w);
      }

  -- ---- the first part, and those behind it

  pub parts_apart : (j : ℕ) (ps : List ℕ) (v : Values) (done : List ℕ) {b : List ℕ} {inside : List Move}
      → PartsTold (j ∷ ps) (length done) v b inside → Both d (all_left j v) (parts_left j (length done) ps v) done b
      (inside ++ Leave ∷ [])
  parts_apart j ps v done {b} {inside} told = by told.means told.walks refl
    where
      by : {ts us : Trees} → PartsMean d (j ∷ ps) (length done) v b ts → PartsWalk d (j ∷ ps) (length done) us inside
          → ts ≡ us → Both d (all_left j v) (parts_left j (length done) ps v) done b (inside ++ Leave ∷ [])
      by (parts_next {t = t} {ts = ts} b1 b2 cut h others) (walk.parts_next {t = u} {ts = us} first rest is w ws) e =
          let tree : t ≡ u = cc in
          let trees : ts ≡ us = cc in
          let Q : Trees → Type 0 = λ k. PartsMean d ps (length done + length b1) (with_value d.nodes j b1 v) b2 k in
          part_apart rest cut h w tree refl is
          (λ takes. completes_parts us (later_on (λ o w. PartsMean d ps o w b2 us) j v done b1
          (subst Q trees others)) (walk_on (λ o. PartsWalk d ps o us rest) done b1 first takes ws) refl)

  -- some parts with their moves, and then a leaving
  pub record PartsWhole (parts : List ℕ) (o : ℕ) (v : Values) (b : List ℕ) (moves : List Move) : Type 0 where
    pub inside : List Move
    pub told : PartsTold parts o v b inside
    pub is : moves ≡ inside ++ Leave ∷ []

  pub parts_together : (j : ℕ) (ps : List ℕ) (v : Values) (done : List ℕ) {b : List ℕ} {moves : List Move}
      → Both d (all_left j v) (parts_left j (length done) ps v) done b moves → PartsWhole (j ∷ ps) (length done)
      v b moves
  parts_together j ps v done {b} {moves} both = by both.b1 both.b2 both.first both.others both.cut both.is both.inside both.outside
    where
      by : (b1 b2 : List ℕ) (first others : List Move) → b ≡ b1 ++ b2 → moves ≡ first ++ others
          → Completes d (all_left j v) done b1 first → Completes d (parts_left j (length done) ps v) (done ++ b1)
          b2 others → PartsWhole (j ∷ ps) (length done) v b moves
      by b1 b2 first others cut is (completes_all t h w) (completes_parts {inside = rest} ts means ws is_others) =
          record {
            inside = first ++ rest;
            told = record {
              trees = more t ts;
              means = parts_next b1 b2 cut h (later_off (λ o w. PartsMean d ps o w b2 ts) j v done b1 means);
              walks = walk.parts_next first rest refl w (walk_off (λ o. PartsWalk d ps o ts rest) done b1 first (walk_takes laws d h w) ws);
            };
            is = is ∙ ap (λ l. first ++ l) is_others ∙ sym (append_assoc first rest (Leave ∷ []));
          }

  pub follow_apart : (j : ℕ) (ps : List ℕ) (v : Values) (done : List ℕ) {b : List ℕ}
      → PartsFollow d (j ∷ ps) (length done) v b → BeginsBoth d (all_left j v) (parts_left j (length done) ps v)
      done b
  follow_apart j ps v done (parts_here f) = begins_inner (begins_all f) tt
  follow_apart j ps v done (parts_later b1 b2 cut h rest) =
      let first = ended h in
      begins_left b1 b2 first.moves cut (completes_all first.tree first.means first.walks)
      (begins_parts (later_on (λ o w. PartsFollow d ps o w b2) j v done b1 rest)) tt

  pub whole_apart : (j : ℕ) (ps : List ℕ) (v : Values) (done : List ℕ) {b : List ℕ} {moves : List Move}
      → Both d (all_left j v) (parts_left j (length done) ps v) done b moves
      → BeginsBoth d (all_left j v) (parts_left j (length done) ps v) done b
  whole_apart j ps v done both = begins_left both.b1 both.b2 both.first both.cut both.inside (begins_whole both.others both.outside) tt

  -- bits that some parts follow, or have trees for
  pub data PartsBegun (parts : List ℕ) (o : ℕ) (v : Values) (b : List ℕ) : Type 0 where
    parts_follow : PartsFollow d parts o v b → PartsBegun parts o v b
    parts_whole : (inside : List Move) → PartsTold parts o v b inside → PartsBegun parts o v b

  pub follow_together : (j : ℕ) (ps : List ℕ) (v : Values) (done : List ℕ) {b : List ℕ}
      → BeginsBoth d (all_left j v) (parts_left j (length done) ps v) done b → PartsBegun (j ∷ ps) (length done) v b
  follow_together j ps v done (begins_inner h up) = parts_follow (parts_here (followed_all h))
  follow_together j ps v done {b} (begins_left b1 b2 first cut h rest up) = by h rest
    where
      by : Completes d (all_left j v) done b1 first → Begins d (parts_left j (length done) ps v) (done ++ b1) b2 → PartsBegun (j ∷ ps) (length done) v b
      by (completes_all t means w) (begins_parts f) = parts_follow (parts_later b1 b2 cut means (later_off (λ o w. PartsFollow d ps o w b2) j v done b1 f))
      by h (begins_whole others k) =
          let whole = parts_together j ps v done (record {
            b1 = b1;
            b2 = b2;
            first = first;
            others = others;
            cut =
                cut;
            is = refl;
            inside = h;
            outside = k;
          }) in
          parts_whole whole.inside whole.told

  -- ---- a sequence is entered, and goes on with its next part, or is read

  pub enter_sequence : (i j : ℕ) (ps : List ℕ) (v : Values) (done : List ℕ)
      → slice_get d.nodes i ≡ Some (Seq (j ∷ ps))
      → Splits d (all_left i v) (all_left j v) (parts_left j (length done) ps v) done (Enter i ∷ [])
  enter_sequence i j ps v done at =
      record { completes = on; completed = back; begins = forth; begun = home; up_old = λ place. tt; up_inner = λ place. tt }
    where
      told_parts : {parts b : List ℕ} {inside : List Move} → Told d (Seq parts) (length done) v b inside → PartsTold parts (length done) v b inside
      told_parts {parts} {b} {inside} told = by told.means told.walks refl
        where
          by : {qs : List ℕ} {t u : TreeV} → NodeMeans d (Seq qs) (length done) v b t
              → NodeWalk d (Seq qs) (length done) u inside → t ≡ u → PartsTold qs (length done) v b inside
          by {qs} (means_seq {ts = ts} h) (walk_seq {ts = us} ws) e =
              let trees : ts ≡ us = cc in
              let P : Trees → Type 0 = λ k. PartsMean d qs (length done) v b k in
              record { trees = us; means = subst P trees h; walks = ws }

      on : (b : List ℕ) (moves : List Move) → Completes d (all_left i v) done b moves → (rest : List Move)
          × (moves ≡ (Enter i ∷ []) ++ rest) × Both d (all_left j v) (parts_left j (length done) ps v) done b rest
      on b moves h = let o = opened d at h in (o.inside ++ Leave ∷ [], o.is, parts_apart j ps v done (told_parts o.told))

      back : (b : List ℕ) (rest : List Move) → Both d (all_left j v) (parts_left j (length done) ps v) done b rest
          → Completes d (all_left i v) done b ((Enter i ∷ []) ++ rest)
      back b rest both =
          let whole = parts_together j ps v done both in
          closed d at (record {
            inside = whole.inside;
            told = record {
              tree = row whole.told.trees;
              means =
                  means_seq whole.told.means;
              walks = walk_seq whole.told.walks;
            };
            is = ap (λ l. Enter i ∷ l) whole.is;
          })

      by_node : (b : List ℕ) → NodeFollows d (Seq (j ∷ ps)) (length done) v b → BeginsBoth d (all_left j v) (parts_left j (length done) ps v) done b
      by_node b (follows_seq f) = follow_apart j ps v done f
      by_node b (follows_whole t h) =
          let found = ended (means_at (Seq (j ∷ ps)) at h) in
          let o = opened d at (completes_all found.tree found.means found.walks) in
          whole_apart j ps v done (parts_apart j ps v done (told_parts o.told))

      forth : (b : List ℕ) → Begins d (all_left i v) done b → BeginsBoth d (all_left j v) (parts_left j (length done) ps v) done b
      forth b h = by_node b (follows_node d at h)

      home : (b : List ℕ) → BeginsBoth d (all_left j v) (parts_left j (length done) ps v) done b → Begins d (all_left i v) done b
      home b h =
          elim (follow_together j ps v done h) [
            | parts_follow f ↦ begins_all (follows_at (Seq (j ∷ ps)) at (follows_seq f))
            | parts_whole inside told ↦ begins_all (follows_at (Seq (j ∷ ps)) at (follows_whole (row told.trees) (means_seq told.means)))
          ]

  pub next_part : (i from j : ℕ) (ps : List ℕ) (v : Values) (done : List ℕ)
      → Splits d (parts_left i from (j ∷ ps) v) (all_left j (behind d i from v done))
      (parts_left j (length done) ps (behind d i from v done)) done []
  next_part i from j ps v done =
      record { completes = on; completed = back; begins = forth; begun = home; up_old = λ place. tt; up_inner = λ place. tt }
    where
      w : Values
      w = behind d i from v done

      on : (b : List ℕ) (moves : List Move) → Completes d (parts_left i from (j ∷ ps) v) done b moves
          → (rest : List Move) × (moves ≡ [] ++ rest)
          × Both d (all_left j w) (parts_left j (length done) ps w) done b rest
      on b moves (completes_parts {inside = inside} ts h ws is) =
          (inside ++ Leave ∷ [], is, parts_apart j ps w done (record { trees = ts; means = h; walks = ws }))

      back : (b : List ℕ) (rest : List Move) → Both d (all_left j w) (parts_left j (length done) ps w) done b rest
          → Completes d (parts_left i from (j ∷ ps) v) done b ([] ++ rest)
      back b rest both =
          let whole = parts_together j ps w done both in
          completes_parts whole.told.trees whole.told.means whole.told.walks whole.is

      forth : (b : List ℕ) → Begins d (parts_left i from (j ∷ ps) v) done b → BeginsBoth d (all_left j w) (parts_left j (length done) ps w) done b
      forth b (begins_parts f) = follow_apart j ps w done f
      forth b (begins_whole moves (completes_parts {inside = inside} ts h ws is)) =
          whole_apart j ps w done (parts_apart j ps w done (record { trees = ts; means = h; walks = ws }))

      home : (b : List ℕ) → BeginsBoth d (all_left j w) (parts_left j (length done) ps w) done b → Begins d (parts_left i from (j ∷ ps) v) done b
      home b h =
          elim (follow_together j ps w done h) [
            | parts_follow f ↦ begins_parts f
            | parts_whole inside told ↦ begins_whole (inside ++ Leave ∷ []) (completes_parts told.trees told.means told.walks refl)
          ]
