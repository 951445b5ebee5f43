-- A node is entered: what is left of it then, for each kind of node that has no part yet.
use Rattle.std.proofs.Common.{◌≡◌, ℕ, ◌-◌, ◌*◌, false, List, [], ◌∷◌, ◌++◌, length, map, refl, sym, ◌∙◌, ap, subst}
use Rattle.std.proofs.Common.{arith, append-nil, length-append, Some, slice_get}
use Rattle.std.specs.Prelude.{replicate}
use Rattle.std.proofs.lemmas.List.{length-replicate}
use Rattle.csn_desc.specs.declared.symbol.Symbol.{Symbol}
use Rattle.csn_desc.specs.declared.symbol.Symbol.TheVariants.{Low}
use Rattle.csn_desc.specs.declared.moves.Move.{Move}
use Rattle.csn_desc.specs.declared.moves.Move.TheVariants.{Enter, Bit, Leave}
use Rattle.csn_desc.specs.declared.node.Count.{Count}
use Rattle.csn_desc.specs.declared.node.Node.{Node}
use Rattle.csn_desc.specs.declared.node.Node.TheVariants.{Lits, Spare, Pad, Null, Field, Rest, Choice, Times, Many, Trunc}
use Rattle.csn_desc.specs.TreeV.{TreeV, Trees, empty, bits, row}
use Rattle.csn_desc.specs.TreeV as tree
use Rattle.csn_desc.specs.Nodes.{DescV}
use Rattle.csn_desc.specs.Spelled.{spelled, IsSpare}
use Rattle.csn_desc.specs.Values.{Values, count_of}
use Rattle.csn_desc.specs.Means.{NMeans, NodeMeans, TimesMean, LeadMean, means_at, means_lits, means_spare, means_pad}
use Rattle.csn_desc.specs.Means.{means_null, means_field, means_rest, means_choice, means_times, means_many}
use Rattle.csn_desc.specs.Means.{means_cut, means_trunc}
use Rattle.csn_desc.specs.Laws.{TreesHaveMoves}
use Rattle.csn_desc.specs.Follows.{NFollow, NodeFollows, TimesFollow, follows_at, follows_whole, follows_lits}
use Rattle.csn_desc.specs.Follows.{follows_spare, follows_pad, follows_field, follows_choice, follows_times}
use Rattle.csn_desc.specs.Follows.{follows_many, follows_trunc}
use Rattle.csn_desc.specs.Walks.{Walk, NodeWalk, walk_at, walk_lits, walk_spare, walk_pad, walk_null, walk_field}
use Rattle.csn_desc.specs.Walks.{walk_rest, walk_times, walk_many, walk_trunc, lead_end, lead_next}
use Rattle.csn_desc.proofs.Nodewise.{meaning_at, follow_at}
use Rattle.csn_desc.proofs.BitFacts.{IsBits-front, IsBits-along, spelled_is_spare}
use Rattle.csn_judge.specs.Left.{Left, all_left, bits_left, symbols_left, spare_left, pad_left, rest_left}
use Rattle.csn_judge.specs.Left.{choice_left, none_left, turns_left, free_left, cut_left, Completes, completes_all}
use Rattle.csn_judge.specs.Left.{completes_bits, completes_symbols, completes_spare, completes_pad, completes_rest}
use Rattle.csn_judge.specs.Left.{completes_choice, completes_none, completes_turns, completes_free, completes_cut}
use Rattle.csn_judge.specs.Left.{completes_lead, Begins, begins_whole, begins_all, begins_bits, begins_symbols}
use Rattle.csn_judge.specs.Left.{begins_spare, begins_pad, begins_choice, begins_turns, begins_free, begins_cut}
use Rattle.csn_judge.specs.Remains.{IsUpTo}
use Rattle.csn_judge.proofs.StepFacts.{Replaces, completes_from, begins_from}
use Rattle.csn_judge.proofs.Leaves.{spare_front}
use Rattle.csn_bits.proofs.Packing.{IsBits-append, IsBits-zeros}

module _ (d : DescV) where
  -- a meaning of a node with the moves inside it
  pub record Told (n : Node) (o : ℕ) (v : Values) (b : List ℕ) (inside : List Move) : Type 0 where
    pub tree : TreeV
    pub means : NodeMeans d n o v b tree
    pub walks : NodeWalk d n o tree inside

  pub record Inner (n : Node) (o : ℕ) (v : Values) (b : List ℕ) (moves : List Move) : Type 0 where
    pub inside : List Move
    pub told : Told n o v b inside
    pub is : moves ≡ inside ++ Leave ∷ []

  pub record Outer (n : Node) (i o : ℕ) (v : Values) (b : List ℕ) (moves : List Move) : Type 0 where
    pub inside : List Move
    pub told : Told n o v b inside
    pub is : moves ≡ Enter i ∷ (inside ++ Leave ∷ [])

  pub opened : {n : Node} {i : ℕ} {v : Values} {done b : List ℕ} {moves : List Move} → slice_get d.nodes i ≡ Some n
      → Completes d (all_left i v) done b moves → Outer n i (length done) v b moves
  opened {n} {done = done} at (completes_all t means (walk_at m inside there walks is)) =
      let same : m ≡ n = cc in
      let P : Node → Type 0 = λ k. NodeWalk d k (length done) t inside in
      record { inside = inside; told = record { tree = t; means = meaning_at d at means; walks = subst P same walks }; is = is }

  pub closed : {n : Node} {i : ℕ} {v : Values} {done b : List ℕ} {moves : List Move} → slice_get d.nodes i ≡ Some n
      → Outer n i (length done) v b moves → Completes d (all_left i v) done b moves
  closed {n} at o = completes_all o.told.tree (means_at n at o.told.means) (walk_at n o.inside at o.told.walks o.is)

  pub follows_node : {n : Node} {i : ℕ} {v : Values} {done b : List ℕ} → slice_get d.nodes i ≡ Some n
      → Begins d (all_left i v) done b → NodeFollows d n (length done) v b
  follows_node at (begins_all f) = follow_at d at f
  follows_node at (begins_whole moves h) = let o = opened at h in follows_whole o.told.tree o.told.means

  -- what is left of a node once it is entered
  pub record Enters (n : Node) (v : Values) (done : List ℕ) (new : Left) : Type 0 where
    pub completes : (b : List ℕ) (inside : List Move) → Told n (length done) v b inside → Completes d new done b (inside ++ Leave ∷ [])
    pub completed : (b : List ℕ) (moves : List Move) → Completes d new done b moves → Inner n (length done) v b moves
    pub begins : (b : List ℕ) → NodeFollows d n (length done) v b → Begins d new done b
    pub begun : (b : List ℕ) → Begins d new done b → NodeFollows d n (length done) v b
    pub up : (place : ℕ) → IsUpTo new place

  pub enters : {n : Node} {v : Values} {done : List ℕ} {new : Left} (i : ℕ) → slice_get d.nodes i ≡ Some n
      → Enters n v done new → Replaces d (all_left i v) new done [] (Enter i ∷ [])
  enters {n} {v} {done} {new} i at e =
      record {
        completes = λ b moves h.
            let o = opened at h in
            (o.inside ++ Leave ∷ [], o.is, completes_from d (sym (append-nil done)) (e.completes b o.inside o.told));
        completed = λ b more h.
            let inner = e.completed b more (completes_from d (append-nil done) h) in
            closed at (record { inside = inner.inside; told = inner.told; is = ap (λ l. Enter i ∷ l) inner.is });
        begins = λ b h. begins_from d (sym (append-nil done)) (e.begins b (follows_node at h));
        begun = λ b h. begins_all (follows_at n at (e.begun b (begins_from d (append-nil done) h)));
        up_old = λ place. tt;
        up_new = e.up;
      }

  -- what completes a form makes it a whole meaning of the node
  whole : {n : Node} {o : ℕ} {v : Values} {b : List ℕ} {moves : List Move} → Inner n o v b moves → NodeFollows d n o v b
  whole inner = follows_whole inner.told.tree inner.told.means

  -- a whole meaning of the node has moves, and so completes its form
  pub told_whole : {n : Node} (i : ℕ) {o : ℕ} {v : Values} {b : List ℕ} {t : TreeV}
      → TreesHaveMoves → slice_get d.nodes i ≡ Some n → NodeMeans d n o v b t → (inside : List Move)
      × Told n o v b inside
  told_whole {n} i {o} {v} {b} {t} some at h =
      let found = some d i o v b t (means_at n at h) in inside_of found.1
    where
      inside_of : {moves : List Move} → Walk d i o t moves → (inside : List Move) × Told n o v b inside
      inside_of (walk_at m inside there walks is) =
          let same : m ≡ n = cc in
          let P : Node → Type 0 = λ k. NodeWalk d k o t inside in
          (inside, record { tree = t; means = h; walks = subst P same walks })

  pub enter_literal : (run : List Symbol) (v : Values) (done : List ℕ) → Enters (Lits run) v done (symbols_left run)
  enter_literal run v done =
      record { completes = on; completed = back; begins = forth; begun = home; up = λ place. tt }
    where
      on : (b : List ℕ) (inside : List Move) → Told (Lits run) (length done) v b inside → Completes d (symbols_left run) done b (inside ++ Leave ∷ [])
      on b inside told = by told.means told.walks
        where
          by : {t : TreeV} → NodeMeans d (Lits run) (length done) v b t → NodeWalk d (Lits run) (length done) t inside
              → Completes d (symbols_left run) done b (inside ++ Leave ∷ [])
          by (means_lits same) (walk_lits is) = completes_symbols same (ap (λ l. l ++ Leave ∷ []) (is ∙ ap (λ l. map Bit l) (sym same)))

      back : (b : List ℕ) (moves : List Move) → Completes d (symbols_left run) done b moves → Inner (Lits run) (length done) v b moves
      back b moves (completes_symbols same is) =
          record { inside = map Bit b; told = record { tree = empty; means = means_lits same; walks = walk_lits (ap (λ l. map Bit l) same) }; is = is }

      forth : (b : List ℕ) → NodeFollows d (Lits run) (length done) v b → Begins d (symbols_left run) done b
      forth b (follows_lits all rest cut (means_lits same)) = begins_symbols rest (sym same ∙ cut)
      forth b (follows_whole t (means_lits same)) = begins_symbols [] (sym same ∙ sym (append-nil b))

      home : (b : List ℕ) → Begins d (symbols_left run) done b → NodeFollows d (Lits run) (length done) v b
      home b (begins_symbols rest same) = follows_lits (spelled run (length done)) rest same (means_lits refl)
      home b (begins_whole moves h) = whole (back b moves h)

  pub enter_null : (v : Values) (done : List ℕ) → Enters Null v done none_left
  enter_null v done =
      record { completes = on; completed = back; begins = forth; begun = home; up = λ place. tt }
    where
      on : (b : List ℕ) (inside : List Move) → Told Null (length done) v b inside → Completes d none_left done b (inside ++ Leave ∷ [])
      on b inside told = by told.means told.walks
        where
          by : {t : TreeV} → NodeMeans d Null (length done) v b t → NodeWalk d Null (length done) t inside
              → Completes d none_left done b (inside ++ Leave ∷ [])
          by (means_null same) (walk_null is) = completes_none same (ap (λ l. l ++ Leave ∷ []) is)

      back : (b : List ℕ) (moves : List Move) → Completes d none_left done b moves → Inner Null (length done) v b moves
      back b moves (completes_none same is) = record { inside = []; told = record { tree = empty; means = means_null same; walks = walk_null refl }; is = is }

      forth : (b : List ℕ) → NodeFollows d Null (length done) v b → Begins d none_left done b
      forth b (follows_whole t (means_null same)) = begins_whole (Leave ∷ []) (completes_none same refl)

      home : (b : List ℕ) → Begins d none_left done b → NodeFollows d Null (length done) v b
      home b (begins_whole moves h) = whole (back b moves h)

  pub enter_choice : (parts : List ℕ) (v : Values) (done : List ℕ) → Enters (Choice parts) v done (choice_left parts v)
  enter_choice parts v done =
      record { completes = on; completed = back; begins = forth; begun = home; up = λ place. tt }
    where
      on : (b : List ℕ) (inside : List Move) → Told (Choice parts) (length done) v b inside → Completes d (choice_left parts v) done b (inside ++ Leave ∷ [])
      on b inside told = completes_choice told.tree told.means told.walks refl

      back : (b : List ℕ) (moves : List Move) → Completes d (choice_left parts v) done b moves → Inner (Choice parts) (length done) v b moves
      back b moves (completes_choice {inside = inside} t means walks is) =
          record { inside = inside; told = record { tree = t; means = means; walks = walks }; is = is }

      forth : (b : List ℕ) → NodeFollows d (Choice parts) (length done) v b → Begins d (choice_left parts v) done b
      forth b (follows_choice {i = i} j at f) = begins_choice j i at f
      forth b (follows_whole t (means_choice {j = j} {i = i} {t = u} at h)) = begins_choice j i at (follow_whole h)
        where
          follow_whole : {i : ℕ} {u : TreeV} → NMeans d i (length done) v b u → NFollow d i (length done) v b
          follow_whole {u = u} (means_at n at h) = follows_at n at (follows_whole u h)

      home : (b : List ℕ) → Begins d (choice_left parts v) done b → NodeFollows d (Choice parts) (length done) v b
      home b (begins_choice j i at f) = follows_choice j at f
      home b (begins_whole moves h) = whole (back b moves h)

  pub enter_turns : (count : Count) (part n i : ℕ) (v : Values) (done : List ℕ)
      → TreesHaveMoves → slice_get d.nodes i ≡ Some (Times count part)
      → count_of v count ≡ Some n → Enters (Times count part) v done (turns_left n part v)
  enter_turns count part n i v done some at counts =
      record { completes = on; completed = back; begins = forth; begun = home; up = λ place. tt }
    where
      turns_along : {m : ℕ} (b : List ℕ) (ts : Trees) → count_of v count ≡ Some m → TimesMean d m part (length done)
          v b ts → TimesMean d n part (length done) v b ts
      turns_along {m} b ts count_m h = let same : m ≡ n = cc in let P : ℕ → Type 0 = λ k. TimesMean d k part (length done) v b ts in subst P same h

      on : (b : List ℕ) (inside : List Move) → Told (Times count part) (length done) v b inside
          → Completes d (turns_left n part v) done b (inside ++ Leave ∷ [])
      on b inside told = by told.means told.walks
        where
          by : {t : TreeV} → NodeMeans d (Times count part) (length done) v b t → NodeWalk d (Times count part)
              (length done) t inside → Completes d (turns_left n part v) done b (inside ++ Leave ∷ [])
          by (means_times {ts = ts} m count_m h) (walk_times walks) = completes_turns ts (turns_along b ts count_m h) walks refl

      back : (b : List ℕ) (moves : List Move) → Completes d (turns_left n part v) done b moves → Inner (Times count part) (length done) v b moves
      back b moves (completes_turns {inside = inside} ts h walks is) =
          record { inside = inside; told = record { tree = row ts; means = means_times n counts h; walks = walk_times walks }; is = is }

      forth : (b : List ℕ) → NodeFollows d (Times count part) (length done) v b → Begins d (turns_left n part v) done b
      forth b (follows_times m count_m f) =
          let same : m ≡ n = cc in
          let P : ℕ → Type 0 = λ k. TimesFollow d k part (length done) v b in
          begins_turns (subst P same f)
      forth b (follows_whole t h) = let told = told_whole i some at h in begins_whole (told.0 ++ Leave ∷ []) (on b told.0 told.1)

      home : (b : List ℕ) → Begins d (turns_left n part v) done b → NodeFollows d (Times count part) (length done) v b
      home b (begins_turns f) = follows_times n counts f
      home b (begins_whole moves h) = whole (back b moves h)

  pub enter_free : (part i : ℕ) (v : Values) (done : List ℕ) → TreesHaveMoves → slice_get d.nodes i ≡ Some (Many part)
      → Enters (Many part) v done (free_left part v)
  enter_free part i v done some at =
      record { completes = on; completed = back; begins = forth; begun = home; up = λ place. tt }
    where
      on : (b : List ℕ) (inside : List Move) → Told (Many part) (length done) v b inside → Completes d (free_left part v) done b (inside ++ Leave ∷ [])
      on b inside told = by told.means told.walks
        where
          by : {t : TreeV} → NodeMeans d (Many part) (length done) v b t → NodeWalk d (Many part) (length done)
              t inside → Completes d (free_left part v) done b (inside ++ Leave ∷ [])
          by (means_many {ts = ts} h) (walk_many walks) = completes_free ts h walks refl

      back : (b : List ℕ) (moves : List Move) → Completes d (free_left part v) done b moves → Inner (Many part) (length done) v b moves
      back b moves (completes_free {inside = inside} ts h walks is) =
          record { inside = inside; told = record { tree = row ts; means = means_many h; walks = walk_many walks }; is = is }

      forth : (b : List ℕ) → NodeFollows d (Many part) (length done) v b → Begins d (free_left part v) done b
      forth b (follows_many f) = begins_free f
      forth b (follows_whole t h) = let told = told_whole i some at h in begins_whole (told.0 ++ Leave ∷ []) (on b told.0 told.1)

      home : (b : List ℕ) → Begins d (free_left part v) done b → NodeFollows d (Many part) (length done) v b
      home b (begins_free f) = follows_many f
      home b (begins_whole moves h) = whole (back b moves h)

  pub enter_cut : (parts : List ℕ) (i : ℕ) (v : Values) (done : List ℕ)
      → TreesHaveMoves → slice_get d.nodes i ≡ Some (Trunc parts) → Enters (Trunc parts) v done (cut_left parts v)
  enter_cut parts i v done some at =
      record { completes = on; completed = back; begins = forth; begun = home; up = λ place. tt }
    where
      on : (b : List ℕ) (inside : List Move) → Told (Trunc parts) (length done) v b inside → Completes d (cut_left parts v) done b (inside ++ Leave ∷ [])
      on b inside told = by told.means told.walks refl
        where
          by : {ps : List ℕ} {t u : TreeV} → NodeMeans d (Trunc ps) (length done) v b t
              → NodeWalk d (Trunc ps) (length done) u inside → t ≡ u → Completes d (cut_left ps v) done b
              (inside ++ Leave ∷ [])
          by {ps = ps} (means_trunc {ts = ts} h) (walk_trunc {ts = us} walks) e =
              let same : ts ≡ us = cc in
              let P : Trees → Type 0 = λ k. LeadMean d ps (length done) v b k in
              completes_lead us (subst P same h) walks refl
          by (means_cut none) (walk_trunc (lead_end is)) e = completes_cut none (ap (λ l. l ++ Leave ∷ []) is)
          by (means_cut none) (walk_trunc (lead_next first rest is w ws)) e = absurd (cc)

      back : (b : List ℕ) (moves : List Move) → Completes d (cut_left parts v) done b moves → Inner (Trunc parts) (length done) v b moves
      back b moves (completes_lead {inside = inside} ts h walks is) =
          record { inside = inside; told = record { tree = row ts; means = means_trunc h; walks = walk_trunc walks }; is = is }
      back b moves (completes_cut none is) =
          record { inside = []; told = record { tree = row tree.none; means = means_cut none; walks = walk_trunc (lead_end refl) }; is = is }

      forth : (b : List ℕ) → NodeFollows d (Trunc parts) (length done) v b → Begins d (cut_left parts v) done b
      forth b (follows_trunc f) = begins_cut f
      forth b (follows_whole t h) = let told = told_whole i some at h in begins_whole (told.0 ++ Leave ∷ []) (on b told.0 told.1)

      home : (b : List ℕ) → Begins d (cut_left parts v) done b → NodeFollows d (Trunc parts) (length done) v b
      home b (begins_cut f) = follows_trunc f
      home b (begins_whole moves h) = whole (back b moves h)

  -- ---- leaves that take bits

  -- leaves whose tree is their bits
  leaf_told : {n : Node} {o : ℕ} {v : Values} {b : List ℕ} → NodeMeans d n o v b (bits b) → NodeWalk d n o (bits b) (map Bit b) → Told n o v b (map Bit b)
  leaf_told {b = b} means walks = record { tree = bits b; means = means; walks = walks }

  pub enter_field : (unit : ℕ) (count : Count) (n : ℕ) (v : Values) (done : List ℕ)
      → count_of v count ≡ Some n → Enters (Field unit count) v done (bits_left (unit * n))
  enter_field unit count n v done counts =
      record { completes = on; completed = back; begins = forth; begun = home; up = λ place. tt }
    where
      wide : (b : List ℕ) {m : ℕ} → count_of v count ≡ Some m → length b ≡ unit * m → length b ≡ unit * n
      wide b {m} count_m size = let same : m ≡ n = cc in size ∙ ap (λ k. unit * k) same

      on : (b : List ℕ) (inside : List Move) → Told (Field unit count) (length done) v b inside
          → Completes d (bits_left (unit * n)) done b (inside ++ Leave ∷ [])
      on b inside told = by told.means told.walks refl
        where
          by : {t u : TreeV} → NodeMeans d (Field unit count) (length done) v b t → NodeWalk d (Field unit count)
              (length done) u inside → t ≡ u → Completes d (bits_left (unit * n)) done b (inside ++ Leave ∷ [])
          by (means_field m count_m size good) (walk_field {b = c} is) e =
              let same : b ≡ c = cc in
              completes_bits (wide b count_m size) good (ap (λ l. l ++ Leave ∷ []) (is ∙ ap (λ l. map Bit l) (sym same)))

      back : (b : List ℕ) (moves : List Move) → Completes d (bits_left (unit * n)) done b moves → Inner (Field unit count) (length done) v b moves
      back b moves (completes_bits size good is) = record { inside = map Bit b; told = leaf_told (means_field n counts size good) (walk_field refl); is = is }

      forth : (b : List ℕ) → NodeFollows d (Field unit count) (length done) v b → Begins d (bits_left (unit * n)) done b
      forth b (follows_field all rest cut (means_field m count_m size good)) =
          begins_bits (omega (arith, ap length cut, length-append b rest, wide all count_m size)) (IsBits-front b rest (IsBits-along (sym cut) good))
      forth b (follows_whole t (means_field m count_m size good)) = begins_bits (omega (arith, wide b count_m size)) good

      home : (b : List ℕ) → Begins d (bits_left (unit * n)) done b → NodeFollows d (Field unit count) (length done) v b
      home b (begins_bits few good) =
          let more = replicate (unit * n - length b) 0 in
          follows_field (b ++ more) more refl
          (means_field n counts
          (length-append b more ∙ omega (arith, few, length-replicate {A = ℕ} (unit * n - length b) 0))
          (IsBits-append b more good (IsBits-zeros (unit * n - length b))))
      home b (begins_whole moves h) = whole (back b moves h)

  pub enter_spare : (s : Symbol) (v : Values) (done : List ℕ) → Enters (Spare s) v done (spare_left s)
  enter_spare s v done =
      record { completes = on; completed = back; begins = forth; begun = home; up = λ place. tt }
    where
      on : (b : List ℕ) (inside : List Move) → Told (Spare s) (length done) v b inside → Completes d (spare_left s) done b (inside ++ Leave ∷ [])
      on b inside told = by told.means told.walks refl
        where
          by : {t u : TreeV} → NodeMeans d (Spare s) (length done) v b t → NodeWalk d (Spare s) (length done) u inside
              → t ≡ u → Completes d (spare_left s) done b (inside ++ Leave ∷ [])
          by (means_spare one good) (walk_spare {b = c} is) e =
              let same : b ≡ c = cc in
              completes_spare one good (ap (λ l. l ++ Leave ∷ []) (is ∙ ap (λ l. map Bit l) (sym same)))

      back : (b : List ℕ) (moves : List Move) → Completes d (spare_left s) done b moves → Inner (Spare s) (length done) v b moves
      back b moves (completes_spare one good is) = record { inside = map Bit b; told = leaf_told (means_spare one good) (walk_spare refl); is = is }

      forth : (b : List ℕ) → NodeFollows d (Spare s) (length done) v b → Begins d (spare_left s) done b
      forth b (follows_spare all rest cut (means_spare one good)) =
          let P : List ℕ → Type 0 = λ l. IsSpare d.reading s (length done) l in
          begins_spare (omega (arith, ap length cut, length-append b rest, one)) (spare_front d.reading s (length done) b rest (subst P cut good))
      forth b (follows_whole t (means_spare one good)) = begins_spare (omega (arith, one)) good

      home : (b : List ℕ) → Begins d (spare_left s) done b → NodeFollows d (Spare s) (length done) v b
      home [] (begins_spare few good) = follows_spare (spelled (s ∷ []) (length done))
          (spelled (s ∷ []) (length done)) refl (means_spare refl (spelled_is_spare d.reading s (length done)))
      home (a ∷ b) (begins_spare few good) = follows_spare (a ∷ b) [] (sym (append-nil (a ∷ b))) (means_spare (omega (arith, few)) good)
      home b (begins_whole moves h) = whole (back b moves h)

  pub enter_pad : (v : Values) (done : List ℕ) → Enters Pad v done (pad_left false)
  enter_pad v done =
      record { completes = on; completed = back; begins = forth; begun = home; up = λ place. tt }
    where
      on : (b : List ℕ) (inside : List Move) → Told Pad (length done) v b inside → Completes d (pad_left false) done b (inside ++ Leave ∷ [])
      on b inside told = by told.means told.walks refl
        where
          by : {t u : TreeV} → NodeMeans d Pad (length done) v b t → NodeWalk d Pad (length done) u inside → t ≡ u
              → Completes d (pad_left false) done b (inside ++ Leave ∷ [])
          by (means_pad some good) (walk_pad {b = c} is) e =
              let same : b ≡ c = cc in
              completes_pad (λ none. some) good (ap (λ l. l ++ Leave ∷ []) (is ∙ ap (λ l. map Bit l) (sym same)))

      back : (b : List ℕ) (moves : List Move) → Completes d (pad_left false) done b moves → Inner Pad (length done) v b moves
      back b moves (completes_pad some good is) = record { inside = map Bit b; told = leaf_told (means_pad (some refl) good) (walk_pad refl); is = is }

      forth : (b : List ℕ) → NodeFollows d Pad (length done) v b → Begins d (pad_left false) done b
      forth b (follows_pad all rest cut (means_pad some good)) =
          let P : List ℕ → Type 0 = λ l. IsSpare d.reading Low (length done) l in
          begins_pad (spare_front d.reading Low (length done) b rest (subst P cut good))
      forth b (follows_whole t (means_pad some good)) = begins_pad good

      home : (b : List ℕ) → Begins d (pad_left false) done b → NodeFollows d Pad (length done) v b
      home [] (begins_pad good) = follows_pad (spelled (Low ∷ []) (length done)) (spelled (Low ∷ []) (length done))
          refl (means_pad (omega arith) (spelled_is_spare d.reading Low (length done)))
      home (a ∷ b) (begins_pad good) = follows_pad (a ∷ b) [] (sym (append-nil (a ∷ b))) (means_pad (omega arith) good)
      home b (begins_whole moves h) = whole (back b moves h)

  pub enter_rest : (v : Values) (done : List ℕ) → Enters Rest v done rest_left
  enter_rest v done =
      record { completes = on; completed = back; begins = forth; begun = home; up = λ place. tt }
    where
      on : (b : List ℕ) (inside : List Move) → Told Rest (length done) v b inside → Completes d rest_left done b (inside ++ Leave ∷ [])
      on b inside told = by told.means told.walks refl
        where
          by : {t u : TreeV} → NodeMeans d Rest (length done) v b t → NodeWalk d Rest (length done) u inside → t ≡ u
              → Completes d rest_left done b (inside ++ Leave ∷ [])
          by (means_rest good) (walk_rest {b = c} is) e =
              let same : b ≡ c = cc in
              completes_rest good (ap (λ l. l ++ Leave ∷ []) (is ∙ ap (λ l. map Bit l) (sym same)))

      back : (b : List ℕ) (moves : List Move) → Completes d rest_left done b moves → Inner Rest (length done) v b moves
      back b moves (completes_rest good is) = record { inside = map Bit b; told = leaf_told (means_rest good) (walk_rest refl); is = is }

      forth : (b : List ℕ) → NodeFollows d Rest (length done) v b → Begins d rest_left done b
      forth b (follows_whole t (means_rest good)) = begins_whole (map Bit b ++ Leave ∷ []) (completes_rest good refl)

      home : (b : List ℕ) → Begins d rest_left done b → NodeFollows d Rest (length done) v b
      home b (begins_whole moves h) = whole (back b moves h)
