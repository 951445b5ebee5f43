-- Each tree that bits have has moves, which take these bits; and moves at one node are those of one tree.
use Rattle.std.proofs.Common.{◌≡◌, ℕ, suc, ◌+◌, List, [], ◌∷◌, ◌++◌, length, refl, sym, ◌∙◌, ap, subst, append_assoc, append-nil, Some}
use Rattle.std.specs.Prelude.{slice_get, map}
use Rattle.std.proofs.lemmas.List.{append_cancel_left}
use Rattle.csn_desc.specs.declared.moves.Move.{Move}
use Rattle.csn_desc.specs.declared.moves.Move.TheVariants.{Enter, Bit, Leave}
use Rattle.csn_desc.specs.declared.node.Node.{Node}
use Rattle.csn_desc.specs.TreeV.{TreeV, bits, row, named, Trees, none, more}
use Rattle.csn_desc.specs.Nodes.{DescV, parts_of}
use Rattle.csn_desc.specs.Values.{Values}
use Rattle.csn_desc.specs.Means.{NMeans, NodeMeans, PartsMean, TimesMean, ManyMean, LeadMean, means_at, means_lits}
use Rattle.csn_desc.specs.Means.{means_spare, means_pad, means_null, means_field, means_rest, means_seq, means_choice}
use Rattle.csn_desc.specs.Means.{means_times, means_many, means_cut, means_trunc, means_window, means_named}
use Rattle.csn_desc.specs.Means.{times_end, times_next, many_end, many_next, lead_last}
use Rattle.csn_desc.specs.Means as mean
use Rattle.csn_desc.specs.Walks.{bits_of, Walk, NodeWalk, PartsWalk, RepeatsWalk, LeadWalk, walk_at, walk_lits}
use Rattle.csn_desc.specs.Walks.{walk_spare, walk_pad, walk_null, walk_field, walk_rest, walk_seq, walk_choice}
use Rattle.csn_desc.specs.Walks.{walk_times, walk_many, walk_trunc, walk_window, walk_named, parts_end, parts_next}
use Rattle.csn_desc.specs.Walks.{repeats_end, repeats_next, lead_end, lead_next}
use Rattle.csn_desc.specs.Formed.{Spans, PartsSpan, spans, span_next}
use Rattle.csn_desc.proofs.Numbering.{parts_distinct, part_spans}

-- ---- the bits of moves

bits_of-append : (a c : List Move) → bits_of (a ++ c) ≡ bits_of a ++ bits_of c
bits_of-append [] c = refl
bits_of-append (Enter i ∷ a) c = bits_of-append a c
bits_of-append (Bit x ∷ a) c = ap (λ l. x ∷ l) (bits_of-append a c)
bits_of-append (Leave ∷ a) c = bits_of-append a c

bits_of-map : (b : List ℕ) → bits_of (map Bit b) ≡ b
bits_of-map [] = refl
bits_of-map (x ∷ b) = ap (λ l. x ∷ l) (bits_of-map b)

module _ (d : DescV) where
  -- ---- a tree that bits have has moves

  -- moves of a tree at a node, or of what is inside it, or of some parts, that take some bits
  pub record Takes (P : List Move → Type 0) (b : List ℕ) : Type 0 where
    pub moves : List Move
    pub walk : P moves
    pub takes : bits_of moves ≡ b

  entered : {n : Node} {i o : ℕ} {t : TreeV} {b : List ℕ} → slice_get d.nodes i ≡ Some n
      → Takes (λ ms. NodeWalk d n o t ms) b → Takes (λ ms. Walk d i o t ms) b
  entered {n} {i} at h =
      record {
        moves = Enter i ∷ (h.moves ++ Leave ∷ []);
        walk = walk_at n h.moves at h.walk refl;
        takes = bits_of-append h.moves (Leave ∷ []) ∙ append-nil (bits_of h.moves) ∙ h.takes;
      }

  took : {P : List Move → Type 0} (b : List ℕ) → ((ms : List Move) → ms ≡ map Bit b → P ms) → Takes P b
  took b h = record { moves = map Bit b; walk = h (map Bit b) refl; takes = bits_of-map b }

  nothing : {P : List Move → Type 0} {b : List ℕ} → b ≡ [] → P [] → Takes P b
  nothing e h = record { moves = []; walk = h; takes = sym e }

  -- moves of a first part and then of the rest
  joined : {P R : List Move → Type 0} {b : List ℕ} (o : ℕ) (Q : ℕ → List Move → Type 0) (b1 b2 : List ℕ)
      → b ≡ b1 ++ b2 → Takes P b1 → Takes (Q (o + length b1)) b2
      → ((first rest : List Move) → P first → Q (o + length (bits_of first)) rest → R (first ++ rest)) → Takes R b
  joined o Q b1 b2 cut h others make =
      let there : o + length b1 ≡ o + length (bits_of h.moves) = ap (λ l. o + length l) (sym h.takes) in
      let S : ℕ → Type 0 = λ k. Q k others.moves in
      record {
        moves = h.moves ++ others.moves;
        walk = make h.moves others.moves h.walk (subst S there others.walk);
        takes = bits_of-append h.moves others.moves ∙ ap (λ l. l ++ bits_of others.moves) h.takes ∙ ap (λ l. b1 ++ l) others.takes ∙ sym cut;
      }

  mutual
    pub walk_of : {i o : ℕ} {v : Values} {b : List ℕ} {t : TreeV} → NMeans d i o v b t → Takes (λ ms. Walk d i o t ms) b
    walk_of (means_at n at h) = entered at (node_walk_of h)

    node_walk_of : {n : Node} {o : ℕ} {v : Values} {b : List ℕ} {t : TreeV} → NodeMeans d n o v b t → Takes (λ ms. NodeWalk d n o t ms) b
    node_walk_of {o = o} {b = b} (means_lits {run = run} h) = took b (λ ms e. walk_lits (e ∙ ap (λ l. map Bit l) h))
    node_walk_of {b = b} (means_spare one h) = took b (λ ms e. walk_spare e)
    node_walk_of {b = b} (means_pad some h) = took b (λ ms e. walk_pad e)
    node_walk_of (means_null h) = nothing h (walk_null refl)
    node_walk_of {b = b} (means_field k count wide h) = took b (λ ms e. walk_field e)
    node_walk_of {b = b} (means_rest h) = took b (λ ms e. walk_rest e)
    node_walk_of (means_seq h) = let w = parts_walk_of h in record { moves = w.moves; walk = walk_seq w.walk; takes = w.takes }
    node_walk_of (means_choice {i = i} at h) = let w = walk_of h in record { moves = w.moves; walk = walk_choice i at w.walk; takes = w.takes }
    node_walk_of (means_times k count h) = let w = times_walk_of h in record { moves = w.moves; walk = walk_times w.walk; takes = w.takes }
    node_walk_of (means_many h) = let w = many_walk_of h in record { moves = w.moves; walk = walk_many w.walk; takes = w.takes }
    node_walk_of (means_cut h) = nothing h (walk_trunc (lead_end refl))
    node_walk_of (means_trunc h) = let w = lead_walk_of h in record { moves = w.moves; walk = walk_trunc w.walk; takes = w.takes }
    node_walk_of (means_window k count wide h) = let w = walk_of h in record { moves = w.moves; walk = walk_window w.walk; takes = w.takes }
    node_walk_of (means_named h) = let w = walk_of h in record { moves = w.moves; walk = walk_named w.walk; takes = w.takes }

    parts_walk_of : {parts : List ℕ} {o : ℕ} {v : Values} {b : List ℕ} {ts : Trees} → PartsMean d parts o v b ts → Takes (λ ms. PartsWalk d parts o ts ms) b
    parts_walk_of (mean.parts_end h) = nothing h (parts_end refl)
    parts_walk_of (mean.parts_next {parts = parts} {o = o} {ts = ts} b1 b2 cut h others) =
        joined o (λ k ms. PartsWalk d parts k ts ms) b1 b2 cut (walk_of h) (parts_walk_of others) (λ first rest w ws. parts_next first rest refl w ws)

    times_walk_of : {n i o : ℕ} {v : Values} {b : List ℕ} {ts : Trees} → TimesMean d n i o v b ts → Takes (λ ms. RepeatsWalk d i o ts ms) b
    times_walk_of (times_end zero h) = nothing h (repeats_end refl)
    times_walk_of (times_next {i = i} {o = o} {ts = ts} m is b1 b2 cut h others) =
        joined o (λ k ms. RepeatsWalk d i k ts ms) b1 b2 cut (walk_of h) (times_walk_of others) (λ first rest w ws. repeats_next first rest refl w ws)

    many_walk_of : {i o : ℕ} {v : Values} {b : List ℕ} {ts : Trees} → ManyMean d i o v b ts → Takes (λ ms. RepeatsWalk d i o ts ms) b
    many_walk_of (many_end h) = nothing h (repeats_end refl)
    many_walk_of (many_next {i = i} {o = o} {ts = ts} b1 b2 cut some h others) =
        joined o (λ k ms. RepeatsWalk d i k ts ms) b1 b2 cut (walk_of h) (many_walk_of others) (λ first rest w ws. repeats_next first rest refl w ws)

    lead_walk_of : {parts : List ℕ} {o : ℕ} {v : Values} {b : List ℕ} {ts : Trees} → LeadMean d parts o v b ts → Takes (λ ms. LeadWalk d parts o ts ms) b
    lead_walk_of {b = b} (lead_last {parts = parts} {o = o} some h) =
        joined o (λ k ms. LeadWalk d parts k none ms) b [] (sym (append-nil b)) (walk_of h)
        (nothing refl (lead_end refl)) (λ first rest w ws. lead_next first rest refl w ws)
    lead_walk_of (mean.lead_next {parts = parts} {o = o} {ts = ts} b1 b2 cut h others) =
        joined o (λ k ms. LeadWalk d parts k ts ms) b1 b2 cut (walk_of h) (lead_walk_of others) (λ first rest w ws. lead_next first rest refl w ws)

  -- ---- moves are those of one tree

  pub record Same {T : Type 0} (t u : T) (a c : List Move) : Type 0 where
    pub trees : t ≡ u
    pub moves : a ≡ c

  -- bits that a node takes end where it is left
  bits_stop : (b c : List ℕ) (x y : List Move) → map Bit b ++ (Leave ∷ x) ≡ map Bit c ++ (Leave ∷ y) → b ≡ c
  bits_stop [] [] x y e = refl
  bits_stop [] (k ∷ c) x y e = cc
  bits_stop (k ∷ b) [] x y e = cc
  bits_stop (k ∷ b) (m ∷ c) x y e =
      let first : k ≡ m = cc in
      let others : b ≡ c = bits_stop b c x y (cc) in
      cc

  same_bits : {a c : List Move} (b1 b2 : List ℕ) (x y : List Move) → a ≡ map Bit b1 → c ≡ map Bit b2
      → a ++ (Leave ∷ x) ≡ c ++ (Leave ∷ y) → Same (bits b1) (bits b2) a c
  same_bits b1 b2 x y left right e =
      let agree : b1 ≡ b2 = bits_stop b1 b2 x y (ap (λ l. l ++ (Leave ∷ x)) (sym left) ∙ e ∙ ap (λ l. l ++ (Leave ∷ y)) right) in
      record { trees = ap bits agree; moves = left ∙ ap (λ l. map Bit l) agree ∙ sym right }

  -- what stands behind the first pieces
  cut_first : {a c : List Move} (f1 r1 x f2 r2 y : List Move) → a ≡ f1 ++ r1 → c ≡ f2 ++ r2 → a ++ x ≡ c ++ y → f1 ++ (r1 ++ x) ≡ f2 ++ (r2 ++ y)
  cut_first f1 r1 x f2 r2 y left right e =
      sym (append_assoc f1 r1 x) ∙ ap (λ l. l ++ x) (sym left) ∙ e ∙ ap (λ l. l ++ y) right ∙ append_assoc f2 r2 y

  cut_rest : (f1 r1 x f2 r2 y : List Move) → f1 ≡ f2 → f1 ++ (r1 ++ x) ≡ f2 ++ (r2 ++ y) → r1 ++ x ≡ r2 ++ y
  cut_rest f1 r1 x f2 r2 y same e = append_cancel_left f1 (r1 ++ x) (r2 ++ y) (e ∙ ap (λ l. l ++ (r2 ++ y)) (sym same))

  -- a walk begins with the node's number
  pub enters : {i o : ℕ} {t : TreeV} {moves : List Move} → Walk d i o t moves → (rest : List Move) × (moves ≡ Enter i ∷ rest)
  enters (walk_at n inside at h e) = (inside ++ Leave ∷ [], e)

  starts_same : {i k o p : ℕ} {t u : TreeV} {a c : List Move} (x y : List Move) → Walk d i o t a → Walk d k p u c → a ++ x ≡ c ++ y → i ≡ k
  starts_same x y left right e =
      let l = enters left in let r = enters right in
      let both : Enter _ ∷ (l.0 ++ x) ≡ Enter _ ∷ (r.0 ++ y) = ap (λ m. m ++ x) (sym l.1) ∙ e ∙ ap (λ m. m ++ y) r.1 in
      cc

  -- a walk does not begin where a node is left
  not_left : {i o : ℕ} {t : TreeV} {a f : List Move} (r x y : List Move) → Walk d i o t f → a ≡ f ++ r → a ++ x ≡ Leave ∷ y → ⊥
  not_left r x y walk cut e =
      let w = enters walk in
      let both : Enter _ ∷ ((w.0 ++ r) ++ x) ≡ Leave ∷ y = ap (λ m. (m ++ r) ++ x) (sym w.1) ∙ ap (λ m. m ++ x) (sym cut) ∙ e in
      cc

  join_same : {a c : List Move} {t u : TreeV} {ts us : Trees} (f1 r1 f2 r2 : List Move)
      → a ≡ f1 ++ r1 → c ≡ f2 ++ r2 → Same t u f1 f2 → Same ts us r1 r2 → Same (more t ts) (more u us) a c
  join_same f1 r1 f2 r2 left right first others =
      let trees_same = first.trees in let rest_same = others.trees in
      record { trees = cc; moves = left ∙ ap (λ l. l ++ r1) first.moves ∙ ap (λ l. f2 ++ l) others.moves ∙ sym right }

  -- a part of a node is itself numbered through
  only_part : {i at end : ℕ} → PartsSpan d.nodes (i ∷ []) at end → (middle : ℕ) × Spans d.nodes i middle
  only_part (span_next middle e h others) = (middle, h)

  -- the walk of the rest, from where the first piece ends
  pub walk_moved : (P : ℕ → List Move → Type 0) (o : ℕ) {f1 f2 r : List Move} → f1 ≡ f2 → P (o + length (bits_of f2)) r → P (o + length (bits_of f1)) r
  walk_moved P o {r = r} same h = let S : List Move → Type 0 = λ f. P (o + length (bits_of f)) r in subst S (sym same) h

  pub at_node : {n m : Node} {o : ℕ} {u : TreeV} {c : List Move} → n ≡ m → NodeWalk d m o u c → NodeWalk d n o u c
  at_node {o = o} {u = u} {c = c} same h = let S : Node → Type 0 = λ n. NodeWalk d n o u c in subst S (sym same) h

  mutual
    pub one_walk : {i o end : ℕ} {t u : TreeV} {a c : List Move} (x y : List Move)
        → Spans d.nodes i end → Walk d i o t a → Walk d i o u c → a ++ x ≡ c ++ y → Same t u a c
    one_walk {i = i} {end = end} x y (spans n at parts) (walk_at n1 in1 at1 h1 e1) (walk_at n2 in2 at2 h2 e2) e =
        let first_node : n1 ≡ n = cc in
        let one_node : n1 ≡ n2 = cc in
        let S : Node → Type 0 = λ m. PartsSpan d.nodes (parts_of m) (suc i) end in
        let whole : Enter i ∷ ((in1 ++ Leave ∷ []) ++ x) ≡ Enter i ∷ ((in2 ++ Leave ∷ []) ++ y) =
        ap (λ l. l ++ x) (sym e1) ∙ e ∙ ap (λ l. l ++ y) e2 in
        let tails : (in1 ++ Leave ∷ []) ++ x ≡ (in2 ++ Leave ∷ []) ++ y = cc in
        let same = one_node_walk x y (subst S (sym first_node) parts) h1 (at_node one_node h2)
        (sym (append_assoc in1 (Leave ∷ []) x) ∙ tails ∙ append_assoc in2 (Leave ∷ []) y) in
        record { trees = same.trees; moves = e1 ∙ ap (λ l. Enter i ∷ (l ++ Leave ∷ [])) same.moves ∙ sym e2 }

    one_node_walk : {n : Node} {o at end : ℕ} {t u : TreeV} {a c : List Move} (x y : List Move)
        → PartsSpan d.nodes (parts_of n) at end → NodeWalk d n o t a → NodeWalk d n o u c
        → a ++ (Leave ∷ x) ≡ c ++ (Leave ∷ y) → Same t u a c
    one_node_walk x y parts (walk_lits left) (walk_lits right) e = record { trees = refl; moves = left ∙ sym right }
    one_node_walk x y parts (walk_spare {b = b1} left) (walk_spare {b = b2} right) e = same_bits b1 b2 x y left right e
    one_node_walk x y parts (walk_pad {b = b1} left) (walk_pad {b = b2} right) e = same_bits b1 b2 x y left right e
    one_node_walk x y parts (walk_null left) (walk_null right) e = record { trees = refl; moves = left ∙ sym right }
    one_node_walk x y parts (walk_field {b = b1} left) (walk_field {b = b2} right) e = same_bits b1 b2 x y left right e
    one_node_walk x y parts (walk_rest {b = b1} left) (walk_rest {b = b2} right) e = same_bits b1 b2 x y left right e
    one_node_walk x y parts (walk_seq h1) (walk_seq h2) e =
        let same = one_parts_walk (Leave ∷ x) (Leave ∷ y) parts h1 h2 e in record { trees = ap row same.trees; moves = same.moves }
    one_node_walk {u = u} {c = c} x y parts (walk_choice {j = j} i1 at1 h1) (walk_choice {j = k} {o = o} {t = t2} i2 at2 h2) e =
        let part : i1 ≡ i2 = starts_same (Leave ∷ x) (Leave ∷ y) h1 h2 e in
        let alternative : j ≡ k = parts_distinct d.nodes j k i1 parts at1 (at2 ∙ ap Some (sym part)) in
        let S : ℕ → Type 0 = λ i. Walk d i o t2 c in
        let same = one_walk (Leave ∷ x) (Leave ∷ y) (part_spans d.nodes j i1 parts at1).1 h1 (subst S (sym part) h2) e in
        let tree_same = same.trees in
        record { trees = cc; moves = same.moves }
    one_node_walk x y parts (walk_times h1) (walk_times h2) e =
        let same = one_repeats_walk x y (only_part parts).1 h1 h2 e in record { trees = ap row same.trees; moves = same.moves }
    one_node_walk x y parts (walk_many h1) (walk_many h2) e =
        let same = one_repeats_walk x y (only_part parts).1 h1 h2 e in record { trees = ap row same.trees; moves = same.moves }
    one_node_walk x y parts (walk_trunc h1) (walk_trunc h2) e =
        let same = one_lead_walk x y parts h1 h2 e in record { trees = ap row same.trees; moves = same.moves }
    one_node_walk x y parts (walk_window h1) (walk_window h2) e = one_walk (Leave ∷ x) (Leave ∷ y) (only_part parts).1 h1 h2 e
    one_node_walk x y parts (walk_named {label = label} h1) (walk_named h2) e =
        let same = one_walk (Leave ∷ x) (Leave ∷ y) (only_part parts).1 h1 h2 e in record { trees = ap (named label) same.trees; moves = same.moves }

    one_parts_walk : {parts : List ℕ} {o at end : ℕ} {ts us : Trees} {a c : List Move} (x y : List Move)
        → PartsSpan d.nodes parts at end → PartsWalk d parts o ts a → PartsWalk d parts o us c → a ++ x ≡ c ++ y
        → Same ts us a c
    one_parts_walk x y span (parts_end left) (parts_end right) e = record { trees = refl; moves = left ∙ sym right }
    one_parts_walk x y (span_next middle s h spans_rest) (parts_next {parts = parts} {o = o} {ts = ts}
        f1 r1 left w1 ws1) (parts_next {ts = us} f2 r2 right w2 ws2) e =
        let cut = cut_first f1 r1 x f2 r2 y left right e in
        let first = one_walk (r1 ++ x) (r2 ++ y) h w1 w2 cut in
        let moved = walk_moved (λ k ms. PartsWalk d parts k us ms) o first.moves ws2 in
        join_same f1 r1 f2 r2 left right first (one_parts_walk x y spans_rest ws1 moved (cut_rest f1 r1 x f2 r2 y first.moves cut))

    one_repeats_walk : {i o end : ℕ} {ts us : Trees} {a c : List Move} (x y : List Move)
        → Spans d.nodes i end → RepeatsWalk d i o ts a → RepeatsWalk d i o us c → a ++ (Leave ∷ x) ≡ c ++ (Leave ∷ y)
        → Same ts us a c
    one_repeats_walk x y span (repeats_end left) (repeats_end right) e = record { trees = refl; moves = left ∙ sym right }
    one_repeats_walk x y span (repeats_end left) (repeats_next f r right w ws) e =
        absurd (not_left r (Leave ∷ y) x w right (sym e ∙ ap (λ l. l ++ (Leave ∷ x)) left))
    one_repeats_walk x y span (repeats_next f r left w ws) (repeats_end right) e =
        absurd (not_left r (Leave ∷ x) y w left (e ∙ ap (λ l. l ++ (Leave ∷ y)) right))
    one_repeats_walk x y span (repeats_next {i = i} {o = o} f1 r1 left w1 ws1) (repeats_next {ts = us} f2 r2 right w2 ws2) e =
        let cut = cut_first f1 r1 (Leave ∷ x) f2 r2 (Leave ∷ y) left right e in
        let first = one_walk (r1 ++ (Leave ∷ x)) (r2 ++ (Leave ∷ y)) span w1 w2 cut in
        let moved = walk_moved (λ k ms. RepeatsWalk d i k us ms) o first.moves ws2 in
        join_same f1 r1 f2 r2 left right first (one_repeats_walk x y span ws1 moved (cut_rest f1 r1 (Leave ∷ x) f2 r2 (Leave ∷ y) first.moves cut))

    one_lead_walk : {parts : List ℕ} {o at end : ℕ} {ts us : Trees} {a c : List Move} (x y : List Move)
        → PartsSpan d.nodes parts at end → LeadWalk d parts o ts a → LeadWalk d parts o us c
        → a ++ (Leave ∷ x) ≡ c ++ (Leave ∷ y) → Same ts us a c
    one_lead_walk x y span (lead_end left) (lead_end right) e = record { trees = refl; moves = left ∙ sym right }
    one_lead_walk x y span (lead_end left) (lead_next f r right w ws) e =
        absurd (not_left r (Leave ∷ y) x w right (sym e ∙ ap (λ l. l ++ (Leave ∷ x)) left))
    one_lead_walk x y span (lead_next f r left w ws) (lead_end right) e =
        absurd (not_left r (Leave ∷ x) y w left (e ∙ ap (λ l. l ++ (Leave ∷ y)) right))
    one_lead_walk x y (span_next middle s h spans_rest) (lead_next {parts = parts} {o = o} f1 r1 left w1 ws1) (lead_next {ts = us} f2 r2 right w2 ws2) e =
        let cut = cut_first f1 r1 (Leave ∷ x) f2 r2 (Leave ∷ y) left right e in
        let first = one_walk (r1 ++ (Leave ∷ x)) (r2 ++ (Leave ∷ y)) h w1 w2 cut in
        let moved = walk_moved (λ k ms. LeadWalk d parts k us ms) o first.moves ws2 in
        join_same f1 r1 f2 r2 left right first (one_lead_walk x y spans_rest ws1 moved (cut_rest f1 r1 (Leave ∷ x) f2 r2 (Leave ∷ y) first.moves cut))
