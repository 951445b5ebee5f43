-- A tree has one first misfit.
use Rattle.std.proofs.Common.{◌≡◌, ℕ, ◌<◌, ◌≤◌, ◌⊎◌, inl, inr, true, List, [], ◌∷◌, length, refl, sym, ◌∙◌, ap, subst, arith, Some}
use Rattle.std.specs.Prelude.{slice_get}
use Rattle.std.proofs.lemmas.Option.{slice_get_within}
use Rattle.csn_desc.specs.declared.symbol.Symbol.TheVariants.{Low}
use Rattle.csn_desc.specs.declared.node.Node.{Node}
use Rattle.csn_desc.specs.TreeV.{TreeV, Trees}
use Rattle.csn_desc.specs.Nodes.{DescV}
use Rattle.csn_desc.specs.Values.{Values}
use Rattle.csn_encode.specs.declared.misfit.MisfitWhy.{MisfitWhy}
use Rattle.csn_encode.specs.declared.misfit.MisfitWhy.TheVariants.{WrongKind}
use Rattle.csn_encode.specs.Misfits.{has_kind, tree_count, HavePieces, pieces_end, pieces_next, MissesNode}
use Rattle.csn_encode.specs.Misfits.{wrong_kind, wrong_label, wrong_seq, wrong_times, wrong_trunc, idle_trunc}
use Rattle.csn_encode.specs.Misfits.{wrong_field, wide_spare, no_pad, wrong_spare, wrong_pad, no_alternative}
use Rattle.csn_encode.specs.Misfits.{wrong_window, past_lits, past_field, past_rest, past_spare, past_pad, Misses}
use Rattle.csn_encode.specs.Misfits.{MissesIn, MissesParts, MissesRepeats, misses_at, misses_here, misses_named}
use Rattle.csn_encode.specs.Misfits.{misses_choice, misses_window, misses_seq, misses_trunc, misses_times}
use Rattle.csn_encode.specs.Misfits.{misses_many, parts_here, parts_later, repeats_here, repeats_later}
use Rattle.csn_encode.proofs.OneBits.{one_bits}
use Rattle.csn_encode.proofs.NoBits.{spare_in, clash}

no_length : (b : List ℕ) → b ≡ [] → 0 < length b → ⊥
no_length b nothing least = let count = ap length nothing in omega (arith, count)

module _ (d : DescV) where
  miss_node : {i j o : ℕ} {v : Values} {t : TreeV} {path : List ℕ} {why : MisfitWhy} (n : Node)
      → slice_get d.nodes i ≡ Some n → i ≡ j → Misses d j o v t path why → MissesIn d n o v t path why
  miss_node {o = o} {v = v} {t = t} {path = path} {why = why} n here same (misses_at m there h) =
      let one : m ≡ n = cc in
      let P : Node → Type 0 = λ k. MissesIn d k o v t path why in
      subst P one h

  -- ---- pieces

  one_pieces : {parts : List ℕ} {o p : ℕ} {v w : Values} {ts us : Trees} {xs ys : List (List ℕ)}
      → HavePieces d parts o v ts xs → HavePieces d parts p w us ys → o ≡ p → v ≡ w → ts ≡ us → xs ≡ ys
  one_pieces (pieces_end e) (pieces_end f) place seen same = cc
  one_pieces (pieces_end e) (pieces_next c later f m room ms) place seen same = cc
  one_pieces (pieces_next b later e h within hs) (pieces_end f) place seen same = cc
  one_pieces (pieces_next b later e h within hs) (pieces_next c rest f m room ms) place seen same =
      let one = one_bits d h m refl place seen (cc) in
      let others = one_pieces hs ms (cc) (cc) (cc) in
      cc

  pieces_count : {parts : List ℕ} {o : ℕ} {v : Values} {ts : Trees} {xs : List (List ℕ)} → HavePieces d parts o v ts xs → tree_count ts ≤ length parts
  pieces_count (pieces_end e) = omega arith
  pieces_count (pieces_next b later e h within hs) = let k = pieces_count hs in omega arith

  -- where all trees have bits no part misses
  clash_pieces : {parts : List ℕ} {at o p : ℕ} {v w : Values} {ts us : Trees} {path : List ℕ} {why : MisfitWhy}
      {xs : List (List ℕ)} → MissesParts d parts at o v ts path why → HavePieces d parts p w us xs → o ≡ p → v ≡ w
      → ts ≡ us → ⊥
  clash_pieces (parts_here below e h) (pieces_end f) place seen same = cc
  clash_pieces (parts_later b k room hs) (pieces_end f) place seen same = cc
  clash_pieces (parts_here below e h) (pieces_next b later f m within ms) place seen same = clash d h m refl place seen (cc) within
  clash_pieces (parts_later c k room hs) (pieces_next b later f m within ms) place seen same =
      let one = one_bits d k m refl place seen (cc) in
      clash_pieces hs ms (cc) (cc) (cc)

  -- ---- at a node itself

  kind_or : {n : Node} {o : ℕ} {v : Values} {t : TreeV} {why : MisfitWhy} → MissesNode d n o v t why → (has_kind n t ≡ true) ⊎ (why ≡ WrongKind)
  kind_or (wrong_kind h e) = inr e
  kind_or _ = inl refl

  one_reason : {n : Node} {o p : ℕ} {v w : Values} {t u : TreeV} {why whz : MisfitWhy}
      → MissesNode d n o v t why → MissesNode d n p w u whz → o ≡ p → v ≡ w → t ≡ u → why ≡ whz
  one_reason (wrong_kind h e) m place seen same = elim (kind_or m) [ inl right ↦ absurd (cc) | inr wrong ↦ e ∙ sym wrong ]
  one_reason m (wrong_kind h e) place seen same = elim (kind_or m) [ inl right ↦ absurd (cc) | inr wrong ↦ wrong ∙ sym e ]
  one_reason (wrong_label h e) (wrong_label k f) place seen same = cc
  one_reason (wrong_seq h e) (wrong_seq k f) place seen same = cc
  one_reason (wrong_times n count h e) (wrong_times m counts k f) place seen same = cc
  one_reason (wrong_trunc h e) (wrong_trunc k f) place seen same = cc
  one_reason (wrong_trunc {ts = ts} h e) (idle_trunc {ts = us} pieces ps k f) place seen same =
      let row_is : ts ≡ us = cc in let count = ap tree_count row_is in let most = pieces_count ps in absurd (omega (arith, count, most))
  one_reason (idle_trunc {ts = ts} pieces ps h e) (wrong_trunc {ts = us} k f) place seen same =
      let row_is : ts ≡ us = cc in let count = ap tree_count row_is in let most = pieces_count ps in absurd (omega (arith, count, most))
  one_reason (idle_trunc pieces ps h e) (idle_trunc others qs k f) place seen same =
      let one = one_pieces ps qs place seen (cc) in cc
  one_reason (wrong_field n count h e) (wrong_field m counts k f) place seen same = cc
  one_reason (wrong_field n count h e) (past_field m counts wide past f) place seen same = absurd (h (cc))
  one_reason (past_field n count wide past e) (wrong_field m counts k f) place seen same = absurd (k (cc))
  one_reason (past_field n count wide past e) (past_field m counts wider far f) place seen same = cc
  one_reason (wide_spare h e) (wide_spare k f) place seen same = cc
  one_reason (wide_spare h e) (wrong_spare one reading k f) place seen same = absurd (h (cc))
  one_reason (wide_spare h e) (past_spare one spare past f) place seen same = absurd (h (cc))
  one_reason (wrong_spare one reading h e) (wide_spare k f) place seen same = absurd (k (cc))
  one_reason (wrong_spare one reading h e) (wrong_spare two readings k f) place seen same = cc
  one_reason (wrong_spare {s = s} one reading h e) (past_spare two spare past f) place seen same = absurd (h (spare_in s reading (sym place) (cc) spare))
  one_reason (past_spare one spare past e) (wide_spare k f) place seen same = absurd (k (cc))
  one_reason (past_spare {s = s} one spare past e) (wrong_spare two reading k f) place seen same = absurd (k (spare_in s reading place (cc) spare))
  one_reason (past_spare one spare past e) (past_spare two spares far f) place seen same = cc
  one_reason (no_pad h e) (no_pad k f) place seen same = cc
  one_reason (no_pad {b = b} h e) (wrong_pad {b = c} least reading k f) place seen same = absurd (no_length c (cc) least)
  one_reason (no_pad {b = b} h e) (past_pad {b = c} least spare past f) place seen same = absurd (no_length c (cc) least)
  one_reason (wrong_pad {b = b} least reading h e) (no_pad k f) place seen same = absurd (no_length b (cc) least)
  one_reason (wrong_pad least reading h e) (wrong_pad much readings k f) place seen same = cc
  one_reason (wrong_pad least reading h e) (past_pad much spare past f) place seen same = absurd (h (spare_in Low reading (sym place) (cc) spare))
  one_reason (past_pad {b = b} least spare past e) (no_pad k f) place seen same = absurd (no_length b (cc) least)
  one_reason (past_pad least spare past e) (wrong_pad much reading k f) place seen same = absurd (k (spare_in Low reading place (cc) spare))
  one_reason (past_pad least spare past e) (past_pad much spares far f) place seen same = cc
  one_reason (no_alternative h e) (no_alternative k f) place seen same = cc
  one_reason (wrong_window n b count h within wide e) (wrong_window m c counts k room wider f) place seen same =
      let one = one_bits d h k refl place seen same in cc
  one_reason (past_lits h e) (past_lits k f) place seen same = cc
  one_reason (past_rest h e) (past_rest k f) place seen same = cc

  -- ---- at the node or inside it

  kind_in : {n : Node} {o : ℕ} {v : Values} {t : TreeV} {path : List ℕ} {why : MisfitWhy}
      → MissesIn d n o v t path why → (has_kind n t ≡ true) ⊎ ((path ≡ []) × (why ≡ WrongKind))
  kind_in (misses_here e h) = elim (kind_or h) [ inl right ↦ inl right | inr wrong ↦ inr (e, wrong) ]
  kind_in _ = inl refl

  -- a tree that misses the node itself misses nothing before that
  own_first : {n : Node} {o p : ℕ} {v w : Values} {t u : TreeV} {path : List ℕ} {why whz : MisfitWhy}
      → MissesNode d n o v t why → MissesIn d n p w u path whz → o ≡ p → v ≡ w → t ≡ u → (path ≡ []) × (whz ≡ why)
  own_first (wrong_kind h f) k place seen same = elim (kind_in k) [ inl right ↦ absurd (cc) | inr both ↦ (both.0, both.1 ∙ sym f) ]
  own_first m (misses_here e h) place seen same = (e, sym (one_reason m h place seen same))
  own_first (wrong_label h f) (misses_named below e label k) place seen same = absurd (h (cc))
  own_first (wrong_seq h f) (misses_seq count k) place seen same = absurd (h (cc))
  own_first (wrong_times n counts h f) (misses_times m counted count k) place seen same = absurd (h (cc))
  own_first (wrong_trunc {ts = ts} h f) (misses_trunc {ts = us} count k) place seen same =
      let row_is : ts ≡ us = cc in let counts = ap tree_count row_is in absurd (omega (arith, counts))
  own_first (idle_trunc pieces ps h f) (misses_trunc count k) place seen same = absurd (clash_pieces k ps (sym place) (sym seen) (cc))
  own_first (no_alternative {parts = parts} {j = j} h f) (misses_choice {j = l} {i = i} below e at k) place seen same =
      let number : j ≡ l = cc in let less = slice_get_within parts l i at in absurd (omega arith)
  own_first (wrong_window n b count m within wide f) (misses_window k) place seen same = absurd (clash d k m refl (sym place) (sym seen) (sym same) within)

  abbrev Agree : List ℕ → List ℕ → MisfitWhy → MisfitWhy → Type 0
  Agree path qath why whz = (path ≡ qath) × (why ≡ whz)

  step_in : {path qath below under : List ℕ} {why whz : MisfitWhy} (at : ℕ) → path ≡ at ∷ below → qath ≡ at ∷ under
      → Agree below under why whz → Agree path qath why whz
  step_in at e f both = let same = both.0 in (cc, both.1)

  mutual
    pub one_miss : {i j o p : ℕ} {v w : Values} {t u : TreeV} {path qath : List ℕ} {why whz : MisfitWhy}
        → Misses d i o v t path why → Misses d j p w u qath whz → i ≡ j → o ≡ p → v ≡ w → t ≡ u
        → Agree path qath why whz
    one_miss (misses_at n at h) k node place seen same = one_in h (miss_node n at node k) place seen same

    one_in : {n : Node} {o p : ℕ} {v w : Values} {t u : TreeV} {path qath : List ℕ} {why whz : MisfitWhy}
        → MissesIn d n o v t path why → MissesIn d n p w u qath whz → o ≡ p → v ≡ w → t ≡ u → Agree path qath why whz
    one_in (misses_here e h) k place seen same = let both = own_first h k place seen same in (e ∙ sym both.0, sym both.1)
    one_in h (misses_here e k) place seen same = let both = own_first k h (sym place) (sym seen) (sym same) in (both.0 ∙ sym e, both.1)
    one_in (misses_named below e label h) (misses_named under f labels k) place seen same = step_in 0 e f (one_miss h k refl place seen (cc))
    one_in (misses_choice below e at h) (misses_choice under f there k) place seen same = step_in 0 e f (one_miss h k (cc) place seen (cc))
    one_in (misses_window h) (misses_window k) place seen same = one_miss h k refl place seen same
    one_in (misses_seq count h) (misses_seq counts k) place seen same = one_of_parts h k place seen (cc)
    one_in (misses_trunc count h) (misses_trunc counts k) place seen same = one_of_parts h k place seen (cc)
    one_in (misses_times n count wanted h) (misses_times m counts wants k) place seen same = one_of_repeats h k place seen (cc)
    one_in (misses_many h) (misses_many k) place seen same = one_of_repeats h k place seen (cc)

    one_of_parts : {parts : List ℕ} {at o p : ℕ} {v w : Values} {ts us : Trees} {path qath : List ℕ}
        {why whz : MisfitWhy} → MissesParts d parts at o v ts path why → MissesParts d parts at p w us qath whz
        → o ≡ p → v ≡ w → ts ≡ us → Agree path qath why whz
    one_of_parts {at = at} (parts_here below e h) (parts_here under f k) place seen same = step_in at e f (one_miss h k refl place seen (cc))
    one_of_parts (parts_here below e h) (parts_later c m room ks) place seen same = absurd (clash d h m refl place seen (cc) room)
    one_of_parts (parts_later b m room hs) (parts_here under f k) place seen same = absurd (clash d k m refl (sym place) (sym seen) (cc) room)
    one_of_parts (parts_later b m room hs) (parts_later c n space ks) place seen same =
        let one = one_bits d m n refl place seen (cc) in
        one_of_parts hs ks (cc) (cc) (cc)

    one_of_repeats : {i at o p : ℕ} {v w : Values} {ts us : Trees} {path qath : List ℕ} {why whz : MisfitWhy}
        → MissesRepeats d i at o v ts path why → MissesRepeats d i at p w us qath whz → o ≡ p → v ≡ w → ts ≡ us
        → Agree path qath why whz
    one_of_repeats {at = at} (repeats_here below e h) (repeats_here under f k) place seen same = step_in at e f (one_miss h k refl place seen (cc))
    one_of_repeats (repeats_here below e h) (repeats_later c m room ks) place seen same = absurd (clash d h m refl place seen (cc) room)
    one_of_repeats (repeats_later b m room hs) (repeats_here under f k) place seen same = absurd (clash d k m refl (sym place) (sym seen) (cc) room)
    one_of_repeats (repeats_later b m room hs) (repeats_later c n space ks) place seen same =
        let one = one_bits d m n refl place seen (cc) in
        one_of_repeats hs ks (cc) seen (cc)
