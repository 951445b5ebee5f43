-- A tree that misses a description has no bits within a block.
use Rattle.std.proofs.Common.{◌≡◌, ℕ, zero, suc, ◌+◌, ◌<◌, ◌≤◌, true, List, [], ◌∷◌, ◌++◌, length, refl, sym, ◌∙◌, ap, subst, arith, length-append}
use Rattle.std.proofs.lemmas.Option.{slice_get_within}
use Rattle.csn_desc.specs.declared.reading.Reading.{Reading}
use Rattle.csn_desc.specs.declared.symbol.Symbol.{Symbol}
use Rattle.csn_desc.specs.declared.symbol.Symbol.TheVariants.{Low}
use Rattle.csn_desc.specs.declared.node.Node.{Node}
use Rattle.csn_desc.specs.TreeV.{TreeV, Trees, none}
use Rattle.csn_desc.specs.Nodes.{DescV}
use Rattle.csn_desc.specs.Spelled.{IsSpare}
use Rattle.csn_desc.specs.Values.{Values}
use Rattle.csn_desc.specs.Means.{NMeans, NodeMeans, PartsMean, TimesMean, ManyMean, LeadMean, means_lits, means_spare}
use Rattle.csn_desc.specs.Means.{means_pad, means_null, means_field, means_rest, means_seq, means_choice, means_times}
use Rattle.csn_desc.specs.Means.{means_many, means_cut, means_trunc, means_window, means_named, parts_end, parts_next}
use Rattle.csn_desc.specs.Means.{times_end, times_next, many_end, many_next, lead_last, lead_next}
use Rattle.csn_desc.proofs.BitFacts.{length-spelled}
use Rattle.csn_desc.proofs.Nodewise.{meaning_at}
use Rattle.csn_encode.specs.declared.misfit.MisfitWhy.{MisfitWhy}
use Rattle.csn_encode.specs.Misfits.{has_kind, tree_count, IsWithin, kept_with, kept_count, HavePieces, pieces_end}
use Rattle.csn_encode.specs.Misfits.{pieces_next, MissesNode, wrong_kind, wrong_label, wrong_seq, wrong_times}
use Rattle.csn_encode.specs.Misfits.{wrong_trunc, idle_trunc, wrong_field, wide_spare, no_pad, wrong_spare, wrong_pad}
use Rattle.csn_encode.specs.Misfits.{no_alternative, wrong_window, past_lits, past_field, past_rest, past_spare}
use Rattle.csn_encode.specs.Misfits.{past_pad, Misses, MissesIn, MissesParts, MissesRepeats, misses_at, misses_here}
use Rattle.csn_encode.specs.Misfits.{misses_named, misses_choice, misses_window, misses_seq, misses_trunc}
use Rattle.csn_encode.specs.Misfits.{misses_times, misses_many, parts_here, parts_later, repeats_here, repeats_later}
use Rattle.csn_encode.proofs.OneBits.{one_bits}

pub spare_in : {r q : Reading} (s : Symbol) {o p : ℕ} {b c : List ℕ} → r ≡ q → o ≡ p → b ≡ c → IsSpare r s o b → IsSpare q s p c
spare_in {r} {q} s {o} {p} {b} {c} reading place same h =
    let P : Reading → Type 0 = λ x. IsSpare x s o b in
    let Q : ℕ → Type 0 = λ x. IsSpare q s x b in
    let R : List ℕ → Type 0 = λ x. IsSpare q s p x in
    subst R same (subst Q place (subst P reading h))

kept_more : (b : List ℕ) (k n : ℕ) → k ≡ n → 0 < n → kept_with b k ≡ suc n
kept_more [] zero n same least = absurd (omega arith)
kept_more [] (suc k) n same least = ap suc same
kept_more (x ∷ b) zero n same least = ap suc same
kept_more (x ∷ b) (suc k) n same least = ap suc same

last_kept : (b : List ℕ) → 0 < length b → (kept_count (b ∷ []) ≡ length (b ∷ [])) × (0 < length (b ∷ []))
last_kept [] h = absurd (omega arith)
last_kept (x ∷ b) h = (refl, omega arith)

-- the first of two pieces ends where both do, or before
first_within : {b : List ℕ} (o : ℕ) (b1 b2 : List ℕ) → b ≡ b1 ++ b2 → IsWithin o b → IsWithin o b1
first_within o b1 b2 cut within =
    let long = ap length cut in
    let sum = length-append b1 b2 in
    omega (arith, long, sum)

rest_within : {b : List ℕ} (o : ℕ) (b1 b2 : List ℕ) → b ≡ b1 ++ b2 → IsWithin o b → IsWithin (o + length b1) b2
rest_within o b1 b2 cut within =
    let long = ap length cut in
    let sum = length-append b1 b2 in
    omega (arith, long, sum)

module _ (d : DescV) where
  -- what has bits is of the right kind, and has as many trees as it must
  kind_of : {n : Node} {o : ℕ} {v : Values} {b : List ℕ} {t : TreeV} → NodeMeans d n o v b t → has_kind n t ≡ true
  kind_of (means_lits h) = refl
  kind_of (means_spare one h) = refl
  kind_of (means_pad least h) = refl
  kind_of (means_null h) = refl
  kind_of (means_field n count wide h) = refl
  kind_of (means_rest h) = refl
  kind_of (means_seq h) = refl
  kind_of (means_choice at h) = refl
  kind_of (means_times n count h) = refl
  kind_of (means_many h) = refl
  kind_of (means_cut h) = refl
  kind_of (means_trunc h) = refl
  kind_of (means_window n count wide h) = refl
  kind_of (means_named h) = refl

  parts_count : {parts : List ℕ} {o : ℕ} {v : Values} {b : List ℕ} {ts : Trees} → PartsMean d parts o v b ts → tree_count ts ≡ length parts
  parts_count (parts_end h) = refl
  parts_count (parts_next b1 b2 cut h hs) = ap suc (parts_count hs)

  times_count : {n i o : ℕ} {v : Values} {b : List ℕ} {ts : Trees} → TimesMean d n i o v b ts → tree_count ts ≡ n
  times_count (times_end over h) = sym over
  times_count (times_next m is b1 b2 cut h hs) = ap suc (times_count hs) ∙ sym is

  lead_count : {parts : List ℕ} {o : ℕ} {v : Values} {b : List ℕ} {ts : Trees} → LeadMean d parts o v b ts → tree_count ts ≤ length parts
  lead_count (lead_last least h) = omega arith
  lead_count (lead_next b1 b2 cut h hs) = let k = lead_count hs in omega arith

  no_pieces : {parts : List ℕ} {o : ℕ} {v : Values} {ts : Trees} {pieces : List (List ℕ)} → HavePieces d parts o v ts pieces → ts ≡ none → pieces ≡ []
  no_pieces (pieces_end e) same = e
  no_pieces (pieces_next b later e h within hs) same = absurd (cc)

  -- of a truncation that has bits all pieces are kept, and there is one at least
  kept_all : {parts : List ℕ} {o p : ℕ} {v w : Values} {c : List ℕ} {ts us : Trees} {pieces : List (List ℕ)}
      → HavePieces d parts o v ts pieces → LeadMean d parts p w c us → o ≡ p → v ≡ w → ts ≡ us
      → (kept_count pieces ≡ length pieces) × (0 < length pieces)
  kept_all (pieces_end e) (lead_last least k) place seen same = absurd (cc)
  kept_all (pieces_end e) (lead_next c1 c2 split k ks) place seen same = absurd (cc)
  kept_all {pieces = pieces} (pieces_next b later e h within hs) (lead_last {b = c} least k) place seen same =
      let one : b ≡ c = one_bits d h k refl place seen (cc) in
      let last : later ≡ [] = no_pieces hs (cc) in
      let whole : pieces ≡ b ∷ [] = cc in
      let piece : 0 < length b = rw one least in
      rw whole (last_kept b piece)
  kept_all (pieces_next b later e h within hs) (lead_next c1 c2 split k ks) place seen same =
      let one : b ≡ c1 = one_bits d h k refl place seen (cc) in
      let rest = kept_all hs ks (cc) (cc) (cc) in
      rw e (kept_more b (kept_count later) (length later) rest.0 rest.1, omega arith)

  no_repeat : {i at o : ℕ} {v : Values} {ts : Trees} {path : List ℕ} {why : MisfitWhy} → MissesRepeats d i at o v ts path why → ts ≡ none → ⊥
  no_repeat (repeats_here below e h) same = cc
  no_repeat (repeats_later b m within hs) same = cc

  no_part : {parts : List ℕ} {at o : ℕ} {v : Values} {ts : Trees} {path : List ℕ} {why : MisfitWhy} → MissesParts d parts at o v ts path why → ts ≡ none → ⊥
  no_part (parts_here below e h) same = cc
  no_part (parts_later b m within hs) same = cc

  -- a node that is missed itself
  clash_node : {n : Node} {o p : ℕ} {v w : Values} {t u : TreeV} {why : MisfitWhy} {b : List ℕ}
      → MissesNode d n o v t why → NodeMeans d n p w b u → o ≡ p → v ≡ w → t ≡ u → IsWithin p b → ⊥
  clash_node (wrong_kind h e) m place seen same within = let k = kind_of m in cc
  clash_node (wrong_label h e) (means_named m) place seen same within = h (cc)
  clash_node (wrong_seq h e) (means_seq m) place seen same within = let k = parts_count m in h (cc)
  clash_node (wrong_times n count h e) (means_times k counts m) place seen same within = let j = times_count m in h (cc)
  clash_node (wrong_trunc {ts = ts} h e) (means_cut m) place seen same within =
      let empty_row : ts ≡ none = cc in let count : tree_count ts ≡ 0 = ap tree_count empty_row in omega arith
  clash_node (wrong_trunc {ts = ts} h e) (means_trunc {ts = us} m) place seen same within =
      let row_is : ts ≡ us = cc in let count = ap tree_count row_is in let least = lead_count m in omega (arith, count, least)
  clash_node (idle_trunc pieces ps h e) (means_cut m) place seen same within =
      let nothing = no_pieces ps (cc) in let count : length pieces ≡ 0 = ap length nothing in omega arith
  clash_node (idle_trunc pieces ps h e) (means_trunc m) place seen same within = let all = kept_all ps m place seen (cc) in omega (arith, all.0)
  clash_node (wrong_field n count h e) (means_field k counts wide m) place seen same within = h (cc)
  clash_node (wide_spare h e) (means_spare one m) place seen same within = h (cc)
  clash_node {b = c} (no_pad h e) (means_pad least m) place seen same within =
      let nothing : c ≡ [] = cc in let count : length c ≡ 0 = ap length nothing in omega arith
  clash_node (wrong_spare {s = s} one reading h e) (means_spare two m) place seen same within = h (spare_in s reading (sym place) (cc) m)
  clash_node (wrong_pad least reading h e) (means_pad k m) place seen same within = h (spare_in Low reading (sym place) (cc) m)
  clash_node (no_alternative {parts = parts} {j = j} h e) (means_choice {j = k} {i = i} at m) place seen same within =
      let number : j ≡ k = cc in let below = slice_get_within parts k i at in omega arith
  clash_node (wrong_window n c count h room wide e) (means_window k counts width m) place seen same within = let one =
      one_bits d h m refl place seen same in wide (cc)
  clash_node {p = p} (past_lits {run = run} h e) (means_lits m) place seen same within =
      let long = ap length m ∙ length-spelled run p in omega (arith, long)
  clash_node {b = c} (past_field {b = b} n count wide h e) (means_field k counts width m) place seen same within =
      let one_string : b ≡ c = cc in let long = ap length one_string in omega (arith, long)
  clash_node {b = c} (past_rest {b = b} h e) (means_rest m) place seen same within =
      let one_string : b ≡ c = cc in let long = ap length one_string in omega (arith, long)
  clash_node (past_spare one h past e) (means_spare two m) place seen same within = omega arith
  clash_node {b = c} (past_pad {b = b} one h past e) (means_pad two m) place seen same within =
      let one_string : b ≡ c = cc in let long = ap length one_string in omega (arith, long)

  mutual
    pub clash : {i k o p : ℕ} {v w : Values} {t u : TreeV} {path : List ℕ} {why : MisfitWhy} {b : List ℕ}
        → Misses d i o v t path why → NMeans d k p w b u → i ≡ k → o ≡ p → v ≡ w → t ≡ u → IsWithin p b → ⊥
    clash (misses_at n at h) m node place seen same within = clash_in h (meaning_at d (cc) m) place seen same within

    clash_in : {n : Node} {o p : ℕ} {v w : Values} {t u : TreeV} {path : List ℕ} {why : MisfitWhy} {b : List ℕ}
        → MissesIn d n o v t path why → NodeMeans d n p w b u → o ≡ p → v ≡ w → t ≡ u → IsWithin p b → ⊥
    clash_in (misses_here e h) m place seen same within = clash_node h m place seen same within
    clash_in (misses_named below e label h) (means_named m) place seen same within = clash h m refl place seen (cc) within
    clash_in (misses_choice below e at h) (means_choice there m) place seen same within = clash h m (cc) place seen (cc) within
    clash_in (misses_window h) (means_window n count wide m) place seen same within = clash h m refl place seen same within
    clash_in (misses_seq count h) (means_seq m) place seen same within = clash_parts h m place seen (cc) within
    clash_in (misses_trunc count h) (means_cut m) place seen same within = no_part h (cc)
    clash_in (misses_trunc count h) (means_trunc m) place seen same within = clash_lead h m place seen (cc) within
    clash_in (misses_times n count wanted h) (means_times k counts m) place seen same within = clash_times h m place seen (cc) within
    clash_in (misses_many h) (means_many m) place seen same within = clash_many h m place seen (cc) within

    clash_parts : {parts : List ℕ} {at o p : ℕ} {v w : Values} {ts us : Trees} {path : List ℕ} {why : MisfitWhy}
        {b : List ℕ} → MissesParts d parts at o v ts path why → PartsMean d parts p w b us → o ≡ p → v ≡ w → ts ≡ us
        → IsWithin p b → ⊥
    clash_parts {p = p} (parts_here below e h) (parts_next b1 b2 cut m ms) place seen same within =
        clash h m refl place seen (cc) (first_within p b1 b2 cut within)
    clash_parts {p = p} (parts_later b0 k room hs) (parts_next b1 b2 cut m ms) place seen same within =
        let one = one_bits d k m refl place seen (cc) in
        clash_parts hs ms (cc) (cc) (cc) (rest_within p b1 b2 cut within)

    clash_lead : {parts : List ℕ} {at o p : ℕ} {v w : Values} {ts us : Trees} {path : List ℕ} {why : MisfitWhy}
        {b : List ℕ} → MissesParts d parts at o v ts path why → LeadMean d parts p w b us → o ≡ p → v ≡ w → ts ≡ us
        → IsWithin p b → ⊥
    clash_lead (parts_here below e h) (lead_last least m) place seen same within = clash h m refl place seen (cc) within
    clash_lead (parts_later b0 k room hs) (lead_last least m) place seen same within = no_part hs (cc)
    clash_lead {p = p} (parts_here below e h) (lead_next b1 b2 cut m ms) place seen same within =
        clash h m refl place seen (cc) (first_within p b1 b2 cut within)
    clash_lead {p = p} (parts_later b0 k room hs) (lead_next b1 b2 cut m ms) place seen same within =
        let one = one_bits d k m refl place seen (cc) in
        clash_lead hs ms (cc) (cc) (cc) (rest_within p b1 b2 cut within)

    clash_times : {n i at o p : ℕ} {v w : Values} {ts us : Trees} {path : List ℕ} {why : MisfitWhy} {b : List ℕ}
        → MissesRepeats d i at o v ts path why → TimesMean d n i p w b us → o ≡ p → v ≡ w → ts ≡ us → IsWithin p b → ⊥
    clash_times h (times_end over m) place seen same within = no_repeat h same
    clash_times {p = p} (repeats_here below e h) (times_next l is b1 b2 cut m ms) place seen same within =
        clash h m refl place seen (cc) (first_within p b1 b2 cut within)
    clash_times {p = p} (repeats_later b0 k room hs) (times_next l is b1 b2 cut m ms) place seen same within =
        let one = one_bits d k m refl place seen (cc) in
        clash_times hs ms (cc) seen (cc) (rest_within p b1 b2 cut within)

    clash_many : {i at o p : ℕ} {v w : Values} {ts us : Trees} {path : List ℕ} {why : MisfitWhy} {b : List ℕ}
        → MissesRepeats d i at o v ts path why → ManyMean d i p w b us → o ≡ p → v ≡ w → ts ≡ us → IsWithin p b → ⊥
    clash_many h (many_end m) place seen same within = no_repeat h same
    clash_many {p = p} (repeats_here below e h) (many_next b1 b2 cut least m ms) place seen same within =
        clash h m refl place seen (cc) (first_within p b1 b2 cut within)
    clash_many {p = p} (repeats_later b0 k room hs) (many_next b1 b2 cut least m ms) place seen same within =
        let one = one_bits d k m refl place seen (cc) in
        clash_many hs ms (cc) seen (cc) (rest_within p b1 b2 cut within)
