-- Rows of trees and the bits of their parts.
use Rattle.std.proofs.Common.{◌≡◌, ℕ, zero, suc, ◌+◌, ◌<◌, ◌≤◌, ◌⊎◌, inl, inr, List, [], ◌∷◌, ◌++◌, length, drop}
use Rattle.std.proofs.Common.{append_assoc, append-nil, refl, sym, ◌∙◌, ap, subst, arith, Some, slice_get}
use Rattle.csn_desc.specs.declared.node.Node.TheVariants.{Trunc}
use Rattle.csn_desc.specs.TreeV.{TreeV, row, Trees, none, more, list_of, trees_of}
use Rattle.csn_desc.specs.Nodes.{DescV}
use Rattle.csn_desc.specs.Values.{Values}
use Rattle.csn_desc.specs.Means.{NMeans, NodeMeans, means_cut, means_trunc, PartsMean, parts_end, parts_next}
use Rattle.csn_desc.specs.Means.{TimesMean, times_end, times_next, ManyMean, many_end, many_next, LeadMean, lead_last}
use Rattle.csn_desc.specs.Means.{lead_next}
use Rattle.csn_encode.specs.Misfits.{tree_count, kept_with, kept_count, HavePieces, pieces_end, pieces_next}
use Rattle.csn_encode.specs.Writing.{joined}

pub list_of-trees_of : (ts : List TreeV) → list_of (trees_of ts) ≡ ts
list_of-trees_of [] = refl
list_of-trees_of (t ∷ ts) = ap (λ l. t ∷ l) (list_of-trees_of ts)

pub count-trees_of : (ts : List TreeV) → tree_count (trees_of ts) ≡ length ts
count-trees_of ts = ap length (list_of-trees_of ts)

-- what is left from a place on begins with what stands there
drop_next : {A : Type 0} (l : List A) (at : ℕ) (x : A) → slice_get l at ≡ Some x → drop at l ≡ x ∷ drop (suc at) l
drop_next [] at x here = absurd (cc)
drop_next (y ∷ l) zero x here = let same : y ≡ x = cc in ap (λ z. z ∷ l) same
drop_next (y ∷ l) (suc at) x here = drop_next l at x here

pub drop_here : {A : Type 0} (l : List A) (at : ℕ) (x : A) → slice_get l at ≡ Some x → drop at l ≡ x ∷ drop (at + 1) l
drop_here l at x here = let e : suc at ≡ at + 1 = omega arith in drop_next l at x here ∙ ap (λ n. x ∷ drop n l) e

pub nothing_behind : {A : Type 0} (l : List A) → drop (length l) l ≡ []
nothing_behind [] = refl
nothing_behind (x ∷ l) = nothing_behind l

pub joined-append : (front : List (List ℕ)) (piece : List ℕ) → joined (front ++ piece ∷ []) ≡ joined front ++ piece
joined-append [] piece = append-nil piece
joined-append (p ∷ front) piece = ap (λ l. p ++ l) (joined-append front piece) ∙ sym (append_assoc p (joined front) piece)

-- ---- how many pieces are kept

kept_some : (front : List (List ℕ)) (piece : List ℕ) → 0 < length piece → kept_count (front ++ piece ∷ []) ≡ length front + 1
kept_some [] [] some = absurd (omega (arith, some))
kept_some [] (x ∷ piece) some = refl
kept_some (p ∷ front) piece some = by p (kept_count (front ++ piece ∷ [])) (kept_some front piece some)
  where
    by : (p : List ℕ) (k : ℕ) → k ≡ length front + 1 → kept_with p k ≡ length (p ∷ front) + 1
    by [] zero e = absurd (omega (arith, e))
    by [] (suc k) e = omega (arith, e)
    by (x ∷ p) k e = omega (arith, e)

kept_none : (front : List (List ℕ)) → kept_count (front ++ [] ∷ []) ≡ kept_count front
kept_none [] = refl
kept_none (p ∷ front) = ap (λ k. kept_with p k) (kept_none front)

-- a piece more
pub kept_behind : (front : List (List ℕ)) (piece : List ℕ) (kept next at : ℕ) → kept ≡ kept_count front → at ≡ length front
    → ((0 < length piece) × (next ≡ at + 1)) ⊎ ((length piece ≡ 0) × (next ≡ kept)) → next ≡ kept_count (front ++ piece ∷ [])
kept_behind front piece kept next at is long (inl some) = some.1 ∙ ap (λ n. n + 1) long ∙ sym (kept_some front piece some.0)
kept_behind front [] kept next at is long (inr empty) = empty.1 ∙ is ∙ sym (kept_none front)
kept_behind front (x ∷ piece) kept next at is long (inr empty) = absurd (omega (arith, empty.0))

pub kept_within : (pieces : List (List ℕ)) → kept_count pieces ≤ length pieces
kept_within [] = omega arith
kept_within (p ∷ pieces) = by p (kept_count pieces) (kept_within pieces)
  where
    by : (p : List ℕ) (k : ℕ) → k ≤ length pieces → kept_with p k ≤ length (p ∷ pieces)
    by [] zero e = omega (arith, e)
    by [] (suc k) e = omega (arith, e)
    by (x ∷ p) k e = omega (arith, e)

-- ---- what pieces mean

module _ (d : DescV) where
  pub pieces_count : {parts : List ℕ} {o : ℕ} {v : Values} {ts : Trees} {pieces : List (List ℕ)}
      → HavePieces d parts o v ts pieces → length pieces ≡ tree_count ts
  pieces_count (pieces_end e) = ap length e
  pieces_count (pieces_next b later e h within hs) = ap length e ∙ ap suc (pieces_count hs)

  -- as many as there are parts are those of a sequence
  pub pieces_parts : {parts : List ℕ} {o : ℕ} {v : Values} {ts : Trees} {pieces : List (List ℕ)}
      → HavePieces d parts o v ts pieces → tree_count ts ≡ length parts → PartsMean d parts o v (joined pieces) ts
  pieces_parts {parts = []} (pieces_end e) all = parts_end (ap joined e)
  pieces_parts {parts = i ∷ parts} (pieces_end e) all = absurd (omega (arith, all))
  pieces_parts (pieces_next b later e h within hs) all = parts_next b (joined later) (ap joined e) h (pieces_parts hs (omega (arith, all)))

  abbrev LeadOf : List ℕ → ℕ → Values → List (List ℕ) → Trees → Type 0
  LeadOf parts o v pieces ts = LeadMean d parts o v (joined pieces) ts

  all_kept : (b : List ℕ) (later : List (List ℕ)) (k : ℕ) → kept_count later ≡ k → length (b ∷ later) ≤ kept_with b k
      → 0 < length later → length later ≤ kept_count later
  all_kept [] later zero e all some = absurd (omega (arith, all))
  all_kept [] later (suc k) e all some = omega (arith, e, all)
  all_kept (x ∷ b) later k e all some = omega (arith, e, all)

  last_some : (b : List ℕ) → 1 ≤ kept_with b 0 → 0 < length b
  last_some [] all = absurd (omega (arith, all))
  last_some (x ∷ b) all = omega arith

  -- some pieces, of which the last has a bit, are those of a truncation
  pieces_lead : {parts : List ℕ} {o : ℕ} {v : Values} {t : TreeV} {ts : Trees} {pieces : List (List ℕ)}
      → HavePieces d parts o v (more t ts) pieces → length pieces ≤ kept_count pieces
      → LeadMean d parts o v (joined pieces) (more t ts)
  pieces_lead {parts = []} h all = elim h [ ]
  pieces_lead {parts = i ∷ parts} {o = o} {v = v} {t = t} {ts = none} (pieces_next b later e h within (pieces_end f)) all =
      let one : joined (b ∷ []) ≡ b = append-nil b in
      let whole : joined (b ∷ later) ≡ b = ap (λ l. joined (b ∷ l)) f ∙ one in
      let P : List ℕ → Type 0 = λ l. LeadMean d (i ∷ parts) o v l (more t none) in
      let Q : List (List ℕ) → Type 0 = λ l. length l ≤ kept_count l in
      let here : 1 ≤ kept_with b 0 = subst Q (e ∙ ap (λ l. b ∷ l) f) all in
      subst P (sym (ap joined e ∙ whole)) (lead_last (last_some b here) h)
  pieces_lead {parts = i ∷ parts} {o = o} {v = v} {t = t} {ts = more u us} (pieces_next b later e h within hs) all =
      let Q : List (List ℕ) → Type 0 = λ l. length l ≤ kept_count l in
      let count = pieces_count hs in
      let rest = all_kept b later (kept_count later) refl (subst Q e all) (omega (arith, count)) in
      lead_next b (joined later) (ap joined e) h (pieces_lead hs rest)

  pub pieces_trunc : {parts : List ℕ} {o : ℕ} {v : Values} {ts : Trees} {pieces : List (List ℕ)}
      → HavePieces d parts o v ts pieces → length pieces ≤ kept_count pieces → NodeMeans d (Trunc parts) o v
      (joined pieces) (row ts)
  pieces_trunc {ts = none} (pieces_end e) all = means_cut (ap joined e)
  pieces_trunc {ts = more t ts} h all = means_trunc (pieces_lead h all)

  -- ---- turns

  -- turns that have bits are those of a free repetition
  pub times_many : {n i o : ℕ} {v : Values} {b : List ℕ} {ts : Trees}
      → ((o : ℕ) (b : List ℕ) (t : TreeV) → NMeans d i o v b t → 0 < length b)
      → TimesMean d n i o v b ts → ManyMean d i o v b ts
  times_many some (times_end over e) = many_end e
  times_many some (times_next {o = o} {t = t} m is b1 b2 cut h hs) = many_next b1 b2 cut (some o b1 t h) h (times_many some hs)

  pub times_as : {n m i o : ℕ} {v : Values} {b c : List ℕ} {ts : Trees} → n ≡ m → b ≡ c → TimesMean d n i o v b ts → TimesMean d m i o v c ts
  times_as {m = m} {i = i} {o = o} {v = v} {b = b} {c = c} {ts = ts} same bits h =
      let P : ℕ → Type 0 = λ k. TimesMean d k i o v b ts in
      let Q : List ℕ → Type 0 = λ l. TimesMean d m i o v l ts in
      subst Q bits (subst P same h)
