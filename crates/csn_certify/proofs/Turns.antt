-- Turns of repetitions: each has a bit, and bits that a free repetition follows are those of turns, where it is not
-- left.
use Rattle.std.proofs.Common.{◌≡◌, ℕ, ◌%◌, ◌<◌, inl, Bool, true, List, [], ◌∷◌, ◌++◌, length, refl, sym, ◌∙◌, subst, append-nil, Some, slice_get}
use Rattle.csn_desc.specs.declared.node.Count.{Count}
use Rattle.csn_desc.specs.declared.node.Node.TheVariants.{Times, Many}
use Rattle.csn_desc.specs.TreeV.{TreeV, Trees}
use Rattle.csn_desc.specs.Nodes.{DescV}
use Rattle.csn_desc.specs.Values.{Values}
use Rattle.csn_desc.specs.Means.{NMeans, ManyMean, means_many, many_end, many_next}
use Rattle.csn_desc.specs.Follows.{NFollow, NodeFollows, ManyFollow, follows_at, follows_whole, follows_many, many_here, many_later}
use Rattle.csn_desc.specs.Formed.{FitWidths}
use Rattle.csn_desc.specs.Laws.{StringsAreFollowed}
use Rattle.csn_desc.proofs.Nodewise.{follow_at}
use Rattle.csn_look.specs.Starts.{InStart}
use Rattle.csn_claims.proofs.Pieces.{some_bit}
use Rattle.csn_certify.specs.declared.conflict.Conflict.TheVariants.{NotFirm}
use Rattle.csn_certify.specs.declared.pick.Pick.TheVariants.{Leave}
use Rattle.csn_certify.specs.Conflicts.{many_not_firm, times_not_firm, Certified}
use Rattle.csn_certify.specs.Picks.{Picks, pick_leave, pick_ended}
use Rattle.csn_certify.proofs.Here.{Here, many_starts, nullable, follows}

-- ---- each has a bit

module _ (d : DescV) (most : ℕ) (here : Here d) (certified : Certified d most) where
  pub free_turn : {part o : ℕ} {v : Values} {b : List ℕ} {t : TreeV} (node : ℕ)
      → slice_get d.nodes node ≡ Some (Many part) → NMeans d part o v b t → 0 < length b
  free_turn {b = b} node at h =
      some_bit b (λ nothing. certified (NotFirm node 0) (many_not_firm at refl (inl (nullable d here h nothing))))

  pub counted_turn : {part o : ℕ} {count : Count} {v : Values} {b : List ℕ} {t : TreeV} (node : ℕ)
      → slice_get d.nodes node ≡ Some (Times count part) → NMeans d part o v b t → 0 < length b
  counted_turn {b = b} node at h =
      some_bit b (λ nothing. certified (NotFirm node 0) (times_not_firm at refl (nullable d here h nothing)))

-- ---- turns that are followed

module _ (strings : StringsAreFollowed) (d : DescV) where
  many_followed : {i o : ℕ} {v : Values} {b : List ℕ} {ts : Trees} → (b ≡ [] → ⊥) → ManyMean d i o v b ts → ManyFollow d i o v b
  many_followed some (many_end nothing) = absurd (some nothing)
  many_followed {i} {o} {v} some (many_next {t = t} b1 [] cut more h others) =
      let P : List ℕ → Type 0 = λ l. NFollow d i o v l in
      many_here (subst P (sym (append-nil b1) ∙ sym cut) (strings d i o v b1 t h))
  many_followed some (many_next b1 (x ∷ b2) cut more h others) =
      many_later b1 (x ∷ b2) cut more h (many_followed (λ none. absurd (cc)) others)

  pub turns_followed : {node part o : ℕ} {v : Values} {b : List ℕ} → slice_get d.nodes node ≡ Some (Many part)
      → (b ≡ [] → ⊥) → NFollow d node o v b → ManyFollow d part o v b
  turns_followed {part = part} at some h = of_node some (follow_at d at h)
    where
      of_node : {o : ℕ} {v : Values} {b : List ℕ} → (b ≡ [] → ⊥) → NodeFollows d (Many part) o v b → ManyFollow d part o v b
      of_node some (follows_whole t (means_many h)) = many_followed some h
      of_node some (follows_many h) = h

module _ (d : DescV) (here : Here d) where
  pub left_follows_none : {most node part o : ℕ} {v : Values} {held : List ℕ} {ended : Bool} (later : List ℕ)
      → slice_get d.nodes node ≡ Some (Many part) → FitWidths d v → (ended ≡ true → later ≡ [])
      → (held ++ later ≡ [] → ⊥) → Picks d most node (o % 8) held ended Leave → NFollow d node o v (held ++ later) → ⊥
  left_follows_none {part = part} {o = o} later at widths over some (pick_leave {bit = bit} {rest = rest} those there never) h =
      let that : part ≡ those = cc in
      let P : ℕ → Type 0 = λ i. InStart d i (o % 8) bit in
      never (subst P that (many_starts d at (follows d here bit (rest ++ later) refl widths h)))
  left_follows_none later at widths over some (pick_ended those there ended) h = some (over ended)

  pub left_part_follows_none : {most node part o : ℕ} {v : Values} {held : List ℕ} {ended : Bool} (later : List ℕ)
      → slice_get d.nodes node ≡ Some (Many part) → FitWidths d v → (ended ≡ true → later ≡ [])
      → (held ++ later ≡ [] → ⊥) → Picks d most node (o % 8) held ended Leave → NFollow d part o v (held ++ later) → ⊥
  left_part_follows_none {part = part} later at widths over some pick h =
      left_follows_none later at widths over some pick (follows_at (Many part) at (follows_many (many_here h)))
