-- Nothing may stand behind what must be last, and so a truncation takes its next component where bits lie ahead.
use Rattle.std.proofs.Common.{◌≡◌, ℕ, ◌+◌, ◌%◌, ◌↔◌, List, [], ◌∷◌, ◌++◌, length, refl, sym, ◌∙◌, ap, subst, arith, append-nil, Some, slice_get}
use Rattle.csn_desc.specs.declared.node.Node.{Node}
use Rattle.csn_desc.specs.declared.node.Node.TheVariants.{Trunc}
use Rattle.csn_desc.specs.TreeV.{TreeV, row, Trees, none, more}
use Rattle.csn_desc.specs.Nodes.{DescV}
use Rattle.csn_desc.specs.Values.{Values, with_value}
use Rattle.csn_desc.specs.Means.{NMeans, NodeMeans, LeadMean, means_cut, means_trunc, lead_last, lead_next}
use Rattle.csn_desc.specs.Follows.{NodeFollows, PartsFollow, follows_whole, follows_trunc, parts_here, parts_later}
use Rattle.csn_desc.specs.Laws.{StringsAreFollowed}
use Rattle.csn_look.specs.Ends.{InEnds, PartsEnd, LeadEnd, ends_trunc, parts_end, parts_next, lead_end}
use Rattle.csn_look.specs.Ends as end
use Rattle.csn_look.specs.Reached.{Reached, InFollow, MayStandBehind}
use Rattle.csn_look.proofs.Meaning.LeastSets.{ends_at}
use Rattle.csn_claims.proofs.Pieces.{some_bit}
use Rattle.csn_claims.proofs.OneTree.{lead_some}
use Rattle.csn_certify.specs.declared.conflict.Conflict.TheVariants.{NotLast}
use Rattle.csn_certify.specs.Conflicts.{IsLast, not_last, Certified}
use Rattle.csn_certify.specs.Ahead.{TakesComponent}

-- ---- nothing may stand behind what must be last

module _ (d : DescV) (most : ℕ) (certified : Certified d most) where
  pub no_bit_follows : {node from octet bit : ℕ} (n : Node) → slice_get d.nodes node ≡ Some n → IsLast n
      → Reached d node from → InEnds d node from octet → InFollow d node octet (Some bit) → ⊥
  no_bit_follows {node} {from} {octet} n at last reached ends follow = certified (NotLast node octet) (not_last n from at last reached ends follow)

  -- where its first components end, a truncation may
  lead_of : (before after : List ℕ) {from octet : ℕ} → PartsEnd d before from octet → LeadEnd d (before ++ after) from octet
  lead_of before after (parts_end same) = lead_end same
  lead_of (i ∷ before) after (parts_next middle first others) = end.lead_next middle first (lead_of before after others)

  pub components_end : {node from octet bit : ℕ} {parts : List ℕ} (before after : List ℕ)
      → slice_get d.nodes node ≡ Some (Trunc parts) → parts ≡ before ++ after → Reached d node from
      → PartsEnd d before from octet → InFollow d node octet (Some bit) → ⊥
  components_end {from = from} {octet = octet} {parts = parts} before after at is reached ends follow =
      let P : List ℕ → Type 0 = λ l. LeadEnd d l from octet in
      no_bit_follows (Trunc parts) at tt reached (ends_at (Trunc parts) at (ends_trunc (subst P (sym is) (lead_of before after ends)))) follow

-- ---- components

module _ (strings : StringsAreFollowed) (d : DescV) where
  lead_followed : {parts : List ℕ} {o : ℕ} {v : Values} {b : List ℕ} {ts : Trees} → LeadMean d parts o v b ts → PartsFollow d parts o v b
  lead_followed {o = o} {v = v} {b = b} (lead_last {i = i} {t = t} some h) = parts_here (strings d i o v b t h)
  lead_followed (lead_next b1 b2 cut h others) = parts_later b1 b2 cut h (lead_followed others)

  pub components_followed : {parts : List ℕ} {o : ℕ} {v : Values} {b : List ℕ} → (b ≡ [] → ⊥) → NodeFollows d (Trunc parts) o v b → PartsFollow d parts o v b
  components_followed some (follows_whole t (means_cut nothing)) = absurd (some nothing)
  components_followed some (follows_whole t (means_trunc h)) = lead_followed h
  components_followed some (follows_trunc h) = h

module _ (d : DescV) where
  pub no_components : {parts : List ℕ} {o : ℕ} {v : Values} {b : List ℕ} {t : TreeV} → NodeMeans d (Trunc parts) o v b t → b ≡ [] → t ≡ row none
  no_components (means_cut same) nothing = refl
  no_components (means_trunc h) nothing = let size = ap length nothing in absurd (omega (arith, lead_some d h))

  -- a component, and the truncation of those behind it
  component_taken : {i o : ℕ} {after : List ℕ} {v : Values} {b : List ℕ} {ts : Trees} → LeadMean d (i ∷ after) o v b ts → TakesComponent d i after o v b ts
  component_taken {b = b} (lead_last {t = t} some h) =
      record { first = b; rest = []; tree = t; trees = none; split = sym (append-nil b); are = refl; taken = h; left = means_cut refl }
  component_taken (lead_next {t = t} {ts = ts} b1 b2 cut h others) =
      record { first = b1; rest = b2; tree = t; trees = ts; split = cut; are = refl; taken = h; left = means_trunc others }

  component_first : {i o : ℕ} {after : List ℕ} {v : Values} {b : List ℕ} {ts : Trees} → (b ≡ [] → ⊥)
      → NodeMeans d (Trunc (i ∷ after)) o v b (row ts) → TakesComponent d i after o v b ts
  component_first some (means_cut nothing) = absurd (some nothing)
  component_first some (means_trunc h) = component_taken h

  row_along : {n : Node} {o : ℕ} {v : Values} {b c : List ℕ} {ts us : Trees} → c ≡ b → us ≡ ts → NodeMeans d n o v b (row ts) → NodeMeans d n o v c (row us)
  row_along {n} {o} {v} {b} {c} {ts} {us} same equal h =
      let P : List ℕ → Type 0 = λ l. NodeMeans d n o v l (row ts) in
      let Q : Trees → Type 0 = λ l. NodeMeans d n o v c (row l) in
      subst Q (sym equal) (subst P (sym same) h)

  component_again : {i o : ℕ} {after : List ℕ} {v : Values} {b : List ℕ} {t : TreeV} {ts us : Trees} (b1 b2 : List ℕ)
      → b ≡ b1 ++ b2 → ts ≡ more t us → (b ≡ [] → ⊥) → NMeans d i o v b1 t → NodeMeans d (Trunc after) (o + length b1)
      (with_value d.nodes i b1 v) b2 (row us) → NodeMeans d (Trunc (i ∷ after)) o v b (row ts)
  component_again {b = b} b1 b2 split are some h (means_cut nothing) =
      let same : b ≡ b1 = split ∙ ap (λ l. b1 ++ l) nothing ∙ append-nil b1 in
      row_along same are (means_trunc (lead_last (some_bit b1 (λ none. some (same ∙ none))) h))
  component_again b1 b2 split are some h (means_trunc others) = row_along refl are (means_trunc (lead_next b1 b2 split h others))

module _ (d : DescV) (most : ℕ) (certified : Certified d most) where
  -- where bits lie ahead, a truncation takes some
  takes_some : {node from : ℕ} {parts own : List ℕ} (i o : ℕ) (before after others : List ℕ)
      → slice_get d.nodes node ≡ Some (Trunc parts) → parts ≡ before ++ i ∷ after → Reached d node from
      → PartsEnd d before from (o % 8) → MayStandBehind d node ((o + length own) % 8) others
      → (own ++ others ≡ [] → ⊥) → own ≡ [] → ⊥
  takes_some {own = own} i o before after [] at is reached ends behind some nothing = some (append-nil own ∙ nothing)
  takes_some {node} {own = own} i o before after (bit ∷ rest) at is reached ends behind some nothing =
      let size = ap length nothing in
      let here : o + length own ≡ o = omega arith in
      let P : ℕ → Type 0 = λ p. InFollow d node (p % 8) (Some bit) in
      components_end d most certified before (i ∷ after) at is reached ends (subst P here (behind bit rest refl))

  pub next_component : {node from i o : ℕ} {parts after : List ℕ} {v : Values} {own : List ℕ} {ts : Trees}
      (before others : List ℕ) → slice_get d.nodes node ≡ Some (Trunc parts)
      → parts ≡ before ++ i ∷ after → Reached d node from → PartsEnd d before from (o % 8)
      → MayStandBehind d node ((o + length own) % 8) others → (own ++ others ≡ [] → ⊥)
      → NodeMeans d (Trunc (i ∷ after)) o v own (row ts) ↔ TakesComponent d i after o v own ts
  next_component {i = i} {o = o} {after = after} {v = v} {own = own} {ts = ts} before others at is reached ends behind some =
      (λ h. component_first d own_some h, λ h. component_again d h.first h.rest h.split h.are own_some h.taken h.left)
    where
      own_some : own ≡ [] → ⊥
      own_some nothing = takes_some i o before after others at is reached ends behind some nothing
