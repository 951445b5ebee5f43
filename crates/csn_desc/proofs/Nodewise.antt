-- What a meaning and what a follow says, where the node is known. Other crates cite this.
use Rattle.std.proofs.Common.{◌≡◌, ℕ, zero, suc, Bool, false, List, ◌∷◌, length, subst, Some}
use Rattle.std.specs.Prelude.{slice_get}
use Rattle.csn_desc.specs.declared.node.Node.{Node}
use Rattle.csn_desc.specs.TreeV.{TreeV}
use Rattle.csn_desc.specs.Nodes.{DescV, head_of, parts_of}
use Rattle.csn_desc.specs.Values.{Values}
use Rattle.csn_desc.specs.Means.{NMeans, NodeMeans, means_at}
use Rattle.csn_desc.specs.Follows.{NFollow, NodeFollows, follows_at}
use Rattle.csn_desc.specs.Formed.{shows_earlier, with_seen, HasParts, Formed, PartsFormed, formed, formed_end, formed_next}

module _ (d : DescV) where
  pub meaning_at : {i o : ℕ} {v : Values} {b : List ℕ} {t : TreeV} {n : Node} → slice_get d.nodes i ≡ Some n → NMeans d i o v b t → NodeMeans d n o v b t
  meaning_at {o = o} {v = v} {b = b} {t = t} {n = n} at (means_at m is h) =
      let same : m ≡ n = cc in let P : Node → Type 0 = λ k. NodeMeans d k o v b t in subst P same h

  pub follow_at : {i o : ℕ} {v : Values} {b : List ℕ} {n : Node} → slice_get d.nodes i ≡ Some n → NFollow d i o v b → NodeFollows d n o v b
  follow_at {o = o} {v = v} {b = b} {n = n} at (follows_at m is h) =
      let same : m ≡ n = cc in let P : Node → Type 0 = λ k. NodeFollows d k o v b in subst P same h

module _ (nodes : List Node) where
  pub held_along : {seen : List ℕ} {round : ℕ} {n m : Node}
      → n ≡ m → PartsFormed nodes (shows_earlier n) seen round (parts_of n)
      → PartsFormed nodes (shows_earlier m) seen round (parts_of m)
  held_along {seen} {round} same h = let P : Node → Type 0 = λ n. PartsFormed nodes (shows_earlier n) seen round (parts_of n) in subst P same h

  -- the parts of a node that is formed are formed within it
  pub parts_formed : {seen : List ℕ} {round i : ℕ} {n : Node} → slice_get nodes i ≡ Some n → Formed nodes seen round i
      → PartsFormed nodes (shows_earlier n) seen (suc round) (parts_of n)
  parts_formed {n = n} at (formed m here few head have bound parts) = let same : m ≡ n = cc in held_along same parts

  -- and they are as many as its kind must have
  pub parts_there : {seen : List ℕ} {round i : ℕ} {n : Node} → slice_get nodes i ≡ Some n → Formed nodes seen round i
      → HasParts (head_of n) (length (parts_of n))
  parts_there {n = n} at (formed m here few head have bound parts) =
      let same : m ≡ n = cc in let P : Node → Type 0 = λ k. HasParts (head_of k) (length (parts_of k)) in subst P same have

  pub first_formed : {shows : Bool} {seen : List ℕ} {round i : ℕ} {parts : List ℕ} → PartsFormed nodes shows seen round (i ∷ parts) → Formed nodes seen round i
  first_formed (formed_next first others) = first

  pub rest_formed : {shows : Bool} {seen : List ℕ} {round i : ℕ} {parts : List ℕ}
      → PartsFormed nodes shows seen round (i ∷ parts)
      → PartsFormed nodes shows (with_seen nodes shows i seen) round parts
  rest_formed (formed_next first others) = others

  -- a part of a choice sees what the choice sees
  pub choice_formed : {seen : List ℕ} {round : ℕ} {parts : List ℕ} (j i : ℕ)
      → PartsFormed nodes false seen round parts → slice_get parts j ≡ Some i → Formed nodes seen round i
  choice_formed j i formed_end at = absurd (cc)
  choice_formed {seen} {round} zero i (formed_next {i = p} first others) at =
      let same : p ≡ i = cc in
      let P : ℕ → Type 0 = λ k. Formed nodes seen round k in
      subst P same first
  choice_formed (suc j) i (formed_next first others) at = choice_formed j i others at
