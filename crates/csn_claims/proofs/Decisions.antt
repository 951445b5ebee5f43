-- What it says of bits that have a tree that no node has a conflict: nothing stands behind what must be last, a free
-- repetition goes on or ends by the next bit, and bits of a choice are those of one alternative.
use Rattle.std.proofs.Common.{◌≡◌, ◌≢◌, ℕ, ◌+◌, ◌%◌, ◌<◌, ◌⊎◌, inl, inr, List, [], ◌∷◌, ◌++◌, length, refl, sym, ◌∙◌, ap, arith, Some, slice_get}
use Rattle.csn_desc.specs.declared.node.Node.{Node}
use Rattle.csn_desc.specs.declared.node.Node.TheVariants.{Null, Choice, Many}
use Rattle.csn_desc.specs.TreeV.{TreeV, Trees}
use Rattle.csn_desc.specs.Nodes.{DescV}
use Rattle.csn_desc.specs.Values.{Values}
use Rattle.csn_desc.specs.Means.{NMeans, NodeMeans, ManyMean, means_at, means_null}
use Rattle.csn_desc.specs.Formed.{FitWidths}
use Rattle.csn_desc.proofs.Nodewise.{meaning_at}
use Rattle.csn_look.specs.Ends.{ManyEnd}
use Rattle.csn_look.specs.Reached.{Reached}
use Rattle.csn_look.proofs.Meaning.NullableFacts.{nullable}
use Rattle.csn_look.proofs.Meaning.EndsFacts.{ends}
use Rattle.csn_look.proofs.Meaning.StartFacts.{starts, many_start}
use Rattle.csn_look.proofs.Meaning.KeyFacts.{keys}
use Rattle.csn_claims.specs.Conflicts.{IsNull, IsLast}
use Rattle.csn_claims.proofs.Pieces.{null_or, next_bit, begun_both}
use Rattle.csn_claims.proofs.Clear.{Stands, Clear}
use Rattle.csn_claims.proofs.FollowFacts.{stands_here}

module _ (d : DescV) where
  pub is_null : {i o : ℕ} {v : Values} {b : List ℕ} {t : TreeV} → NMeans d i o v b t → IsNull d i ⊎ (IsNull d i → ⊥)
  is_null {i} (means_at n at h) =
      elim (null_or n) [
        | inl same ↦ inl (at ∙ ap Some same)
        | inr differs ↦ inr (λ null. let same : n ≡ Null = cc in differs same)
      ]

  pub null_bits : {i o : ℕ} {v : Values} {b : List ℕ} {t : TreeV} → IsNull d i → NMeans d i o v b t → b ≡ []
  null_bits at h = of_null (meaning_at d at h)
    where
      of_null : {o : ℕ} {v : Values} {b : List ℕ} {t : TreeV} → NodeMeans d Null o v b t → b ≡ []
      of_null (means_null nothing) = nothing

module _ (d : DescV) (most : ℕ) (Follow : ℕ → ℕ → ℕ → Type 0) (clear : Clear d most Follow) where
  -- no bit stands behind a node that must be last
  pub nothing_behind : {i o : ℕ} {v : Values} {b : List ℕ} {t : TreeV} (n : Node) (x : List ℕ)
      → slice_get d.nodes i ≡ Some n → IsLast n → Reached d i (o % 8) → FitWidths d v → NMeans d i o v b t
      → Stands Follow i o b x → x ≡ []
  nothing_behind n [] at last reached widths h s = refl
  nothing_behind {i} {o} {b = b} n (a ∷ x) at last reached widths h s =
      absurd (clear.not_last i (o % 8) ((o + length b) % 8) a n at last reached (ends d clear.shaped (o + length b) refl widths h) (s.behind a x refl))

  -- where a free repetition may end, its part does not begin with what stands there
  pub no_loop : {k i from o : ℕ} {v : Values} {b c : List ℕ} {us : Trees} (x y : List ℕ)
      → slice_get d.nodes k ≡ Some (Many i) → Reached d k from → ManyEnd d i from (o % 8)
      → FitWidths d v → b ≡ [] → 0 < length c → ManyMean d i o v c us → b ++ x ≡ c ++ y → Stands Follow k o b x → ⊥
  no_loop {k} {i} {from} {o} {b = b} {c = c} x y at reached ended widths nothing some h e s =
      let a = next_bit b c x y nothing some e in
      let start = many_start d clear.shaped a.bit a.rest a.is widths h in
      clear.loop_clash k i from (o % 8) a.bit at reached ended start (stands_here Follow a.bit a.tail nothing a.next s)

  -- beside an alternative that takes no bits, another one has no bits that stand behind the choice
  no_empty : {k i j p q o : ℕ} {v : Values} {parts b c : List ℕ} {u : TreeV} (x y : List ℕ)
      → slice_get d.nodes k ≡ Some (Choice parts) → slice_get parts i ≡ Some p → slice_get parts j ≡ Some q → j ≢ i
      → IsNull d p → (IsNull d q → ⊥) → Reached d k (o % 8) → FitWidths d v → b ≡ [] → NMeans d q o v c u
      → b ++ x ≡ c ++ y → Stands Follow k o b x → ⊥
  no_empty {k} {j = j} {q = q} {parts = parts} {c = []} x y at at_i at_j other null real reached widths nothing h e s =
      clear.nullable k j q parts at at_j real (nullable d clear.shaped h refl)
  no_empty {k} {i} {j} {p} {q} {o} {parts = parts} {b = b} {c = a ∷ c} x y at at_i at_j other null real reached widths nothing h e s =
      let n = next_bit b (a ∷ c) x y nothing (omega arith) e in
      let start = starts d clear.shaped n.bit n.rest n.is widths h in
      clear.empty_clash k (o % 8) n.bit i j p q parts at reached at_i null at_j other start (stands_here Follow n.bit n.tail nothing n.next s)

  -- two alternatives do not both have bits that go on alike
  pub no_two : {k i j p q o : ℕ} {v : Values} {parts b c : List ℕ} {t u : TreeV} (x y : List ℕ)
      → slice_get d.nodes k ≡ Some (Choice parts) → i < j → slice_get parts i ≡ Some p → slice_get parts j ≡ Some q
      → Reached d k (o % 8) → FitWidths d v → NMeans d p o v b t → NMeans d q o v c u → b ++ x ≡ c ++ y
      → Stands Follow k o b x → Stands Follow k o c y → ⊥
  no_two {k} {i} {j} {p} {q} {o} {parts = parts} x y at less at_i at_j reached widths h1 h2 e s1 s2 =
      elim (is_null d h1) [
        | inl null_i ↦ elim (is_null d h2) [
          | inl null_j ↦ clear.two_empty k i j p q parts at less at_i at_j null_i null_j
          | inr real_j ↦ no_empty x y at at_i at_j (λ same. absurd (omega arith)) null_i real_j reached widths (null_bits d null_i h1) h2 e s1
        ]
        | inr real_i ↦ elim (is_null d h2) [
          | inl null_j ↦ no_empty y x at at_j at_i (λ same. absurd (omega arith)) null_j real_i reached widths (null_bits d null_j h2) h1 (sym e) s2
          | inr real_j ↦
              let left = keys d most h1 in
              let right = keys d most h2 in
              clear.overlap k o i j p q parts left.word right.word left.mark right.mark at reached less at_i at_j
              real_i real_j left.key right.key
              (begun_both left.word left.rest right.word right.rest x y left.begins right.begins e)
        ]
      ]
