-- What stands behind a part of a node: the later parts, and what stands behind the node.
use Rattle.std.proofs.Common.{◌≡◌, ℕ, zero, suc, ◌+◌, ◌%◌, List, [], ◌∷◌, ◌++◌, length, refl, ap, subst, arith, Option, Some, slice_get}
use Rattle.csn_desc.specs.declared.node.Count.{Count}
use Rattle.csn_desc.specs.declared.node.Node.TheVariants.{Seq, Times, Many, Trunc}
use Rattle.csn_desc.specs.TreeV.{Trees}
use Rattle.csn_desc.specs.Nodes.{DescV}
use Rattle.csn_desc.specs.Values.{Values}
use Rattle.csn_desc.specs.Means.{PartsMean, TimesMean, ManyMean, LeadMean}
use Rattle.csn_desc.specs.Formed.{FitWidths}
use Rattle.csn_look.specs.Reached.{InFollow, MayStandBehind, follow_later, follow_seq, follow_kept}
use Rattle.csn_look.specs.Reached.{follow_trunc, follow_times_again, follow_times, follow_many_again, follow_many}
use Rattle.csn_look.proofs.Meaning.LeastSets.{follow_part}
use Rattle.csn_look.proofs.Meaning.ShapeFacts.{Shaped}
use Rattle.csn_look.proofs.Meaning.NullableFacts.{parts_nullable}
use Rattle.csn_look.proofs.Meaning.StartFacts.{parts_start, times_start, many_start, lead_start}

-- a part with its number, and the parts on either side
pub record Cuts (parts : List ℕ) (i : ℕ) : Type 0 where
  pub before : List ℕ
  pub after : List ℕ
  pub is : parts ≡ before ++ i ∷ after

pub cuts : (parts : List ℕ) (j i : ℕ) → slice_get parts j ≡ Some i → Cuts parts i
cuts [] j i at = absurd (cc)
cuts (p ∷ parts) zero i at = let same : p ≡ i = cc in record { before = []; after = parts; is = ap (λ k. k ∷ parts) same }
cuts (p ∷ parts) (suc j) i at =
    let later = cuts parts j i at in
    record { before = p ∷ later.before; after = later.after; is = ap (λ l. p ∷ l) later.is }

module _ (d : DescV) where
  -- what follows behind no bits
  behind_none : {k : ℕ} (o p n : ℕ) {s : Option ℕ} → p ≡ o + n → n ≡ 0 → InFollow d k (p % 8) s → InFollow d k (o % 8) s
  behind_none {k} o p n {s} is none h = let P : ℕ → Type 0 = λ p. InFollow d k (p % 8) s in let same : p ≡ o = omega arith in subst P same h

module _ (d : DescV) (shaped : Shaped d) where
  -- the later parts, from the place where the part ends, and then what stands behind the node
  pub seq_follows : {k i o : ℕ} {v : Values} {parts after b x : List ℕ} {ts : Trees} (before : List ℕ)
      → slice_get d.nodes k ≡ Some (Seq parts) → parts ≡ before ++ i ∷ after → FitWidths d v
      → PartsMean d after o v b ts → MayStandBehind d k ((o + length b) % 8) x → MayStandBehind d i (o % 8) (b ++ x)
  seq_follows {k} {o = o} {parts = parts} {after = after} {b = []} before at is widths h s bit rest e =
      follow_part k (Seq parts) before after at is (follow_seq (parts_nullable d shaped h refl)
      (behind_none d o (o + length {A = ℕ} []) (length {A = ℕ} []) refl refl (s bit rest e)))
  seq_follows {k} {parts = parts} {after = after} {b = a ∷ r} before at is widths h s bit rest e =
      let same : a ∷ r ≡ bit ∷ r = cc in follow_part k (Seq parts) before after at is (follow_later (parts_start d shaped bit r same widths h))

  pub lead_follows : {k i o : ℕ} {v : Values} {parts after b x : List ℕ} {ts : Trees} (before : List ℕ)
      → slice_get d.nodes k ≡ Some (Trunc parts) → parts ≡ before ++ i ∷ after → FitWidths d v
      → LeadMean d after o v b ts → MayStandBehind d k ((o + length b) % 8) x → MayStandBehind d i (o % 8) (b ++ x)
  lead_follows {k} {o = o} {parts = parts} {after = after} {b = []} before at is widths h s bit rest e =
      follow_part k (Trunc parts) before after at is (follow_trunc (behind_none d o (o + length {A = ℕ} []) (length {A = ℕ} []) refl refl (s bit rest e)))
  lead_follows {k} {parts = parts} {after = after} {b = a ∷ r} before at is widths h s bit rest e =
      let same : a ∷ r ≡ bit ∷ r = cc in follow_part k (Trunc parts) before after at is (follow_kept (lead_start d shaped bit r same widths h))

  pub times_follows : {k i n o : ℕ} {count : Count} {v : Values} {b x : List ℕ} {ts : Trees}
      → slice_get d.nodes k ≡ Some (Times count i) → FitWidths d v → TimesMean d n i o v b ts
      → MayStandBehind d k ((o + length b) % 8) x → MayStandBehind d i (o % 8) (b ++ x)
  times_follows {k} {i} {o = o} {count = count} {b = []} at widths h s bit rest e =
      follow_part k (Times count i) [] [] at refl (follow_times (behind_none d o (o + length {A = ℕ} []) (length {A = ℕ} []) refl refl (s bit rest e)))
  times_follows {k} {i} {count = count} {b = a ∷ r} at widths h s bit rest e =
      let same : a ∷ r ≡ bit ∷ r = cc in follow_part k (Times count i) [] [] at refl (follow_times_again (times_start d shaped bit r same widths h))

  pub many_follows : {k i o : ℕ} {v : Values} {b x : List ℕ} {ts : Trees} → slice_get d.nodes k ≡ Some (Many i)
      → FitWidths d v → ManyMean d i o v b ts → MayStandBehind d k ((o + length b) % 8) x
      → MayStandBehind d i (o % 8) (b ++ x)
  many_follows {k} {i} {o} {b = []} at widths h s bit rest e =
      follow_part k (Many i) [] [] at refl (follow_many (behind_none d o (o + length {A = ℕ} []) (length {A = ℕ} []) refl refl (s bit rest e)))
  many_follows {k} {i} {b = a ∷ r} at widths h s bit rest e =
      let same : a ∷ r ≡ bit ∷ r = cc in follow_part k (Many i) [] [] at refl (follow_many_again (many_start d shaped bit r same widths h))
