-- Octet positions at which the alternatives of a choice have the same keys: they overlap at both or at none.
use Rattle.std.proofs.Common.{◌≡◌, ℕ, ◌<◌, ◌≤◌, Bool, List, [], ◌∷◌, ◌++◌, length, refl, subst, arith, Option, Some, None, slice_get}
use Rattle.std.specs.Prelude.{IsTrue, IfSome}
use Rattle.std.specs.Option.{is_some}
use Rattle.csn_desc.specs.declared.node.Node.TheVariants.{Choice}
use Rattle.csn_desc.specs.Nodes.{DescV}
use Rattle.csn_look.specs.KeyMarks.{has_key}
use Rattle.csn_look.specs.Keys.{InKeys}
use Rattle.csn_look.specs.LookKeys.{IsKeysOf}
use Rattle.csn_look.specs.LookV.{LookV}
use Rattle.csn_look.proofs.Tables.KeyWords.{key_word}
use Rattle.csn_certify.specs.declared.conflict.Conflict.TheVariants.{Overlap}
use Rattle.csn_certify.specs.Conflicts.{text_of}
use Rattle.csn_certify.specs.Search.{IsFirstUnder}
use Rattle.csn_certify.specs.Overlaps.{Overlaps}
use Rattle.csn_certify.specs.Filling.{IsSameBefore}
use Rattle.csn_certify.proofs.OverlapSearch.{conflict_of, overlap_none}

module _ (d : DescV) (look : LookV) (keys : IsKeysOf d look) (node : ℕ) (parts : List ℕ) (octet other : ℕ)
    (below : (j p : ℕ) → slice_get parts j ≡ Some p → p < length d.nodes) (small : octet ≤ 7)
    (same : IsSameBefore d look node parts octet other) where
  key_there : (j : ℕ) {p : ℕ} {word : List ℕ} {mark : Bool} → slice_get parts j ≡ Some p
      → InKeys d 12 p octet word mark → InKeys d 12 p other word mark
  key_there j {p} {word} {mark} at_j key =
      let is_word = key_word d key in
      let here = (keys.keys p octet (below j p at_j) small word mark is_word).1 key in
      let before = same.before in
      (keys.keys p other (below j p at_j) (omega (arith, small, before)) word mark is_word).0
      (subst (λ (l : List ℕ). IsTrue (has_key l word mark)) (same.tables j p at_j) here)

  overlaps_there : (i : ℕ) → Overlaps d octet parts i → Overlaps d other parts i
  overlaps_there i o =
      record {
        p = o.p;
        word_i = o.word_i;
        word_j = o.word_j;
        mark_j = o.mark_j;
        part = record { is_part = o.part.is_part; real = o.part.real };
        key_i = (o.key_i.0, key_there i o.part.is_part o.key_i.1);
        key_j =
            record {
              j = o.key_j.j;
              q = o.key_j.q;
              later = o.key_j.later;
              part = record { is_part = o.key_j.part.is_part; real = o.key_j.part.real };
              key = key_there o.key_j.j o.key_j.part.is_part o.key_j.key;
            };
        begun = o.begun;
      }

  -- where there is no conflict at the one, there is no overlap at the other
  pub none_again : slice_get d.nodes node ≡ Some (Choice parts) → IsFirstUnder d (node ∷ 3 ∷ other ∷ []) None
      → IsFirstUnder d (node ∷ 3 ∷ octet ∷ 3 ∷ []) None
  none_again at none = overlap_none d node parts at octet (λ i up o.
      let there = overlaps_there i o in
      none (Overlap node other i there.key_j.j there.word_i there.word_j)
      (3 ∷ i ∷ there.key_j.j ∷ (text_of there.word_i ++ text_of there.word_j), refl)
      (conflict_of d node parts at other i same.reached there))

-- what there is has what is told of it
pub there_is : (r : Option ℕ) (P : ℕ → Type 0) → IsTrue (is_some r) → IfSome r P → (x : ℕ) × P x
there_is None P is told = absurd (cc)
there_is (Some x) P is told = (x, told)
