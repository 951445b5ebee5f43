-- What stands behind a part of a node: the later parts, and what stands behind the node.
use Rattle.std.proofs.Common.{◌≡◌, ℕ, ◌+◌, ◌%◌, List, [], ◌∷◌, ◌++◌, length, length-append, refl, sym, ap, subst, arith, Some, slice_get}
use Rattle.csn_desc.specs.declared.node.Count.{Count}
use Rattle.csn_desc.specs.declared.node.Node.TheVariants.{Seq, Choice, Times, Many, Trunc, Named}
use Rattle.csn_desc.specs.TreeV.{Trees}
use Rattle.csn_desc.specs.Nodes.{DescV}
use Rattle.csn_desc.specs.Values.{Values}
use Rattle.csn_desc.specs.Means.{PartsMean, TimesMean, ManyMean, LeadMean, times_end, times_next}
use Rattle.csn_desc.specs.Formed.{FitWidths}
use Rattle.csn_look.specs.Ends.{PartsEnd, ManyEnd}
use Rattle.csn_look.specs.Reached.{Reached, Turn}
use Rattle.csn_look.proofs.Meaning.NullableFacts.{parts_nullable}
use Rattle.csn_look.proofs.Meaning.StartFacts.{parts_start, times_start, many_start, lead_start}
use Rattle.csn_look.proofs.Meaning.FollowFacts.{cuts}
use Rattle.csn_look.proofs.Meaning.ReachFacts.{turn_reached, many_reached}
use Rattle.csn_claims.proofs.Clear.{Lies, Stands, Clear}

module _ (d : DescV) where
  -- where a turn more is left, it begins behind those before it
  turn_again : {k i left from o : ℕ} {count : Count} {v : Values} {b : List ℕ} {ts : Trees} (a : ℕ) (r : List ℕ)
      → b ≡ a ∷ r → slice_get d.nodes k ≡ Some (Times count i) → Reached d k from → Turn d count i left from (o % 8)
      → TimesMean d left i o v b ts → Reached d i (o % 8)
  turn_again a r is at reached turn (times_end over nothing) = absurd (cc)
  turn_again a r is at reached turn (times_next m over b1 b2 cut h others) = turn_reached d at reached over turn

module _ (Follow : ℕ → ℕ → ℕ → Type 0) where
  pub end_stands : (i o : ℕ) (b : List ℕ) → Stands Follow i o b []
  end_stands i o b = record { behind = λ bit rest is. absurd (cc) }

  -- what follows behind no bits
  behind_none : {k : ℕ} (p bit : ℕ) → Follow k ((p + length {A = ℕ} []) % 8) bit → Follow k (p % 8) bit
  behind_none {k} p bit h =
      let P : ℕ → Type 0 = λ q. Follow k (q % 8) bit in let same : p + length {A = ℕ} [] ≡ p = omega arith in subst P same h

  -- behind no bits
  pub stands_here : {k o : ℕ} {b x : List ℕ} (a : ℕ) (r : List ℕ) → b ≡ [] → x ≡ a ∷ r → Stands Follow k o b x → Follow k (o % 8) a
  stands_here {k} {o} {b} a r nothing is s =
      let size = ap length nothing in
      let place : o + length b ≡ o = omega arith in
      let P : ℕ → Type 0 = λ p. Follow k (p % 8) a in
      subst P place (s.behind a r is)

  -- the later parts end where the node does
  pub behind_first : {k o : ℕ} {b x : List ℕ} (b1 b2 : List ℕ) → b ≡ b1 ++ b2 → Stands Follow k o b x → Stands Follow k (o + length b1) b2 x
  behind_first {k} {o} {b} {x} b1 b2 cut s =
      let size = ap length cut in
      let place : o + length b ≡ o + length b1 + length b2 = omega (arith, size, length-append b1 b2) in
      let P : ℕ → Type 0 = λ p. (bit : ℕ) (rest : List ℕ) → x ≡ bit ∷ rest → Follow k (p % 8) bit in
      record { behind = subst P place s.behind }

  pub stands_along : {k o : ℕ} {x : List ℕ} (b c : List ℕ) → b ≡ c → Stands Follow k o b x → Stands Follow k o c x
  stands_along {k} {o} {x} b c same s = let P : List ℕ → Type 0 = λ l. Stands Follow k o l x in subst P same s

  pub stands_moved : {k : ℕ} (o : ℕ) {b x : List ℕ} (b1 c1 : List ℕ) → b1 ≡ c1 → Stands Follow k (o + length c1) b x → Stands Follow k (o + length b1) b x
  stands_moved {k} o {b} {x} b1 c1 same s = let P : List ℕ → Type 0 = λ l. Stands Follow k (o + length l) b x in subst P (sym same) s

module _ (d : DescV) (most : ℕ) (Follow : ℕ → ℕ → ℕ → Type 0) (clear : Clear d most Follow) where
  -- the later parts, from the place where the part ends, and then what stands behind the node
  pub seq_stands : {k i from o : ℕ} {v : Values} {parts after b2 x : List ℕ} {ts : Trees} (before b1 : List ℕ)
      → slice_get d.nodes k ≡ Some (Seq parts) → parts ≡ before ++ i ∷ after → Reached d k from
      → PartsEnd d before from (o % 8) → Lies d i (o % 8) ((o + length b1) % 8)
      → FitWidths d v → PartsMean d after (o + length b1) v b2 ts → Stands Follow k (o + length b1) b2 x
      → Stands Follow i o b1 (b2 ++ x)
  seq_stands {k} {i} {o = o} {parts = parts} {after = after} {b2 = []} before b1 at is reached ended lies widths h s =
      record {
        behind = λ bit rest e. clear.seq_behind k i (o % 8) ((o + length b1) % 8) bit parts before after
            (record { at = at; split = is }) lies (parts_nullable d clear.shaped h refl)
            (behind_none Follow (o + length b1) bit (s.behind bit rest e));
      }
  seq_stands {k} {i} {from} {o} {parts = parts} {after = after} {b2 = a ∷ r} before b1 at is reached ended lies widths h s =
      record {
        behind = λ bit rest e. let same : a ∷ r ≡ bit ∷ r = cc in clear.seq_later k i from (o % 8)
            ((o + length b1) % 8) bit parts before after (record { at = at; split = is }) reached ended lies
            (parts_start d clear.shaped bit r same widths h);
      }

  pub lead_stands : {k i from o : ℕ} {v : Values} {parts after b2 x : List ℕ} {ts : Trees} (before b1 : List ℕ)
      → slice_get d.nodes k ≡ Some (Trunc parts) → parts ≡ before ++ i ∷ after → Reached d k from
      → PartsEnd d before from (o % 8) → Lies d i (o % 8) ((o + length b1) % 8)
      → FitWidths d v → LeadMean d after (o + length b1) v b2 ts → Stands Follow k (o + length b1) b2 x
      → Stands Follow i o b1 (b2 ++ x)
  lead_stands {k} {i} {o = o} {parts = parts} {after = after} {b2 = []} before b1 at is reached ended lies widths h s =
      record {
        behind = λ bit rest e. clear.trunc_behind k i (o % 8) ((o + length b1) % 8) bit parts before after
            (record { at = at; split = is }) lies (behind_none Follow (o + length b1) bit (s.behind bit rest e));
      }
  lead_stands {k} {i} {from} {o} {parts = parts} {after = after} {b2 = a ∷ r} before b1 at is reached ended lies widths h s =
      record {
        behind = λ bit rest e. let same : a ∷ r ≡ bit ∷ r = cc in clear.trunc_later k i from (o % 8)
            ((o + length b1) % 8) bit parts before after (record { at = at; split = is }) reached ended lies
            (lead_start d clear.shaped bit r same widths h);
      }

  pub last_stands : {k i o : ℕ} {parts b x : List ℕ} (before after : List ℕ)
      → slice_get d.nodes k ≡ Some (Trunc parts) → parts ≡ before ++ i ∷ after → Lies d i (o % 8) ((o + length b) % 8)
      → Stands Follow k o b x → Stands Follow i o b x
  last_stands {k} {i} {o} {parts} {b} before after at is lies s =
      record {
        behind = λ bit rest e. clear.trunc_behind k i (o % 8) ((o + length b) % 8) bit parts before after
            (record { at = at; split = is }) lies (s.behind bit rest e);
      }

  pub times_stands : {k i left from o : ℕ} {count : Count} {v : Values} {b2 x : List ℕ} {ts : Trees} (b1 : List ℕ)
      → slice_get d.nodes k ≡ Some (Times count i) → Reached d k from → Turn d count i left from ((o + length b1) % 8)
      → Lies d i (o % 8) ((o + length b1) % 8) → FitWidths d v → TimesMean d left i (o + length b1) v b2 ts
      → Stands Follow k (o + length b1) b2 x → Stands Follow i o b1 (b2 ++ x)
  times_stands {k} {i} {o = o} {count = count} {b2 = []} b1 at reached turn lies widths h s =
      record {
        behind = λ bit rest e. clear.times_behind k i (o % 8) ((o + length b1) % 8) bit count at lies
            (behind_none Follow (o + length b1) bit (s.behind bit rest e));
      }
  times_stands {k} {i} {o = o} {count = count} {b2 = a ∷ r} b1 at reached turn lies widths h s =
      record {
        behind = λ bit rest e. let same : a ∷ r ≡ bit ∷ r = cc in
            clear.times_again k i (o % 8) ((o + length b1) % 8) bit count at lies
            (turn_again d a r refl at reached turn h) (times_start d clear.shaped bit r same widths h);
      }

  pub many_stands : {k i from o : ℕ} {v : Values} {b2 x : List ℕ} {ts : Trees} (b1 : List ℕ)
      → slice_get d.nodes k ≡ Some (Many i) → Reached d k from → ManyEnd d i from ((o + length b1) % 8)
      → Lies d i (o % 8) ((o + length b1) % 8) → FitWidths d v → ManyMean d i (o + length b1) v b2 ts
      → Stands Follow k (o + length b1) b2 x → Stands Follow i o b1 (b2 ++ x)
  many_stands {k} {i} {o = o} {b2 = []} b1 at reached ended lies widths h s =
      record {
        behind = λ bit rest e. clear.many_behind k i (o % 8) ((o + length b1) % 8) bit at lies
            (behind_none Follow (o + length b1) bit (s.behind bit rest e));
      }
  many_stands {k} {i} {o = o} {b2 = a ∷ r} b1 at reached ended lies widths h s =
      record {
        behind = λ bit rest e. let same : a ∷ r ≡ bit ∷ r = cc in
            clear.many_again k i (o % 8) ((o + length b1) % 8) bit at lies (many_reached d at reached ended)
            (many_start d clear.shaped bit r same widths h);
      }

  pub choice_stands : {k i o : ℕ} {parts b x : List ℕ} (j : ℕ) → slice_get d.nodes k ≡ Some (Choice parts)
      → slice_get parts j ≡ Some i → Lies d i (o % 8) ((o + length b) % 8)
      → Stands Follow k o b x → Stands Follow i o b x
  choice_stands {k} {i} {o} {parts} {b} j at part lies s =
      let cut = cuts parts j i part in
      record {
        behind = λ bit rest e. clear.choice_behind k i (o % 8) ((o + length b) % 8)
            bit parts cut.before cut.after (record { at = at; split = cut.is }) lies (s.behind bit rest e);
      }

  pub named_stands : {k i o : ℕ} {label b x : List ℕ} → slice_get d.nodes k ≡ Some (Named label i)
      → Lies d i (o % 8) ((o + length b) % 8) → Stands Follow k o b x → Stands Follow i o b x
  named_stands {k} {i} {o} {label} {b} at lies s =
      record { behind = λ bit rest e. clear.named_behind k i (o % 8) ((o + length b) % 8) bit label at lies (s.behind bit rest e) }
