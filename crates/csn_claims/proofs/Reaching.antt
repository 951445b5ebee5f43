-- Where the parts of a node that is claimed to begin are claimed to begin, one part or turn after another.
use Rattle.std.proofs.Common.{◌≡◌, ℕ, suc, ◌<◌, List, [], ◌∷◌, ◌++◌, refl, ◌∙◌, ap, subst, arith, append_assoc, Some, slice_get}
use Rattle.std.specs.Prelude.{IsTrue}
use Rattle.csn_desc.specs.declared.node.Count.{Count}
use Rattle.csn_desc.specs.declared.node.Count.TheVariants.{Fixed, Counted}
use Rattle.csn_desc.specs.declared.node.Node.TheVariants.{Seq, Choice, Times, Many, Trunc, Window, Named}
use Rattle.csn_desc.specs.Nodes.{DescV}
use Rattle.csn_look.proofs.Meaning.FollowFacts.{cuts}
use Rattle.csn_claims.specs.Claims.{Claims}
use Rattle.csn_claims.specs.Ends.{PartsEnd, TimesEnd, ManyEnd, parts_end, parts_next, times_end, times_next, many_end, many_next}
use Rattle.csn_claims.specs.Reached.{reached_seq, reached_trunc, reached_choice, reached_window, reached_named, reached_times, reached_counted, reached_many}
use Rattle.csn_claims.specs.Holding.{Holds}

module _ (claims : Claims) where
  -- each of these parts is claimed to begin where those before it may end
  pub record PartsReached (parts : List ℕ) (o : ℕ) : Type 0 where
    pub each : (before : List ℕ) (i : ℕ) (after : List ℕ) (p : ℕ) → parts ≡ before ++ i ∷ after → PartsEnd claims before o p → IsTrue (claims.reached i p)

  -- and so is each of n turns
  pub record TurnsReached (n i o : ℕ) : Type 0 where
    pub each : (m p : ℕ) → m < n → TimesEnd claims m i o p → IsTrue (claims.reached i p)

  -- and each of any number of turns
  pub record FreeReached (i o : ℕ) : Type 0 where
    pub each : (p : ℕ) → ManyEnd claims i o p → IsTrue (claims.reached i p)

  pub first_part : {i : ℕ} {parts : List ℕ} {o : ℕ} → PartsReached (i ∷ parts) o → IsTrue (claims.reached i o)
  first_part {i} {parts} {o} h = h.each [] i parts o refl (parts_end refl)

  pub later_parts : {i : ℕ} {parts : List ℕ} {o p : ℕ} → PartsReached (i ∷ parts) o → IsTrue (claims.ends i o p) → PartsReached parts p
  later_parts {i} {parts} {o} {p} h ends =
      record { each = λ before j after q is e. h.each (i ∷ before) j after q (ap (λ l. i ∷ l) is) (parts_next p ends e) }

  -- those before one of them
  pub front_parts : {from : ℕ} {parts before : List ℕ} (i : ℕ) (after : List ℕ)
      → parts ≡ before ++ i ∷ after → PartsReached parts from → PartsReached before from
  front_parts i after split h =
      record { each = λ b j a p is e. h.each b j (a ++ i ∷ after) p (split ∙ ap (λ l. l ++ i ∷ after) is ∙ append_assoc b (j ∷ a) (i ∷ after)) e }

  pub first_turn : {n i o : ℕ} → 0 < n → TurnsReached n i o → IsTrue (claims.reached i o)
  first_turn {n} {i} {o} some h = h.each 0 o some (times_end refl refl)

  pub later_turns : {n i o p m : ℕ} → n ≡ suc m → TurnsReached n i o → IsTrue (claims.ends i o p) → TurnsReached m i p
  later_turns {n} {i} {o} {p} {m} over h ends =
      record { each = λ k q less e. h.each (suc k) q (omega arith) (times_next k p refl ends e) }

  pub first_free : {i o : ℕ} → FreeReached i o → IsTrue (claims.reached i o)
  first_free {i} {o} h = h.each o (many_end refl)

  pub later_free : {i o p : ℕ} → FreeReached i o → IsTrue (claims.ends i o p) → FreeReached i p
  later_free {i} {o} {p} h ends = record { each = λ q e. h.each q (many_next p ends e) }

  pub many_end_more : {i from o p : ℕ} → ManyEnd claims i from o → IsTrue (claims.ends i o p) → ManyEnd claims i from p
  many_end_more {i} {from} {o} {p} (many_end same) h =
      let P : ℕ → Type 0 = λ q. IsTrue (claims.ends i q p) in many_next p (subst P same h) (many_end refl)
  many_end_more (many_next middle first others) h = many_next middle first (many_end_more others h)

module _ (d : DescV) (most : ℕ) (claims : Claims) (holds : Holds d most claims) where
  pub seq_reached : {k o : ℕ} {parts : List ℕ} → slice_get d.nodes k ≡ Some (Seq parts) → IsTrue (claims.reached k o) → PartsReached claims parts o
  seq_reached {k} {o} {parts} at reached =
      record { each = λ before i after p is e. holds.reached k o i p (Seq parts) before after (record { at = at; split = is }) reached (reached_seq e) }

  pub lead_reached : {k o : ℕ} {parts : List ℕ} → slice_get d.nodes k ≡ Some (Trunc parts) → IsTrue (claims.reached k o) → PartsReached claims parts o
  lead_reached {k} {o} {parts} at reached =
      record { each = λ before i after p is e. holds.reached k o i p (Trunc parts) before after (record { at = at; split = is }) reached (reached_trunc e) }

  pub choice_reached : {k o i : ℕ} {parts : List ℕ} (j : ℕ) → slice_get d.nodes k ≡ Some (Choice parts)
      → slice_get parts j ≡ Some i → IsTrue (claims.reached k o) → IsTrue (claims.reached i o)
  choice_reached {k} {o} {i} {parts} j at part reached =
      let cut = cuts parts j i part in
      holds.reached k o i o (Choice parts) cut.before cut.after (record { at = at; split = cut.is }) reached (reached_choice refl)

  pub window_reached : {k o i unit : ℕ} {count : Count} → slice_get d.nodes k ≡ Some (Window unit count i)
      → IsTrue (claims.reached k o) → IsTrue (claims.reached i o)
  window_reached {k} {o} {i} {unit} {count} at reached =
      holds.reached k o i o (Window unit count i) [] [] (record { at = at; split = refl }) reached (reached_window refl)

  pub named_reached : {k o i : ℕ} {label : List ℕ} → slice_get d.nodes k ≡ Some (Named label i) → IsTrue (claims.reached k o) → IsTrue (claims.reached i o)
  named_reached {k} {o} {i} {label} at reached =
      holds.reached k o i o (Named label i) [] [] (record { at = at; split = refl }) reached (reached_named refl)

  pub free_reached : {k o i : ℕ} → slice_get d.nodes k ≡ Some (Many i) → IsTrue (claims.reached k o) → FreeReached claims i o
  free_reached {k} {o} {i} at reached =
      record {
        each = λ p e. holds.reached k o i p (Many i) [] [] (record { at = at; split = refl }) reached
            (reached_many e);
      }

  pub counted_reached : {k o i m field c : ℕ} → slice_get d.nodes k ≡ Some (Times (Counted m field c) i) → IsTrue (claims.reached k o) → FreeReached claims i o
  counted_reached {k} {o} {i} {m} {field} {c} at reached =
      record { each = λ p e. holds.reached k o i p (Times (Counted m field c) i) [] [] (record { at = at; split = refl }) reached (reached_counted e) }

  pub turns_reached : {k o i n : ℕ} → slice_get d.nodes k ≡ Some (Times (Fixed n) i) → IsTrue (claims.reached k o) → TurnsReached claims n i o
  turns_reached {k} {o} {i} {n} at reached =
      record { each = λ m p less e. holds.reached k o i p (Times (Fixed n) i) [] [] (record { at = at; split = refl }) reached (reached_times m less e) }
