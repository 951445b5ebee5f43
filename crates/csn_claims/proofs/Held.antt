-- A description of which some claims hold is clear, by what they claim to follow its nodes.
use Rattle.std.proofs.Common.{◌≡◌, ℕ, ◌%◌, inl, List, [], ◌∷◌, ◌++◌, refl, subst, arith, Some}
use Rattle.std.specs.Prelude.{IsTrue}
use Rattle.csn_desc.specs.declared.node.Node.{Node}
use Rattle.csn_desc.specs.declared.node.Node.TheVariants.{Choice, Many}
use Rattle.csn_desc.specs.Nodes.{DescV}
use Rattle.csn_look.specs.Ends.{PartsEnd}
use Rattle.csn_look.specs.Starts as start
use Rattle.csn_look.proofs.Meaning.ShapeFacts.{Shaped}
use Rattle.csn_look.proofs.Meaning.FollowFacts.{cuts}
use Rattle.csn_look.proofs.Meaning.ReachFacts.{choice_reached, many_reached}
use Rattle.csn_claims.specs.Claims.{Claims}
use Rattle.csn_claims.specs.Starts.{PartsStart}
use Rattle.csn_claims.specs.Reached.{PartFollow, follow_later, follow_seq, follow_kept, follow_trunc}
use Rattle.csn_claims.specs.Reached.{follow_times_again, follow_times, follow_many_again, follow_many, follow_choice}
use Rattle.csn_claims.specs.Reached.{follow_named}
use Rattle.csn_claims.specs.Conflicts.{two_empty, choice_not_firm, overlap, empty_clash, loop_clash, not_last}
use Rattle.csn_claims.specs.Holding.{IsPart, Holds}
use Rattle.csn_claims.proofs.Reaching.{PartsReached, first_part, later_parts, seq_reached, lead_reached, free_reached}
use Rattle.csn_claims.proofs.Containing.{has_nullable, all_nullable, has_ends, many_ends, parts_behind, has_reached, has_start, has_parts_start, has_key}
use Rattle.csn_claims.proofs.Clear.{Lies, Clear}

module _ (d : DescV) (most : ℕ) (claims : Claims) (shaped : Shaped d) (holds : Holds d most claims) where
  -- what the later parts begin with
  later : {k i from o p bit : ℕ} {n : Node} {parts before after : List ℕ}
      → IsPart d k n before i after → parts ≡ before ++ i ∷ after → PartsReached claims parts from
      → PartsEnd d before from o → Lies d i o p → start.PartsStart d after p bit
      → (PartsStart claims after p bit → PartFollow claims n k after i p (Some bit))
      → IsTrue (claims.follow i p (Some bit))
  later {k} {i} {from} {o} {p} {bit} {n} {parts} {before} {after} is split reached ended lies starts make =
      let P : List ℕ → Type 0 = λ l. PartsReached claims l from in
      let here = parts_behind d most claims holds (subst P split reached) ended in
      let begins = first_part claims here in
      let over = has_ends d most claims holds begins lies.ends in
      holds.follow k i o p (Some bit) n before after is begins over (make (has_parts_start d most claims shaped holds (later_parts claims here over) starts))

  -- what its node says
  behind : {k i o p bit : ℕ} {n : Node} {before after : List ℕ} → IsPart d k n before i after → Lies d i o p
      → PartFollow claims n k after i p (Some bit) → IsTrue (claims.follow i p (Some bit))
  behind {k} {i} {o} {p} {bit} {n} {before} {after} is lies f =
      let begins = has_reached d most claims holds lies.begins in
      holds.follow k i o p (Some bit) n before after is begins (has_ends d most claims holds begins lies.ends) f

  pub clear_of : Clear d most (λ i o bit. IsTrue (claims.follow i o (Some bit)))
  clear_of =
      record {
        shaped = shaped;
        seq_later = λ k i from o p bit parts before after is above ended lies starts. later is is.split
            (seq_reached d most claims holds is.at (has_reached d most claims holds above)) ended lies starts
            (λ s. follow_later s);
        trunc_later = λ k i from o p bit parts before after is above ended lies starts. later is is.split
            (lead_reached d most claims holds is.at (has_reached d most claims holds above)) ended lies starts
            (λ s. follow_kept s);
        times_again = λ k i o p bit count at lies again starts. behind {before = []}
            (record { at = at; split = refl }) lies
            (follow_times_again (has_start d most claims shaped holds (has_reached d most claims holds again)
            starts));
        many_again = λ k i o p bit at lies again starts. behind {before = []} (record { at = at; split = refl }) lies
            (follow_many_again (has_start d most claims shaped holds (has_reached d most claims holds again) starts));
        seq_behind = λ k i o p bit parts before after is lies none f. behind is lies (follow_seq (all_nullable d most claims holds none) f);
        trunc_behind = λ k i o p bit parts before after is lies f. behind is lies (follow_trunc f);
        times_behind = λ k i o p bit count at lies f. behind {before = []} (record { at = at; split = refl }) lies (follow_times f);
        many_behind = λ k i o p bit at lies f. behind {before = []} (record { at = at; split = refl }) lies (follow_many f);
        choice_behind = λ k i o p bit parts before after is lies f. behind is lies (follow_choice f);
        named_behind = λ k i o p bit label at lies f. behind {before = []} (record { at = at; split = refl }) lies (follow_named f);
        two_empty = λ k i j p q parts at less at_i at_j null_i null_j. holds.no_conflict k (Choice parts) at (two_empty i j less at_i at_j null_i null_j);
        nullable = λ k i p parts at at_i real none. holds.no_conflict k (Choice parts) at
            (choice_not_firm i at_i real (inl (has_nullable d most claims holds none)));
        overlap = λ k o i j p q parts word_i word_j mark_i mark_j at reached less at_i at_j real_i real_j key_i key_j begun.
            let here_i = has_reached d most claims holds (choice_reached d at (cuts parts i p at_i) reached) in
            let here_j = has_reached d most claims holds (choice_reached d at (cuts parts j q at_j) reached) in
            holds.no_conflict k (Choice parts) at (overlap (o % 8) i j (has_reached d most claims holds reached)
            less at_i at_j real_i real_j word_i word_j mark_i mark_j
            (has_key d most claims shaped holds (omega arith) here_i key_i)
            (has_key d most claims shaped holds (omega arith) here_j key_j) begun);
        empty_clash = λ k o bit i j p q parts at reached at_i null at_j differs starts f.
            let here = has_reached d most claims holds (choice_reached d at (cuts parts j q at_j) reached) in
            holds.no_conflict k (Choice parts) at (empty_clash o bit i j (has_reached d most claims holds reached)
            at_i null at_j differs (has_start d most claims shaped holds here starts) f);
        loop_clash = λ k i from o bit at reached ended starts f.
            let above = has_reached d most claims holds reached in
            let here = has_reached d most claims holds (many_reached d at reached ended) in
            holds.no_conflict k (Many i) at
            (loop_clash from o bit above
            (many_ends d most claims holds (free_reached d most claims holds at above) ended)
            (has_start d most claims shaped holds here starts) f);
        not_last = λ k from o bit n at last reached ends f.
            let here = has_reached d most claims holds reached in
            holds.no_conflict k n at (not_last from o bit last here (has_ends d most claims holds here ends) f);
      }
