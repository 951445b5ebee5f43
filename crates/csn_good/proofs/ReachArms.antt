-- Where the parts of a node are to begin, by the sets of octet positions that are looked at.
use Rattle.std.proofs.Common.{◌≡◌, ℕ, ◌+◌, ◌≤◌, ◌↔◌, Bool, List, [], ◌∷◌, ◌++◌, length, drop, refl, sym, ◌∙◌, ap, subst, Some, slice_get}
use Rattle.std.specs.Prelude.{IsTrue}
use Rattle.csn_desc.specs.declared.node.Count.{Count}
use Rattle.csn_desc.specs.declared.node.Count.TheVariants.{Fixed, Counted}
use Rattle.csn_desc.specs.declared.node.Node.{Node}
use Rattle.csn_desc.specs.declared.node.Node.TheVariants.{Seq, Choice, Times, Many, Trunc, Window, Named}
use Rattle.csn_desc.specs.Nodes.{parts_of}
use Rattle.csn_look.proofs.Meaning.FollowFacts.{cuts}
use Rattle.csn_claims.specs.Claims.{Claims}
use Rattle.csn_claims.specs.Ends.{PartsEnd, ManyEnd, parts_end, parts_next}
use Rattle.csn_claims.specs.Reached.{PartReached, reached_seq, reached_trunc, reached_choice, reached_window}
use Rattle.csn_claims.specs.Reached.{reached_named, reached_times, reached_counted, reached_many}
use Rattle.csn_good.specs.Octets.{has_octet, OctetsAre, OfSome, TurnBegins}
use Rattle.csn_good.specs.Told.{PartsReach, EachReached, OrderReached}
use Rattle.csn_good.proofs.SetArms.{many_small, times_small}
use Rattle.csn_good.proofs.EndsTold.{AreSmall, LeadsOn, drop_part, drop_over}

-- the place of a part that stands between others
place_of : (before : List ℕ) (i : ℕ) (after : List ℕ) → slice_get (before ++ i ∷ after) (length before) ≡ Some i
place_of [] i after = refl
place_of (x ∷ before) i after = place_of before i after

pub part_at : {parts : List ℕ} (before : List ℕ) (i : ℕ) (after : List ℕ) → parts ≡ before ++ i ∷ after → slice_get parts (length before) ≡ Some i
part_at before i after is = ap (λ l. slice_get l (length before)) is ∙ place_of before i after

-- a list of one
pub one_part : {p i : ℕ} (before after : List ℕ) → p ∷ [] ≡ before ++ i ∷ after → i ≡ p
one_part [] after is = cc
one_part (x ∷ []) after is = absurd (cc)
one_part (x ∷ (y ∷ before)) after is = absurd (cc)

pub no_part : (i : ℕ) (before after : List ℕ) → [] ≡ before ++ i ∷ after → ⊥
no_part i [] after is = cc
no_part i (x ∷ before) after is = cc

module _ (claims : Claims) where
  pub record OrderCarried (parts : List ℕ) (at : ℕ) (from here : List Bool) : Type 0 where
    pub to : OrderReached claims from parts → OrderReached claims here (drop at parts)
    pub back : OrderReached claims here (drop at parts) → OrderReached claims from parts

  -- node i is claimed to begin at each octet position of the set
  abbrev pub HasAll : ℕ → List Bool → Type 0
  HasAll i here = (o : ℕ) → o ≤ 7 → IsTrue (has_octet here o) → IsTrue (claims.reached i o)

  order_first : (i : ℕ) (rest : List ℕ) (here : List Bool) → OrderReached claims here (i ∷ rest) → HasAll i here
  order_first i rest here h o low there = h i o o [] rest refl low there (parts_end refl)

  module _ (small : AreSmall claims) where
    order_rest : (i : ℕ) (rest : List ℕ) (here next : List Bool)
        → LeadsOn claims i here next → OrderReached claims here (i ∷ rest) → OrderReached claims next rest
    order_rest i rest here next leads h j from o before after is low there e =
        let old = (leads from low).0 there in
        h j old.octet o (i ∷ before) after (ap (λ l. i ∷ l) is) old.small old.there (parts_next from old.fact e)

    order_both : (i : ℕ) (rest : List ℕ) (here next : List Bool) → LeadsOn claims i here next → HasAll i here
        → OrderReached claims next rest → OrderReached claims here (i ∷ rest)
    order_both i rest here next leads all h j from o [] after is low there e =
        let part : j ≡ i = cc in
        let begin = only_none e in
        subst (λ p. IsTrue (claims.reached p o)) (sym part) (subst (λ q. IsTrue (claims.reached i q)) (sym begin) (all from low there))
      where
        only_none : {a b : ℕ} → PartsEnd claims [] a b → b ≡ a
        only_none (parts_end same) = same
    order_both i rest here next leads all h j from o (x ∷ before) after is low there (parts_next m ends others) =
        let part : x ≡ i = cc in
        let later = ap (drop 1) is in
        let short = small x from m ends in
        let step = (leads m short).1 (record { octet = from; small = low; there = there; fact = subst (λ q. IsTrue (claims.ends q from m)) part ends }) in
        h j m o before after later short step others

    pub order_on : (parts : List ℕ) (at i : ℕ) (from here next : List Bool)
        → slice_get parts at ≡ Some i → LeadsOn claims i here next → HasAll i here → OrderCarried parts at from here
        → OrderCarried parts (at + 1) from next
    order_on parts at i from here next is leads all inv =
        let same = drop_part parts at i is in
        record {
          to = λ h. order_rest i (drop (at + 1) parts) here next leads (subst (OrderReached claims here) same (inv.to h));
          back = λ h. inv.back (subst (OrderReached claims here) (sym same) (order_both i (drop (at + 1) parts) here next leads all h));
        }

  pub order_begin : (parts : List ℕ) (from : List Bool) → OrderCarried parts 0 from from
  order_begin parts from = record { to = λ h. h; back = λ h. h }

  pub order_not : (parts : List ℕ) (at i : ℕ) (from here : List Bool)
      → slice_get parts at ≡ Some i → OrderCarried parts at from here → OrderReached claims from parts → HasAll i here
  order_not parts at i from here is inv h = order_first i (drop (at + 1) parts) here (subst (OrderReached claims here) (drop_part parts at i is) (inv.to h))

  pub order_done : (parts : List ℕ) (at : ℕ) (from here : List Bool) → length parts ≤ at → OrderCarried parts at from here → OrderReached claims from parts
  order_done parts at from here long inv =
      inv.back (subst (OrderReached claims here) (sym (drop_over parts at long)) (λ j f o before after is low there e. absurd (no_part j before after is)))

  -- ---- nodes

  module _ (k : ℕ) (begins : List Bool) (are : OctetsAre begins (λ o. IsTrue (claims.reached k o))) (low : (o : ℕ) → IsTrue (claims.reached k o) → o ≤ 7) where
    there_of : (o : ℕ) → IsTrue (claims.reached k o) → IsTrue (has_octet begins o)
    there_of o h = (are o (low o h)).1 h

    pub no_parts : (n : Node) → parts_of n ≡ [] → PartsReach claims k n
    no_parts n none i from o before after is h r = absurd (no_part i before after (sym none ∙ is))

    of_seq : {parts before : List ℕ} {i from o : ℕ} → PartReached claims (Seq parts) before i from o → PartsEnd claims before from o
    of_seq (reached_seq h) = h

    of_trunc : {parts before : List ℕ} {i from o : ℕ} → PartReached claims (Trunc parts) before i from o → PartsEnd claims before from o
    of_trunc (reached_trunc h) = h

    pub seq_parts : (parts : List ℕ) → PartsReach claims k (Seq parts) ↔ OrderReached claims begins parts
    seq_parts parts = (
      (λ h i from o before after is short there e. h i from o before after is ((are from short).0 there) (reached_seq e)),
      (λ h i from o before after is reached r. h i from o before after is (low from reached) (there_of from reached) (of_seq r)),
    )

    pub trunc_parts : (parts : List ℕ) → PartsReach claims k (Trunc parts) ↔ OrderReached claims begins parts
    trunc_parts parts = (
      (λ h i from o before after is short there e. h i from o before after is ((are from short).0 there) (reached_trunc e)),
      (λ h i from o before after is reached r. h i from o before after is (low from reached) (there_of from reached) (of_trunc r)),
    )

    of_choice : {parts before : List ℕ} {i from o : ℕ} → PartReached claims (Choice parts) before i from o → o ≡ from
    of_choice (reached_choice h) = h

    pub choice_parts : (parts : List ℕ) → PartsReach claims k (Choice parts) ↔ EachReached claims begins parts
    choice_parts parts = (
      (λ h place i o at short there. let cut = cuts parts place i at in h i o o cut.before cut.after cut.is ((are o short).0 there) (reached_choice refl)),
      (λ h i from o before after is reached r.
          subst (λ q. IsTrue (claims.reached i q)) (sym (of_choice r))
          (h (length before) i from (part_at before i after is) (low from reached) (there_of from reached))),
    )

    of_window : {unit part : ℕ} {count : Count} {before : List ℕ} {i from o : ℕ} → PartReached claims (Window unit count part) before i from o → o ≡ from
    of_window (reached_window h) = h

    of_named : {label : List ℕ} {part : ℕ} {before : List ℕ} {i from o : ℕ} → PartReached claims (Named label part) before i from o → o ≡ from
    of_named (reached_named h) = h

    pub window_parts : (unit : ℕ) (count : Count) (part : ℕ) → PartsReach claims k (Window unit count part) ↔ HasAll part begins
    window_parts unit count part = (
      (λ h o short there. h part o o [] [] refl ((are o short).0 there) (reached_window refl)),
      (λ h i from o before after is reached r.
          let one = one_part before after is in
          subst (λ q. IsTrue (claims.reached q o)) (sym one) (subst (λ q. IsTrue (claims.reached part q))
          (sym (of_window r)) (h from (low from reached) (there_of from reached)))),
    )

    pub named_parts : (label : List ℕ) (part : ℕ) → PartsReach claims k (Named label part) ↔ HasAll part begins
    named_parts label part = (
      (λ h o short there. h part o o [] [] refl ((are o short).0 there) (reached_named refl)),
      (λ h i from o before after is reached r.
          let one = one_part before after is in
          subst (λ q. IsTrue (claims.reached q o)) (sym one) (subst (λ q. IsTrue (claims.reached part q))
          (sym (of_named r)) (h from (low from reached) (there_of from reached)))),
    )

    module _ (small : AreSmall claims) where
      of_many : {part i from o : ℕ} {before : List ℕ} → PartReached claims (Many part) before i from o → ManyEnd claims i from o
      of_many (reached_many h) = h

      pub many_parts : (part : ℕ) (turns : List Bool)
          → OctetsAre turns (λ p. OfSome begins (λ o. ManyEnd claims part o p))
          → PartsReach claims k (Many part) ↔ HasAll part turns
      many_parts part turns ends = (
        (λ h o short there. let f = (ends o short).0 there in h part f.octet o [] [] refl ((are f.octet f.small).0 f.there) (reached_many f.fact)),
        (λ h i from o before after is reached r.
            let one = one_part before after is in
            let begin = low from reached in
            let e = subst (λ q. ManyEnd claims q from o) one (of_many r) in
            let short = many_small claims small begin e in
            subst (λ q. IsTrue (claims.reached q o)) (sym one)
            (h o short ((ends o short).1
            (record { octet = from; small = begin; there = there_of from reached; fact = e })))),
      )

      of_times : {part i from o : ℕ} {before : List ℕ} (count : Count)
          → PartReached claims (Times count part) before i from o → TurnBegins claims count i from o
      of_times (Fixed n) (reached_times m less e) = record { times = m; less = less; ends = e }
      of_times (Counted m f c) (reached_counted e) = e

      times_of : {part i from o : ℕ} {before : List ℕ} (count : Count) → TurnBegins claims count i from o
          → PartReached claims (Times count part) before i from o
      times_of (Fixed n) h = reached_times h.times h.less h.ends
      times_of (Counted m f c) h = reached_counted h

      turn_low : (i o p : ℕ) (count : Count) → o ≤ 7 → TurnBegins claims count i o p → p ≤ 7
      turn_low i o p (Fixed n) begin h = times_small claims small begin h.ends
      turn_low i o p (Counted m f c) begin h = many_small claims small begin h

      pub times_parts : (count : Count) (part : ℕ) (turns : List Bool)
          → OctetsAre turns (λ p. OfSome begins (λ o. TurnBegins claims count part o p))
          → PartsReach claims k (Times count part) ↔ HasAll part turns
      times_parts count part turns ends = (
        (λ h o short there. let f = (ends o short).0 there in h part f.octet o [] [] refl ((are f.octet f.small).0 f.there) (times_of count f.fact)),
        (λ h i from o before after is reached r.
            let one = one_part before after is in
            let begin = low from reached in
            let e = subst (λ q. TurnBegins claims count q from o) one (of_times count r) in
            let short = turn_low part from o count begin e in
            subst (λ q. IsTrue (claims.reached q o)) (sym one)
            (h o short ((ends o short).1
            (record { octet = from; small = begin; there = there_of from reached; fact = e })))),
      )
