-- Turns of the frames of truncations.
use Rattle.std.proofs.Common.{inl, inr, ◌≡◌, ℕ, suc, ◌+◌, ◌%◌, ◌<◌, ◌≤◌, ◌⊎◌, true, List, take, drop, [], ◌∷◌, ◌++◌}
use Rattle.std.proofs.Common.{length, refl, sym, ◌∙◌, ap, subst, arith, append_assoc, length-append, Option, Some}
use Rattle.std.proofs.Common.{slice_get}
use Rattle.std.proofs.lemmas.List.{take_all}
use Rattle.csn_desc.specs.declared.moves.Move.{Move}
use Rattle.csn_desc.specs.declared.moves.Move.TheVariants.{Leave}
use Rattle.csn_desc.specs.declared.node.Node.{Node}
use Rattle.csn_desc.specs.declared.node.Node.TheVariants.{Trunc}
use Rattle.csn_desc.specs.Nodes.{DescV}
use Rattle.csn_desc.specs.Values.{Values}
use Rattle.csn_desc.specs.Formed.{Formed}
use Rattle.csn_desc.specs.Follows.{NFollow}
use Rattle.csn_look.specs.Ends.{parts_end}
use Rattle.csn_look.proofs.Meaning.ReachFacts.{parts_end_more}
use Rattle.csn_judge.specs.declared.frame.Frame.{Frame}
use Rattle.csn_judge.specs.declared.frame.Frame.TheVariants as frame
use Rattle.csn_desc.proofs.Nodewise.{parts_there}
use Rattle.csn_certify.specs.declared.numbers.Number.{Number}
use Rattle.csn_judge.specs.declared.pace.Pace.{Pace}
use Rattle.csn_judge.specs.Known.{Known}
use Rattle.csn_judge.specs.Coming.{Coming, IsGood}
use Rattle.csn_judge.specs.Told.{tells_none}
use Rattle.csn_judge.specs.Left.{Left, all_left, none_left, cut_left, lead_left, behind}
use Rattle.csn_judge.specs.Remains.{Within, Steps, Passes}
use Rattle.csn_judge.specs.Inside.{IsStack, stack_node, AreOwed, of_all, of_cut, of_lead, of_read}
use Rattle.csn_certify.specs.KeptNumbers.{numbers_of}
use Rattle.csn_judge.specs.Shown.{seen_in, limit_in, SeesMore, HasNext, Round, round_trunc, Shows, shows_begin, shows_cut, shows_lead}
use Rattle.csn_judge.specs.Turns.{fresh_at, begun_by, Stands, GoesOn}
use Rattle.csn_judge.proofs.StepFacts.{replaced, none_taken, alike}
use Rattle.csn_judge.proofs.Closing.{passes_of, cut_ends, lead_ends}
use Rattle.csn_judge.proofs.Choosing.{node_empty}
use Rattle.csn_judge.proofs.Truncs.{AtHand, first_component, next_component, no_components, none_behind}
use Rattle.csn_judge.proofs.Stacks.{of_begun, begun_of, component_begun, next_component_begun, first_next, later_rises, truncation_read, up_here, up_part}
use Rattle.csn_judge.proofs.LeafStacks.{limit_within, closed_passes}
use Rattle.csn_judge.proofs.Rooms.{first_of}
use Rattle.csn_judge.proofs.Turning.{moving, risen, room, round_length, begun_within, kept_unnamed, unnamed, within_limit, state, still, leaves}
use Rattle.csn_judge.proofs.TurningParts.{next_there, none_there, sees_more}

module _ (d : DescV) where
  -- a truncation has components
  has_components : {seen : List ℕ} {round k : ℕ} (parts : List ℕ) → slice_get d.nodes k ≡ Some (Trunc parts) → Formed d.nodes seen round k → 1 ≤ length parts
  has_components parts at is = parts_there d.nodes at is

  pub data TruncStands (k next count : ℕ) (frames : List Frame) (values : List Number) (stack : List Left) (done : List ℕ) : Type 0 where
    stands_cut :
        (outer : List Left) (parts : List ℕ) (v : Values) → stack ≡ cut_left parts v ∷ outer
        → slice_get d.nodes k ≡ Some (Trunc parts) → next ≡ 0 → v ≡ seen_in outer → values ≡ numbers_of d v → count ≡ length values
        → Round d frames outer k → TruncStands k next count frames values stack done
    stands_lead :
        (outer : List Left) (i from : ℕ) (after : List ℕ) (v : Values) (parts : List ℕ) → stack ≡ lead_left i from after v ∷ outer
        → HasNext d (Trunc parts) parts k next count i after v outer → values ≡ numbers_of d (behind d i from v done)
        → Round d frames outer k → TruncStands k next count frames values stack done

  pub trunc_stands : {k next count : ℕ} {frames : List Frame} {values : List Number} {stack : List Left} {done : List ℕ}
      → Shows d (frame.Trunc k next count ∷ frames) values stack done → TruncStands k next count frames values stack done
  trunc_stands (shows_cut at seen kept count_is round) = stands_cut _ _ _ refl at refl seen kept count_is round
  trunc_stands (shows_lead parts has kept round) = stands_lead _ _ _ _ _ parts refl has kept round

  -- it is a truncation
  pub trunc_at : {k next count : ℕ} {frames : List Frame} {values : List Number} {stack : List Left} {done : List ℕ}
      → Shows d (frame.Trunc k next count ∷ frames) values stack done → (parts : List ℕ) × (slice_get d.nodes k ≡ Some (Trunc parts))
  trunc_at (shows_cut at seen kept count_is round) = (_, at)
  trunc_at (shows_lead parts has kept round) = (parts, has.at)

  -- ---- components begin

  pub first_stack : {j : ℕ} {ps : List ℕ} {v : Values} {outer : List Left} {done : List ℕ} (pace : Pace) → Known d
      → IsStack d pace.next (fresh_at pace (length done)) (cut_left (j ∷ ps) v ∷ outer) done
      → IsStack d (begun_by j pace).next (fresh_at (begun_by j pace) (length done)) (all_left j v ∷ lead_left j (length done) ps v ∷ outer) done
  first_stack {j} {ps} {v} {outer} {done} pace known (stack_node k from w bits ready (of_cut at same place just) inner) =
      let begun = begun_of d {next = suc k} (stack_node k from w bits ready (of_all same place refl) inner) in
      let first = first_next d 12 known.description known.certified at refl in
      risen d pace (omega (arith, just, first)) (of_begun d (component_begun d 12 known.description known.certified at begun))

  pub later_stack : {i from j : ℕ} {ps : List ℕ} {v : Values} {outer : List Left} {done : List ℕ} (pace : Pace) → Known d
      → IsStack d pace.next (fresh_at pace (length done)) (lead_left i from (j ∷ ps) v ∷ outer) done
      → IsStack d (begun_by j pace).next (fresh_at (begun_by j pace) (length done))
      (all_left j (behind d i from v done) ∷ lead_left j (length done) ps (behind d i from v done) ∷ outer) done
  later_stack {ps = ps} pace known (stack_node k start v0 bits ready (of_lead parts before at parted so_far order fits well read up) inner) =
      risen d pace (later_rises d 12 known.description known.certified k ps before at parted up)
      (of_begun d (next_component_begun d 12 known.description known.certified parts before at parted so_far order fits well read bits ready inner))

  -- a bit is at hand
  pub first_hand : {next : ℕ} {fresh : Option ℕ} {parts : List ℕ} {v : Values} {outer : List Left} {done : List ℕ}
      → IsStack d next fresh (cut_left parts v ∷ outer) done → Within outer (suc (length done))
      → (k start : ℕ) × (v0 : Values) × AtHand d k start parts [] parts v0 outer done
  first_hand {done = done} (stack_node k from w bits ready (of_cut at same place just) inner) within = (
    k,
    from,
    w,
    record {
      at = at;
      split = refl;
      so_far = parts_end (ap (λ n. n % 8) (sym place));
      ready =
          ready;
      fresh = _;
      inner = inner;
      within = within;
    },
  )

  pub later_hand : {next : ℕ} {fresh : Option ℕ} {i from : ℕ} {after : List ℕ} {v : Values} {outer : List Left} {done : List ℕ}
      → IsStack d next fresh (lead_left i from after v ∷ outer) done → Within outer (suc (length done))
      → (k start : ℕ) × (parts before : List ℕ) × (v0 : Values) × AtHand d k start parts before after v0 outer done
  later_hand {i = i} {after = after} {done = done}
      (stack_node k start v0 bits ready (of_lead parts before at parted so_far order fits well read up) inner)
      within = (
        k,
        start,
        parts,
        before ++ i ∷ [],
        v0,
        record {
          at = at;
          split =
              parted ∙ sym (append_assoc before (i ∷ []) after);
          so_far = parts_end_more d so_far read.ends;
          ready =
              ready;
          fresh = _;
          inner = inner;
          within = within;
        },
      )

  -- ---- it is left

  pub cut_done : {next : ℕ} {fresh : Option ℕ} {parts : List ℕ} {v : Values} {outer : List Left} {done : List ℕ} → Known d
      → IsStack d next fresh (cut_left parts v ∷ outer) done → IsStack d next fresh (none_left ∷ outer) done
  cut_done {next} {parts = parts} {done = done} known (stack_node k from w bits ready (of_cut at same place just) inner) =
      stack_node k from w bits ready
      (of_read (truncation_read d 12 known.description known.certified parts [] parts at refl
      (parts_end (ap (λ n. n % 8) (sym place))) (omega (arith, place)))
      (λ end span. omega (arith, just, up_here d k end span))) inner

  pub lead_done : {next : ℕ} {fresh : Option ℕ} {i from : ℕ} {after : List ℕ} {v : Values} {outer : List Left} {done : List ℕ} → Known d
      → IsStack d next fresh (lead_left i from after v ∷ outer) done → IsStack d next fresh (none_left ∷ outer) done
  lead_done {i = i} {after = after} known (stack_node k start v0 bits ready (of_lead parts before at parted so_far order fits well read up) inner) =
      stack_node k start v0 bits ready
      (of_read (truncation_read d 12 known.description known.certified parts (before ++ i ∷ []) after at
      (parted ∙ sym (append_assoc before (i ∷ []) after)) (parts_end_more d so_far read.ends)
      (omega (arith, order, read.order)))
      (up_part d before i after at parted up)) inner

  module _ {S : Type 0} (takes : S → Move → Node → S → Type 0) (before : S) (values : List Number) (pace : Pace) (coming : Coming) where
    on_bits : {old new : List Left} {done : List ℕ} (bits : List ℕ) (bit : ℕ) (more : List ℕ)
        → bits ≡ bit ∷ more → Steps d old new done [] (bit ∷ more) [] → Steps d old new done [] bits []
    on_bits {old} {new} {done} bits bit more e steps =
        let P : List ℕ → Type 0 = λ l. Steps d old new done [] l [] in
        subst P (sym e) steps

    -- the next component begins
    pub begins_component :
        {k next count j : ℕ} {frames : List Frame} {stack : List Left} {done : List ℕ} (parts : List ℕ) (bit : ℕ) (more : List ℕ)
        → slice_get d.nodes k ≡ Some (Trunc parts) → slice_get parts next ≡ Some j
        → coming.bits ≡ bit ∷ more → coming.place < coming.limit
        → Known d → Stands d (state d takes before values pace coming (frame.Trunc k next count ∷ frames)) stack done
        → GoesOn d takes (state d takes before values pace coming (frame.Trunc k next count ∷ frames))
        (record {
          frames = frame.Begin j ∷ frame.Trunc k (next + 1) count ∷ frames;
          values = values;
          pace =
              begun_by j pace;
          coming = coming;
        }) before before stack done
    begins_component {k} {next} {count} {j} {frames} {stack} {done} parts bit more at here e less known stands = by (trunc_stands stands.shows)
      where
        P : List Left → Type 0
        P l = GoesOn d takes (state d takes before values pace coming (frame.Trunc k next count ∷ frames))
            (record {
              frames = frame.Begin j ∷ frame.Trunc k (next + 1) count ∷ frames;
              values = values;
              pace =
                  begun_by j pace;
              coming = coming;
            }) before before l done

        at_hand : (outer : List Left) → coming.limit ≡ limit_in outer → Within outer (suc (length done))
        at_hand outer limit = within_limit d outer (suc (length done)) (omega (arith, less, limit, stands.place))

        some : 0 < length coming.bits
        some = omega (arith, ap (λ l. length l) e)

        empty_of : {next : ℕ} {fresh : Option ℕ} {v : Values} {outer : List Left}
            → IsStack d next fresh (all_left j v ∷ outer) done → NFollow d j (length done) v []
        empty_of {v = v} is = node_empty d (moving d known) known.empties (length done) v (begun_of d is).ready.formed

        first : (all : List ℕ) → slice_get all 0 ≡ Some j → (ps : List ℕ) × (all ≡ j ∷ ps)
        first [] is = absurd (cc)
        first (i ∷ ps) is = let same : i ≡ j = cc in (ps, ap (λ n. n ∷ ps) same)

        by : TruncStands k next count frames values stack done → P stack
        by (stands_cut outer others v is at_k none seen kept count_is round) =
            let same : parts ≡ others = cc in
            let found = first others (ap (λ n. slice_get others n) (sym none) ∙ ap (λ l. slice_get l next) (sym same) ∙ here) in
            let there : stack ≡ cut_left (j ∷ found.0) v ∷ outer = is ∙ ap (λ l. cut_left l v ∷ outer) found.1 in
            let stack_is = subst (λ (l : List Left). IsStack d pace.next (fresh_at pace (length done)) l done) there stands.stack_is in
            let limit = stands.limit ∙ ap (λ (l : List Left). limit_in l) there in
            let now = first_stack pace known stack_is in
            let hand = first_hand stack_is (at_hand outer limit) in
            let later : HasNext d (Trunc others) others k (next + 1) count j found.0 v outer = record {
              at = at_k;
              before = [];
              is = found.1;
              next_is = omega (arith, none);
              more = record {
                count_is = count_is ∙ ap (λ l. length l) (kept ∙ ap (λ w. numbers_of d w) seen);
                same =
                    ap (λ n. take n (numbers_of d v)) (count_is ∙ ap (λ l. length l) kept)
                    ∙ take_all (length (numbers_of d v)) (numbers_of d v) (omega arith)
                    ∙ ap (λ w. numbers_of d w) seen;
              };
            } in
            subst P (sym there)
            (still d takes before values pace coming (begun_by j pace) stands.place (shows_begin refl kept (round_trunc others later round))
            now limit
            (inr (some, at_hand outer limit), subst (λ (l : List Left). AreOwed l done coming.bits) there stands.owed)
            (passes_of coming.ended
            (on_bits coming.bits bit more e (first_component d 12 known.description known.certified
            (moving d known) known j found.0 v bit more hand.3 (empty_of now))))
            (tells_none refl refl))
        by (stands_lead outer i from after v others is has kept round) =
            let same : parts ≡ others = let a = has.at in cc in
            let found = next_there has.before after i j (ap (λ n. slice_get (has.before ++ i ∷ after) n)
            (sym has.next_is) ∙ ap (λ l. slice_get l next) (sym has.is) ∙ ap (λ l. slice_get l next) (sym same)
            ∙ here) in
            let w : Values = behind d i from v done in
            let there : stack ≡ lead_left i from (j ∷ found.0) v ∷ outer = is ∙ ap (λ l. lead_left i from l v ∷ outer) found.1 in
            let stack_is = subst (λ (l : List Left). IsStack d pace.next (fresh_at pace (length done)) l done) there stands.stack_is in
            let limit = stands.limit ∙ ap (λ (l : List Left). limit_in l) there in
            let now = later_stack pace known stack_is in
            let hand = later_hand stack_is (at_hand outer limit) in
            let owed = subst (λ (l : List Left). AreOwed l done coming.bits) there stands.owed in
            let later : HasNext d (Trunc others) others k (next + 1) count j found.0 w outer = record {
              at = has.at;
              before = has.before ++ i ∷ [];
              is = has.is ∙ ap (λ l. has.before ++ i ∷ l) found.1 ∙ sym (append_assoc has.before (i ∷ []) (j ∷ found.0));
              next_is = omega (arith, has.next_is, length-append has.before (i ∷ []));
              more = sees_more d i (drop from done) has.more;
            } in
            subst P (sym there)
            (still d takes before values pace coming (begun_by j pace) stands.place (shows_begin refl kept (round_trunc others later round))
            now limit
            (inr (some, at_hand outer limit), owed.1)
            (passes_of coming.ended
            (on_bits coming.bits bit more e (next_component d 12 known.description known.certified
            (moving d known) known i from j found.0 v bit more hand.5 (empty_of now))))
            (tells_none refl refl))

    -- behind the last component
    all_passes : {next : ℕ} {fresh : Option ℕ} {i from : ℕ} {v : Values} {outer : List Left} {done : List ℕ} → Known d
        → IsStack d next fresh (lead_left i from [] v ∷ outer) done → (from < length done) ⊎ ((0 < length coming.bits) × Within outer (suc (length done)))
        → Passes d coming.ended (lead_left i from [] v ∷ outer) (none_left ∷ outer) done [] coming.bits []
    all_passes {i = i} {from} {v} {outer} {done} known is (inl took) =
        passes_of coming.ended
        (replaced d coming.bits (none_taken d)
        (alike d (no_components d 12 known.description known.certified (moving d known)
        known i from v done took)))
    all_passes {i = i} {from} {v} {outer} {done} known is (inr owed) =
        let bit = first_of coming.bits owed.0 in
        let hand = later_hand is owed.1 in
        passes_of coming.ended
        (on_bits coming.bits bit.0 bit.1 bit.2 (none_behind d 12 known.description known.certified
        (moving d known) known i from v bit.0 bit.1 hand.5))

    -- it is left behind a component where it passes with no bits
    left_lead :
        {k next count i from : ℕ} {rest : List ℕ} {v : Values} {frames : List Frame} {after : S} {stack outer : List Left} {done : List ℕ} (parts : List ℕ)
        → slice_get d.nodes k ≡ Some (Trunc parts) → takes before Leave (Trunc parts) after
        → Known d → Stands d (state d takes before values pace coming (frame.Trunc k next count ∷ frames)) stack done
        → stack ≡ lead_left i from rest v ∷ outer → SeesMore d outer count v → values ≡ numbers_of d (behind d i from v done) → Round d frames outer k
        → (IsStack d pace.next (fresh_at pace (length done)) (lead_left i from rest v ∷ outer) done → coming.limit ≡ limit_in outer
        → (from < length done) ⊎ ((0 < length coming.bits) × Within outer (suc (length done)))
        → Passes d coming.ended (lead_left i from rest v ∷ outer) (none_left ∷ outer) done [] coming.bits [])
        → GoesOn d takes (state d takes before values pace coming (frame.Trunc k next count ∷ frames))
        (record { frames = frames; values = take count values; pace = pace; coming = coming })
        before after stack done
    left_lead {k} {next} {count} {i} {from} {frames = frames} {after = after} {done = done} parts at told known stands is sees kept round passes =
        let P : List Left → Type 0 =
        λ l. GoesOn d takes (state d takes before values pace coming (frame.Trunc k next count ∷ frames))
        (record { frames = frames; values = take count values; pace = pace; coming = coming })
        before after l done in
        let stack_is = subst (λ (l : List Left). IsStack d pace.next (fresh_at pace (length done)) l done) is stands.stack_is in
        let limit = stands.limit ∙ ap (λ (l : List Left). limit_in l) is in
        let owed = subst (λ (l : List Left). AreOwed l done coming.bits) is stands.owed in
        let more = sees_more d i (drop from done) sees in
        subst P (sym is)
        (leaves d takes before values pace coming (Trunc parts) known at told refl stands.place
        (lead_done known stack_is) round
        (ap (λ l. take count l) kept ∙ more.same ∙ sym (kept_unnamed d done round (unnamed d _ at refl)))
        limit owed.1
        (passes stack_is limit owed.0))

    -- it is left behind its last component, and where no bit may be taken
    pub ends_truncation :
        {k next count : ℕ} {frames : List Frame} {after : S} {stack : List Left} {done : List ℕ} (parts : List ℕ)
        → slice_get d.nodes k ≡ Some (Trunc parts) → takes before Leave (Trunc parts) after → IsGood coming
        → (coming.bits ≡ []) ⊎ (coming.place ≡ coming.limit) → (coming.ended ≡ true) ⊎ (coming.place ≡ coming.limit)
        → Known d → Stands d (state d takes before values pace coming (frame.Trunc k next count ∷ frames)) stack done
        → GoesOn d takes (state d takes before values pace coming (frame.Trunc k next count ∷ frames))
        (record { frames = frames; values = take count values; pace = pace; coming = coming })
        before after stack done
    ends_truncation {k} {next} {count} {frames} {after} {stack} {done} parts at told good unready closed known stands = by (trunc_stands stands.shows)
      where
        P : List Left → Type 0
        P l = GoesOn d takes (state d takes before values pace coming (frame.Trunc k next count ∷ frames))
            (record { frames = frames; values = take count values; pace = pace; coming = coming }) before after l done

        took_bit : (outer : List Left) (from : ℕ) → coming.limit ≡ limit_in outer → (from < length done)
            ⊎ ((0 < length coming.bits) × Within outer (suc (length done))) → from < length done
        took_bit outer from limit (inl took) = took
        took_bit outer from limit (inr owed) = none unready
          where
            none : (coming.bits ≡ []) ⊎ (coming.place ≡ coming.limit) → from < length done
            none (inl nothing) = absurd (omega (arith, owed.0, ap (λ l. length l) nothing))
            none (inr full) =
                absurd (omega (
                  arith,
                  limit,
                  full,
                  stands.place,
                  limit_within outer (suc (length done))
                      (omega (arith, limit, full, good.fits)) owed.1,
                ))

        by : TruncStands k next count frames values stack done → P stack
        by (stands_cut outer others v is at_k none seen kept count_is round) =
            let stack_is = subst (λ (l : List Left). IsStack d pace.next (fresh_at pace (length done)) l done) is stands.stack_is in
            let limit = stands.limit ∙ ap (λ (l : List Left). limit_in l) is in
            let all : take count values ≡ values = ap (λ n. take n values) count_is ∙ take_all (length values) values (omega arith) in
            subst P (sym is)
            (leaves d takes before values pace coming (Trunc parts) known at told refl stands.place
            (cut_done known stack_is) round
            (all ∙ kept ∙ ap (λ w. numbers_of d w) seen ∙ sym (kept_unnamed d done round (unnamed d _ at refl)))
            limit (subst (λ (l : List Left). AreOwed l done coming.bits) is stands.owed)
            (closed_passes d good closed stands.place limit (cut_ends d others v done)))
        by (stands_lead outer i from rest v others is has kept round) =
            left_lead parts at told known stands is has.more kept round
            (λ stack_is limit owed. closed_passes d good closed stands.place limit
            (lead_ends d i from rest v done (took_bit outer from limit owed)))

    pub ends_components :
        {k next count : ℕ} {frames : List Frame} {after : S} {stack : List Left} {done : List ℕ} (parts : List ℕ)
        → slice_get d.nodes k ≡ Some (Trunc parts) → takes before Leave (Trunc parts) after
        → next ≡ length parts
        → Known d → Stands d (state d takes before values pace coming (frame.Trunc k next count ∷ frames)) stack done
        → GoesOn d takes (state d takes before values pace coming (frame.Trunc k next count ∷ frames))
        (record { frames = frames; values = take count values; pace = pace; coming = coming })
        before after stack done
    ends_components {k} {next} {count} {frames} {after} {stack} {done} parts at told all known stands = by (trunc_stands stands.shows)
      where
        P : List Left → Type 0
        P l = GoesOn d takes (state d takes before values pace coming (frame.Trunc k next count ∷ frames))
            (record { frames = frames; values = take count values; pace = pace; coming = coming }) before after l done

        formed_at : {next : ℕ} {fresh : Option ℕ} {v : Values} {outer : List Left} (others : List ℕ)
            → IsStack d next fresh (cut_left others v ∷ outer) done → 1 ≤ length others
        formed_at others (stack_node k from w bits ready (of_cut at_k same place just) inner) = has_components others at_k ready.formed

        by : TruncStands k next count frames values stack done → P stack
        by (stands_cut outer others v is at_k none seen kept count_is round) =
            let stack_is = subst (λ (l : List Left). IsStack d pace.next (fresh_at pace (length done)) l done) is stands.stack_is in
            let same : parts ≡ others = cc in
            absurd (omega (arith, formed_at others stack_is, none, all, ap (λ l. length l) same))
        by (stands_lead outer i from rest v others is has kept round) =
            let same : parts ≡ others = let a = has.at in cc in
            let none = none_there has.before rest i (sym has.next_is ∙ all ∙ ap (λ l. length l) (same ∙ has.is)) in
            let there : stack ≡ lead_left i from [] v ∷ outer = is ∙ ap (λ l. lead_left i from l v ∷ outer) none in
            left_lead parts at told known stands there has.more kept round (λ stack_is limit owed. all_passes known stack_is owed)

    -- no place is behind the last component
    pub within_parts :
        {k next count : ℕ} {frames : List Frame} {stack : List Left} {done : List ℕ} (parts : List ℕ)
        → slice_get d.nodes k ≡ Some (Trunc parts)
        → Stands d (state d takes before values pace coming (frame.Trunc k next count ∷ frames)) stack done
        → next ≤ length parts
    within_parts {k} {next} {count} {frames} {stack} {done} parts at stands = by (trunc_stands stands.shows)
      where
        by : TruncStands k next count frames values stack done → next ≤ length parts
        by (stands_cut outer others v is at_k none seen kept count_is round) = omega (arith, none)
        by (stands_lead outer i from rest v others is has kept round) =
            let same : parts ≡ others = let a = has.at in cc in
            omega (arith, has.next_is, ap (λ l. length l) (same ∙ has.is), length-append has.before (i ∷ rest))

    pub leaves_truncation :
        {k next count : ℕ} {frames : List Frame} {after : S} {stack : List Left} {done : List ℕ} (parts : List ℕ)
        → slice_get d.nodes k ≡ Some (Trunc parts) → takes before Leave (Trunc parts) after → IsGood coming
        → (length parts ≤ next) ⊎ (((coming.bits ≡ []) ⊎ (coming.place ≡ coming.limit)) × ((coming.ended ≡ true) ⊎ (coming.place ≡ coming.limit)))
        → Known d → Stands d (state d takes before values pace coming (frame.Trunc k next count ∷ frames)) stack done
        → GoesOn d takes (state d takes before values pace coming (frame.Trunc k next count ∷ frames))
        (record { frames = frames; values = take count values; pace = pace; coming = coming })
        before after stack done
    leaves_truncation parts at told good (inl all) known stands = ends_components parts at told (omega (arith, all, within_parts parts at stands)) known stands
    leaves_truncation parts at told good (inr closed) known stands = ends_truncation parts at told good closed.0 closed.1 known stands

    -- the node of the component is one of the description, and there is room for its frame
    pub record ComponentBegins (j : ℕ) (frames : List Frame) : Type 0 where
      pub within : j < 16384
      pub room : length frames < 63

    pub component_begins :
        {k next count j : ℕ} {frames : List Frame} {stack : List Left} {done : List ℕ} (parts : List ℕ)
        → slice_get d.nodes k ≡ Some (Trunc parts) → slice_get parts next ≡ Some j → 0 < length coming.bits → coming.place < coming.limit
        → Known d → Stands d (state d takes before values pace coming (frame.Trunc k next count ∷ frames)) stack done
        → ComponentBegins j frames
    component_begins {k} {next} {count} {j} {frames} {stack} {done} parts at here some less known stands =
        let found = first_of coming.bits some in
        let on = begins_component parts found.0 found.1 at here found.2 less known stands in
        by on.stands.shows on.stands.stack_is
      where
        by : {w : List Number} {now : List Left} {then : List ℕ} → Shows d (frame.Begin j ∷ frame.Trunc k (next + 1) count ∷ frames) w now then
            → IsStack d (begun_by j pace).next (fresh_at (begun_by j pace) (length then)) now then → ComponentBegins j frames
        by (shows_begin seen kept round) is =
            record { within = omega (arith, begun_within d is, known.description.few); room = omega (arith, room d is, round_length d round) }
