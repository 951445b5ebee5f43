-- Turns of the frames of nodes with parts.
use Rattle.std.proofs.Common.{inr, ◌≡◌, ℕ, suc, ◌+◌, ◌<◌, ◌≤◌, ◌⊎◌, ◌||◌, nat_lt, Bool, true, false, if◌then◌else◌}
use Rattle.std.proofs.Common.{List, drop, [], ◌∷◌, ◌++◌, length, reverse, refl, sym, ◌∙◌, ap, subst, arith}
use Rattle.std.proofs.Common.{append-nil, Option, Some, None, slice_get}
use Rattle.std.proofs.lemmas.List.{reverse-append}
use Rattle.std.proofs.lemmas.Option.{slice_get_within}
use Rattle.std.proofs.lemmas.Bool.{ltb-true}
use Rattle.std.proofs.lemmas.List.{length-reverse}
use Rattle.csn_desc.specs.declared.moves.Move.{Move}
use Rattle.csn_desc.specs.declared.moves.Move.TheVariants.{Leave}
use Rattle.csn_desc.specs.declared.node.Node.{Node}
use Rattle.csn_desc.specs.Nodes.{DescV}
use Rattle.csn_desc.specs.Values.{Values, count_of}
use Rattle.csn_desc.specs.Formed.{Formed, formed}
use Rattle.csn_judge.specs.declared.frame.Frame.{Frame}
use Rattle.csn_judge.specs.declared.frame.Frame.TheVariants as frame
use Rattle.csn_certify.specs.declared.numbers.Number.{Number}
use Rattle.csn_judge.specs.declared.pace.Pace.{Pace}
use Rattle.csn_judge.specs.declared.turn.Turn.{Turn}
use Rattle.csn_judge.specs.declared.turn.Turn.TheVariants.{Moved, Waits, Refused}
use Rattle.csn_judge.specs.Known.{Known}
use Rattle.csn_judge.specs.Coming.{Coming}
use Rattle.csn_judge.specs.Told.{Tells, tells_none, tells_leave}
use Rattle.csn_desc.specs.Values.{is_named, is_labelled}
use Rattle.csn_desc.specs.Formed.{is_counted}
use Rattle.csn_judge.specs.Left.{Left, bits_left, symbols_left, spare_left, pad_left, rest_left, choice_left}
use Rattle.csn_judge.specs.Left.{free_left, cut_left, parts_left, lead_left, window_left, completes_window, all_left}
use Rattle.csn_judge.specs.Left.{none_left, turns_left}
use Rattle.csn_judge.specs.Remains.{Passes, Within, Goes, Rest, rest_next}
use Rattle.csn_judge.specs.Inside.{IsStack, stack_node, AreOwed, IsFresh, fresh_as, fresh_turn, of_all, of_turns, of_read, of_window}
use Rattle.csn_certify.specs.KeptNumbers.{numbers_of}
use Rattle.csn_judge.specs.Shown.{seen_in, seen_behind, limit_in, Round, Repeats, Cuts, round_none, round_choice}
use Rattle.csn_judge.specs.Shown.{round_named, round_window, round_seq, round_trunc, round_times, round_many, Shows}
use Rattle.csn_judge.specs.Shown.{shows_none, shows_begin, shows_turns, shows_free, shows_taken, shows_labelled}
use Rattle.csn_judge.specs.Shown.{shows_window, shows_parts, shows_lead, shows_leaf, shows_counted, shows_open}
use Rattle.csn_judge.specs.Shown.{shows_cut}
use Rattle.csn_judge.specs.Turns.{IsStopped, Turns, IsPassed, passed_choice, passed_label, fresh_at, begun_by, StateV, Stands, GoesOn, around_of, RefusesAt}
use Rattle.csn_judge.proofs.StepFacts.{steps_none, goes_along, goes_from, split, popped, replaced, none_taken, alike, steps_then}
use Rattle.csn_judge.proofs.Refusing.{window_stuck}
use Rattle.csn_judge.proofs.Parts.{Moving}
use Rattle.csn_judge.proofs.Choosing.{nothing_goes}
use Rattle.csn_judge.proofs.Closing.{passes_of, window_alike}
use Rattle.csn_judge.proofs.Stacks.{Begun, window_read, up_part, of_begun, turn_begun, IsNow, not_fresh, now_fresh, popped_stack, turns_read}
use Rattle.csn_judge.proofs.Wholes.{next_turn, no_turns}

-- one frame more
pub pushed : {A : Type 0} {others : List A} (items : List A) (top : A) → others ≡ items ++ top ∷ [] → reverse others ≡ top ∷ reverse items
pushed {A} items top put = ap (λ (l : List A). reverse l) put ∙ reverse-append items (top ∷ [])

module _ (d : DescV) where
  -- node i begins, or stands as it began
  pub record IsHere (pace : Pace) (coming : Coming) (i : ℕ) (v : Values) (outer : List Left) (done : List ℕ) : Type 0 where
    pub begun : Begun d (fresh_at pace (length done)) i v outer done
    pub just : pace.next ≡ suc i
    pub place : coming.place ≡ length done
    pub limit : coming.limit ≡ limit_in outer
    pub owed : AreOwed outer done coming.bits

  pub moving : Known d → Moving
  moving known = record { some = known.have_moves; one = known.one_list }

  -- fewer than 64 nodes are open round another
  pub room : {next : ℕ} {fresh : Option ℕ} {left : Left} {outer : List Left} {done : List ℕ} → IsStack d next fresh (left ∷ outer) done → length outer < 64
  room (stack_node i from v bits ready left inside) = few ready.formed
    where
      few : {seen : List ℕ} {round i : ℕ} → Formed d.nodes seen round i → round < 64
      few (formed n at small head parts counted later) = small

  -- a node that is not entered yet is one of the description
  pub begun_within : {next : ℕ} {fresh : Option ℕ} {i : ℕ} {v : Values} {outer : List Left} {done : List ℕ}
      → IsStack d next fresh (all_left i v ∷ outer) done → i < length d.nodes
  begun_within (stack_node k from w bits ready (of_all same place just) inside) = formed_within ready.formed
    where
      formed_within : {seen : List ℕ} {round j : ℕ} → Formed d.nodes seen round j → j < length d.nodes
      formed_within {j = j} (formed n at small head parts counted later) = slice_get_within d.nodes j n at

  -- there are as many frames
  pub round_length : {frames : List Frame} {outer : List Left} {i : ℕ} → Round d frames outer i → length frames ≡ length outer
  round_length (round_none first) = refl
  round_length (round_choice is round) = ap suc (round_length round)
  round_length (round_named is round) = ap suc (round_length round)
  round_length (round_window ends is round) = ap suc (round_length round)
  round_length (round_seq parts is round) = ap suc (round_length round)
  round_length (round_trunc parts is round) = ap suc (round_length round)
  round_length (round_times is round) = ap suc (round_length round)
  round_length (round_many is round) = ap suc (round_length round)

  -- and there is room for a frame that is put back
  pub frames_room : {next : ℕ} {fresh : Option ℕ} {top : Frame} {frames : List Frame} {values : List Number} {stack : List Left} {done : List ℕ}
      → Shows d (top ∷ frames) values stack done → IsStack d next fresh stack done → length frames < 64
  frames_room (shows_begin seen kept round) is = omega (arith, room is, round_length round)
  frames_room (shows_leaf shows kept round) is = omega (arith, room is, round_length round)
  frames_room (shows_counted label unit width from at field counts began number order sum some n kept round) is = omega (arith, room is, round_length round)
  frames_room (shows_open at seen kept round) is = omega (arith, room is, round_length round)
  frames_room (shows_cut at seen kept count round) is = omega (arith, room is, round_length round)
  frames_room (shows_lead parts has kept round) is = omega (arith, room is, round_length round)
  frames_room (shows_parts parts has kept round) is = omega (arith, room is, round_length round)
  frames_room (shows_turns is_of kept round) is = omega (arith, room is, round_length round)
  frames_room (shows_free is_of kept round) is = omega (arith, room is, round_length round)
  frames_room (shows_taken i is_of kept round) is = omega (arith, room is, round_length round)
  frames_room (shows_labelled i is_of kept round) is = omega (arith, room is, round_length round)
  frames_room (shows_window i ends is_of kept round) is = omega (arith, room is, round_length round)

  -- so there is for the frames as the machine holds them, the innermost last
  pub items_room : {next : ℕ} {fresh : Option ℕ} {top : Frame} {values : List Number} {stack : List Left} {done : List ℕ} (items : List Frame)
      → Shows d (top ∷ reverse items) values stack done → IsStack d next fresh stack done → length items < 64
  items_room items shows is = omega (arith, frames_room shows is, length-reverse items)

  -- behind a node the frames round it show what is left of theirs
  pub shown_behind : {frames : List Frame} {outer : List Left} {k : ℕ} {values : List Number} (done : List ℕ)
      → Round d frames outer k → values ≡ numbers_of d (seen_behind d outer done) → Shows d frames values outer done
  shown_behind done (round_none first) kept = shows_none kept
  shown_behind done (round_choice is round) kept = shows_taken _ is kept round
  shown_behind done (round_named is round) kept = shows_labelled _ is kept round
  shown_behind done (round_window ends is round) kept = shows_window _ ends is kept round
  shown_behind done (round_seq parts is round) kept = shows_parts parts is kept round
  shown_behind done (round_trunc parts is round) kept = shows_lead parts is kept round
  shown_behind done (round_times is round) kept = shows_turns is kept round
  shown_behind done (round_many is round) kept = shows_free is kept round

  -- behind a node that adds no value the same are kept
  kept_plain : {frames : List Frame} {outer : List Left} {k : ℕ} (done : List ℕ) → Round d frames outer k
      → ((b : List ℕ) (v : Values) → numbers_of d (if is_named d.nodes k then (k, b) ∷ v else v) ≡ numbers_of d v)
      → numbers_of d (seen_behind d outer done) ≡ numbers_of d (seen_in outer)
  kept_plain done (round_none first) plain = refl
  kept_plain done (round_choice is round) plain = refl
  kept_plain done (round_named is round) plain = refl
  kept_plain done (round_window ends is round) plain = refl
  kept_plain done (round_seq {from = from} {v = v} parts is round) plain = plain (drop from done) v
  kept_plain done (round_trunc {from = from} {v = v} parts is round) plain = plain (drop from done) v
  kept_plain done (round_times is round) plain = refl
  kept_plain done (round_many is round) plain = refl

  -- as one that no count stands on
  pub kept_behind : {frames : List Frame} {outer : List Left} {k : ℕ} (done : List ℕ)
      → Round d frames outer k → is_counted d.nodes k ≡ false → numbers_of d (seen_behind d outer done) ≡ numbers_of d (seen_in outer)
  kept_behind {k = k} done round alone = kept_plain done round (λ b v. by b v (is_named d.nodes k))
    where
      by : (b : List ℕ) (v : Values) (labelled : Bool) → numbers_of d (if labelled then (k, b) ∷ v else v) ≡ numbers_of d v
      by b v true = rw alone refl
      by b v false = refl

  -- and one that is no label
  pub unnamed : (k : ℕ) {node : Node} → slice_get d.nodes k ≡ Some node → is_labelled (Some node) ≡ false → is_named d.nodes k ≡ false
  unnamed k at plain = ap (λ n. is_labelled n) at ∙ plain

  pub kept_unnamed : {frames : List Frame} {outer : List Left} {k : ℕ} (done : List ℕ)
      → Round d frames outer k → is_named d.nodes k ≡ false → numbers_of d (seen_behind d outer done) ≡ numbers_of d (seen_in outer)
  kept_unnamed done round plain = kept_plain done round (λ b v. rw plain refl)

  -- ---- a repetition by number

  pub record TurnsStand (k i n : ℕ) (frames : List Frame) (values : List Number) (stack : List Left) : Type 0 where
    pub outer : List Left
    pub v : Values
    pub is : stack ≡ turns_left n i v ∷ outer
    pub repeats : Repeats d k i v outer
    pub kept : values ≡ numbers_of d v
    pub round : Round d frames outer k

  pub turns_stand : {k i n : ℕ} {frames : List Frame} {values : List Number} {stack : List Left} {done : List ℕ}
      → Shows d (frame.Times k i n ∷ frames) values stack done → TurnsStand k i n frames values stack
  turns_stand (shows_turns is kept round) = record { outer = _; v = _; is = refl; repeats = is; kept = kept; round = round }

  -- ---- how far the nodes have been gone through

  -- a node that begins goes back, or it is as it was
  pub begun_fresh : (i place : ℕ) (pace : Pace) → IsFresh d (fresh_at pace place) place (fresh_at (begun_by i pace) place)
  begun_fresh i place pace = by pace.again (nat_lt i pace.next)
    where
      by : (again back : Bool) → IsFresh d (if again then Some place else None) place (if again || back then Some place else None)
      by true back = fresh_as refl
      by false true = fresh_turn refl
      by false false = fresh_as refl

  -- as the code counts
  pub begun_again : {next : Pace} (pace : Pace) (i : ℕ) → next ≡ record { next = i + 1; again = pace.again || nat_lt i pace.next } → next ≡ begun_by i pace
  begun_again pace i e = let one : i + 1 ≡ suc i = omega arith in e ∙ ap (λ (k : ℕ). record { next = k; again = pace.again || nat_lt i pace.next }) one

  -- it is as it was where the number rises
  pub begun_rising : (i place : ℕ) (pace : Pace) → pace.next ≤ i → fresh_at (begun_by i pace) place ≡ fresh_at pace place
  begun_rising i place pace rises = by pace.again (nat_lt i pace.next) refl
    where
      by : (again back : Bool) → nat_lt i pace.next ≡ back → (if again || back then Some place else None) ≡ (if again then Some place else None)
      by true back e = refl
      by false true e = absurd (omega (arith, rises, ltb-true i pace.next e))
      by false false e = refl

  pub risen : {i : ℕ} {v : Values} {outer : List Left} {done : List ℕ} (pace : Pace) → pace.next ≤ i
      → IsStack d (suc i) (fresh_at pace (length done)) (all_left i v ∷ outer) done
      → IsStack d (begun_by i pace).next (fresh_at (begun_by i pace) (length done)) (all_left i v ∷ outer) done
  risen {i} {v} {outer} {done} pace rises is =
      let P : Option ℕ → Type 0 = λ f. IsStack d (suc i) f (all_left i v ∷ outer) done in
      subst P (sym (begun_rising i (length done) pace rises)) is

  pub fresh_now : (known : Known d) (pace : Pace) (done : List ℕ) → IsNow d 12 known.description known.certified (fresh_at pace (length done)) done
  fresh_now known pace done = by pace.again
    where
      by : (again : Bool) → IsNow d 12 known.description known.certified (if again then Some (length done) else None) done
      by true = now_fresh refl
      by false = not_fresh refl

  -- a turn of it begins
  pub turn_stack : {n i : ℕ} {v : Values} {outer : List Left} {done : List ℕ} (pace : Pace) → Known d
      → IsStack d pace.next (fresh_at pace (length done)) (turns_left (suc n) i v ∷ outer) done
      → IsStack d (begun_by i pace).next (fresh_at (begun_by i pace) (length done)) (all_left i v ∷ turns_left n i v ∷ outer) done
  turn_stack {n} {i} {outer = outer} {done = done} pace known
      (stack_node k from w bits ready (of_turns {count = count} at same turn order none up turned) inside) =
      let P : Values → Type 0 = λ u. IsStack d (begun_by i pace).next (fresh_at (begun_by i pace) (length done))
      (all_left i u ∷ turns_left n i u ∷ outer) done in
      subst P (sym same)
      (of_begun d (turn_begun d 12 known.description known.certified _ (begun_fresh i (length done) pace)
      at turn order (λ e. ap (λ u. count_of u count) (sym same) ∙ none e) bits ready inside))

  -- the node round one of which nothing is left
  pub left_stack : {outer : List Left} {done : List ℕ} (pace : Pace) → Known d
      → IsStack d pace.next (fresh_at pace (length done)) (none_left ∷ outer) done → IsStack d pace.next (fresh_at pace (length done)) outer done
  left_stack {done = done} pace known (stack_node i from v bits ready (of_read read up) inside) =
      popped_stack d 12 known.description known.certified inside (fresh_now known pace done) read up bits

  -- ---- a choice or a label behind its part

  pub record TakenStand (k : ℕ) (frames : List Frame) (values : List Number) (stack : List Left) : Type 0 where
    pub outer : List Left
    pub is : stack ≡ none_left ∷ outer
    pub kept : values ≡ numbers_of d (seen_in outer)
    pub plain : (done : List ℕ) → numbers_of d (seen_behind d outer done) ≡ numbers_of d (seen_in outer)
    pub round : Round d frames outer k

  pub taken_stand : {k : ℕ} {frames : List Frame} {values : List Number} {stack : List Left} {done : List ℕ}
      → Shows d (frame.Choice k ∷ frames) values stack done → TakenStand k frames values stack
  taken_stand (shows_taken i is kept round) =
      record { outer = _; is = refl; kept = kept; plain = λ done. kept_unnamed done round (unnamed _ is.at refl); round = round }

  pub labelled_stand : {k : ℕ} {frames : List Frame} {values : List Number} {stack : List Left} {done : List ℕ}
      → Shows d (frame.Named k ∷ frames) values stack done → TakenStand k frames values stack
  labelled_stand (shows_labelled i is kept round) =
      record { outer = _; is = refl; kept = kept; plain = λ done. kept_behind done round is.alone; round = round }

  -- ---- a window behind its part

  pub record WindowStands (k start bits limit : ℕ) (frames : List Frame) (values : List Number) (stack : List Left) : Type 0 where
    pub outer : List Left
    pub is : stack ≡ window_left (start + bits) ∷ outer
    pub kept : values ≡ numbers_of d (seen_in outer)
    pub i : ℕ
    pub cuts : Cuts d k i limit outer
    pub round : Round d frames outer k

  pub window_stands : {k start bits limit : ℕ} {frames : List Frame} {values : List Number} {stack : List Left} {done : List ℕ}
      → Shows d (frame.Window k start bits limit ∷ frames) values stack done → WindowStands k start bits limit frames values stack
  window_stands (shows_window {outer = outer} i ends is kept round) =
      record {
        outer = outer;
        is = ap (λ (e : ℕ). window_left e ∷ outer) ends;
        kept = kept;
        i = i;
        cuts = is;
        round =
            round;
      }

  -- where it has its bits
  pub window_done : {next : ℕ} {fresh : Option ℕ} {end : ℕ} {outer : List Left} {done : List ℕ} → Known d → length done ≡ end
      → IsStack d next fresh (window_left end ∷ outer) done → IsStack d next fresh (none_left ∷ outer) done
  window_done known full (stack_node k from w bits ready (of_window n at counts is read up) inside) =
      stack_node k from w bits ready
      (of_read (window_read d 12 known.description known.certified at counts (sym (full ∙ is)) ready.widths read)
      (up_part d [] _ [] at refl up)) inside

  -- a place that is not behind the limit is not behind the end of a window
  pub within_limit : (stack : List Left) (place : ℕ) → place ≤ limit_in stack → Within stack place
  within_limit [] place h = tt
  within_limit (window_left end ∷ outer) place h = (omega (arith, h), within_limit outer place (omega (arith, h)))
  within_limit (all_left i v ∷ outer) place h = (tt, within_limit outer place h)
  within_limit (bits_left n ∷ outer) place h = (tt, within_limit outer place h)
  within_limit (symbols_left run ∷ outer) place h = (tt, within_limit outer place h)
  within_limit (spare_left symbol ∷ outer) place h = (tt, within_limit outer place h)
  within_limit (pad_left begun ∷ outer) place h = (tt, within_limit outer place h)
  within_limit (rest_left ∷ outer) place h = (tt, within_limit outer place h)
  within_limit (choice_left parts v ∷ outer) place h = (tt, within_limit outer place h)
  within_limit (none_left ∷ outer) place h = (tt, within_limit outer place h)
  within_limit (parts_left i from after v ∷ outer) place h = (tt, within_limit outer place h)
  within_limit (turns_left n i v ∷ outer) place h = (tt, within_limit outer place h)
  within_limit (free_left i v ∷ outer) place h = (tt, within_limit outer place h)
  within_limit (cut_left parts v ∷ outer) place h = (tt, within_limit outer place h)
  within_limit (lead_left i from after v ∷ outer) place h = (tt, within_limit outer place h)

  -- two steps that take no bits, of which the first makes no moves
  pub passes_then : {ended : Bool} {old middle new : List Left} {done ahead : List ℕ} {made : List Move}
      → Passes d ended old middle done [] ahead [] → Passes d ended middle new done [] ahead made
      → Passes d ended old new done [] ahead made
  passes_then {ended} {middle = middle} {new} {done} {ahead} {made} first second =
      let P : List ℕ → Type 0 = λ l. Passes d ended middle new l [] ahead made in
      steps_then d [] [] first (subst P (sym (append-nil done)) second)

  -- where no turn is left
  pub turns_done : {next : ℕ} {fresh : Option ℕ} → Known d → {i : ℕ} {v : Values} {outer : List Left} {done : List ℕ}
      → IsStack d next fresh (turns_left 0 i v ∷ outer) done → IsStack d next fresh (none_left ∷ outer) done
  turns_done known (stack_node k from w bits ready (of_turns at same turn order none up turned) inside) =
      stack_node k from w bits ready (of_read (turns_read d 12 known.description known.certified at turn order _ none) (up_part d [] _ [] at refl up)) inside

  -- a state stays as it is
  abbrev pub stays_as : {S : Type 0} (takes : S → Move → Node → S → Type 0) (s : S) (state : StateV) {stack : List Left} {done : List ℕ}
      → Stands d state stack done → GoesOn d takes state state s s stack done
  stays_as takes s state {stack} {done} stands =
      record {
        now = stack;
        taken = [];
        made = [];
        stands = subst (λ (l : List ℕ). Stands d state stack l) (sym (append-nil done)) stands;
        bits = refl;
        ended = refl;
        steps = passes_of state.coming.ended (steps_none d stack done state.coming.bits);
        tells = tells_none refl refl;
      }

  module _ {S : Type 0} (takes : S → Move → Node → S → Type 0) (before : S) (values : List Number) (pace : Pace) (coming : Coming) where
    abbrev pub state : List Frame → StateV
    state frames = record { frames = frames; values = values; pace = pace; coming = coming }

    -- no bits are taken, and the innermost window may end elsewhere
    pub still_until :
        {frames others : List Frame} {more : List Number} {after : S} {stack now : List Left} {done : List ℕ} {made : List Move} (next : Pace) (later : Coming)
        → later.bits ≡ coming.bits → later.ended ≡ coming.ended
        → later.place ≡ length done → Shows d others more now done → IsStack d next.next (fresh_at next (length done)) now done → later.limit ≡ limit_in now
        → AreOwed now done later.bits → Passes d coming.ended stack now done [] later.bits made
        → Tells d takes (around_of frames) made (around_of others) before after
        → GoesOn d takes (state frames) (record { frames = others; values = more; pace = next; coming = later }) before after stack done
    still_until {others = others} {more = more} {now = now} {done = done} next later bits ended place shows is limit owed passes told =
        let same : done ++ [] ≡ done = append-nil done in
        record {
          now = now;
          taken = [];
          made = _;
          stands =
              subst (λ (l : List ℕ). Stands d (record { frames = others; values = more; pace = next; coming = later }) now l) (sym same)
              (record { shows = shows; stack_is = is; place = place; limit = limit; owed = owed });
          bits = sym bits;
          ended = ended;
          steps = passes;
          tells = told;
        }

    -- the same where it ends there too
    pub still :
        {frames others : List Frame} {more : List Number} {after : S} {stack now : List Left} {done : List ℕ} {made : List Move} (next : Pace)
        → coming.place ≡ length done → Shows d others more now done → IsStack d next.next (fresh_at next (length done)) now done → coming.limit ≡ limit_in now
        → AreOwed now done coming.bits → Passes d coming.ended stack now done [] coming.bits made
        → Tells d takes (around_of frames) made (around_of others) before after
        → GoesOn d takes (state frames) (record { frames = others; values = more; pace = next; coming = coming }) before after stack done
    still next place shows is limit owed passes told = still_until next coming refl refl place shows is limit owed passes told

    -- the bits that come can be followed up to a place and no further, and no move is made
    pub refuses_behind :
        {frames : List Frame} {stack : List Left} {done : List ℕ} {place : ℕ} (new : StateV) (alike : List ℕ) (bit : ℕ) (later : List ℕ)
        → Stands d (state frames) stack done → coming.bits ≡ alike ++ bit ∷ later → place ≡ coming.place + length alike
        → Goes d stack done alike → ¬ Goes d stack done (alike ++ bit ∷ [])
        → RefusesAt d takes (state frames) new before before stack done place
    refuses_behind new alike bit later stands bits there followed no_further =
        record {
          made = [];
          around = _;
          alike = alike;
          bit = bit;
          later = later;
          bits = bits;
          place_is = there ∙ ap (λ k. k + length alike) stands.place;
          followed = followed;
          no_further = no_further;
          tells = tells_none refl refl;
        }

    -- what is open takes no bit here: it stays as it is
    pub stops :
        (frames : List Frame) (turn : Turn) → IsStopped coming turn → Known d
        → ((stack : List Left) (done : List ℕ) → Stands d (state frames) stack done → (bit : ℕ) (rest : List ℕ)
        → coming.bits ≡ bit ∷ rest → ¬ Goes d stack done (bit ∷ []))
        → ((stack : List Left) (done : List ℕ) → Stands d (state frames) stack done → coming.ended ≡ true
        → (frames ≡ []) ⊎ ((rest : List Move) → ¬ Rest d stack done [] rest))
        → Turns d takes (state frames) (state frames) before before turn
    stops frames Moved stopped known stuck over = absurd stopped
    stops frames Waits (none, held, inside) known stuck over = λ stack done stands.
        let within = within_limit stack (length done) (rw (← stands.place, ← stands.limit) inside) in
        let same : done ≡ done ++ [] = sym (append-nil done) in
        let P : List ℕ → Type 0 = λ l. (frames ≡ []) ⊎ ((rest : List Move) → ¬ Rest d stack l [] rest) in
        record {
          on = stays_as takes before (state frames) stands;
          few = omega (arith, ap (λ (l : List ℕ). length l) none);
          held = omega (arith, held, ap (λ (l : List ℕ). length l) none);
          followed = λ going. goes_from d same (goes_along d (sym none) (nothing_goes d (moving known) known.empties stands.stack_is within));
          held_ends = λ some. absurd (omega (arith, some, ap (λ (l : List ℕ). length l) none));
          over = λ ended. subst P same (over stack done stands ended);
        }
    stops frames (Refused place) (bit, rest, is, here, inside) known stuck over = λ stack done stands.
        let within = within_limit stack (length done) (rw (← stands.place, ← stands.limit) inside) in
        refuses_behind (state frames) [] bit rest stands is (omega (arith, here))
        (nothing_goes d (moving known) known.empties stands.stack_is within) (stuck stack done stands bit rest is)

    -- frames and values that are the same go on in the same way
    pub GoesOn-along :
        {old : StateV} {frames others : List Frame} {kept more : List Number} {first second : Pace} {after : S} {stack : List Left} {done : List ℕ}
        → frames ≡ others → kept ≡ more → first ≡ second
        → GoesOn d takes old (record { frames = others; values = more; pace = second; coming = coming }) before after stack done
        → GoesOn d takes old (record { frames = frames; values = kept; pace = first; coming = coming }) before after stack done
    GoesOn-along {old} {frames} {others} {kept} {more} {first} {second} {after} {stack} {done} e f g on =
        let P : List Frame → Type 0 = λ l. GoesOn d takes old (record { frames = l; values = more; pace = second; coming = coming }) before after stack done in
        let Q : List Number → Type 0 =
        λ l. GoesOn d takes old (record { frames = frames; values = l; pace = second; coming = coming })
        before after stack done in
        let R : Pace → Type 0 = λ l. GoesOn d takes old (record { frames = frames; values = kept; pace = l; coming = coming }) before after stack done in
        subst R (sym g) (subst Q (sym f) (subst P (sym e) on))

    -- a frame that was put back
    pub stays :
        {frames others : List Frame} (turn : Turn) (old : StateV) (after : S)
        → frames ≡ others → Turns d takes old (state others) before after turn → Turns d takes old (state frames) before after turn
    stays turn old after e turns =
        let P : List Frame → Type 0 = λ l. Turns d takes old (state l) before after turn in
        subst P (sym e) turns

    -- a node is left of which nothing is left, where the innermost window may end
    pub leaves_until :
        {top : Frame} {frames : List Frame} {more : List Number} {after : S} {stack outer : List Left} {done : List ℕ} {k : ℕ} (later : Coming)
        → later.bits ≡ coming.bits → later.ended ≡ coming.ended
        → (node : Node) → Known d → slice_get d.nodes k ≡ Some node → takes before Leave node after
        → around_of (top ∷ frames) ≡ k ∷ around_of frames → later.place ≡ length done
        → IsStack d pace.next (fresh_at pace (length done)) (none_left ∷ outer) done → Round d frames outer k → more ≡ numbers_of d (seen_behind d outer done)
        → later.limit ≡ limit_in outer → AreOwed outer done later.bits
        → Passes d coming.ended stack (none_left ∷ outer) done [] later.bits []
        → GoesOn d takes (state (top ∷ frames)) (record { frames = frames; values = more; pace = pace; coming = later }) before after stack done
    leaves_until {frames = frames} {outer = outer} {done = done} later bits ended node known at told around place is round kept limit owed passes =
        still_until pace later bits ended place (shown_behind done round kept) (left_stack pace known is) limit owed
        (passes_then passes (passes_of coming.ended (popped d later.bits (nothing_goes d (moving known) known.empties (left_stack pace known is)))))
        (rw around (tells_leave node _ at told (tells_none refl refl)))

    -- a node is left of which nothing is left
    pub leaves :
        {top : Frame} {frames : List Frame} {more : List Number} {after : S} {stack outer : List Left} {done : List ℕ} {k : ℕ}
        (node : Node) → Known d → slice_get d.nodes k ≡ Some node → takes before Leave node after
        → around_of (top ∷ frames) ≡ k ∷ around_of frames → coming.place ≡ length done
        → IsStack d pace.next (fresh_at pace (length done)) (none_left ∷ outer) done → Round d frames outer k → more ≡ numbers_of d (seen_behind d outer done)
        → coming.limit ≡ limit_in outer → AreOwed outer done coming.bits
        → Passes d coming.ended stack (none_left ∷ outer) done [] coming.bits []
        → GoesOn d takes (state (top ∷ frames)) (record { frames = frames; values = more; pace = pace; coming = coming }) before after stack done
    leaves node known at told around place is round kept limit owed passes =
        leaves_until coming refl refl node known at told around place is round kept limit owed passes

    -- a turn of a repetition begins
    pub begins_turn :
        {k i m n : ℕ} {frames : List Frame} {stack : List Left} {done : List ℕ}
        → m ≡ suc n → Known d → Stands d (state (frame.Times k i m ∷ frames)) stack done
        → GoesOn d takes (state (frame.Times k i m ∷ frames))
        (record {
          frames = frame.Begin i ∷ frame.Times k i n ∷ frames;
          values = values;
          pace =
              begun_by i pace;
          coming = coming;
        }) before before stack done
    begins_turn {k} {i} {m} {n} {frames} {stack} {done} some known stands =
        let t = turns_stand stands.shows in
        let P : List Left → Type 0 = λ l. GoesOn d takes (state (frame.Times k i m ∷ frames))
        (record {
          frames = frame.Begin i ∷ frame.Times k i n ∷ frames;
          values = values;
          pace =
              begun_by i pace;
          coming = coming;
        }) before before l done in
        let is : stack ≡ turns_left (suc n) i t.v ∷ t.outer = t.is ∙ ap (λ j. turns_left j i t.v ∷ t.outer) some in
        subst P (sym is)
        (still (begun_by i pace) stands.place (shows_begin refl t.kept (round_times t.repeats t.round))
        (turn_stack pace known (subst (λ (l : List Left). IsStack d pace.next (fresh_at pace (length done)) l done) is stands.stack_is))
        (stands.limit ∙ ap (λ (l : List Left). limit_in l) is)
        (subst (λ (l : List Left). AreOwed l done coming.bits) is stands.owed)
        (passes_of coming.ended (split d t.outer coming.bits (next_turn d (moving known) n i t.v done)))
        (tells_none refl refl))

    -- and it is left behind the last
    pub ends_turns :
        {k i m : ℕ} {frames : List Frame} {after : S} {stack : List Left} {done : List ℕ}
        (node : Node) → m ≡ 0 → Known d → Stands d (state (frame.Times k i m ∷ frames)) stack done
        → slice_get d.nodes k ≡ Some node → takes before Leave node after
        → GoesOn d takes (state (frame.Times k i m ∷ frames)) (state frames) before after stack done
    ends_turns {k} {i} {m} {frames} {after} {stack} {done} node none known stands at told =
        let t = turns_stand stands.shows in
        let P : List Left → Type 0 = λ l. GoesOn d takes (state (frame.Times k i m ∷ frames)) (state frames) before after l done in
        let is : stack ≡ turns_left 0 i t.v ∷ t.outer = t.is ∙ ap (λ j. turns_left j i t.v ∷ t.outer) none in
        subst P (sym is)
        (leaves node known at told refl stands.place
        (turns_done known (subst (λ (l : List Left). IsStack d pace.next (fresh_at pace (length done)) l done)
        is stands.stack_is)) t.round
        (t.kept ∙ ap (λ v. numbers_of d v) t.repeats.seen ∙ sym (kept_unnamed done t.round (unnamed _ t.repeats.at refl)))
        (stands.limit ∙ ap (λ (l : List Left). limit_in l) is)
        (subst (λ (l : List Left). AreOwed l done coming.bits) is stands.owed)
        (passes_of coming.ended (replaced d coming.bits (none_taken d) (alike d (no_turns d (moving known) i t.v done)))))

    leaves_taken :
        {top : Frame} {k i : ℕ} {frames : List Frame} {after : S} {stack : List Left} {done : List ℕ}
        (node : Node) → TakenStand k frames values stack → k ≡ i → around_of (top ∷ frames) ≡ k ∷ around_of frames
        → Known d → Stands d (state (top ∷ frames)) stack done
        → slice_get d.nodes i ≡ Some node → takes before Leave node after
        → GoesOn d takes (state (top ∷ frames)) (state frames) before after stack done
    leaves_taken {top} {frames = frames} {after} {stack} {done} node t same around known stands at told =
        let P : List Left → Type 0 = λ l. GoesOn d takes (state (top ∷ frames)) (state frames) before after l done in
        subst P (sym t.is)
        (leaves node known at told (around ∙ ap (λ j. j ∷ around_of frames) same) stands.place
        (subst (λ (l : List Left). IsStack d pace.next (fresh_at pace (length done)) l done) t.is stands.stack_is)
        (subst (λ j. Round d frames t.outer j) same t.round) (t.kept ∙ sym (t.plain done)) (stands.limit ∙ ap (λ (l : List Left). limit_in l) t.is)
        (subst (λ (l : List Left). AreOwed l done coming.bits) t.is stands.owed)
        (passes_of coming.ended (steps_none d (none_left ∷ t.outer) done coming.bits)))

    -- a choice or a label is left behind its part
    pub passes_by :
        {top : Frame} {i : ℕ} {frames : List Frame} {after : S} {stack : List Left} {done : List ℕ}
        (node : Node) → IsPassed top i → Known d → Stands d (state (top ∷ frames)) stack done
        → slice_get d.nodes i ≡ Some node → takes before Leave node after
        → GoesOn d takes (state (top ∷ frames)) (state frames) before after stack done
    passes_by node (passed_choice same) known stands at told = leaves_taken node (taken_stand stands.shows) same refl known stands at told
    passes_by node (passed_label same) known stands at told = leaves_taken node (labelled_stand stands.shows) same refl known stands at told

    -- a window is left behind its part
    pub ends_window :
        {k start count limit : ℕ} {frames : List Frame} {after : S} {stack : List Left} {done : List ℕ} (later : Coming)
        → later.bits ≡ coming.bits → later.ended ≡ coming.ended → later.place ≡ coming.place → later.limit ≡ limit
        → (node : Node) → coming.place ≡ start + count → Known d → Stands d (state (frame.Window k start count limit ∷ frames)) stack done
        → slice_get d.nodes k ≡ Some node → takes before Leave node after
        → GoesOn d takes (state (frame.Window k start count limit ∷ frames))
        (record { frames = frames; values = values; pace = pace; coming = later }) before after stack done
    ends_window {k} {start} {count} {limit} {frames} {after} {stack} {done} later bits ended place limited node full known stands at told =
        let t = window_stands stands.shows in
        let P : List Left → Type 0 = λ l. GoesOn d takes (state (frame.Window k start count limit ∷ frames))
        (record { frames = frames; values = values; pace = pace; coming = later }) before after l done in
        let here : length done ≡ start + count = sym stands.place ∙ full in
        let owed = subst (λ (l : List Left). AreOwed l done coming.bits) t.is stands.owed in
        subst P (sym t.is)
        (leaves_until later bits ended node known at told refl (place ∙ stands.place)
        (window_done known here (subst (λ (l : List Left). IsStack d pace.next (fresh_at pace (length done)) l done) t.is stands.stack_is)) t.round
        (t.kept ∙ sym (kept_unnamed done t.round (unnamed _ t.cuts.at refl)))
        (limited ∙ t.cuts.limit_is)
        (subst (λ (l : List ℕ). AreOwed t.outer done l) (sym bits) owed)
        (passes_of coming.ended (window_alike d (start + count) t.outer done later.bits here)))

    -- or stays as it is
    pub window_stops :
        (k start count limit : ℕ) (frames : List Frame) (turn : Turn) → IsStopped coming turn → Known d → ¬ (coming.place ≡ start + count)
        → Turns d takes (state (frame.Window k start count limit ∷ frames)) (state (frame.Window k start count limit ∷ frames)) before before turn
    window_stops k start count limit frames turn stopped known not =
        stops (frame.Window k start count limit ∷ frames) turn stopped known
        (λ stack done stands bit rest is g.
        let t = window_stands stands.shows in
        let P : List Left → Type 0 = λ l. Goes d l done (bit ∷ []) in
        window_stuck d (start + count) bit [] (λ here. not (stands.place ∙ here)) (subst P t.is g))
        (λ stack done stands ended. inr (λ rest h.
        let t = window_stands stands.shows in
        let P : List Left → Type 0 = λ l. Rest d l done [] rest in
        window_unended (λ here. not (stands.place ∙ here)) (subst P t.is h)))
      where
        window_unended : {end : ℕ} {outer : List Left} {done b : List ℕ} {rest : List Move} → ¬ (length done ≡ end)
            → ¬ Rest d (window_left end ∷ outer) done b rest
        window_unended not (rest_next b1 b2 first others cut made (completes_window none here leave) o) = not here
