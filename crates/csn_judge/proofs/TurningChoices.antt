-- Turns of the frame of a choice that is not decided.
use Rattle.std.proofs.Common.{inl, inr, ◌≡◌, ℕ, zero, suc, ◌+◌, ◌-◌, ◌%◌, ◌<◌, ◌≤◌, ◌⊎◌, Bool, true, false, List}
use Rattle.std.proofs.Common.{take, drop, [], ◌∷◌, ◌++◌, length, min, refl, sym, ◌∙◌, ap, subst, arith, append-nil}
use Rattle.std.proofs.Common.{append_assoc, length-append, Some, slice_get}
use Rattle.std.proofs.lemmas.List.{take_all, length-take-le, take-append-drop}
use Rattle.csn_desc.specs.declared.moves.Move.{Move}
use Rattle.csn_desc.specs.declared.node.Node.{Node}
use Rattle.csn_desc.specs.declared.node.Node.TheVariants.{Choice}
use Rattle.csn_desc.specs.Nodes.{DescV}
use Rattle.csn_desc.specs.Values.{Values}
use Rattle.csn_certify.specs.declared.pick.Pick.{Pick}
use Rattle.csn_certify.specs.declared.pick.Pick.TheVariants.{Take, Leave, Wait, Refuse}
use Rattle.csn_certify.specs.Picks.{IsAsked, asked_choice, Picks, pick_key, pick_none, pick_wait, pick_bit, pick_again, pick_leave, pick_ended}
use Rattle.csn_judge.specs.declared.frame.Frame.{Frame}
use Rattle.csn_judge.specs.declared.frame.Frame.TheVariants as frame
use Rattle.csn_certify.specs.declared.numbers.Number.{Number}
use Rattle.csn_judge.specs.declared.pace.Pace.{Pace}
use Rattle.csn_judge.specs.declared.turn.Turn.{Turn}
use Rattle.csn_judge.specs.declared.turn.Turn.TheVariants.{Waits, Refused}
use Rattle.csn_judge.specs.Known.{Known}
use Rattle.csn_judge.specs.Picked.{IsNotRefused}
use Rattle.csn_judge.specs.Coming.{Coming, IsGood}
use Rattle.csn_judge.specs.Told.{tells_none}
use Rattle.csn_judge.specs.Left.{Left, all_left, none_left, choice_left}
use Rattle.csn_judge.specs.Remains.{Within, Goes, Rest, Steps, Passes}
use Rattle.csn_judge.specs.Inside.{IsStack, AreOwed}
use Rattle.csn_certify.specs.KeptNumbers.{numbers_of}
use Rattle.csn_judge.specs.Shown.{seen_in, limit_in, TakesAlternative, Round, round_choice, Shows, shows_begin, shows_open}
use Rattle.csn_judge.specs.Turns.{fresh_at, begun_by, StateV, Stands, GoesOn, Turns, IsStopped}
use Rattle.csn_judge.proofs.StepFacts.{goes_along, goes_from, rest_from}
use Rattle.csn_judge.proofs.Closing.{Full, passes_of, null_full, null_last}
use Rattle.csn_judge.proofs.Choosing.{Undecided, nothing_goes, wait_goes, refused, wait_full, refused_empty, wait_ends, refused_never}
use Rattle.csn_judge.proofs.LookAhead.{take_decided}
use Rattle.csn_judge.proofs.Stacks.{of_begun, alternative_begun, alternative_rises}
use Rattle.csn_judge.proofs.Decided.{choice_at, decided, part_empty, waits_or_refuses}
use Rattle.csn_judge.proofs.LeafStacks.{full_at, limit_within}
use Rattle.csn_judge.proofs.Rooms.{first_of, IsCut, cut_behind}
use Rattle.csn_judge.proofs.Turning.{IsHere, moving, risen, room, round_length, begun_within, within_limit, state, still, stops, stays_as, refuses_behind}
use Rattle.csn_judge.proofs.Verdicts.{never_ends}

module _ (d : DescV) where
  pub record OpenStands (k : ℕ) (frames : List Frame) (values : List Number) (stack : List Left) : Type 0 where
    pub outer : List Left
    pub parts : List ℕ
    pub v : Values
    pub is : stack ≡ choice_left parts v ∷ outer
    pub at : slice_get d.nodes k ≡ Some (Choice parts)
    pub seen : v ≡ seen_in outer
    pub kept : values ≡ numbers_of d v
    pub round : Round d frames outer k

  pub open_stands : {k : ℕ} {frames : List Frame} {values : List Number} {stack : List Left} {done : List ℕ}
      → Shows d (frame.Open k ∷ frames) values stack done → OpenStands k frames values stack
  open_stands (shows_open at seen kept round) = record { outer = _; parts = _; v = _; is = refl; at = at; seen = seen; kept = kept; round = round }

  -- look-ahead is asked there
  pub open_asked : {k : ℕ} {frames : List Frame} {values : List Number} {stack : List Left} {done : List ℕ} (pace : Pace) → Known d
      → Shows d (frame.Open k ∷ frames) values stack done → IsStack d pace.next (fresh_at pace (length done)) stack done
      → IsAsked d k (length done % 8)
  open_asked {done = done} pace known shows is =
      let t = open_stands shows in
      let at = choice_at d known t.at (subst (λ (l : List Left). IsStack d pace.next (fresh_at pace (length done)) l done) t.is is) in
      asked_choice t.parts t.at at.0.ready.reached

  -- the part of one begins: it is a node of the description, and there is room for the frame round it
  pub alternative_room : {k part : ℕ} {frames : List Frame} {values : List Number} {stack : List Left} {done : List ℕ}
      (pace : Pace) (j : ℕ) (parts : List ℕ) → Known d
      → slice_get d.nodes k ≡ Some (Choice parts) → slice_get parts j ≡ Some part
      → Shows d (frame.Open k ∷ frames) values stack done → IsStack d pace.next (fresh_at pace (length done)) stack done
      → (part < length d.nodes) × (length frames < 63)
  alternative_room {part = part} {done = done} pace j parts known here_k here shows is =
      let t = open_stands shows in
      let same : parts ≡ t.parts = let a = t.at in cc in
      let here_part : slice_get t.parts j ≡ Some part = ap (λ l. slice_get l j) (sym same) ∙ here in
      let at = choice_at d known t.at (subst (λ (l : List Left). IsStack d pace.next (fresh_at pace (length done)) l done) t.is is) in
      let begun = of_begun d (alternative_begun d 12 known.description known.certified j t.at here_part at.0) in
      (begun_within d begun, omega (arith, room d begun, round_length d t.round))

  module _ {S : Type 0} (takes : S → Move → Node → S → Type 0) (before : S) (values : List Number) (pace : Pace) (coming : Coming) where
    -- where a choice stands
    pub record AtChoice (k : ℕ) (frames : List Frame) (stack : List Left) (done : List ℕ) (known : Known d) : Type 0 where
      pub stands : OpenStands k frames values stack
      pub here : IsHere d pace coming k stands.v stands.outer done
      pub how : Undecided d 12 known.description known.certified (moving d known) known k stands.parts stands.v stands.outer done

    pub at_choice : {k : ℕ} {frames : List Frame} {stack : List Left} {done : List ℕ} (known : Known d)
        → Stands d (state d takes before values pace coming (frame.Open k ∷ frames)) stack done → AtChoice k frames stack done known
    at_choice {done = done} known stands =
        let t = open_stands stands.shows in
        let at = choice_at d known t.at (subst (λ (l : List Left). IsStack d pace.next (fresh_at pace (length done)) l done) t.is stands.stack_is) in
        record {
          stands = t;
          here = record {
            begun = at.0;
            just = at.1;
            place = stands.place;
            limit = stands.limit ∙ ap (λ (l : List Left). limit_in l) t.is;
            owed = subst (λ (l : List Left). AreOwed l done coming.bits) t.is stands.owed;
          };
          how = record { at = t.at; ready = at.0.ready; fresh = _; inner = at.0.inner };
        }

    -- an alternative begins
    alternative_begins : {k part : ℕ} {frames : List Frame} {stack : List Left} {done : List ℕ} (j : ℕ)
        (known : Known d) (at : AtChoice k frames stack done known)
        → slice_get at.stands.parts j ≡ Some part
        → Passes d coming.ended (choice_left at.stands.parts at.stands.v ∷ at.stands.outer)
        (all_left part at.stands.v ∷ none_left ∷ at.stands.outer) done [] coming.bits []
        → GoesOn d takes (state d takes before values pace coming (frame.Open k ∷ frames))
        (record {
          frames = frame.Begin part ∷ frame.Choice k ∷ frames;
          values = values;
          pace =
              begun_by part pace;
          coming = coming;
        }) before before stack done
    alternative_begins {k} {part} {frames} {stack} {done} j known at here passes =
        let P : List Left → Type 0 =
        λ l. GoesOn d takes (state d takes before values pace coming (frame.Open k ∷ frames))
        (record {
          frames = frame.Begin part ∷ frame.Choice k ∷ frames;
          values = values;
          pace =
              begun_by part pace;
          coming = coming;
        }) before before l done in
        let t = at.stands in
        let begun = alternative_begun d 12 known.description known.certified j t.at here at.here.begun in
        let rises = alternative_rises d 12 known.description known.certified j t.at here in
        let is_alternative : TakesAlternative d k part = record { j = j; parts = t.parts; at = t.at; part = here } in
        subst P (sym t.is)
        (still d takes before values pace coming (begun_by part pace) at.here.place (shows_begin t.seen t.kept (round_choice is_alternative t.round))
        (risen d pace (omega (arith, rises, at.here.just)) (of_begun d begun)) at.here.limit at.here.owed passes (tells_none refl refl))

    -- by the bits that are ready
    pub takes_some :
        {k j part bit : ℕ} {rest : List ℕ} {frames : List Frame} {stack : List Left} {done : List ℕ} (parts : List ℕ)
        → slice_get d.nodes k ≡ Some (Choice parts) → slice_get parts j ≡ Some part
        → (later : List ℕ) → coming.bits ≡ (bit ∷ rest) ++ later → coming.place + length (bit ∷ rest) ≤ coming.limit
        → Picks d 12 k (coming.place % 8) (bit ∷ rest) false (Take j)
        → Known d → Stands d (state d takes before values pace coming (frame.Open k ∷ frames)) stack done
        → GoesOn d takes (state d takes before values pace coming (frame.Open k ∷ frames))
        (record {
          frames = frame.Begin part ∷ frame.Choice k ∷ frames;
          values = values;
          pace =
              begun_by part pace;
          coming = coming;
        }) before before stack done
    takes_some {k} {j} {part} {bit} {rest} {frames} {stack} {done} parts here_k here later e less picks known stands =
        let at = at_choice known stands in
        let t = at.stands in
        let same : parts ≡ t.parts = let a = t.at in cc in
        let here_part : slice_get t.parts j ≡ Some part = ap (λ l. slice_get l j) (sym same) ∙ here in
        let found = decided d known t.at here_part at.here.begun
        (within_limit d t.outer (length done + length (bit ∷ rest))
        (omega (arith, less, at.here.place, at.here.limit)))
        (subst (λ o. Picks d 12 k (o % 8) (bit ∷ rest) false (Take j)) at.here.place picks) in
        let P : List ℕ → Type 0 = λ l. Steps d (choice_left t.parts t.v ∷ t.outer) (all_left part t.v ∷ none_left ∷ t.outer) done [] l [] in
        let cut : coming.bits ≡ found.word ++ (found.more ++ later) = e ∙ ap (λ l. l ++ later) found.is ∙ append_assoc found.word found.more later in
        alternative_begins j known at here_part
        (passes_of coming.ended
        (subst P (sym cut) (take_decided d 12 known.description known.certified (moving d known) known found.how
        (found.more ++ later))))

    -- and where none may be taken
    pub takes_none :
        {k j part : ℕ} {frames : List Frame} {stack : List Left} {done : List ℕ} (parts : List ℕ)
        → slice_get d.nodes k ≡ Some (Choice parts) → slice_get parts j ≡ Some part
        → IsGood coming → (coming.ended ≡ true) ⊎ (coming.place ≡ coming.limit)
        → Picks d 12 k (coming.place % 8) [] true (Take j)
        → Known d → Stands d (state d takes before values pace coming (frame.Open k ∷ frames)) stack done
        → GoesOn d takes (state d takes before values pace coming (frame.Open k ∷ frames))
        (record {
          frames = frame.Begin part ∷ frame.Choice k ∷ frames;
          values = values;
          pace =
              begun_by part pace;
          coming = coming;
        }) before before stack done
    takes_none {k} {j} {part} {frames} {stack} {done} parts here_k here good closed picks known stands =
        let at = at_choice known stands in
        let same : parts ≡ at.stands.parts = let a = at.stands.at in cc in
        let here_part : slice_get at.stands.parts j ≡ Some part = ap (λ l. slice_get l j) (sym same) ∙ here in
        alternative_begins j known at here_part (by at here_part closed)
      where
        by : (at : AtChoice k frames stack done known) → slice_get at.stands.parts j ≡ Some part → (coming.ended ≡ true) ⊎ (coming.place ≡ coming.limit)
            → Passes d coming.ended (choice_left at.stands.parts at.stands.v ∷ at.stands.outer)
            (all_left part at.stands.v ∷ none_left ∷ at.stands.outer) done [] coming.bits []
        by at here_part (inl over) =
            let t = at.stands in
            let P : Bool → Type 0 = λ e. Passes d e (choice_left t.parts t.v ∷ t.outer) (all_left part t.v ∷ none_left ∷ t.outer) done [] coming.bits [] in
            let Q : List ℕ → Type 0 = λ l. Passes d true (choice_left t.parts t.v ∷ t.outer) (all_left part t.v ∷ none_left ∷ t.outer) done [] l [] in
            subst P (sym over) (subst Q (sym (good.nothing over))
            (null_last d 12 known.description known.certified (moving d known) known.takes k part j t.parts t.v
            t.outer done t.at here_part at.here.begun.ready (subst (λ o. Picks d 12 k (o % 8) [] true (Take j))
            at.here.place picks)))
        by at here_part (inr full) =
            let t = at.stands in
            passes_of coming.ended
            (null_full d 12 known.description known.certified (moving d known) known.takes k part j t.parts t.v
            t.outer done t.at here_part at.here.begun.ready (subst (λ o. Picks d 12 k (o % 8) [] true (Take j))
            at.here.place picks) coming.bits
            (full_at t.outer done (sym at.here.place ∙ full ∙ at.here.limit) (omega (arith, good.fits, at.here.place)))
            (part_empty d j known t.at here_part at.here.begun))

    -- ---- it waits

    -- with all bits that come
    pub waits_open :
        {k : ℕ} {frames : List Frame} → IsGood coming → 0 < length coming.bits → coming.held ≡ length coming.bits
        → coming.place + length coming.bits ≤ coming.limit → Picks d 12 k (coming.place % 8) coming.bits false Wait → Known d
        → Turns d takes (state d takes before values pace coming (frame.Open k ∷ frames))
        (state d takes before values pace coming (frame.Open k ∷ frames)) before before Waits
    waits_open {k} {frames} good some held less picks known = λ stack done stands.
        let at = at_choice known stands in
        let t = at.stands in
        let same : done ++ [] ≡ done = append-nil done in
        let here = subst (λ o. Picks d 12 k (o % 8) coming.bits false Wait) at.here.place picks in
        let within : Within t.outer (length done + length coming.bits) = within_limit d t.outer _ (omega (arith, less, at.here.place, at.here.limit)) in
        let some_bits : ¬ (coming.bits ≡ []) = λ none. omega (arith, some, ap (λ l. length l) none) in
        let P : List Left → Type 0 = λ l. Goes d l done coming.bits in
        let Q : List Left → List Move → Type 0 = λ l rest. Rest d l done coming.bits rest in
        record {
          on = stays_as d takes before (state d takes before values pace coming (frame.Open k ∷ frames)) stands;
          few = known.waits_few d 12 k (length done % 8) coming.bits false (omega arith) here;
          held = held;
          followed = λ going. goes_from d (sym same)
              (subst P (sym t.is) (wait_goes d 12 known.description known.certified (moving d known)
              known at.how false here within));
          held_ends = λ some rest h. wait_ends d 12 known.description known.certified (moving d known)
              known at.how some_bits here within (subst (λ l. Q l rest) t.is (rest_from d same h));
          over = λ ended. absurd (some_bits (good.nothing ended));
        }

    -- with all that a window has, where more come behind it
    pub waits_full :
        {k : ℕ} {frames : List Frame} (new : StateV) (place : ℕ) (held : List ℕ) (bit : ℕ) (later : List ℕ) → IsGood coming → 0 < length held
        → coming.bits ≡ held ++ bit ∷ later → coming.place + length held ≡ coming.limit → place ≡ coming.place + length held
        → Picks d 12 k (coming.place % 8) held false Wait → Known d
        → Turns d takes (state d takes before values pace coming (frame.Open k ∷ frames)) new before before (Refused place)
    waits_full {k} {frames} new place held bit later good some e full here_place picks known = λ stack done stands.
        let at = at_choice known stands in
        let t = at.stands in
        let here = subst (λ o. Picks d 12 k (o % 8) held false Wait) at.here.place picks in
        let within : Within t.outer (length done + length held) = within_limit d t.outer _ (omega (arith, full, at.here.place, at.here.limit)) in
        let some_bits : ¬ (held ≡ []) = λ none. omega (arith, some, ap (λ l. length l) none) in
        let P : List Left → List ℕ → Type 0 = λ l b. Goes d l done b in
        let small : limit_in t.outer < 4294967295 = omega (arith, at.here.limit, full, good.fits, ap (λ l. length l) e, length-append held (bit ∷ later)) in
        refuses_behind d takes before values pace coming new held bit later stands e here_place
        (subst (λ l. P l held) (sym t.is) (wait_goes d 12 known.description known.certified (moving d known) known at.how false here within))
        (λ g.
        wait_full d 12 known.description known.certified (moving d known) known at.how bit [] some_bits here within
        (λ p inside. omega (arith, limit_within t.outer p small inside, at.here.limit, full, at.here.place))
        (subst (λ l. P l (held ++ bit ∷ [])) t.is g))

    -- ---- it refuses

    -- the bits up to one more than these, which it does not refuse
    pub refuses_some :
        {k : ℕ} {frames : List Frame} {answer : Pick} (new : StateV) (place : ℕ) (alike : List ℕ) (bit : ℕ) (later : List ℕ)
        → coming.bits ≡ alike ++ bit ∷ later → coming.place + length (alike ++ bit ∷ []) ≤ coming.limit → place ≡ coming.place + length alike
        → Picks d 12 k (coming.place % 8) (alike ++ bit ∷ []) false Refuse
        → (alike ≡ []) ⊎ (Picks d 12 k (coming.place % 8) alike false answer × ¬ (answer ≡ Refuse)) → Known d
        → Turns d takes (state d takes before values pace coming (frame.Open k ∷ frames)) new before before (Refused place)
    refuses_some {k} {frames} {answer} new place alike bit later e less here_place picks shorter known = λ stack done stands.
        let at = at_choice known stands in
        let t = at.stands in
        let here = subst (λ o. Picks d 12 k (o % 8) (alike ++ bit ∷ []) false Refuse) at.here.place picks in
        let within : Within t.outer (length done + length (alike ++ bit ∷ [])) =
        within_limit d t.outer _ (omega (arith, less, at.here.place, at.here.limit)) in
        let P : List Left → List ℕ → Type 0 = λ l b. Goes d l done b in
        refuses_behind d takes before values pace coming new alike bit later stands e here_place
        (followed stack done stands at shorter)
        (λ g. refused d 12 known.description known.certified (moving d known) known at.how here within (subst (λ l. P l (alike ++ bit ∷ [])) t.is g))
      where
        followed : (stack : List Left) (done : List ℕ)
            → Stands d (state d takes before values pace coming (frame.Open k ∷ frames)) stack done
            → AtChoice k frames stack done known
            → (alike ≡ []) ⊎ (Picks d 12 k (coming.place % 8) alike false answer × ¬ (answer ≡ Refuse)) → Goes d stack done alike
        followed stack done stands at (inl none) =
            goes_along d (sym none) (nothing_goes d (moving d known) known.empties stands.stack_is
            (within_limit d stack (length done) (omega (arith, less, stands.place, stands.limit))))
        followed stack done stands at (inr other) = by alike refl other
          where
            by : (some : List ℕ) → alike ≡ some → Picks d 12 k (coming.place % 8) alike false answer × ¬ (answer ≡ Refuse) → Goes d stack done alike
            by [] none other = goes_along d (sym none) (nothing_goes d (moving d known) known.empties stands.stack_is
                (within_limit d stack (length done) (omega (arith, less, stands.place, stands.limit))))
            by (b ∷ rest) is other =
                let t = at.stands in
                let waits = waits_or_refuses d alike bit (omega (arith, ap (λ l. length l) is)) t.at other.0 other.1 picks in
                let here = subst (λ o. Picks d 12 k (o % 8) alike false Wait) at.here.place waits in
                let P : List Left → Type 0 = λ l. Goes d l done alike in
                subst P (sym t.is) (wait_goes d 12 known.description known.certified (moving d known)
                known at.how false here
                (within_limit d t.outer _
                (omega (arith, less, at.here.place, at.here.limit, length-append alike (bit ∷ [])))))

    -- nothing is taken where it refuses without bits
    pub stops_open :
        {k : ℕ} (frames : List Frame) (turn : Turn) → IsStopped coming turn → IsGood coming → (coming.ended ≡ true) ⊎ (coming.place ≡ coming.limit)
        → Picks d 12 k (coming.place % 8) [] true Refuse → Known d
        → Turns d takes (state d takes before values pace coming (frame.Open k ∷ frames))
        (state d takes before values pace coming (frame.Open k ∷ frames)) before before turn
    stops_open {k} frames turn stopped good closed picks known =
        stops d takes before values pace coming (frame.Open k ∷ frames) turn stopped known
        (λ stack done stands bit rest is g.
        let at = at_choice known stands in
        let P : List Left → Type 0 = λ l. Goes d l done (bit ∷ []) in
        refused_empty d 12 known.description known.certified (moving d known) known at.how bit []
        (subst (λ o. Picks d 12 k (o % 8) [] true Refuse) at.here.place picks)
        (full is closed at.stands.outer done at.here.limit at.here.place) (subst P at.stands.is g))
        (λ stack done stands ended. inr (λ rest h.
        let at = at_choice known stands in
        let P : List Left → Type 0 = λ l. Rest d l done [] rest in
        never_ends d
        (refused_never d 12 known.description known.certified (moving d known) known at.how
        (subst (λ o. Picks d 12 k (o % 8) [] true Refuse) at.here.place picks))
        (subst P at.stands.is h)))
      where
        full : {bit : ℕ} {rest : List ℕ} → coming.bits ≡ bit ∷ rest → (coming.ended ≡ true)
            ⊎ (coming.place ≡ coming.limit) → (outer : List Left) (done : List ℕ) → coming.limit ≡ limit_in outer
            → coming.place ≡ length done → Full outer done
        full is (inl over) outer done limit place = absurd (omega (arith, ap (λ l. length l) (sym is ∙ good.nothing over)))
        full is (inr there) outer done limit place = full_at outer done (sym place ∙ there ∙ limit) (omega (arith, good.fits, place))

    -- look-ahead refuses the bits that are ready, and not so many of them
    pub refuses_open :
        {k : ℕ} {frames : List Frame} (new : StateV) (place ready count : ℕ)
        → ready ≡ min 12 (min (length coming.bits) (coming.limit - coming.place)) → count < ready → place ≡ coming.place + count
        → Picks d 12 k (coming.place % 8) (take (count + 1) coming.bits) false Refuse
        → (count ≡ 0) ⊎ IsNotRefused d k (coming.place % 8) (take count coming.bits) → Known d
        → Turns d takes (state d takes before values pace coming (frame.Open k ∷ frames)) new before before (Refused place)
    refuses_open {k} {frames} new place ready count is less here_place picks shorter known =
        let cut = cut_behind count coming.bits (omega (arith, is, less)) in
        let size = length-append (take count coming.bits) (cut.bit ∷ []) in
        let room : coming.place + length (take count coming.bits ++ cut.bit ∷ []) ≤ coming.limit = omega (arith, size, cut.few, is, less) in
        let there : place ≡ coming.place + length (take count coming.bits) = omega (arith, here_place, cut.few) in
        let next : count + 1 ≡ suc count = omega arith in
        let more = subst (λ l. Picks d 12 k (coming.place % 8) l false Refuse) (ap (λ n. take n coming.bits) next ∙ cut.more) picks in
        by cut room there more shorter
      where
        by : (cut : IsCut count coming.bits)
            → coming.place + length (take count coming.bits ++ cut.bit ∷ []) ≤ coming.limit
            → place ≡ coming.place + length (take count coming.bits)
            → Picks d 12 k (coming.place % 8) (take count coming.bits ++ cut.bit ∷ []) false Refuse
            → (count ≡ 0) ⊎ IsNotRefused d k (coming.place % 8) (take count coming.bits)
            → Turns d takes (state d takes before values pace coming (frame.Open k ∷ frames)) new before before (Refused place)
        by cut room there more (inl none) =
            refuses_some {answer = Wait} new place (take count coming.bits) cut.bit cut.later cut.all room there more
            (inl (ap (λ n. take n coming.bits) none)) known
        by cut room there more (inr other) =
            refuses_some {answer = other.0} new place (take count coming.bits) cut.bit cut.later cut.all room there more (inr (other.1, other.2)) known

    -- ---- by what look-ahead answers for the bits that are ready

    pub taken_part : {k o j : ℕ} {held : List ℕ} {ended : Bool} (parts : List ℕ) → slice_get d.nodes k ≡ Some (Choice parts)
        → Picks d 12 k o held ended (Take j) → (part : ℕ) × (slice_get parts j ≡ Some part)
    taken_part {j = j} parts at (pick_key others here key) =
        let same : others ≡ parts = cc in (key.part, ap (λ l. slice_get l j) (sym same) ∙ key.is_part)
    taken_part {j = j} parts at (pick_none others here never none) =
        let same : others ≡ parts = cc in (none.part, ap (λ l. slice_get l j) (sym same) ∙ none.is_part)
    taken_part parts at (pick_again part many start) = absurd (cc)

    pub never_leaves : {k o : ℕ} {held : List ℕ} {ended : Bool} (parts : List ℕ)
        → slice_get d.nodes k ≡ Some (Choice parts) → ¬ Picks d 12 k o held ended Leave
    never_leaves parts at (pick_leave part many never) = absurd (cc)
    never_leaves parts at (pick_ended part many over) = absurd (cc)

    never_waits : {k o : ℕ} {held : List ℕ} {ended : Bool} (parts : List ℕ)
        → ended ≡ true → slice_get d.nodes k ≡ Some (Choice parts) → ¬ Picks d 12 k o held ended Wait
    never_waits parts over at (pick_wait others here never none going begins) = absurd (cc)
    never_waits parts over at (pick_bit part many going) = absurd (cc)

    pub takes_open :
        {k j part : ℕ} {frames : List Frame} {stack : List Left} {done : List ℕ} (count : ℕ) (parts : List ℕ)
        → slice_get d.nodes k ≡ Some (Choice parts) → slice_get parts j ≡ Some part → IsGood coming
        → count ≡ min 12 (min (length coming.bits) (coming.limit - coming.place))
        → (count ≡ 0 → (coming.ended ≡ true) ⊎ (coming.place ≡ coming.limit))
        → (count ≡ 0 → Picks d 12 k (coming.place % 8) [] true (Take j))
        → (0 < count → Picks d 12 k (coming.place % 8) (take count coming.bits) false (Take j))
        → Known d → Stands d (state d takes before values pace coming (frame.Open k ∷ frames)) stack done
        → GoesOn d takes (state d takes before values pace coming (frame.Open k ∷ frames))
        (record {
          frames = frame.Begin part ∷ frame.Choice k ∷ frames;
          values = values;
          pace =
              begun_by part pace;
          coming = coming;
        }) before before stack done
    takes_open zero parts at here good is closed none some known stands = takes_none parts at here good (closed refl) (none refl) known stands
    takes_open {k = k} {j = j} (suc count) parts at here good is closed none some known stands =
        let size : length (take (suc count) coming.bits) ≡ suc count = length-take-le (suc count) coming.bits (omega (arith, is)) in
        let found = first_of (take (suc count) coming.bits) (omega (arith, size)) in
        takes_some parts at here (drop (suc count) coming.bits)
        (sym (take-append-drop (suc count) coming.bits) ∙ ap (λ l. l ++ drop (suc count) coming.bits) found.2)
        (omega (arith, is, size, ap (λ l. length l) found.2))
        (subst (λ l. Picks d 12 k (coming.place % 8) l false (Take j)) found.2 (some (omega arith))) known stands

    pub waits_with_all :
        {k : ℕ} {frames : List Frame} (count : ℕ) (parts : List ℕ) → slice_get d.nodes k ≡ Some (Choice parts) → IsGood coming
        → count ≡ min 12 (min (length coming.bits) (coming.limit - coming.place))
        → min 12 (length coming.bits) ≤ coming.held → coming.held ≤ length coming.bits → ¬ (count < length coming.bits)
        → (count ≡ 0 → Picks d 12 k (coming.place % 8) [] true Wait)
        → (0 < count → Picks d 12 k (coming.place % 8) (take count coming.bits) false Wait) → Known d
        → Turns d takes (state d takes before values pace coming (frame.Open k ∷ frames))
        (state d takes before values pace coming (frame.Open k ∷ frames)) before before Waits
    waits_with_all zero parts at good is held within last none some known = absurd (never_waits parts refl at (none refl))
    waits_with_all {k = k} (suc count) parts at good is held within last none some known =
        let all : take (suc count) coming.bits ≡ coming.bits = take_all (suc count) coming.bits (omega (arith, last)) in
        waits_open good (omega (arith, is)) (omega (arith, held, within, is, last)) (omega (arith, is, last, good.inside))
        (subst (λ l. Picks d 12 k (coming.place % 8) l false Wait) all (some (omega arith))) known

    pub waits_with_more :
        {k : ℕ} {frames : List Frame} (new : StateV) (place : ℕ) (count : ℕ) (parts : List ℕ) → slice_get d.nodes k ≡ Some (Choice parts) → IsGood coming
        → count ≡ min 12 (min (length coming.bits) (coming.limit - coming.place))
        → count < length coming.bits → place ≡ coming.place + count
        → (count ≡ 0 → Picks d 12 k (coming.place % 8) [] true Wait)
        → (0 < count → Picks d 12 k (coming.place % 8) (take count coming.bits) false Wait) → Known d
        → Turns d takes (state d takes before values pace coming (frame.Open k ∷ frames)) new before before (Refused place)
    waits_with_more new place zero parts at good is more there none some known = absurd (never_waits parts refl at (none refl))
    waits_with_more {k = k} new place (suc count) parts at good is more there none some known =
        let cut = cut_behind (suc count) coming.bits more in
        let waits = some (omega arith) in
        let few = known.waits_few d 12 k (coming.place % 8) (take (suc count) coming.bits) false (omega arith) waits in
        waits_full new place (take (suc count) coming.bits) cut.bit cut.later good (omega (arith, cut.few)) cut.all
        (omega (arith, cut.few, is, few, more, good.inside)) (omega (arith, there, cut.few)) waits known

    pub taken_of : {k j : ℕ} (count : ℕ) (parts : List ℕ) → slice_get d.nodes k ≡ Some (Choice parts)
        → (count ≡ 0 → Picks d 12 k (coming.place % 8) [] true (Take j))
        → (0 < count → Picks d 12 k (coming.place % 8) (take count coming.bits) false (Take j))
        → (part : ℕ) × (slice_get parts j ≡ Some part)
    taken_of zero parts at none some = taken_part parts at (none refl)
    taken_of (suc count) parts at none some = taken_part parts at (some (omega arith))

    pub left_of : {k : ℕ} (count : ℕ) (parts : List ℕ) → slice_get d.nodes k ≡ Some (Choice parts)
        → (count ≡ 0 → Picks d 12 k (coming.place % 8) [] true Leave)
        → (0 < count → Picks d 12 k (coming.place % 8) (take count coming.bits) false Leave) → ⊥
    left_of zero parts at none some = never_leaves parts at (none refl)
    left_of (suc count) parts at none some = never_leaves parts at (some (omega arith))
