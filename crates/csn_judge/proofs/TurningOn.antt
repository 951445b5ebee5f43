-- One turn after another.
use Rattle.std.proofs.Common.{◌≡◌, ℕ, ◌<◌, Bool, true, false, List, [], ◌∷◌, ◌++◌, length, refl, sym, ◌∙◌, ap, subst}
use Rattle.std.proofs.Common.{arith, append_assoc, length-append, reverse, ◌⊎◌, inl, inr, Some, slice_get}
use Rattle.std.specs.Bool.{⊤}
use Rattle.csn_desc.specs.declared.moves.Move.{Move}
use Rattle.csn_desc.specs.declared.moves.Move.TheVariants.{Leave}
use Rattle.csn_desc.specs.declared.node.Node.{Node}
use Rattle.csn_desc.specs.Nodes.{DescV}
use Rattle.csn_judge.specs.declared.frame.Frame.{Frame}
use Rattle.csn_judge.specs.declared.turn.Turn.{Turn}
use Rattle.csn_judge.specs.declared.turn.Turn.TheVariants.{Moved, Waits, Refused}
use Rattle.csn_judge.specs.Told.{Tells, tells_none, tells_enter, tells_bit, tells_leave}
use Rattle.csn_judge.specs.Left.{Left}
use Rattle.csn_judge.specs.declared.frame.Frame.TheVariants as frame
use Rattle.csn_certify.specs.declared.numbers.Number.{Number}
use Rattle.csn_judge.specs.declared.pace.Pace.{Pace}
use Rattle.csn_judge.specs.Coming.{Coming}
use Rattle.csn_judge.specs.Remains.{Rest, Goes, Passes, shorter}
use Rattle.csn_judge.specs.Shown.{Shows, shows_none, shows_taken, shows_labelled}
use Rattle.csn_judge.specs.Turns.{tells_nothing, IsPassed, IsStopped, StateV, Stands, GoesOn, WaitsOn, RefusesAt, Turns}
use Rattle.std.proofs.lemmas.List.{reverse-append}
use Rattle.std.proofs.lemmas.Option.{slice_get_within}
use Rattle.csn_judge.proofs.Refusing.{nothing_follows}
use Rattle.csn_judge.proofs.StepFacts.{rest_from, goes_along, goes_from, steps_then}
use Rattle.csn_judge.proofs.Turning.{passes_by, stops}
use Rattle.csn_judge.proofs.TurningSame.{turns_as}
use Rattle.csn_judge.specs.Known.{Known}

-- the frame that was the last is the innermost
pub popped_frame : {items : List Frame} {last top : Frame} (rest : List Frame) → items ≡ rest ++ last ∷ [] → last ≡ top → reverse items ≡ top ∷ reverse rest
popped_frame {last = last} rest is same = ap (λ (l : List Frame). reverse l) is ∙ reverse-append rest (last ∷ []) ∙ ap (λ (f : Frame). f ∷ reverse rest) same

pub no_items : (items : List Frame) → ¬ (0 < length items) → items ≡ []
no_items [] none = refl
no_items (frame ∷ items) none = absurd (none (omega arith))

module _ (d : DescV) where
  -- moves are told one after another
  pub tells_then : {S : Type 0} (takes : S → Move → Node → S → Type 0) {first second third : List ℕ} {moves more : List Move} {s t u : S}
      → Tells d takes first moves second s t → Tells d takes second more third t u → Tells d takes first (moves ++ more) third s u
  tells_then takes {third = third} {more = more} {t = t} {u = u} (tells_none {around = around} same still) later =
      let P : List ℕ → Type 0 = λ l. Tells d takes l more third t u in
      subst (λ s. Tells d takes around more third s u) still (subst P same later)
  tells_then takes (tells_enter node next at took rest) later = tells_enter node next at took (tells_then takes rest later)
  tells_then takes (tells_bit node next at took rest) later = tells_bit node next at took (tells_then takes rest later)
  tells_then takes (tells_leave node next at took rest) later = tells_leave node next at took (tells_then takes rest later)

  module _ {S : Type 0} (takes : S → Move → Node → S → Type 0) where
    -- so are two turns
    abbrev pub on_then : {old middle new : StateV} {s t u : S} {stack : List Left} {done : List ℕ}
        → (first : GoesOn d takes old middle s t stack done) → GoesOn d takes middle new t u first.now (done ++ first.taken)
        → GoesOn d takes old new s u stack done
    on_then {old} {middle} {new} {stack = stack} {done} first second =
        let P : Bool → Type 0 = λ e. Passes d e first.now second.now (done ++ first.taken) second.taken new.coming.bits second.made in
        let Q : List ℕ → Type 0 = λ l. Passes d old.coming.ended stack first.now done first.taken l first.made in
        record {
          now = second.now;
          taken = first.taken ++ second.taken;
          made = first.made ++ second.made;
          stands = subst (λ l. Stands d new second.now l) (append_assoc done first.taken second.taken) second.stands;
          bits = first.bits ∙ ap (λ l. first.taken ++ l) second.bits ∙ sym (append_assoc first.taken second.taken new.coming.bits);
          ended = second.ended ∙ first.ended;
          steps = steps_then d first.taken second.taken (subst Q second.bits first.steps) (subst P first.ended second.steps);
          tells = tells_then takes first.tells second.tells;
        }

    pub waits_then : {old middle new : StateV} {s t u : S} {stack : List Left} {done : List ℕ}
        → (first : GoesOn d takes old middle s t stack done) → WaitsOn d takes middle new t u first.now (done ++ first.taken)
        → WaitsOn d takes old new s u stack done
    waits_then {done = done} first second =
        let same = append_assoc done first.taken second.on.taken in
        let on = second.on in
        record {
          on = on_then first on;
          few = second.few;
          held = second.held;
          followed = λ going. goes_from d same (second.followed going);
          held_ends = λ some rest h. second.held_ends some rest (rest_from d (sym same) h);
          over = λ ended. over same (second.over ended);
        }
      where
        over : {frames : List Frame} {now : List Left} {here there : List ℕ} → here ≡ there
            → (frames ≡ []) ⊎ ((rest : List Move) → ¬ Rest d now here [] rest)
            → (frames ≡ []) ⊎ ((rest : List Move) → ¬ Rest d now there [] rest)
        over same (inl none) = inl none
        over same (inr unended) = inr (λ rest h. unended rest (rest_from d (sym same) h))

    -- a part is read at once, and the node round it is left behind it
    pub read_and_left : {old middle : StateV} {s t u after : S} {top : Frame} {i : ℕ} {frames : List Frame}
        {stack : List Left} {done : List ℕ} (values : List Number) (pace : Pace) (coming : Coming) (node : Node)
        → GoesOn d takes old middle s t stack done
        → Turns d takes middle (record { frames = top ∷ frames; values = values; pace = pace; coming = coming })
        t u Moved
        → IsPassed top i → Known d → slice_get d.nodes i ≡ Some node → takes u Leave node after
        → GoesOn d takes old (record { frames = frames; values = values; pace = pace; coming = coming }) s after stack done
    read_and_left {u = u} {done = done} values pace coming node first read passed known at told =
        let on = on_then first (read first.now (done ++ first.taken) first.stands) in
        on_then on (passes_by d takes u values pace coming node passed known on.stands at told)

    -- a refusal behind bits that were taken
    pub refuses_then : {old middle new : StateV} {s t u : S} {stack : List Left} {done : List ℕ} {place : ℕ}
        → (first : GoesOn d takes old middle s t stack done) → old.coming.ended ≡ false
        → RefusesAt d takes middle new t u first.now (done ++ first.taken) place
        → RefusesAt d takes old new s u stack done place
    refuses_then {old} {middle} {stack = stack} {done} {place} first going second =
        record {
          made = first.made ++ second.made;
          around = second.around;
          alike = first.taken ++ second.alike;
          bit = second.bit;
          later = second.later;
          bits = first.bits ∙ ap (λ l. first.taken ++ l) second.bits ∙ sym (append_assoc first.taken second.alike (second.bit ∷ second.later));
          place_is = omega (arith, second.place_is, length-append done first.taken, length-append first.taken second.alike);
          followed = first.steps.went second.alike going (shorter (second.bit ∷ second.later) second.bits) second.followed;
          no_further = λ g.
              second.no_further (first.steps.goes (second.alike ++ second.bit ∷ []) going
              (shorter second.later
              (second.bits ∙ sym (append_assoc second.alike (second.bit ∷ []) second.later)))
              (goes_along d (append_assoc first.taken second.alike (second.bit ∷ [])) g));
          tells = tells_then takes first.tells second.tells;
        }

    refuses_after : {old middle new : StateV} {s t u : S} {stack : List Left} {done : List ℕ} {place : ℕ}
        → (first : GoesOn d takes old middle s t stack done) → (ended : Bool) → old.coming.ended ≡ ended
        → (ended ≡ true → middle.coming.bits ≡ [])
        → RefusesAt d takes middle new t u first.now (done ++ first.taken) place
        → RefusesAt d takes old new s u stack done place
    refuses_after first false going quiet second = refuses_then first going second
    refuses_after first true over quiet second =
        absurd (omega (arith, ap (λ l. length l) (sym second.bits ∙ quiet refl), length-append second.alike (second.bit ∷ second.later)))

    -- a turn behind another, where no bits come behind the end of the block
    pub turns_then : {old middle : StateV} {s t : S} (new : StateV) (u : S) (turn : Turn)
        → (old.coming.ended ≡ true → middle.coming.bits ≡ [])
        → ((stack : List Left) (done : List ℕ) → Stands d old stack done → GoesOn d takes old middle s t stack done)
        → Turns d takes middle new t u turn → Turns d takes old new s u turn
    turns_then new u Moved quiet first second = λ stack done stands. let on = first stack done stands in
        on_then on (second on.now (done ++ on.taken) on.stands)
    turns_then new u Waits quiet first second = λ stack done stands. let on = first stack done stands in
        waits_then on (second on.now (done ++ on.taken) on.stands)
    turns_then {old} new u (Refused place) quiet first second = λ stack done stands.
        let on = first stack done stands in
        refuses_after on old.coming.ended refl quiet (second on.now (done ++ on.taken) on.stands)

  module _ {S : Type 0} (takes : S → Move → Node → S → Type 0) (s : S) where
    -- a turn that makes no move tells none
    none_told : {around others : List ℕ} {moves : List Move} {before after : ⊤}
        → Tells d tells_nothing around moves others before after → Tells d takes around moves others s s
    none_told (tells_none same still) = tells_none same refl
    none_told (tells_enter node next at took rest) = absurd took
    none_told (tells_bit node next at took rest) = absurd took
    none_told (tells_leave node next at took rest) = absurd took

    pub quietly : (old new : StateV) (turn : Turn) → Turns d tells_nothing old new tt tt turn → Turns d takes old new s s turn
    quietly old new turn turns = turns_as d tells_nothing takes old old new tt tt s s refl refl
        (λ moves around told. none_told told) turn (λ stack done stands. stands) turns

  -- where nothing is open no bit is taken
  shows_nothing : {values : List Number} {stack : List Left} {done : List ℕ} → Shows d [] values stack done → stack ≡ []
  shows_nothing (shows_none kept) = refl

  pub stops_behind : {S : Type 0} (takes : S → Move → Node → S → Type 0) (s : S) (values : List Number) (pace : Pace)
      (coming : Coming) (turn : Turn) → IsStopped coming turn → Known d
      → Turns d takes (record { frames = []; values = values; pace = pace; coming = coming })
      (record { frames = []; values = values; pace = pace; coming = coming }) s s turn
  stops_behind takes s values pace coming turn stopped known =
      stops d takes s values pace coming [] turn stopped known
      (λ stack done stands bit rest is g. nothing_follows d done bit [] (subst (λ (l : List Left). Goes d l done (bit ∷ [])) (shows_nothing stands.shows) g))
      (λ stack done stands ended. inl refl)

  -- the frames of choices and labels are those of nodes
  pub choice_within : {k : ℕ} {frames : List Frame} {values : List Number} {stack : List Left} {done : List ℕ}
      → Shows d (frame.Choice k ∷ frames) values stack done → k < length d.nodes
  choice_within {k} (shows_taken i is kept round) = slice_get_within d.nodes k _ is.at

  pub label_within : {k : ℕ} {frames : List Frame} {values : List Number} {stack : List Left} {done : List ℕ}
      → Shows d (frame.Named k ∷ frames) values stack done → k < length d.nodes
  label_within {k} (shows_labelled i is kept round) = slice_get_within d.nodes k _ is.at
