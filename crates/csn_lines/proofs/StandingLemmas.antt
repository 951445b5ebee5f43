-- What a job over the lines of an input has done when it goes on, ends or stops.
use Rattle.std.proofs.Common.{◌≡◌, ℕ, ◌+◌, ◌-◌, ◌<◌, ◌≤◌, ◌⊎◌, inl, inr, Bool, ◌||◌, Option, List, [], ◌∷◌, ◌++◌}
use Rattle.std.proofs.Common.{length, take, refl, sym, ◌∙◌, ap, subst, arith, append_assoc, length-append}
use Rattle.std.proofs.lemmas.List.{append-nil, take_all}
use Rattle.std.proofs.Math.Seq.{take-append-add}
use Rattle.csn_io.specs.Got.{Gave, NothingLeft}
use Rattle.csn_lines.specs.declared.fault.Fault.{Fault}
use Rattle.csn_lines.specs.declared.fault.Fault.TheVariants.{Read, Write, Memory, TooLong}
use Rattle.csn_lines.specs.declared.lines.TheConstants.{MOST_INPUT, PIECE}
use Rattle.csn_lines.specs.Lines.{between_feeds}
use Rattle.csn_lines.specs.Progress.{Answers, AddsAnswers, Closes, EndsIn, Advances, PassesOn, HaltsAt, AnswersAll, KeepsUp, StopsWithin, StopsWhere, Stops}
use Rattle.csn_lines.proofs.LinesLemmas.{between_feeds-one}
use Rattle.csn_io.proofs.Told.{appended_more, gave_more}
use Rattle.csn_lines.proofs.ProgressLemmas.{adds_more, advances_more, Standing}
use Rattle.csn_lines.proofs.Within.{within_longer, take_longer}

-- the answers, where they are all that is written
pub answers_of : {St : Type 0} {before after : St} (Step : St → List ℕ → List ℕ → St → Type 0)
    (pieces : List (List ℕ)) (new : List ℕ) (r : Bool) → AddsAnswers Step before pieces [] new after r
    → Answers Step before pieces new after r
answers_of {before = before} {after = after} Step pieces new r a = subst (λ (t : List ℕ). Answers Step before pieces t after r) (sym a.new_is) a.answers

-- a fault of the sink, or want of memory, stops a job within the input
pub stops_by_within : {St : Type 0} {begin : St} (Step : St → List ℕ → List ℕ → St → Type 0) (fault : Fault)
    (given text : List ℕ) → (fault ≡ Write) ⊎ (fault ≡ Memory) → StopsWithin Step begin (take MOST_INPUT given) text
    → StopsWhere Step begin fault given text
stops_by_within {begin = begin} Step fault given text cause h =
    elim cause [ inl e ↦ subst (λ f. StopsWhere Step begin f given text) (sym e) h | inr e ↦ subst (λ f. StopsWhere Step begin f given text) (sym e) h ]

-- a job that goes on by a piece keeps no answer back
pub standing_keeps_up : {St : Type 0} {Step : St → List ℕ → List ℕ → St → Type 0} {begin now : St}
    {left left' taken taken' : Option (List ℕ)} {line waits : List ℕ} {r : Bool} {room : ℕ}
    (st : Standing Step begin left left' taken taken' line waits now r room) (piece more : List ℕ)
    → length piece ≤ PIECE → KeepsUp Step begin (st.given ++ piece) (st.took ++ more)
standing_keeps_up {Step = Step} {now = now} {line = line} {r = r} st piece more short = record {
  before = st.given;
  piece = piece;
  front = st.took;
  rest = more;
  given_is = refl;
  short = short;
  stopped = record {
    ended = st.advances.ended;
    line = line;
    after = now;
    refused = r;
    ends =
        st.advances.ends;
    answers = answers_of Step _ _ _ st.advances.adds;
  };
  text_is = refl;
}

-- and so where it stands
pub stands_keeping_up : {St : Type 0} {Step : St → List ℕ → List ℕ → St → Type 0} {begin now : St}
    {left left' taken taken' : Option (List ℕ)} {line waits : List ℕ} {r : Bool} {room : ℕ}
    (st : Standing Step begin left left' taken taken' line waits now r room) → KeepsUp Step begin st.given st.took
stands_keeping_up {Step = Step} {begin = begin} st =
    let P : List ℕ → List ℕ → Type 0 = λ given took. KeepsUp Step begin given took in
    subst (λ (g : List ℕ). P g st.took) (append-nil st.given) (subst (λ (t : List ℕ). P (st.given ++ []) t)
    (append-nil st.took) (standing_keeps_up st [] [] (omega arith)))

-- a job stops in a piece of which it went through `fed`
pub stops_halted : {St : Type 0} {begin now : St} (Step : St → List ℕ → List ℕ → St → Type 0) (fault : Fault)
    (left left' left'' taken taken' taken'' : Option (List ℕ)) (line waits waits' piece fed past : List ℕ) (r : Bool)
    (room : ℕ) → Standing Step begin left left' taken taken' line waits now r room → Gave left' left'' piece
    → piece ≡ fed ++ past → length fed < room → length piece ≤ room → length piece ≤ PIECE
    → HaltsAt Step now (line ++ fed) taken' taken'' waits' → (fault ≡ Write) ⊎ (fault ≡ Memory)
    → Stops Step begin fault left left'' taken taken'' waits'
stops_halted {begin = begin} {now = now} Step fault left left' left'' taken taken' taken'' line waits waits' piece fed
    past r room st gave is few within short h cause =
    let front : List ℕ = st.given ++ fed in
    let fits : length front ≤ MOST_INPUT = omega (arith, st.room_is, length-append st.given fed) in
    let longer = take_longer MOST_INPUT front past fits in
    let whole : take MOST_INPUT (st.given ++ piece) ≡ front ++ longer.0 =
    ap (take MOST_INPUT) (ap (λ l. st.given ++ l) is ∙ sym (append_assoc st.given fed past)) ∙ longer.1 in
    record {
      given = st.given ++ piece;
      took = st.took ++ h.took;
      source = gave_more _ _ _ _ _ st.source gave;
      few = omega (arith, st.room_is, within, length-append st.given piece);
      sink = appended_more _ _ _ _ _ st.sink h.sink;
      keeps_up = standing_keeps_up st piece h.took short;
      by = stops_by_within Step fault _ _ cause (within_longer Step (take MOST_INPUT (st.given ++ piece)) front longer.0 _ whole (record {
        ended = st.advances.ended ++ h.halts.ended;
        after = h.halts.after;
        whole_text = st.took ++ h.text;
        rest = h.rest;
        refused = r || h.halts.refused;
        begins = λ more. (
          (h.halts.begins more).0,
          ap between_feeds (append_assoc st.given fed more)
              ∙ st.advances.ends.whole (fed ++ more)
              ∙ ap (λ l. st.advances.ended ++ between_feeds l) (sym (append_assoc line fed more))
              ∙ ap (λ l. st.advances.ended ++ l) (h.halts.begins more).1
              ∙ sym (append_assoc st.advances.ended h.halts.ended _),
        );
        answers = answers_of Step _ _ _ (adds_more Step st.advances.ended h.halts.ended [] st.took (st.took ++ h.text)
            r h.halts.refused st.advances.adds
            (record {
              text = h.halts.adds.text;
              answers = h.halts.adds.answers;
              new_is =
                  ap (λ l. st.took ++ l) h.halts.adds.new_is;
            }));
        text_begins = ap (λ l. st.took ++ l) h.text_begins ∙ simp append_assoc;
      }));
    }

-- what a job has taken from the source where it stands is within the limit of an input
standing_fits : {St : Type 0} {Step : St → List ℕ → List ℕ → St → Type 0} {begin now : St}
    {left left' taken taken' : Option (List ℕ)} {line waits : List ℕ} {r : Bool} {room : ℕ}
    (st : Standing Step begin left left' taken taken' line waits now r room) → length st.given ≤ MOST_INPUT
standing_fits st = omega (arith, st.room_is, st.some_room)

-- all that a job has written where it stands
standing_text : {St : Type 0} {Step : St → List ℕ → List ℕ → St → Type 0} {begin now : St}
    {left left' taken taken' : Option (List ℕ)} {line waits : List ℕ} {r : Bool} {room : ℕ}
    (st : Standing Step begin left left' taken taken' line waits now r room) → st.took ≡ st.took ++ waits
standing_text st = sym (append-nil st.took) ∙ ap (λ l. st.took ++ l) (sym st.none_waits)

-- a job stops where it stands, and what it took still stands
stops_standing : {St : Type 0} {Step : St → List ℕ → List ℕ → St → Type 0} {begin now : St} {fault : Fault}
    {left left' left'' taken taken' : Option (List ℕ)} {line waits waits' : List ℕ} {r : Bool} {room : ℕ}
    (st : Standing Step begin left left' taken taken' line waits now r room)
    → left'' ≡ left' → StopsWhere Step begin fault st.given (st.took ++ waits')
    → Stops Step begin fault left left'' taken taken' waits'
stops_standing {left = left} st stays by = record {
  given = st.given;
  took = st.took;
  source = subst (λ (o : Option (List ℕ)). Gave left o st.given) (sym stays) st.source;
  few = omega (arith, standing_fits st);
  sink = st.sink;
  keeps_up = stands_keeping_up st;
  by = by;
}

-- a job stops where a fault of the source gives it no more
pub stops_read : {St : Type 0} {begin now : St} (Step : St → List ℕ → List ℕ → St → Type 0)
    (left left' left'' taken taken' : Option (List ℕ)) (line waits : List ℕ) (r : Bool) (room : ℕ)
    → Standing Step begin left left' taken taken' line waits now r room → left'' ≡ left'
    → Stops Step begin Read left left'' taken taken' waits
stops_read {begin = begin} {now = now} Step left left' left'' taken taken' line waits r room st stays = stops_standing st stays (
  standing_fits st,
  record {
    ended = st.advances.ended;
    line = line;
    after = now;
    refused = r;
    ends = st.advances.ends;
    answers = subst (λ (t : List ℕ). Answers Step begin st.advances.ended t now r) (standing_text st) (answers_of Step _ _ _ st.advances.adds);
  },
)

-- a job stops where no memory answers its last line
pub stops_last : {St : Type 0} {begin now : St} (Step : St → List ℕ → List ℕ → St → Type 0)
    (left left' left'' taken taken' : Option (List ℕ)) (line waits waits' : List ℕ) (r : Bool) (room : ℕ)
    → Standing Step begin left left' taken taken' line waits now r room → left'' ≡ left' → waits' ≡ waits
    → Stops Step begin Memory left left'' taken taken' waits'
stops_last {begin = begin} {now = now} Step left left' left'' taken taken' line waits waits' r room st stays same =
    stops_standing st stays (subst (λ (l : List ℕ). StopsWithin Step begin l (st.took ++ waits'))
    (sym (take_all MOST_INPUT st.given (standing_fits st))) (record {
      ended = st.advances.ended;
      whole_text = st.took;
      after = now;
      rest = [];
      refused = r;
      begins = λ more. (between_feeds (line ++ more), st.advances.ends.whole more);
      answers = answers_of Step _ _ _ st.advances.adds;
      text_begins = sym (append-nil st.took) ∙ ap (λ l. st.took ++ l) (sym (same ∙ st.none_waits)) ∙ sym (append-nil (st.took ++ waits'));
    }))

-- the last line is answered too, and what closes the input stands behind it
pub answers_last : {St : Type 0} {begin now : St} (Step : St → List ℕ → List ℕ → St → Type 0) (closing : St → List ℕ)
    (left left' left'' taken taken' : Option (List ℕ)) (line waits waits' : List ℕ) (r t : Bool) (room : ℕ)
    → Standing Step begin left left' taken taken' line waits now r room → NothingLeft left' → left'' ≡ left'
    → Closes Step closing now line waits waits' r t → AnswersAll Step closing begin left left'' taken taken' waits' t
answers_last {begin = begin} {now = now} Step closing left left' left'' taken taken' line waits waits' r t room st nothing stays ends = record {
  given = st.given;
  took = st.took;
  text = st.took ++ ends.between;
  after = ends.after;
  source = subst (λ (o : Option (List ℕ)). Gave left o st.given) (sym stays) st.source;
  nothing_left = subst NothingLeft (sym stays) nothing;
  fits = omega (arith, st.some_room, st.room_is);
  sink = st.sink;
  keeps_up = stands_keeping_up st;
  answers = subst (λ b. Answers Step begin (between_feeds st.given) (st.took ++ ends.between) ends.after b) (sym ends.refused_is) (
      subst (λ ls. Answers Step begin ls (st.took ++ ends.between) ends.after (r || ends.refused)) (sym pieces)
      (answers_of Step _ _ _ (adds_more Step st.advances.ended (line ∷ []) [] st.took (st.took ++ ends.between)
      r ends.refused st.advances.adds shift)));
  closed = ap (λ l. st.took ++ l) ends.closed ∙ sym (append_assoc st.took ends.between (closing ends.after));
}
  where
    pieces : between_feeds st.given ≡ st.advances.ended ++ line ∷ []
    pieces = ap between_feeds (sym (append-nil st.given))
        ∙ st.advances.ends.whole [] ∙ ap (λ l. st.advances.ended ++ between_feeds l) (append-nil line)
        ∙ ap (λ l. st.advances.ended ++ l) (between_feeds-one line st.advances.ends.unended)

    shift : AddsAnswers Step now (line ∷ []) st.took (st.took ++ ends.between) ends.after ends.refused
    shift = record {
      text = ends.adds.text;
      answers = ends.adds.answers;
      new_is =
          ap (λ l. st.took ++ l) (ends.adds.new_is ∙ ap (λ l. l ++ ends.adds.text) st.none_waits);
    }

-- a job goes through a piece, and there is still room
pub standing_more : {St : Type 0} {begin now next : St} (Step : St → List ℕ → List ℕ → St → Type 0)
    (left left' left'' taken taken' taken'' : Option (List ℕ)) (line line' waits waits' piece : List ℕ) (r s : Bool)
    (room n : ℕ) → Standing Step begin left left' taken taken' line waits now r room → Gave left' left'' piece
    → length piece ≡ n → n < room → PassesOn Step now (line ++ piece) line' taken' taken'' next r s → waits' ≡ []
    → length line' ≤ length line + length piece → Standing Step begin left left'' taken taken'' line' waits' next s
    (room - n)
standing_more {begin = begin} {now = now} {next = next} Step left left' left'' taken taken' taken'' line line' waits
    waits' piece r s room n st gave len less passes none fits = record {
      given = st.given ++ piece;
      took = st.took ++ passes.text;
      source = gave_more _ _ _ _ _ st.source gave;
      sink = appended_more _ _ _ _ _ st.sink passes.sink;
      advances = subst (λ b. Advances Step begin (st.given ++ piece) line' [] (st.took ++ passes.text) next b)
          (sym passes.refused_is) (advances_more Step st.given piece line line' st.took passes.text r passes.refused
          st.advances passes.advances);
      none_waits = none;
      some_room = omega arith;
      room_is = omega (arith, st.room_is, length-append st.given piece);
      fits = omega (arith, st.fits, length-append st.given piece);
    }

-- a job goes through a piece but for its last byte, which is past the limit
pub stops_too_long : {St : Type 0} {begin now next : St} (Step : St → List ℕ → List ℕ → St → Type 0)
    (left left' left'' taken taken' taken'' : Option (List ℕ)) (line line' waits waits' piece fed past : List ℕ)
    (r s : Bool) (room : ℕ) → Standing Step begin left left' taken taken' line waits now r room
    → Gave left' left'' piece → piece ≡ fed ++ past → length fed + 1 ≡ room → length past ≡ 1 → length piece ≤ PIECE
    → PassesOn Step now (line ++ fed) line' taken' taken'' next r s → waits' ≡ []
    → Stops Step begin TooLong left left'' taken taken'' waits'
stops_too_long {begin = begin} {now = now} {next = next} Step left left' left'' taken taken' taken'' line line' waits
    waits' piece fed past r s room st gave is len one short_piece passes none = record {
      given = st.given ++ piece;
      took = st.took ++ passes.text;
      source = gave_more _ _ _ _ _ st.source gave;
      few = omega (arith, st.room_is, len, one, length-append st.given piece, ap length is, length-append fed past);
      sink = appended_more _ _ _ _ _ st.sink passes.sink;
      keeps_up = standing_keeps_up st piece passes.text short_piece;
      by = (
        omega (arith, st.room_is, length-append st.given piece, ap length is, length-append fed past),
        record {
          ended = more.ended;
          line = line';
          after = next;
          refused = r || passes.refused;
          ends = subst (λ (l : List ℕ). EndsIn l more.ended line') (sym within) more.ends;
          answers = subst (λ (l : List ℕ). Answers Step begin more.ended l next (r || passes.refused)) text (answers_of Step _ _ _ more.adds);
        },
      );
    }
  where
    more : Advances Step begin (st.given ++ fed) line' [] (st.took ++ passes.text) next (r || passes.refused)
    more = advances_more Step st.given fed line line' st.took passes.text r passes.refused st.advances passes.advances

    text : st.took ++ passes.text ≡ (st.took ++ passes.text) ++ waits'
    text = sym (append-nil _) ∙ ap (λ l. (st.took ++ passes.text) ++ l) (sym none)

    short : length (st.given ++ fed) + 0 ≡ MOST_INPUT
    short = omega (arith, st.room_is, length-append st.given fed)

    within : take MOST_INPUT (st.given ++ piece) ≡ st.given ++ fed
    within = ap (λ l. take MOST_INPUT (st.given ++ l)) is
        ∙ ap (take MOST_INPUT) (sym (append_assoc st.given fed past))
        ∙ ap (λ n. take n ((st.given ++ fed) ++ past)) (sym short) ∙ take-append-add (st.given ++ fed) past 0
        ∙ append-nil (st.given ++ fed)
