-- Jobs over the lines of an input, step after step.
use Rattle.std.proofs.Common.{◌≡◌, ℕ, ◌+◌, ◌<◌, ◌≤◌, lit<, Bool, true, false, ltb, ◌||◌, Option, Result, Ok, Err}
use Rattle.std.proofs.Common.{OnErr, List, [], ◌∷◌, ◌++◌, length, refl, sym, ◌∙◌, ap, subst, arith, append_assoc}
use Rattle.std.proofs.lemmas.List.{append-nil}
use Rattle.std.proofs.lemmas.Grind.{flat_map-append}
use Rattle.std.proofs.lemmas.List.Folds.{list_any-append}
use Rattle.std.proofs.Math.Bool.{or_assoc}
use Rattle.std.specs.List.{list_any}
use Rattle.csn_io.specs.Got.{Gave}
use Rattle.csn_io.specs.Put.{Appended}
use Rattle.csn_lines.specs.declared.lines.TheConstants.{MOST_INPUT}
use Rattle.csn_lines.proofs.OutsideLemmas.{Appended-nil, Gave-nil}
use Rattle.csn_lines.specs.Lines.{between_feeds, HasNoFeed, without_return, answered, text_of, is_refusal}
use Rattle.csn_lines.specs.Progress.{AllSteps, AddsAnswers, Advances, Halts, HaltsAt, PassesOn}
use Rattle.csn_lines.proofs.LinesLemmas.{between_feeds-append, between_feeds-one, HasNoFeed-append, answered-append}

or_false : (b : Bool) → (b || false) ≡ b
or_false b = elim b as (λ v. (v || false) ≡ v) [ true ↦ refl | false ↦ refl ]

-- an output line refuses as its text does that stands before the line feed
pub refusal_with_feed : (answer behind : List ℕ) → is_refusal (answer ++ 10 ∷ behind) ≡ is_refusal answer
refusal_with_feed [] behind = refl
refusal_with_feed (a ∷ []) behind = grind arith
refusal_with_feed (a ∷ b ∷ []) behind = grind arith
refusal_with_feed (a ∷ b ∷ c ∷ answer) behind = refl

-- a line of which something is left gives one text
pub one_line : {St : Type 0} {before after : St} (Step : St → List ℕ → List ℕ → St → Type 0)
    (line kept old new text : List ℕ) (refused : Bool) → kept ≡ without_return line → 0 < length kept
    → new ≡ old ++ text → Step before kept text after → refused ≡ is_refusal text
    → AddsAnswers Step before (line ∷ []) old new after refused
one_line {before = before} {after = after} Step line kept old new text refused is some new_is holds refusal =
    let longer : 0 < length (without_return line) = subst (λ (l : List ℕ). 0 < length l) is some in
    let passes : ltb 0 (length (without_return line)) ≡ true = grind arith in
    let pieces : answered (line ∷ []) ≡ kept ∷ [] = rw passes (ap (λ l. l ∷ []) (sym is)) in
    record {
      text = text;
      answers = record {
        texts = text ∷ [];
        each = subst (λ ls. AllSteps Step before ls (text ∷ []) after) (sym pieces) (after, holds, refl);
        text_is = sym (append-nil text);
        refused_is = refusal ∙ sym (or_false (is_refusal text));
      };
      new_is = new_is;
    }

-- a line of which nothing is left gives none
pub no_line : {St : Type 0} {before : St} (Step : St → List ℕ → List ℕ → St → Type 0) (line : List ℕ) (old : List ℕ)
    → length (without_return line) ≡ 0 → AddsAnswers Step before (line ∷ []) old old before false
no_line {before = before} Step line old none =
    let passes : ltb 0 (length (without_return line)) ≡ false = grind arith in
    let pieces : answered (line ∷ []) ≡ [] = rw passes refl in
    record {
      text = [];
      answers = record { texts = []; each = subst (λ ls. AllSteps Step before ls [] before) (sym pieces) refl; text_is = refl; refused_is = refl };
      new_is = sym (append-nil old);
    }

-- nothing is answered where there is no piece
pub adds_none : {St : Type 0} {before : St} (Step : St → List ℕ → List ℕ → St → Type 0) (old : List ℕ) → AddsAnswers Step before [] old old before false
adds_none Step old = record {
  text = [];
  answers = record { texts = []; each = refl; text_is = refl; refused_is = refl };
  new_is = sym (append-nil old);
}

-- some lines give texts, and then some more
pub steps_append : {St : Type 0} (Step : St → List ℕ → List ℕ → St → Type 0) (before between after : St)
    (xs us ys vs : List (List ℕ)) → AllSteps Step before xs ys between → AllSteps Step between us vs after
    → AllSteps Step before (xs ++ us) (ys ++ vs) after
steps_append Step before between after [] us [] vs h k = subst (λ s. AllSteps Step s us vs after) h k
steps_append Step before between after [] us (y ∷ ys) vs h k = absurd h
steps_append Step before between after (x ∷ xs) us [] vs h k = absurd h
steps_append Step before between after (x ∷ xs) us (y ∷ ys) vs h k = (h.0, h.1, steps_append Step h.0 between after xs us ys vs h.2 k)

-- some pieces are answered, and then some more
pub adds_more : {St : Type 0} {before between after : St} (Step : St → List ℕ → List ℕ → St → Type 0)
    (p q : List (List ℕ)) (old mid new : List ℕ) (r s : Bool) → AddsAnswers Step before p old mid between r
    → AddsAnswers Step between q mid new after s → AddsAnswers Step before (p ++ q) old new after (r || s)
adds_more {before = before} {between = between} {after = after} Step p q old mid new r s a b = record {
  text = a.text ++ b.text;
  answers = record {
    texts = a.answers.texts ++ b.answers.texts;
    each = subst (λ ls. AllSteps Step before ls (a.answers.texts ++ b.answers.texts) after)
        (sym (answered-append p q)) (steps_append Step before between after _ _ _ _ a.answers.each b.answers.each);
    text_is = ap (λ t. t ++ b.text) a.answers.text_is ∙ ap (λ t. text_of a.answers.texts ++ t) b.answers.text_is
        ∙ sym (flat_map-append (λ text. text) a.answers.texts b.answers.texts);
    refused_is = ap (λ t. t || s) a.answers.refused_is ∙ ap (λ t. list_any is_refusal a.answers.texts || t)
        b.answers.refused_is ∙ sym (list_any-append is_refusal a.answers.texts b.answers.texts);
  };
  new_is = b.new_is ∙ ap (λ t. t ++ b.text) a.new_is ∙ append_assoc old a.text b.text;
}

-- a job that stood at a line has gone through the front of a piece, and `rest` is left of it
pub record SoFar {St : Type 0} (Step : St → List ℕ → List ℕ → St → Type 0) (before : St)
    (line piece rest new_line old new : List ℕ) (after : St) (was_refused is_refused : Bool) : Type 0 where
  pub front : List ℕ
  pub refused : Bool
  pub split : piece ≡ front ++ rest
  pub advances : Advances Step before (line ++ front) new_line old new after refused
  pub refused_is : is_refused ≡ (was_refused || refused)

-- nothing of the piece is done yet
pub so_far_none : {St : Type 0} {before : St} (Step : St → List ℕ → List ℕ → St → Type 0) (line piece old : List ℕ)
    (r : Bool) → HasNoFeed line → SoFar Step before line piece piece line old old before r r
so_far_none Step line piece old r h = record {
  front = [];
  refused = false;
  split = refl;
  advances = record {
    ended = [];
    ends = record { whole = λ more. ap (λ l. between_feeds (l ++ more)) (append-nil line); unended = h };
    adds = adds_none Step old;
  };
  refused_is = sym (or_false r);
}

-- a line is answered
pub so_far_line : {St : Type 0} {before between after : St} (Step : St → List ℕ → List ℕ → St → Type 0)
    (line piece rest here front back old mid new : List ℕ) (w r s t : Bool)
    → SoFar Step before line piece rest here old mid between w r → rest ≡ front ++ 10 ∷ back → HasNoFeed front
    → AddsAnswers Step between ((here ++ front) ∷ []) mid new after s → t ≡ (r || s)
    → SoFar Step before line piece back [] old new after w t
so_far_line Step line piece rest here front back old mid new w r s t so is h adds refusal =
    let one : between_feeds (here ++ front) ≡ (here ++ front) ∷ [] = between_feeds-one (here ++ front)
    (HasNoFeed-append here front so.advances.ends.unended h) in
    record {
      front = so.front ++ (front ++ 10 ∷ []);
      refused = so.refused || s;
      split = so.split ∙ ap (λ l. so.front ++ l) is ∙ simp append_assoc;
      advances = record {
        ended = so.advances.ended ++ (here ++ front) ∷ [];
        ends = record {
          whole = λ more.
              ap between_feeds (regroup line so.front front more)
              ∙ so.advances.ends.whole (front ++ 10 ∷ more)
              ∙ ap (λ l. so.advances.ended ++ between_feeds l) (sym (append_assoc here front (10 ∷ more)))
              ∙ ap (λ l. so.advances.ended ++ l) (between_feeds-append (here ++ front) more ∙ ap (λ l. l ++ between_feeds more) one)
              ∙ sym (append_assoc so.advances.ended ((here ++ front) ∷ []) (between_feeds more));
          unended = tt;
        };
        adds = adds_more Step _ _ _ _ _ _ _ so.advances.adds adds;
      };
      refused_is = refusal ∙ ap (λ b. b || s) so.refused_is ∙ or_assoc w so.refused s;
    }
  where
    regroup : (a b c d : List ℕ) → (a ++ (b ++ (c ++ 10 ∷ []))) ++ d ≡ (a ++ b) ++ (c ++ 10 ∷ d)
    regroup a b c d = simp append_assoc

-- what is left of the piece ends no line
pub so_far_rest : {St : Type 0} {before after : St} (Step : St → List ℕ → List ℕ → St → Type 0)
    (line piece rest here old new : List ℕ) (w r : Bool) → SoFar Step before line piece rest here old new after w r
    → HasNoFeed rest → (refused : Bool) × Advances Step before (line ++ piece) (here ++ rest) old new after refused
    × (r ≡ (w || refused))
so_far_rest Step line piece rest here old new w r so h = (
  so.refused,
  record {
    ended = so.advances.ended;
    ends = record {
      whole = λ more.
          ap (λ l. between_feeds ((line ++ l) ++ more)) so.split
          ∙ ap between_feeds (regroup line so.front rest more)
          ∙ so.advances.ends.whole (rest ++ more)
          ∙ ap (λ l. so.advances.ended ++ between_feeds l) (sym (append_assoc here rest more));
      unended = HasNoFeed-append here rest so.advances.ends.unended h;
    };
    adds = so.advances.adds;
  },
  so.refused_is,
)
  where
    regroup : (a b c d : List ℕ) → (a ++ (b ++ c)) ++ d ≡ (a ++ b) ++ (c ++ d)
    regroup a b c d = simp append_assoc

-- the job stops here
pub so_far_halts : {St : Type 0} {before after : St} (Step : St → List ℕ → List ℕ → St → Type 0)
    (line piece rest here old new : List ℕ) (w r : Bool) → SoFar Step before line piece rest here old new after w r
    → Halts Step before (line ++ piece) old new
so_far_halts {after = after} Step line piece rest here old new w r so = record {
  ended = so.advances.ended;
  after = after;
  refused = so.refused;
  begins = λ more. (
    between_feeds (here ++ (rest ++ more)),
    ap (λ l. between_feeds ((line ++ l) ++ more)) so.split
        ∙ ap between_feeds (regroup line so.front rest more)
        ∙ so.advances.ends.whole (rest ++ more),
  );
  adds = so.advances.adds;
}
  where
    regroup : (a b c d : List ℕ) → (a ++ (b ++ c)) ++ d ≡ (a ++ b) ++ (c ++ d)
    regroup a b c d = simp append_assoc

-- a fact holds where the answer is an error
pub OnErr-from : {T E P : Type 0} (r : Result T E) → P → OnErr r P
OnErr-from (Ok x) p = tt
OnErr-from (Err e) p = p

-- a job that went through the bytes can stop there
pub halts_from_advances : {St : Type 0} {before after : St} (Step : St → List ℕ → List ℕ → St → Type 0)
    (bytes line old new : List ℕ) (refused : Bool) → Advances Step before bytes line old new after refused
    → Halts Step before bytes old new
halts_from_advances {after = after} Step bytes line old new refused a = record {
  ended = a.ended;
  after = after;
  refused = refused;
  begins = λ more. (between_feeds (line ++ more), a.ends.whole more);
  adds = a.adds;
}

-- a job went through the bytes, and the sink took a part of the answers
pub pass_halts : {St : Type 0} {before after : St} (Step : St → List ℕ → List ℕ → St → Type 0)
    (bytes line old new front rest waits : List ℕ) (taken taken' : Option (List ℕ)) (refused : Bool)
    → old ≡ [] → Advances Step before bytes line old new after refused → new ≡ front ++ rest
    → Appended taken taken' front → waits ≡ [] → HaltsAt Step before bytes taken taken' waits
pass_halts {before = before} Step bytes line old new front rest waits taken taken' refused nothing a split sink none = record {
  text = new;
  took = front;
  rest = rest;
  halts = subst (λ (l : List ℕ). Halts Step before bytes l new) nothing (halts_from_advances Step bytes line old new refused a);
  sink = sink;
  text_begins = split ∙ ap (λ l. l ++ rest) (sym (append-nil front) ∙ ap (λ l. front ++ l) (sym none));
}

-- and it took all of them
pub pass_all : {St : Type 0} {before after : St} (Step : St → List ℕ → List ℕ → St → Type 0)
    (bytes line old new front rest : List ℕ) (taken taken' : Option (List ℕ)) (refused was_refused is_refused : Bool)
    → old ≡ [] → Advances Step before bytes line old new after refused → new ≡ front ++ rest → rest ≡ []
    → Appended taken taken' front → is_refused ≡ (was_refused || refused)
    → PassesOn Step before bytes line taken taken' after was_refused is_refused
pass_all {before = before} {after = after} Step bytes line old new front rest taken taken' refused was_refused is_refused nothing a split none sink refusal =
    let all : new ≡ front = split ∙ ap (λ l. front ++ l) none ∙ append-nil front in
    record {
      text = front;
      refused = refused;
      advances = subst (λ (l : List ℕ). Advances Step before bytes line l front after refused) nothing
          (subst (λ (l : List ℕ). Advances Step before bytes line old l after refused) all a);
      sink = sink;
      refused_is = refusal;
    }

-- a job stopped before the sink took any of them
pub stop_unpassed : {St : Type 0} {before : St} (Step : St → List ℕ → List ℕ → St → Type 0) (bytes old new : List ℕ)
    (taken : Option (List ℕ)) → old ≡ [] → Halts Step before bytes old new → HaltsAt Step before bytes taken taken new
stop_unpassed {before = before} Step bytes old new taken nothing halts = record {
  text = new;
  took = [];
  rest = [];
  halts = subst (λ (l : List ℕ). Halts Step before bytes l new) nothing halts;
  sink = Appended-nil taken;
  text_begins = sym (append-nil new);
}

-- between two pieces of the input: what the source gave so far, what the sink took, and the line that
-- has not ended. There is room for one byte at least
pub record Standing {St : Type 0} (Step : St → List ℕ → List ℕ → St → Type 0) (begin : St)
    (left left' : Option (List ℕ)) (taken taken' : Option (List ℕ)) (line waits : List ℕ) (now : St) (refused : Bool)
    (room : ℕ) : Type 0 where
  pub given : List ℕ
  pub took : List ℕ
  pub source : Gave left left' given
  pub sink : Appended taken taken' took
  pub advances : Advances Step begin given line [] took now refused
  pub none_waits : waits ≡ []
  pub some_room : 0 < room
  pub room_is : length given + room ≡ MOST_INPUT + 1
  pub fits : length line ≤ length given

-- before the first piece
pub standing_begin : {St : Type 0} {begin : St} (Step : St → List ℕ → List ℕ → St → Type 0)
    (left taken : Option (List ℕ)) (line waits : List ℕ) (refused : Bool) → line ≡ [] → waits ≡ [] → refused ≡ false
    → Standing Step begin left left taken taken line waits begin refused (MOST_INPUT + 1)
standing_begin {begin = begin} Step left taken line waits refused none_line none not_refused = record {
  given = [];
  took = [];
  source = Gave-nil left;
  sink = Appended-nil taken;
  advances = record {
    ended = [];
    ends = record { whole = λ more. ap (λ (l : List ℕ). between_feeds (l ++ more)) (sym none_line); unended = subst HasNoFeed (sym none_line) tt };
    adds = subst (λ r. AddsAnswers Step begin [] [] [] begin r) (sym not_refused) (adds_none Step []);
  };
  none_waits = none;
  some_room = lit< tt;
  room_is = refl;
  fits = rw none_line (omega arith);
}

-- a job goes through one piece more
pub advances_more : {St : Type 0} {before between after : St} (Step : St → List ℕ → List ℕ → St → Type 0)
    (given piece line new_line took text : List ℕ) (r s : Bool) → Advances Step before given line [] took between r
    → Advances Step between (line ++ piece) new_line [] text after s → Advances Step before (given ++ piece)
    new_line [] (took ++ text) after (r || s)
advances_more {between = between} {after = after} Step given piece line new_line took text r s a b = record {
  ended = a.ended ++ b.ended;
  ends = record {
    whole = λ more.
        ap between_feeds (append_assoc given piece more)
        ∙ a.ends.whole (piece ++ more)
        ∙ ap (λ l. a.ended ++ between_feeds l) (sym (append_assoc line piece more))
        ∙ ap (λ l. a.ended ++ l) (b.ends.whole more)
        ∙ sym (append_assoc a.ended b.ended (between_feeds (new_line ++ more)));
    unended = b.ends.unended;
  };
  adds = adds_more Step a.ended b.ended [] took (took ++ text) r s a.adds (shift b.adds);
}
  where
    shift : AddsAnswers Step between b.ended [] text after s → AddsAnswers Step between b.ended took (took ++ text) after s
    shift c = record { text = c.text; answers = c.answers; new_is = ap (λ l. took ++ l) c.new_is }
