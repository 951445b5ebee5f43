-- From the open nodes to what a judge answers: before the first bit, behind a piece, at a refusal, and at the end.
use Rattle.std.proofs.Common.{◌≡◌, ℕ, zero, suc, ◌+◌, ◌*◌, ◌<◌, ◌≤◌, ◌⊎◌, inl, inr, Bool, true, false, List, [], ◌∷◌}
use Rattle.std.proofs.Common.{◌++◌, length, take, refl, sym, ◌∙◌, ap, subst, arith, append_assoc, append-nil}
use Rattle.std.proofs.Common.{length-append, Some, None}
use Rattle.std.specs.Prelude.{⊤}
use Rattle.std.proofs.lemmas.Bool.Decides.{leb_tells}
use Rattle.std.proofs.lemmas.Option.{slice_get_within}
use Rattle.std.proofs.Math.Nat.{mul-add, mul_assoc, le-mul_of_pos_right}
use Rattle.csn_desc.specs.Formed.{IsDescription, Formed, formed}
use Rattle.csn_judge.specs.Credit.{credit_of}
use Rattle.csn_desc.specs.declared.moves.Move.{Move}
use Rattle.csn_desc.specs.declared.node.Node.{Node}
use Rattle.csn_desc.specs.Nodes.{DescV}
use Rattle.csn_desc.specs.TreeV.{TreeV}
use Rattle.csn_desc.specs.Means.{NMeans}
use Rattle.csn_desc.specs.Follows.{NFollow, IsPlace}
use Rattle.csn_desc.specs.Laws.{PrefixesAreFollowed, StringsAreFollowed, TreesHaveMoves}
use Rattle.csn_judge.specs.Known.{Known}
use Rattle.csn_judge.specs.Coming.{Coming}
use Rattle.csn_judge.specs.Told.{Tells, tells_none}
use Rattle.csn_judge.specs.Left.{Left, all_left, none_left, bits_left, symbols_left, spare_left, pad_left, rest_left}
use Rattle.csn_judge.specs.Left.{choice_left, window_left, parts_left, turns_left, free_left, cut_left, lead_left}
use Rattle.csn_judge.specs.Left.{begins_all}
use Rattle.csn_judge.specs.Remains.{Rest, Goes, IsBlock, StandsFor, Passes, Steps, goes_here}
use Rattle.csn_judge.specs.Inside.{IsStack, AreOwed}
use Rattle.csn_certify.specs.declared.numbers.Number.{Number}
use Rattle.csn_judge.specs.declared.pace.Pace.{Pace}
use Rattle.csn_judge.specs.declared.frame.Frame.{Frame}
use Rattle.csn_judge.specs.declared.frame.Frame.TheVariants as frame
use Rattle.csn_judge.specs.Shown.{Shows, shows_none, shows_begin, round_none}
use Rattle.csn_judge.specs.Turns.{StateV, fresh_at, Stands, WaitsOn, RefusesAt, around_of}
use Rattle.csn_judge.specs.Judging.{JudgeV, JudgesFor, judges_on, judges_no_more, SomeTold, Judges, Ends, opened}
use Rattle.csn_judge.specs.declared.verdict.Verdict.{Verdict}
use Rattle.csn_judge.specs.declared.verdict.Judged.{Judged}
use Rattle.csn_judge.specs.declared.verdict.Verdict.TheVariants.{Going, Refused}
use Rattle.csn_judge.specs.declared.verdict.Judged.TheVariants.{Ok, Refused as no_string_at}
use Rattle.csn_judge.proofs.StepFacts.{stands_after}
use Rattle.csn_judge.proofs.Verdicts.{stack_new, feed_on, going, place_at_end, refused_at, StandsAtEnd, at_end}
use Rattle.csn_judge.proofs.Verdicts.{at_end_after, is_string, no_string, no_string_held}

-- the state where other bits come
abbrev pub where_come : StateV → Coming → StateV
where_come s coming = record { frames = s.frames; values = s.values; pace = s.pace; coming = coming }

-- more bits at hand
pub owed_more : (stack : List Left) (done ahead more : List ℕ) → AreOwed stack done ahead → AreOwed stack done (ahead ++ more)
owed_more [] done ahead more owed = tt
owed_more (lead_left i from after v ∷ outer) done ahead more (inl some, owed) = (inl some, owed_more outer done ahead more owed)
owed_more (lead_left i from after v ∷ outer) done ahead more (inr one, owed) =
    (inr (omega (arith, one.0, length-append ahead more), one.1), owed_more outer done ahead more owed)
owed_more (all_left i v ∷ outer) done ahead more owed = owed_more outer done ahead more owed
owed_more (bits_left n ∷ outer) done ahead more owed = owed_more outer done ahead more owed
owed_more (symbols_left run ∷ outer) done ahead more owed = owed_more outer done ahead more owed
owed_more (spare_left s ∷ outer) done ahead more owed = owed_more outer done ahead more owed
owed_more (pad_left begun ∷ outer) done ahead more owed = owed_more outer done ahead more owed
owed_more (rest_left ∷ outer) done ahead more owed = owed_more outer done ahead more owed
owed_more (choice_left parts v ∷ outer) done ahead more owed = owed_more outer done ahead more owed
owed_more (none_left ∷ outer) done ahead more owed = owed_more outer done ahead more owed
owed_more (window_left end ∷ outer) done ahead more owed = owed_more outer done ahead more owed
owed_more (parts_left i from after v ∷ outer) done ahead more owed = owed_more outer done ahead more owed
owed_more (turns_left n i v ∷ outer) done ahead more owed = owed_more outer done ahead more owed
owed_more (free_left i v ∷ outer) done ahead more owed = owed_more outer done ahead more owed
owed_more (cut_left parts v ∷ outer) done ahead more owed = owed_more outer done ahead more owed

module _ (d : DescV) where
  -- ---- before the first bit

  pub new_stands : Known d → (s : StateV) → s.frames ≡ frame.Begin 0 ∷ [] → s.values ≡ [] → s.pace ≡ record { next = 1; again = false }
      → s.coming ≡ record { bits = []; held = 0; place = 0; limit = 4294967295; ended = false }
      → Stands d s (all_left 0 [] ∷ []) []
  new_stands known s frames values pace coming =
      let P : List Frame → Type 0 = λ l. Shows d l s.values (all_left 0 [] ∷ []) [] in
      let Q : List Number → Type 0 = λ l. Shows d (frame.Begin 0 ∷ []) l (all_left 0 [] ∷ []) [] in
      let R : Pace → Type 0 = λ p. IsStack d p.next (fresh_at p 0) (all_left 0 [] ∷ []) [] in
      record {
        shows = subst P (sym frames) (subst Q (sym values) (shows_begin refl refl (round_none refl)));
        stack_is = subst R (sym pace) (stack_new d known.description);
        place = ap (λ c. c.place) coming;
        limit = ap (λ c. c.limit) coming;
        owed = tt;
      }

  -- no bits are followed
  pub new_goes : NFollow d 0 0 [] [] → Goes d (all_left 0 [] ∷ []) [] []
  new_goes followed = goes_here (begins_all followed) (tt, tt)

  -- ---- more bits come

  pub fed_stands : {s : StateV} {stack : List Left} {done : List ℕ} (more : List ℕ) (coming : Coming)
      → coming.bits ≡ s.coming.bits ++ more → coming.place ≡ s.coming.place → coming.limit ≡ s.coming.limit
      → Stands d s stack done → Stands d (where_come s coming) stack done
  fed_stands {s} {stack} {done} more coming bits place limit stands =
      let P : List ℕ → Type 0 = λ l. AreOwed stack done l in
      record {
        shows = stands.shows;
        stack_is = stands.stack_is;
        place = place ∙ stands.place;
        limit = limit ∙ stands.limit;
        owed = subst P (sym bits) (owed_more stack done s.coming.bits more stands.owed);
      }

  -- bits behind which a block does not end change nothing for what stands
  steps_of : {old new : List Left} {done taken ahead : List ℕ} {made : List Move}
      → Passes d false old new done taken ahead made → Steps d old new done taken ahead made
  steps_of p =
      record {
        ends = λ later rest h. p.ends later rest (λ e. absurd (cc)) h;
        ended = λ later more h. p.ended_by later more (λ e. absurd (cc)) h;
        goes = λ b agrees g. p.goes b refl agrees g;
        went = λ b agrees g. p.went b refl agrees g;
      }

  -- what stands for the bits before the turns stands for them behind these
  pub stands_on : {old new : List Left} {done ahead taken now : List ℕ} {made more : List Move} {ended : Bool} → ended ≡ false
      → ahead ≡ taken ++ now → StandsFor d old done ahead made → Passes d ended old new done taken now more
      → StandsFor d new (done ++ taken) now (made ++ more)
  stands_on {old} {new} {done} {ahead} {taken} {now} {made} {more} {ended} going is s p =
      let P : Bool → Type 0 = λ e. Passes d e old new done taken now more in
      let Q : List ℕ → Type 0 = λ l. StandsFor d old done l made in
      stands_after d taken (subst Q is s) (steps_of (subst P going p))

-- the front of two pieces is that of the first
front_of : (b more : List ℕ) (n : ℕ) → n ≤ length b → take n (b ++ more) ≡ take n b
front_of b more zero small = refl
front_of [] more (suc n) small = absurd (omega arith)
front_of (a ∷ b) more (suc n) small = ap (λ l. a ∷ l) (front_of b more n (omega arith))

all_of : (l : List ℕ) → take (length l) l ≡ l
all_of [] = refl
all_of (a ∷ l) = ap (λ r. a ∷ r) (all_of l)

-- what lies behind a front
behind_front : (n m : ℕ) (l : List ℕ) → n ≤ m → (rest : List ℕ) × (take m l ≡ take n l ++ rest)
behind_front zero m l less = (take m l, refl)
behind_front (suc n) zero l less = absurd (omega arith)
behind_front (suc n) (suc m) [] less = ([], refl)
behind_front (suc n) (suc m) (a ∷ l) less = let rest = behind_front n m l (omega arith) in (rest.0, ap (λ r. a ∷ r) rest.1)

module _ (d : DescV) where
  -- ---- a refusal

  -- bits are not followed where their place is before their end
  pub not_followed : {b : List ℕ} {place : ℕ} → IsPlace d b place → place < length b → ¬ NFollow d 0 0 [] b
  not_followed {b} {place} is small f =
      let P : List ℕ → Type 0 = λ l. NFollow d 0 0 [] l in
      omega (arith, is.greatest (length b) (omega arith) (subst P (sym (all_of b)) f))

  -- the place is not inside a front that can be followed
  pub front_within : {b : List ℕ} (more : List ℕ) {place : ℕ} → IsPlace d (b ++ more) place → NFollow d 0 0 [] b → length b ≤ place
  front_within {b} more is f =
      let P : List ℕ → Type 0 = λ l. NFollow d 0 0 [] l in
      is.greatest (length b) (omega (arith, length-append b more)) (subst P (sym (front_of b more (length b) (omega arith) ∙ all_of b)) f)

  -- and more bits change nothing
  pub place_stays : PrefixesAreFollowed → {b : List ℕ} {place : ℕ} (more : List ℕ) → IsPlace d b place → place < length b → IsPlace d (b ++ more) place
  place_stays prefixes {b} {place} more is small =
      let P : List ℕ → Type 0 = λ l. NFollow d 0 0 [] l in
      record {
        within = omega (arith, length-append b more);
        followed = subst P (sym (front_of b more place (omega arith))) is.followed;
        greatest = λ many less f.
            elim (leb_tells many (length b)) [
              | inl few ↦ is.greatest many few.1 (subst P (front_of b more many few.1) f)
              | inr lots ↦
                  let rest = behind_front (length b) many (b ++ more) (omega (arith, lots.1)) in
                  let whole : take (length b) (b ++ more) ≡ b = front_of b more (length b) (omega arith) ∙ all_of b in
                  absurd (not_followed is small (prefixes d 0 0 [] b rest.0 (subst P (rest.1 ∙ ap (λ l. l ++ rest.0) whole) f)))
            ];
      }

-- ---- a piece

-- the judge behind a piece that can be followed
pub record IsBehind (old new : JudgeV) (more : List ℕ) (after : StateV) : Type 0 where
  pub desc : new.desc ≡ old.desc
  pub refused : new.refused ≡ None
  pub seen : new.seen ≡ old.seen + length more
  pub frames : new.state.frames ≡ after.frames
  pub values : new.state.values ≡ after.values
  pub pace : new.state.pace ≡ after.pace
  pub bits : new.state.coming.bits ≡ take after.coming.held after.coming.bits
  pub place : new.state.coming.place ≡ after.coming.place
  pub limit : new.state.coming.limit ≡ after.coming.limit

-- the bits that come with a piece
pub record IsFed (old : JudgeV) (more : List ℕ) (coming : Coming) : Type 0 where
  pub bits : coming.bits ≡ old.state.coming.bits ++ more
  pub place : coming.place ≡ old.state.coming.place
  pub limit : coming.limit ≡ old.state.coming.limit
  pub going : coming.ended ≡ false

-- the judge of a description that is told
judges_by : (j : JudgeV) (d : DescV) → j.desc ≡ d → (stack : List Left) (done : List ℕ) {b : List ℕ} {made : List Move}
    → j.refused ≡ None → j.seen ≡ length b → b ≡ done ++ j.state.coming.bits
    → Stands d j.state stack done → StandsFor d stack done j.state.coming.bits made → Goes d stack done j.state.coming.bits
    → (0 < length j.state.coming.bits → (rest : List Move) → ¬ Rest d stack done j.state.coming.bits rest)
    → JudgesFor j b made
judges_by j d is stack done {made = made} refused seen cut stands for goes unended =
    let A : DescV → Type 0 = λ d. Stands d j.state stack done in
    let B : DescV → Type 0 = λ d. StandsFor d stack done j.state.coming.bits made in
    let C : DescV → Type 0 = λ d. Goes d stack done j.state.coming.bits in
    let D : DescV → Type 0 = λ d. 0 < length j.state.coming.bits → (rest : List Move) → ¬ Rest d stack done j.state.coming.bits rest in
    judges_on stack done refused seen cut (subst A (sym is) stands) (subst B (sym is) for) (subst C (sym is) goes) (subst D (sym is) unended)

module _ {S : Type 0} (takes : S → Move → Node → S → Type 0) (old new : JudgeV) (more : List ℕ) (coming : Coming) (after : StateV) (s t : S) where
  abbrev fed : StateV
  fed = where_come old.state coming

  -- the judge stands where the machine waits
  pub record StandsBehind {stack : List Left} {done : List ℕ} (on : WaitsOn old.desc takes fed after s t stack done) : Type 0 where
    pub bits : new.state.coming.bits ≡ after.coming.bits
    pub stands : Stands old.desc new.state on.on.now (done ++ on.on.taken)

  pub behind_stands : IsBehind old new more after → {stack : List Left} {done : List ℕ}
      → (on : WaitsOn old.desc takes fed after s t stack done) → StandsBehind on
  behind_stands is {stack} {done} on =
      let there = on.on.stands in
      let same : new.state.coming.bits ≡ after.coming.bits = is.bits ∙ ap (λ n. take n after.coming.bits) on.held ∙ all_of after.coming.bits in
      let P : List Frame → Type 0 = λ f. Shows old.desc f new.state.values on.on.now (done ++ on.on.taken) in
      let V : List Number → Type 0 = λ v. Shows old.desc after.frames v on.on.now (done ++ on.on.taken) in
      let Q : Pace → Type 0 = λ p. IsStack old.desc p.next (fresh_at p (length (done ++ on.on.taken))) on.on.now (done ++ on.on.taken) in
      let R : List ℕ → Type 0 = λ l. AreOwed on.on.now (done ++ on.on.taken) l in
      record {
        bits = same;
        stands = record {
          shows = subst P (sym is.frames) (subst V (sym is.values) there.shows);
          stack_is = subst Q (sym is.pace) there.stack_is;
          place = is.place ∙ there.place;
          limit = is.limit ∙ there.limit;
          owed = subst R (sym same) there.owed;
        };
      }

  pub feeds_on : old.refused ≡ None → IsFed old more coming → IsBehind old new more after
      → ((stack : List Left) (done : List ℕ) → Stands old.desc fed stack done → WaitsOn old.desc takes fed after s t stack done)
      → Judges (λ around made. Tells old.desc takes (opened old) made around s t) old new more Going
  feeds_on none come is turns b moves (judges_no_more place refused at small) = absurd (cc)
  feeds_on none come is turns b moves (judges_on stack done refused seen cut stands for goes unended) =
      let d : DescV = old.desc in
      let on = turns stack done (fed_stands d more coming come.bits come.place come.limit stands) in
      let go = on.on in
      let there = behind_stands is on in
      let F : List ℕ → Type 0 = λ l. StandsFor d stack done l moves in
      let read = stands_on d come.going go.bits (subst F (sym come.bits) (feed_on d more for)) go.steps in
      let same : b ++ more ≡ (done ++ go.taken) ++ new.state.coming.bits =
      ap (λ l. l ++ more) cut ∙ append_assoc done old.state.coming.bits more
      ∙ ap (λ l. done ++ l) (sym come.bits ∙ go.bits ∙ ap (λ l. go.taken ++ l) (sym there.bits))
      ∙ sym (append_assoc done go.taken new.state.coming.bits) in
      let followed = on.followed (go.ended ∙ come.going) in
      let P : List ℕ → Type 0 = λ l. NFollow d 0 0 [] l in
      let Q : List Frame → Type 0 = λ f. Tells d takes (opened old) go.made (around_of f) s t in
      let G : List ℕ → Type 0 = λ l. Goes d go.now (done ++ go.taken) l in
      let H : List ℕ → Type 0 = λ l. StandsFor d go.now (done ++ go.taken) l (moves ++ go.made) in
      let N : List ℕ → Type 0 = λ l. (0 < length l) → (rest : List Move) → ¬ Rest d go.now (done ++ go.taken) l rest in
      record {
        made = go.made;
        judges = judges_by new d is.desc go.now (done ++ go.taken) is.refused (is.seen ∙ ap (λ n. n + length more) seen ∙ sym (length-append b more)) same
            there.stands (subst H (sym there.bits) read) (subst G (sym there.bits) followed) (subst N (sym there.bits) on.held_ends);
        followed = subst P (sym (same ∙ ap (λ l. (done ++ go.taken) ++ l) there.bits)) (going d read followed);
        told = subst Q (sym is.frames) go.tells;
      }

  -- a piece with a bit that is refused
  pub feeds_none : PrefixesAreFollowed → (place : ℕ) → old.refused ≡ None → IsFed old more coming
      → ((stack : List Left) (done : List ℕ) → Stands old.desc fed stack done → RefusesAt old.desc takes fed after s t stack done place)
      → Judges (λ around made. Tells old.desc takes (opened old) made around s t) old new more (Refused place)
  feeds_none prefixes place none come turns b moves (judges_no_more before refused at small) = absurd (cc)
  feeds_none prefixes place none come turns b moves (judges_on stack done refused seen cut stands for goes unended) =
      let d : DescV = old.desc in
      let no = turns stack done (fed_stands d more coming come.bits come.place come.limit stands) in
      let same : b ++ more ≡ done ++ coming.bits = ap (λ l. l ++ more) cut
      ∙ append_assoc done old.state.coming.bits more ∙ ap (λ l. done ++ l) (sym come.bits) in
      let F : List ℕ → Type 0 = λ l. StandsFor d stack done l moves in
      let P : List ℕ → Type 0 = λ l. IsPlace d l place in
      let Q : ℕ → Type 0 = λ n. IsPlace d (done ++ coming.bits) n in
      let G : List ℕ → Type 0 = λ l. NFollow d 0 0 [] l in
      let at = subst P (sym same)
      (subst Q (sym no.place_is) (refused_at d no.alike no.bit no.later prefixes
      (subst F (sym come.bits) (feed_on d more for)) no.bits no.followed no.no_further)) in
      let small : place < length (b ++ more) =
      omega (
        arith,
        no.place_is,
        ap (λ l. length l) same,
        length-append done coming.bits,
        ap (λ l. length l)
            no.bits,
        length-append no.alike (no.bit ∷ no.later),
      ) in
      record {
        place_is = at;
        before_end = small;
        not_followed = not_followed d at small;
        in_piece = λ none. front_within d more at (subst G (sym cut) (going d for goes));
        told = λ none. (no.around, no.made, no.tells);
      }

-- no more bits
pub feeds_nothing : {S : Type 0} (takes : S → Move → Node → S → Type 0) (j : JudgeV) (more : List ℕ) (s : S) → j.refused ≡ None → more ≡ []
    → Judges (λ around made. Tells j.desc takes (opened j) made around s s) j j more Going
feeds_nothing takes j more s none nothing b moves (judges_no_more place refused at small) = absurd (cc)
feeds_nothing takes j more s none nothing b moves (judges_on stack done refused seen cut stands for goes unended) =
    let same : b ++ more ≡ b = ap (λ l. b ++ l) nothing ∙ append-nil b in
    let J : List ℕ → Type 0 = λ l. JudgesFor j l moves in
    let K : List Move → Type 0 = λ l. JudgesFor j (b ++ more) l in
    let P : List ℕ → Type 0 = λ l. NFollow j.desc 0 0 [] l in
    record {
      made = [];
      judges = subst K (sym (append-nil moves)) (subst J (sym same) (judges_on stack done refused seen cut stands for goes unended));
      followed = subst P (sym (same ∙ cut)) (going j.desc for goes);
      told = tells_none refl refl;
    }

refused_once : (j : JudgeV) {place : ℕ} → j.refused ≡ Some place → j.refused ≡ None → ⊥
refused_once j refusal none = absurd (cc)

-- behind a refusal
pub feeds_still : PrefixesAreFollowed → (are_told : List ℕ → List Move → Type 0) (old new : JudgeV) (more : List ℕ) (place : ℕ) → old.refused ≡ Some place
    → Judges are_told old new more (Refused place)
feeds_still prefixes are_told old new more place refusal b moves (judges_on stack done refused seen cut stands for goes unended) = absurd (cc)
feeds_still prefixes are_told old new more place refusal b moves (judges_no_more before refused at small) =
    let same : before ≡ place = cc in
    let P : ℕ → Type 0 = λ n. IsPlace old.desc (b ++ more) n in
    let here = subst P same (place_stays old.desc prefixes more at small) in
    let far : place < length (b ++ more) = omega (arith, same, length-append b more) in
    record {
      place_is = here;
      before_end = far;
      not_followed = not_followed old.desc here far;
      in_piece = λ none. absurd (refused_once old refusal none);
      told = λ none. absurd (refused_once old refusal none);
    }

-- ---- the end of a block

-- bits with a tree make a block with its moves
blocks : (d : DescV) → TreesHaveMoves → (b : List ℕ) → ((moves : List Move) → ¬ IsBlock d b moves) → (tree : TreeV) → ¬ NMeans d 0 0 [] b tree
blocks d have b none tree means = let walk = have d 0 0 [] b tree means in none walk.0 (record { tree = tree; means = means; walks = walk.1 })

-- behind a refusal
pub ends_refused : StringsAreFollowed → (are_told : List ℕ → List Move → Type 0) (j : JudgeV) (place : ℕ)
    → j.refused ≡ Some place → Ends are_told j (no_string_at place)
ends_refused strings are_told j place refusal b moves (judges_on stack done refused seen cut stands for goes unended) = absurd (cc)
ends_refused strings are_told j place refusal b moves (judges_no_more before refused at small) =
    let same : before ≡ place = cc in
    let P : ℕ → Type 0 = λ n. IsPlace j.desc b n in
    record {
      place_is = subst P same at;
      no_tree = λ tree means. not_followed j.desc at small (strings j.desc 0 0 [] b tree means);
      told = λ none. absurd (refused_once j refusal none);
    }

-- bits are held
pub ends_held : TreesHaveMoves → (are_told : List ℕ → List Move → Type 0) (j : JudgeV) → j.refused ≡ None → 0 < length j.state.coming.bits → SomeTold are_told
    → Ends are_told j (no_string_at j.seen)
ends_held have are_told j none some told b moves (judges_no_more before refused at small) = absurd (cc)
ends_held have are_told j none some told b moves (judges_on stack done refused seen cut stands for goes unended) =
    let d : DescV = j.desc in
    let P : List ℕ → Type 0 = λ l. NFollow d 0 0 [] l in
    let Q : ℕ → Type 0 = λ n. IsPlace d b n in
    let R : List ℕ → Type 0 = λ l. (moves : List Move) → ¬ IsBlock d l moves in
    record {
      place_is = subst Q (sym seen) (place_at_end d (subst P (sym cut) (going d for goes)));
      no_tree = blocks d have b (subst R (sym cut) (no_string_held d for (unended some)));
      told = λ none. told;
    }

-- the judge at the end of a block, with no bits held
pub record IsOver (j : JudgeV) (coming : Coming) : Type 0 where
  pub refused : j.refused ≡ None
  pub none : j.state.coming.bits ≡ []
  pub bits : coming.bits ≡ []
  pub place : coming.place ≡ j.state.coming.place
  pub limit : coming.limit ≡ j.state.coming.limit
  pub ended : coming.ended ≡ true

module _ {S : Type 0} (takes : S → Move → Node → S → Type 0) (j : JudgeV) (coming : Coming) (after : StateV) (s t : S) where
  record AtEnd (b : List ℕ) (moves : List Move) : Type 0 where
    stack : List Left
    done : List ℕ
    is : b ≡ done
    stands : Stands j.desc (where_come j.state coming) stack done
    ends : StandsAtEnd j.desc stack done moves
    place : IsPlace j.desc b j.seen

  over_stands : IsOver j coming → {stack : List Left} {done : List ℕ} → Stands j.desc j.state stack done → Stands j.desc (where_come j.state coming) stack done
  over_stands over stands = fed_stands j.desc [] coming (over.bits ∙ sym over.none ∙ sym (append-nil j.state.coming.bits)) over.place over.limit stands

  at_the_end : IsOver j coming → (b : List ℕ) (moves : List Move) → JudgesFor j b moves → AtEnd b moves
  at_the_end over b moves (judges_no_more place refused at small) = let none = over.refused in absurd (cc)
  at_the_end over b moves (judges_on stack done refused seen cut stands for goes unended) =
      let d : DescV = j.desc in
      let same : b ≡ done = cut ∙ ap (λ l. done ++ l) over.none ∙ append-nil done in
      let P : List ℕ → Type 0 = λ l. NFollow d 0 0 [] l in
      let Q : ℕ → Type 0 = λ n. IsPlace d b n in
      let F : List ℕ → Type 0 = λ l. StandsFor d stack done l moves in
      record {
        stack = stack;
        done = done;
        is = same;
        stands = over_stands over stands;
        ends = at_end d (subst F over.none for);
        place = subst Q (sym seen) (place_at_end d (subst P (sym cut) (going d for goes)));
      }

  -- what the machine leaves open behind the end
  record AtLast (b : List ℕ) (moves : List Move) : Type 0 where
    now : List Left
    made : List Move
    shows : Shows j.desc after.frames after.values now b
    ends : StandsAtEnd j.desc now b (moves ++ made)
    tells : Tells j.desc takes (opened j) made (around_of after.frames) s t
    over : (after.frames ≡ []) ⊎ ((rest : List Move) → ¬ Rest j.desc now b [] rest)

  no_more : (a b : List ℕ) → [] ≡ a ++ b → (a ≡ []) × (b ≡ [])
  no_more [] b e = (refl, sym e)
  no_more (x ∷ a) b e = absurd (cc)

  at_the_last : IsOver j coming → ((stack : List Left) (done : List ℕ) → Stands j.desc (where_come j.state coming)
      stack done → WaitsOn j.desc takes (where_come j.state coming) after s t stack done)
      → (b : List ℕ) (moves : List Move) → AtEnd b moves → AtLast b moves
  at_the_last over turns b moves end =
      let d : DescV = j.desc in
      let wait = turns end.stack end.done end.stands in
      let on = wait.on in
      let none = no_more on.taken after.coming.bits (sym over.bits ∙ on.bits) in
      let here : end.done ++ on.taken ≡ b = ap (λ l. end.done ++ l) none.0 ∙ append-nil end.done ∙ sym end.is in
      let A : List ℕ → Type 0 = λ l. Shows d after.frames after.values on.now l in
      let B : Bool → Type 0 = λ e. Passes d e end.stack on.now end.done on.taken after.coming.bits on.made in
      let C : List ℕ → Type 0 = λ l. Passes d true end.stack on.now end.done l after.coming.bits on.made in
      let D : List ℕ → Type 0 = λ l. Passes d true end.stack on.now end.done [] l on.made in
      let E : List ℕ → Type 0 = λ l. StandsAtEnd d on.now l (moves ++ on.made) in
      let G : List ℕ → Type 0 = λ l. (after.frames ≡ []) ⊎ ((rest : List Move) → ¬ Rest d on.now l [] rest) in
      record {
        now = on.now;
        made = on.made;
        shows = subst A here on.stands.shows;
        ends = subst E (sym end.is) (at_end_after d end.ends (subst D none.1 (subst C none.0 (subst B over.ended on.steps))));
        tells = on.tells;
        over = subst G here (wait.over (on.ended ∙ over.ended));
      }

  -- nothing is open
  nothing_open : {frames : List Frame} {values : List Number} {now : List Left} {done : List ℕ} → frames ≡ [] → Shows j.desc frames values now done → now ≡ []
  nothing_open {values = values} {now} {done} none shows = let P : List Frame → Type 0 = λ f. Shows j.desc f values now done in of_none (subst P none shows)
    where
      of_none : {values : List Number} {now : List Left} {done : List ℕ} → Shows j.desc [] values now done → now ≡ []
      of_none (shows_none kept) = refl

  pub ends_string : IsOver j coming → after.frames ≡ []
      → ((stack : List Left) (done : List ℕ) → Stands j.desc (where_come j.state coming) stack done
      → WaitsOn j.desc takes (where_come j.state coming) after s t stack done)
      → Ends (λ around made. Tells j.desc takes (opened j) made around s t) j Ok
  ends_string over empty turns b moves judges =
      let d : DescV = j.desc in
      let last = at_the_last over turns b moves (at_the_end over b moves judges) in
      let P : List Left → Type 0 = λ l. StandsAtEnd d l b (moves ++ last.made) in
      let Q : List Frame → Type 0 = λ f. Tells d takes (opened j) last.made (around_of f) s t in
      record { made = last.made; block = is_string d (subst P (nothing_open empty last.shows) last.ends); told = subst Q empty last.tells }

  pub ends_none : TreesHaveMoves → IsOver j coming → ¬ (after.frames ≡ [])
      → ((stack : List Left) (done : List ℕ) → Stands j.desc (where_come j.state coming) stack done
      → WaitsOn j.desc takes (where_come j.state coming) after s t stack done)
      → Ends (λ around made. Tells j.desc takes (opened j) made around s t) j (no_string_at j.seen)
  ends_none have over some turns b moves judges =
      let d : DescV = j.desc in
      let end = at_the_end over b moves judges in
      let last = at_the_last over turns b moves end in
      record {
        place_is = end.place;
        no_tree = blocks d have b (no_string d last.ends (unended last));
        told = λ none. (around_of after.frames, last.made, last.tells);
      }
    where
      unended : (last : AtLast b moves) → (rest : List Move) → ¬ Rest j.desc last.now b [] rest
      unended last = elim last.over [
        | inl empty ↦ absurd (some empty)
        | inr never ↦ never
      ]

  -- nothing is refused where no bits come
  pub ends_never : IsOver j coming → (are_told : List ℕ → List Move → Type 0) (place here : ℕ)
      → ((stack : List Left) (done : List ℕ) → Stands j.desc (where_come j.state coming) stack done
      → RefusesAt j.desc takes (where_come j.state coming) after s t stack done place)
      → Ends are_told j (no_string_at here)
  ends_never over are_told place here turns b moves judges =
      let end = at_the_end over b moves judges in
      let no = turns end.stack end.done end.stands in
      absurd (omega (arith, ap (λ l. length l) (sym over.bits ∙ no.bits), length-append no.alike (no.bit ∷ no.later)))

-- ---- steps

pub some_nodes : (d : DescV) → IsDescription d → 0 < length d.nodes
some_nodes d is = within is.well_formed
  where
    within : {seen : List ℕ} {round i : ℕ} → Formed d.nodes seen round i → i < length d.nodes
    within {i = i} (formed n at small head parts counted later) = slice_get_within d.nodes i n at

-- what further bits pay
pub credit_more : (nodes : ℕ) (frames : List Frame) (pace : Pace) (here more : ℕ)
    → credit_of nodes frames pace (here + more) ≡ credit_of nodes frames pace here + 6 * (nodes * more)
credit_more nodes frames pace here more =
    omega (arith, mul-add (6 * nodes) here more, mul_assoc 6 nodes more)

pub more_steps : (nodes more steps before spent after : ℕ) → 0 < nodes → 0 < more → spent + after ≤ 2 + (steps + (before + 6 * (nodes * more)))
    → spent + suc after ≤ steps + suc before + 8 * nodes * more
more_steps nodes more steps before spent after some bits pays =
    omega (arith, pays, some, le-mul_of_pos_right nodes bits, mul_assoc 8 nodes more)

-- ---- where no move is told

pub untold : (are_told : List ℕ → List Move → Type 0) (old new : JudgeV) (more : List ℕ) (verdict : Verdict)
    → Judges are_told old new more verdict → Judges (λ around made. ⊤) old new more verdict
untold are_told old new more Going judges =
    λ b moves here. let found = judges b moves here in record { made = found.made; judges = found.judges; followed = found.followed; told = tt }
untold are_told old new more (Refused place) judges =
    λ b moves here.
    let found = judges b moves here in
    record {
      place_is = found.place_is;
      before_end = found.before_end;
      not_followed = found.not_followed;
      in_piece = found.in_piece;
      told = λ none. ([], [], tt);
    }

pub untold_end : (are_told : List ℕ → List Move → Type 0) (j : JudgeV) (judged : Judged) → Ends are_told j judged → Ends (λ around made. ⊤) j judged
untold_end are_told j Ok ends = λ b moves here. let found = ends b moves here in record { made = found.made; block = found.block; told = tt }
untold_end are_told j (no_string_at place) ends =
    λ b moves here. let found = ends b moves here in record { place_is = found.place_is; no_tree = found.no_tree; told = λ none. ([], [], tt) }
