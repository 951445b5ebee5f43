-- The text of a block between two pieces of it, and at its end.
use Rattle.std.proofs.Common.{◌≡◌, ℕ, ◌≤◌, Bool, true, false, List, [], ◌++◌, length, take, refl, sym, ap, subst, ◌∙◌, arith, length-append, Some, None}
use Rattle.std.specs.Prelude.{Result, Ok, Err, OnOk, IfErr}
use Rattle.std.proofs.lemmas.List.{take-append-le}
use Rattle.csn_desc.specs.declared.moves.Move.{Move}
use Rattle.csn_desc.specs.Nodes.{DescV}
use Rattle.csn_desc.specs.TreeV.{TreeV}
use Rattle.csn_desc.specs.TreeParts.{HasTreeParts}
use Rattle.csn_treetext.specs.Fits.{Fits}
use Rattle.csn_desc.specs.Follows.{NFollow}
use Rattle.csn_desc.specs.Formed.{IsDescription}
use Rattle.csn_desc.specs.Laws.{StringsAreFollowed, MeaningsAreBits}
use Rattle.csn_certify.specs.Plans.{HasOneTree}
use Rattle.csn_judge.specs.Told.{Tells, tells_none}
use Rattle.csn_judge.specs.Judging.{JudgeV, JudgesFor, judges_on, judges_no_more, opened, Judges}
use Rattle.csn_judge.specs.Judging.{Ends as JudgeEnds}
use Rattle.csn_judge.specs.declared.verdict.Verdict.{Verdict}
use Rattle.csn_judge.specs.declared.verdict.Verdict.TheVariants as verdict
use Rattle.csn_judge.specs.declared.verdict.Judged.{Judged}
use Rattle.csn_judge.specs.declared.verdict.Judged.TheVariants as judged
use Rattle.csn_judge.specs.declared.fed.Fed.{Fed}
use Rattle.csn_judge.specs.declared.fed.Fed.TheVariants.{Going, Refused, NoMemory}
use Rattle.csn_judge.specs.Following.{is_going, answer_of, IsAnswer, comes_on, comes_no_more}
use Rattle.csn_judge.proofs.FollowingFacts as following
use Rattle.csn_json.specs.Laws.{TextsAreJoined}
use Rattle.csn_movetext.specs.declared.fault.BlockFault.TheVariants as fault
use Rattle.csn_movetext.specs.declared.fault.BlockFault.{BlockFault}
use Rattle.csn_json.specs.declared.form.TreeForm.{TreeForm}
use Rattle.csn_json.specs.declared.form.TreeForm.TheVariants.{Text, Json}
use Rattle.csn_json.specs.Forms.{IsShown, text_in}
use Rattle.csn_movetext.specs.Openings.{OpeningsV, opening_in, HasOpenings}
use Rattle.csn_movetext.specs.Writing.{ready}
use Rattle.csn_movetext.specs.Kept.{Extends}
use Rattle.csn_movetext.specs.Track.{TrackV, Writes}
use Rattle.csn_movetext.specs.Blocks.{BlockV, stands, nothing, outcome_of, JudgesSome, IsTold, WritesFor, Continues, Ends, AddsText, IsFaultOf}
use Rattle.csn_movetext.proofs.Written.{block_writes}
use Rattle.csn_movetext.proofs.TreesFit.{tree_fits}
use Rattle.csn_movetext.proofs.TreeParts.{node_parts}
use Rattle.csn_movetext.proofs.Octets.{extends_none}
use Rattle.csn_movetext.proofs.Followed.{same_openings, extends, followed, tells-then, nothing_shown, all_written}

-- no bits so far
pub writes_none : (j : JudgeV) (openings : OpeningsV) (before : List ℕ) → JudgesFor j [] [] → opened j ≡ []
    → WritesFor (stands j (nothing openings before) Going before) []
writes_none j openings before for none = comes_on [] refl for (tells_none none refl)

-- ---- what stays, whatever is judged

-- the openings, and the bytes that were written
pub record Stays (old new : TrackV) : Type 0 where
  pub same : new.openings ≡ old.openings
  pub more : Extends old.kept.text new.kept.text

stays_by : (d : DescV) {around others : List ℕ} {moves : List Move} {old new : TrackV} → Tells d Writes around moves others old new → Stays old new
stays_by d tells = record { same = same_openings d tells; more = extends d tells }

pub feed_stays : (old new : JudgeV) (before after : TrackV) (more : List ℕ) (says : Verdict) → old.refused ≡ None → JudgesSome Going old
    → Judges (λ around made. Tells old.desc Writes (opened old) made around before after) old new more says → Stays before after
feed_stays old new before after more verdict.Going none (b, moves, for) judges = stays_by old.desc (judges b moves for).told
feed_stays old new before after more (verdict.Refused place) none (b, moves, for) judges =
    let told = (judges b moves for).told none in stays_by old.desc told.2

pub feed_judges : (old new : JudgeV) (before after : TrackV) (more : List ℕ) (says : Verdict) (short : Bool) → JudgesSome Going old
    → Judges (λ around made. Tells old.desc Writes (opened old) made around before after) old new more says → JudgesSome (answer_of says short) new
feed_judges old new before after more verdict.Going false (b, moves, for) judges =
    let on = judges b moves for in (b ++ more, moves ++ on.made, on.judges)
feed_judges old new before after more verdict.Going true (b, moves, for) judges =
    let on = judges b moves for in (b ++ more, moves ++ on.made, on.judges)
feed_judges old new before after more (verdict.Refused place) short some judges = tt

told_stays : (j : JudgeV) (before after : TrackV) (says : Judged) → j.refused ≡ None → JudgesSome Going j
    → JudgeEnds (λ around made. Tells j.desc Writes (opened j) made around before after) j says → Stays before after
told_stays j before after judged.Ok none (b, moves, for) judges = stays_by j.desc (judges b moves for).told
told_stays j before after (judged.Refused place) none (b, moves, for) judges =
    let told = (judges b moves for).told none in stays_by j.desc told.2

pub end_stays : (answer : Fed) (j : JudgeV) (before after : TrackV) (says : Judged) → IsAnswer answer j → JudgesSome answer j
    → ((place : ℕ) → j.refused ≡ Some place → after ≡ before)
    → JudgeEnds (λ around made. Tells j.desc Writes (opened j) made around before after) j says → Stays before after
end_stays Going j before after says is some still judges = told_stays j before after says is some judges
end_stays NoMemory j before after says is some still judges = told_stays j before after says is some judges
end_stays (Refused place) j before after says is some still judges =
    subst (λ t. Stays before t) (sym (still place is)) (record { same = refl; more = extends_none before.kept.text before.kept.text refl })

-- the bytes in front stay
pub same_front : (start : ℕ) (old new : List ℕ) → start ≤ length old → Extends old new → take start new ≡ take start old
same_front start old new within more = ap (λ l. take start l) more.1 ∙ take-append-le start old more.0 within

pub longer : (start : ℕ) (old new : List ℕ) → start ≤ length old → Extends old new → start ≤ length new
longer start old new within more = omega (arith, within, ap length more.1, length-append old more.0)

-- ---- behind some more bits

pub feeds : (old new : JudgeV) (before after : TrackV) (front more : List ℕ) (says : Verdict) (short : Bool)
    → new.desc ≡ old.desc → after.openings ≡ before.openings → old.refused ≡ None
    → Judges (λ around made. Tells old.desc Writes (opened old) made around before after) old new more says
    → Continues (stands old before Going front) (stands new after (answer_of says short) front) more (answer_of says short)
feeds old new before after front more says short same kept =
    let T : List Move → DescV → Type 0 = λ moves d. Tells d Writes [] moves (opened new) (nothing after.openings front) after in
    let O : List Move → OpeningsV → Type 0 = λ moves l. Tells old.desc Writes [] moves (opened new) (nothing l front) after in
    following.feeds old new more (λ around made. Tells old.desc Writes (opened old) made around before after)
    (IsTold (stands old before Going front)) (IsTold (stands new after Going front))
    (λ moves made told on. subst (T (moves ++ made)) (sym same) (subst (O (moves ++ made)) (sym kept) (tells-then old.desc told on))) says short same

-- nothing was refused so far
pub record Begun (answer : Fed) (j : JudgeV) : Type 0 where
  pub going : answer ≡ Going
  pub none : j.refused ≡ None
  pub judges : JudgesSome Going j

pub begun : (answer : Fed) (j : JudgeV) (going : Bool) → going ≡ is_going answer → going ≡ true → IsAnswer answer j → JudgesSome answer j → Begun answer j
begun Going j going is on none some = record { going = refl; none = none; judges = some }
begun (Refused place) j going is on none some = absurd (cc)
begun NoMemory j going is on none some = absurd (cc)

-- ---- at the end of a block

-- a tree that fits is shown by its text in a form
pub shown : (form : TreeForm) (t : TreeV) → Fits t → HasTreeParts t → IsShown form t (text_in form t)
shown Text t fits parts = record { fits = fits; parts = parts; spelled = refl }
shown Json t fits parts = record { fits = fits; parts = parts; spelled = refl }

module _ (j : JudgeV) (before after : TrackV) (front : List ℕ) where
  abbrev EndSays : Judged → Type 0
  EndSays says = JudgeEnds (λ around made. Tells j.desc Writes (opened j) made around before after) j says

  pub ends_wanting : StringsAreFollowed → EndSays judged.Ok → Ends (stands j before Going front) (Err fault.NoMemory)
  ends_wanting strings judges b (comes_no_more other refusal at small) = absurd (cc)
  ends_wanting strings judges b (comes_on moves going for told) =
      let is = judges b moves for in strings j.desc 0 0 [] b is.block.tree is.block.means

  few_bits : {b : List ℕ} {moves : List Move} → j.refused ≡ None → j.seen ≤ 524288 → JudgesFor j b moves → length b ≤ 524288
  few_bits going few (judges_on stack done none seen cut stands for goes unread) = omega (arith, few, seen)
  few_bits going few (judges_no_more place refused at small) = let clash : None ≡ Some place = sym going ∙ refused in absurd (cc)

  pub ends_text : TextsAreJoined → MeaningsAreBits → IsDescription j.desc → HasOneTree j.desc
      → HasOpenings j.desc before.openings → j.refused ≡ None → j.seen ≤ 524288
      → after.refused ≡ false → EndSays judged.Ok → Ends (stands j before Going front) (Ok after.kept.text)
  ends_text joined are_bits is one are none few going judges b (comes_no_more other refusal at small) = absurd (cc)
  ends_text joined are_bits is one are none few going judges b (comes_on moves on for told) =
      let string = judges b moves for in
      let tree : TreeV = string.block.tree in
      let all = tells-then j.desc told string.told in
      let text : List ℕ = text_in before.openings.form tree in
      let written = followed j.desc [] tt all going (ready front false) (ready (front ++ text) true) (nothing_shown before.openings front)
      (block_writes joined before.openings.form j.desc (opening_in before.openings) are_bits are.opened front false string.block.means string.block.walks) in (
        text,
        all_written after (front ++ text) true written,
        record {
          tree = tree;
          means = string.block.means;
          only = λ other there. one b other tree there string.block.means;
          spelled = shown before.openings.form tree (tree_fits j.desc is b tree string.block.means)
              (node_parts j.desc are.opened.labels are_bits string.block.means (few_bits none few for));
        },
      )

-- by what it comes to
abbrev pub EndsAs : BlockV → Result (Unit {0}) BlockFault → List ℕ → Type 0
EndsAs w (Ok done) bytes = Ends w (Ok bytes)
EndsAs w (Err why) bytes = Ends w (Err why)

pub ends_as : (j : JudgeV) (before after : TrackV) (front : List ℕ) (answer : Fed) (says : Judged) (short : Bool)
    → StringsAreFollowed → TextsAreJoined → MeaningsAreBits
    → IsDescription j.desc → HasOneTree j.desc → HasOpenings j.desc before.openings → IsAnswer answer j → j.seen ≤ 524288 → short ≡ after.refused
    → JudgeEnds (λ around made. Tells j.desc Writes (opened j) made around before after) j says
    → EndsAs (stands j before answer front) (outcome_of answer says short) after.kept.text
ends_as j before after front (Refused place) says short strings joined are_bits is one are answer few wanting judges =
    let w : BlockV = stands j before (Refused place) front in
    following.ends_refused w.desc w.answer w.judge (IsTold w) strings place refl
ends_as j before after front NoMemory says short strings joined are_bits is one are answer few wanting judges =
    let w : BlockV = stands j before NoMemory front in
    λ b writes. absurd (following.wanting_none w.desc w.answer w.judge (IsTold w) refl b writes)
ends_as j before after front Going (judged.Refused place) short strings joined are_bits is one are answer few wanting judges =
    following.ends_none j (λ around made. Tells j.desc Writes (opened j) made around before after) (IsTold (stands j before Going front)) place judges
ends_as j before after front Going judged.Ok true strings joined are_bits is one are answer few wanting judges =
    ends_wanting j before after front strings judges
ends_as j before after front Going judged.Ok false strings joined are_bits is one are answer few wanting judges =
    ends_text j before after front joined are_bits is one are answer few (sym wanting) judges

pub ends_ok : (w : BlockV) (r : Result (Unit {0}) BlockFault) (bytes : List ℕ) → EndsAs w r bytes → OnOk r (Ends w (Ok bytes))
ends_ok w (Ok done) bytes ends = ends
ends_ok w (Err why) bytes ends = tt

pub ends_err : (w : BlockV) (r : Result (Unit {0}) BlockFault) (bytes : List ℕ) → EndsAs w r bytes → IfErr r (λ why. Ends w (Err why))
ends_err w (Ok done) bytes ends = tt
ends_err w (Err why) bytes ends = ends

-- the text is written behind other bytes too
pub text_added : (w : BlockV) (kept front old new : List ℕ) (r : Result (Unit {0}) BlockFault) → front ≡ w.before → Ends w (Ok kept)
    → OnOk r ((text : List ℕ) → kept ≡ front ++ text → new ≡ old ++ text) → OnOk r ((b : List ℕ) → WritesFor w b → AddsText w.form w.desc b old new)
text_added w kept front old new (Ok done) same ends added = λ b writes.
    let text = ends b writes in (text.0, added text.0 (text.1 ∙ ap (λ f. f ++ text.0) (sym same)), text.2)
text_added w kept front old new (Err why) same ends added = tt

-- or memory was wanting for it there
pub text_wanting : StringsAreFollowed → (w : BlockV) (kept : List ℕ) (r : Result (Unit {0}) BlockFault)
    → Ends w (Ok kept) → IfErr r (λ why. why ≡ fault.NoMemory)
    → IfErr r (λ why. Ends w (Err why))
text_wanting strings w kept (Ok done) ends wanting = tt
text_wanting strings w kept (Err why) ends wanting =
    let short : Ends w (Err fault.NoMemory) = λ b writes. let text = ends b writes in strings w.desc 0 0 [] b text.2.tree text.2.means in
    subst (λ y. Ends w (Err y)) (sym wanting) short

-- ---- a block that comes at once

pub whole_text : (old new : BlockV) (more : List ℕ) (fed : Fed) (out : List ℕ)
    → WritesFor old [] → Continues old new more fed → (fed ≡ NoMemory → ⊥) → Ends new (Ok out)
    → AddsText new.form new.desc more new.before out
whole_text old new more Going out none fed there ends = ends more (fed [] none).comes
whole_text old new more (Refused place) out none fed there ends = ends more (fed [] none).comes
whole_text old new more NoMemory out none fed there ends = absurd (there refl)

pub whole_fault : (old new : BlockV) (more : List ℕ) (fed : Fed) (why : BlockFault)
    → new.desc ≡ old.desc → WritesFor old [] → Continues old new more fed → (fed ≡ NoMemory → why ≡ fault.NoMemory)
    → Ends new (Err why) → IsFaultOf new.desc more why
whole_fault old new more Going why same none fed there ends = ends more (fed [] none).comes
whole_fault old new more (Refused place) why same none fed there ends = ends more (fed [] none).comes
whole_fault old new more NoMemory why same none fed there ends =
    let P : BlockFault → Type 0 = λ y. IsFaultOf new.desc more y in
    let Q : DescV → Type 0 = λ d. NFollow d 0 0 [] more in
    subst P (sym (there refl)) (subst Q (sym same) (fed [] none))
