-- A block along which memory is taken, between two pieces of it, and at its end. Other crates cite this.
use Rattle.std.proofs.Common.{◌≡◌, ℕ, ◌<◌, Bool, true, false, List, [], ◌++◌, length, refl, sym, ap, subst, ◌∙◌, arith, length-append, None}
use Rattle.csn_desc.specs.declared.moves.Move.{Move}
use Rattle.csn_desc.specs.Nodes.{DescV}
use Rattle.csn_desc.specs.Follows.{IsPlace}
use Rattle.csn_desc.specs.Laws.{PrefixesAreFollowed, StringsAreFollowed}
use Rattle.csn_judge.specs.declared.fed.Fed.{Fed}
use Rattle.csn_judge.specs.declared.fed.Fed.TheVariants.{Going, Refused, NoMemory}
use Rattle.csn_judge.specs.declared.verdict.Verdict.{Verdict}
use Rattle.csn_judge.specs.declared.verdict.Verdict.TheVariants as verdict
use Rattle.csn_judge.specs.declared.verdict.Judged.TheVariants as judged
use Rattle.csn_judge.specs.Judging.{JudgeV, opened, refusal_of, Judges, Ends}
use Rattle.csn_judge.specs.Following.{is_going, answer_of, IsAnswer, ComesAlong, comes_on, comes_no_more, Continues, IsNoString}
use Rattle.csn_judge.proofs.JudgingFacts.{place_stays, not_followed}

-- ---- the last answer

pub answer_is : (says : Verdict) (short : Bool) (new : JudgeV) → new.refused ≡ refusal_of says → IsAnswer (answer_of says short) new
answer_is verdict.Going false new is = is
answer_is verdict.Going true new is = is
answer_is (verdict.Refused place) short new is = is

pub going_is : (answer : Fed) (going : Bool) → going ≡ is_going answer → going ≡ true → answer ≡ Going
going_is Going going is on = refl
going_is (Refused place) going is on = absurd (cc)
going_is NoMemory going is on = absurd (cc)

never_going : (answer : Fed) → answer ≡ Going → false ≡ is_going answer → ⊥
never_going answer e off = let on : is_going answer ≡ true = ap (λ a. is_going a) e in absurd (cc)

pub going_no_more : (answer : Fed) (going : Bool) → going ≡ is_going answer → going ≡ false → ¬ (answer ≡ Going)
going_no_more answer going is off e = never_going answer e (sym off ∙ is)

-- ---- behind some more bits

-- what is told of the moves so far and of those that the judge has made for the bits is told of all of them
module _ (old new : JudgeV) (more : List ℕ) (are_told : List ℕ → List Move → Type 0) (before now : List Move → Type 0)
    (then : (moves made : List Move) → before moves → are_told (opened new) made → now (moves ++ made)) where
  abbrev Says : Verdict → Type 0
  Says says = Judges are_told old new more says

  abbrev Comes : Fed → Type 0
  Comes answer = Continues old.desc Going (ComesAlong old.desc Going old before) (ComesAlong new.desc answer new now) more answer

  feeds_on : Says verdict.Going → Comes Going
  feeds_on judges b (comes_no_more place refusal at small) = absurd (cc)
  feeds_on judges b (comes_on moves going for told) =
      let on = judges b moves for in
      record { comes = comes_on (moves ++ on.made) refl on.judges (then moves on.made told on.told); followed = on.followed }

  feeds_refused : (place : ℕ) → new.desc ≡ old.desc → old.refused ≡ None → Says (verdict.Refused place) → Comes (Refused place)
  feeds_refused place same none judges b (comes_no_more other refusal at small) = absurd (cc)
  feeds_refused place same none judges b (comes_on moves going for told) =
      let no = judges b moves for in
      let P : DescV → Type 0 = λ d. IsPlace d (b ++ more) place in
      record {
        comes = comes_no_more place refl (subst P (sym same) no.place_is) no.before_end;
        place_is = no.place_is;
        before_end = no.before_end;
        not_followed = no.not_followed;
        in_piece = λ going. no.in_piece none;
      }

  feeds_short : Says verdict.Going → Comes NoMemory
  feeds_short judges b (comes_no_more place refusal at small) = absurd (cc)
  feeds_short judges b (comes_on moves going for told) = (judges b moves for).followed

  -- by what the judge says, and where memory was wanting or not
  pub feeds : (says : Verdict) (short : Bool) → new.desc ≡ old.desc → old.refused ≡ None → Says says → Comes (answer_of says short)
  feeds verdict.Going false same none judges = feeds_on judges
  feeds verdict.Going true same none judges = feeds_short judges
  feeds (verdict.Refused place) short same none judges = feeds_refused place same none judges

-- ---- where nothing more is judged

module _ (d : DescV) (was : Fed) (j : JudgeV) (is_told : List Move → Type 0) where
  abbrev Came : List ℕ → Type 0
  Came b = ComesAlong d was j is_told b

  -- the answer stays
  refused_still : PrefixesAreFollowed → (more : List ℕ) (place : ℕ) → was ≡ Refused place → Continues d was Came Came more (Refused place)
  refused_still prefixes more place is b (comes_on moves going for told) = absurd (cc)
  refused_still prefixes more place is b (comes_no_more before refusal at small) =
      let same : before ≡ place = cc in
      let P : ℕ → Type 0 = λ n. IsPlace d (b ++ more) n in
      let here = subst P same (place_stays d prefixes more at small) in
      let far : place < length (b ++ more) = omega (arith, same, length-append b more) in
      record {
        comes = comes_no_more place is here far;
        place_is = here;
        before_end = far;
        not_followed = not_followed d here far;
        in_piece = λ going. let clash : Refused place ≡ Going = sym is ∙ going in absurd (cc);
      }

  -- where memory was wanting no bits have come
  pub wanting_none : was ≡ NoMemory → (b : List ℕ) → Came b → ⊥
  wanting_none is b (comes_on moves going for told) = absurd (cc)
  wanting_none is b (comes_no_more place refusal at small) = absurd (cc)

  pub feeds_still : PrefixesAreFollowed → (more : List ℕ) (answer : Fed) → was ≡ answer → ¬ (answer ≡ Going) → Continues d was Came Came more answer
  feeds_still prefixes more Going is other = absurd (other refl)
  feeds_still prefixes more (Refused place) is other = refused_still prefixes more place is
  feeds_still prefixes more NoMemory is other = λ b came. absurd (wanting_none is b came)

  -- at the end of a block that was refused
  pub ends_refused : StringsAreFollowed → (place : ℕ) → was ≡ Refused place → (b : List ℕ) → Came b → IsNoString d b place
  ends_refused strings place is b (comes_on moves going for told) = absurd (cc)
  ends_refused strings place is b (comes_no_more before refusal at small) =
      let same : before ≡ place = cc in
      let P : ℕ → Type 0 = λ n. IsPlace d b n in
      record {
        place_is = subst P same at;
        no_tree = λ tree means. not_followed d at small (strings d 0 0 [] b tree means);
      }

-- ---- where the judge says that the bits are no string

pub ends_none : (j : JudgeV) (are_told : List ℕ → List Move → Type 0) (is_told : List Move → Type 0) (place : ℕ) → Ends are_told j (judged.Refused place)
    → (b : List ℕ) → ComesAlong j.desc Going j is_told b → IsNoString j.desc b place
ends_none j are_told is_told place judges b (comes_no_more other refusal at small) = absurd (cc)
ends_none j are_told is_told place judges b (comes_on moves going for told) =
    let no = judges b moves for in
    record { place_is = no.place_is; no_tree = no.no_tree }
