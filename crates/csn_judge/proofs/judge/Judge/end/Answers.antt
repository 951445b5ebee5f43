use Rattle.std.proofs.Common.{◌≡◌, ℕ, ◌+◌, ◌==◌, true, false, eqb-true, List, [], ◌∷◌, length, reverse, None, refl, sym, ap, subst, ◌∙◌, arith}
use Rattle.std.proofs.lemmas.List.{length-reverse}
use Rattle.csn_judge.specs.declared.judge.Judge.TheInside.{Inside}
use Rattle.csn_judge.specs.declared.frame.Frame.{Frame}
use Rattle.csn_judge.specs.Coming.{Coming}
use Rattle.csn_bits.specs.Numbers.{low_bits}
use Rattle.csn_judge.specs.Turns.{StateV, state_of}
use Rattle.csn_judge.specs.Told.{Tells, tells_none}
use Rattle.csn_judge.specs.Judging.{JudgeV, judge_of, opened, Ends}
use Rattle.csn_desc.specs.declared.moves.Move.{Move}
use Rattle.csn_judge.specs.declared.verdict.Judged.{Judged}
use Rattle.csn_judge.specs.declared.verdict.Judged.TheVariants.{Ok, Refused}
use Rattle.csn_bits.proofs.NumberFacts.{length-low_bits}
use Rattle.csn_judge.proofs.Clashes.{true_and_false}
use Rattle.csn_judge.proofs.JudgingFacts.{IsOver, ends_held, ends_string, ends_none, ends_never}
use Rattle.csn_judge.proofs.judge.Judge.end.Goals.{in-Going, in_default-go-2, in_default-go}
use Rattle.csn_judge.proofs.judge.Judge.end.Goals as goal

-- no bits are held
over : (j : Inside) (coming : Coming) → j.refused ≡ None → j.held.count ≡ 0 → j.seen ≡ j.place + j.held.count
    → coming ≡ record { bits = []; held = 0; place = j.seen; limit = j.limit; ended = true }
    → IsOver (judge_of j) coming
over j coming none held seen is =
    record {
      refused = none;
      none = ap (λ n. low_bits n j.held.number) held;
      bits = ap (λ c. c.bits) is;
      place = ap (λ c. c.place) is ∙ omega (arith, held, seen);
      limit = ap (λ c. c.limit) is;
      ended = ap (λ c. c.ended) is;
    }

is_none : (frames : List Frame) → length frames ≡ 0 → reverse frames ≡ []
is_none [] e = refl
is_none (frame ∷ frames) e = absurd (omega (arith, e))

pub returns-then-self-gt0-clause-ends : goal.returns-then-self-gt0-clause-ends
returns-then-self-gt0-clause-ends g c =
    let P : JudgeV → Type 0 =
    λ j. Ends (λ around made. Tells j.desc g.T.Track.takes (opened j)
    made around c.args.track.now c.args.track.now) j (Refused c.self.inside.seen) in
    subst P c.self.view_is
    (ends_held c.trees_have_moves.ensures.some (λ around made. Tells c.self.inside.machine.plan.now g.T.Track.takes
    (opened (judge_of c.self.inside)) made around c.args.track.now c.args.track.now)
    (judge_of c.self.inside) c.in_default.is
    (omega (arith, c.if-self-gt0.true, length-low_bits c.self.inside.held.count c.self.inside.held.number))
    (opened (judge_of c.self.inside), [], tells_none refl refl))

pub returns-clause-ends : goal.returns-clause-ends
returns-clause-ends g c =
    let after : StateV = state_of c.go.new.self c.go.new.source in
    let are_told : List ℕ → List Move → Type 0 = λ around made. Tells c.self.inside.machine.plan.now g.T.Track.takes
    (opened (judge_of c.self.inside)) made around c.args.track.now c.go.new.track in
    let P : Judged → JudgeV → Type 0 = λ result j. Ends (λ around made. Tells j.desc g.T.Track.takes (opened j)
    made around c.args.track.now c.go.new.track) j result in
    let is = over c.self.inside c.end-source.result c.in_default.is (omega (arith, c.if-self-gt0.false))
    (c.self.invariant.seen_is c.in_default.is) c.end-source.ensures in
    elim c.match-go.branch [
      | in-Going w ↦
          rw w.result-is
          (subst (P Ok) c.self.view_is
          (ends_string g.T.Track.takes (judge_of c.self.inside) c.end-source.result after c.args.track.now c.go.new.track is
          (is_none c.go.new.self.frames.items (eqb-true (length c.go.new.self.frames.items) 0
          (sym w.is_empty.ensures ∙ w.if-is_empty.true))) w.in-Going.ensures.turns))
      | in_default-go-2 w ↦
          rw w.result-is
          (subst (P (Refused c.self.inside.seen)) c.self.view_is
          (ends_none g.T.Track.takes (judge_of c.self.inside) c.end-source.result after c.args.track.now c.go.new.track c.trees_have_moves.ensures.some is
          (λ empty. let size : length c.go.new.self.frames.items ≡ 0 = sym (length-reverse c.go.new.self.frames.items) ∙ ap (λ l. length l) empty in
          let one : true ≡ false = sym (ap (λ n. n == 0) size) ∙ sym w.is_empty.ensures ∙ w.if-is_empty.false in absurd (true_and_false refl one))
          w.in-Going.ensures.turns))
      | in_default-go w ↦
          rw w.result-is
          (subst (P (Refused c.self.inside.seen)) c.self.view_is
          (ends_never g.T.Track.takes (judge_of c.self.inside) c.end-source.result after c.args.track.now
          c.go.new.track is are_told _ c.self.inside.seen w.in_default-go.ensures.turns))
    ]
