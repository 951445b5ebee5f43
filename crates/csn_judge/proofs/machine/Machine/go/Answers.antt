use Rattle.std.proofs.Common.{refl, ◌∙◌, ap, arith}
use Rattle.csn_judge.specs.declared.turn.Turn.TheVariants.{Waits, Refused}
use Rattle.csn_judge.specs.Turns.{state_of}
use Rattle.csn_judge.proofs.GoingOn.{going_none, going_stands, going_fits, going_more, going_turns}
use Rattle.csn_judge.proofs.machine.Machine.go.Goals as goal

pub loop-place-init : goal.loop-place-init
loop-place-init g c = (
  refl,
  going_none c.args.self.now.plan.now g.T.Track.takes (state_of c.args.self.now c.args.source.now)
      c.args.track.now c.args.steps.now,
)

pub loop-place-preserved : goal.loop-place-preserved
loop-place-preserved g c = (
  c.step.ensures.plan ∙ c.loop-place.invariant.0,
  going_more c.args.self.now.plan.now g.T.Track.takes (state_of c.step.new.self c.step.new.source)
      c.step.new.track c.step.new.steps (ap (λ p. p.now) c.loop-place.invariant.0) c.loop-place.invariant.1
      c.in-Moved.ensures.turns c.in-Moved.ensures.pays.0 (omega (arith, c.in-Moved.ensures.pays.1)),
)

pub step-requires : goal.step-requires
step-requires g c = record {
  stands = going_stands c.args.self.now.plan.now g.T.Track.takes (ap (λ p. p.now) c.loop-place.invariant.0) c.loop-place.invariant.1 c.requires.stands;
  fits = going_fits c.args.self.now.plan.now g.T.Track.takes g.T.Track.fits g.T.Track.keeps
      (ap (λ p. p.now) c.loop-place.invariant.0) c.loop-place.invariant.1 c.requires.stands c.requires.fits;
}

pub returns-in-Waits-clause-turns : goal.returns-in-Waits-clause-turns
returns-in-Waits-clause-turns g c =
    going_turns c.args.self.now.plan.now g.T.Track.takes (state_of c.step.new.self c.step.new.source)
    c.step.new.track Waits (ap (λ p. p.now) c.loop-place.invariant.0) c.loop-place.invariant.1
    c.none_behind_end.ensures c.requires.stands c.in-Waits.ensures.turns

pub returns-in-Refused-clause-turns : goal.returns-in-Refused-clause-turns
returns-in-Refused-clause-turns g c =
    going_turns c.args.self.now.plan.now g.T.Track.takes (state_of c.step.new.self c.step.new.source) c.step.new.track
    (Refused c.in-Refused.place) (ap (λ p. p.now) c.loop-place.invariant.0) c.loop-place.invariant.1
    c.none_behind_end.ensures c.requires.stands c.in-Refused.ensures.turns
