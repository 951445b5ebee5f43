use Rattle.std.proofs.Common.{ap}
use Rattle.csn_judge.specs.declared.frame.Frame.TheVariants as frame
use Rattle.csn_judge.specs.Turns.{state_of, state_with}
use Rattle.csn_judge.proofs.GoingOn.{going_one, going_stands, going_fits, going_turns, last_pays}
use Rattle.csn_judge.proofs.machine.Machine.step.Goals as goal

pub enter_along-requires-clause-stands : goal.enter_along-requires-clause-stands
enter_along-requires-clause-stands g c =
    going_stands c.args.self.now.plan.now g.T.Track.takes (ap (λ p. p.now) c.turn.ensures.plan)
    (going_one c.args.self.now.plan.now g.T.Track.takes (state_of c.args.self.now c.args.source.now)
    (state_with (frame.Begin c.in-Begin.node) c.turn.new.self c.turn.new.source) c.args.track.now c.turn.new.track
    c.args.steps.now c.turn.new.steps
    c.in-Begin.ensures.turns c.in-Begin.ensures.pays.0 c.in-Begin.ensures.pays.1) c.requires.stands

pub enter_along-requires-clause-fits : goal.enter_along-requires-clause-fits
enter_along-requires-clause-fits g c =
    going_fits c.args.self.now.plan.now g.T.Track.takes g.T.Track.fits g.T.Track.keeps (ap (λ p. p.now) c.turn.ensures.plan)
    (going_one c.args.self.now.plan.now g.T.Track.takes (state_of c.args.self.now c.args.source.now)
    (state_with (frame.Begin c.in-Begin.node) c.turn.new.self c.turn.new.source) c.args.track.now c.turn.new.track
    c.args.steps.now c.turn.new.steps
    c.in-Begin.ensures.turns c.in-Begin.ensures.pays.0 c.in-Begin.ensures.pays.1) c.requires.stands c.requires.fits

pub returns-in-Begin-clause-turns : goal.returns-in-Begin-clause-turns
returns-in-Begin-clause-turns g c =
    going_turns c.args.self.now.plan.now g.T.Track.takes (state_of c.enter_along.new.self c.enter_along.new.source)
    c.enter_along.new.track c.enter_along.result (ap (λ p. p.now) c.turn.ensures.plan)
    (going_one c.args.self.now.plan.now g.T.Track.takes (state_of c.args.self.now c.args.source.now)
    (state_with (frame.Begin c.in-Begin.node) c.turn.new.self c.turn.new.source) c.args.track.now c.turn.new.track
    c.args.steps.now c.turn.new.steps
    c.in-Begin.ensures.turns c.in-Begin.ensures.pays.0 c.in-Begin.ensures.pays.1) c.none_behind_end.ensures c.requires.stands c.enter_along.ensures.turns

pub returns-in-Begin-clause-pays : goal.returns-in-Begin-clause-pays
returns-in-Begin-clause-pays g c =
    last_pays c.args.self.now.plan.now g.T.Track.takes (state_of c.enter_along.new.self c.enter_along.new.source)
    c.enter_along.new.steps c.enter_along.result (ap (λ p. p.now) c.turn.ensures.plan)
    (going_one c.args.self.now.plan.now g.T.Track.takes (state_of c.args.self.now c.args.source.now)
    (state_with (frame.Begin c.in-Begin.node) c.turn.new.self c.turn.new.source) c.args.track.now c.turn.new.track
    c.args.steps.now c.turn.new.steps
    c.in-Begin.ensures.turns c.in-Begin.ensures.pays.0 c.in-Begin.ensures.pays.1) c.enter_along.ensures.pays
