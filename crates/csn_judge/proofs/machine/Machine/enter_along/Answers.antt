use Rattle.std.proofs.Common.{refl, ◌∙◌, ap, arith}
use Rattle.csn_judge.specs.declared.frame.Frame.TheVariants as frame
use Rattle.csn_judge.specs.Turns.{state_of, state_with}
use Rattle.csn_judge.proofs.GoingOn.{going_none, going_stands, going_fits, going_more, going_turns, last_pays}
use Rattle.csn_judge.proofs.machine.Machine.enter_along.Goals as goal

pub loop-node-init : goal.loop-node-init
loop-node-init g c = (
  refl,
  going_none c.args.self.now.plan.now g.T.Track.takes
      (state_with (frame.Begin c.args.first) c.args.self.now c.args.source.now) c.args.track.now c.args.steps.now,
)

pub read_or_enter-requires : goal.read_or_enter-requires
read_or_enter-requires g c = record {
  stands = going_stands c.args.self.now.plan.now g.T.Track.takes (ap (λ p. p.now) c.loop-node.invariant.0) c.loop-node.invariant.1 c.requires.stands;
  fits = going_fits c.args.self.now.plan.now g.T.Track.takes g.T.Track.fits g.T.Track.keeps
      (ap (λ p. p.now) c.loop-node.invariant.0) c.loop-node.invariant.1 c.requires.stands c.requires.fits;
}

pub loop-node-preserved : goal.loop-node-preserved
loop-node-preserved g c = (
  c.read_or_enter.ensures.plan ∙ c.loop-node.invariant.0,
  going_more c.args.self.now.plan.now g.T.Track.takes (state_with (frame.Begin c.in-Begin.node)
      c.read_or_enter.new.self c.read_or_enter.new.source) c.read_or_enter.new.track c.read_or_enter.new.steps
      (ap (λ p. p.now) c.loop-node.invariant.0) c.loop-node.invariant.1
      c.in-Begin.ensures.turns c.in-Begin.ensures.pays.0 (omega (arith, c.in-Begin.ensures.pays.1)),
)

pub returns-in-Turn-clause-turns : goal.returns-in-Turn-clause-turns
returns-in-Turn-clause-turns g c =
    going_turns c.args.self.now.plan.now g.T.Track.takes
    (state_of c.read_or_enter.new.self c.read_or_enter.new.source) c.read_or_enter.new.track c.in-Turn.turn
    (ap (λ p. p.now) c.loop-node.invariant.0) c.loop-node.invariant.1
    c.none_behind_end.ensures c.requires.stands c.in-Turn.ensures.turns

pub returns-in-Turn-clause-pays : goal.returns-in-Turn-clause-pays
returns-in-Turn-clause-pays g c =
    last_pays c.args.self.now.plan.now g.T.Track.takes (state_of c.read_or_enter.new.self c.read_or_enter.new.source)
    c.read_or_enter.new.steps c.in-Turn.turn (ap (λ p. p.now) c.loop-node.invariant.0)
    c.loop-node.invariant.1 c.in-Turn.ensures.pays
