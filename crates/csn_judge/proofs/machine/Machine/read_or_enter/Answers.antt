use Rattle.csn_judge.specs.Turns.{state_then, turn_in}
use Rattle.csn_judge.proofs.TurningEntry.{node_within}
use Rattle.csn_judge.proofs.WholeParts.{unread_stands, unread_turns, unread_pays}
use Rattle.csn_judge.proofs.machine.Machine.read_or_enter.Goals as goal

pub read_whole-requires-clause-node : goal.read_whole-requires-clause-node
read_whole-requires-clause-node g c =
    node_within c.args.self.now.plan.now g.T.Track.takes c.args.track.now c.args.self.now.values.items
    c.args.self.now.pace c.args.source.now c.requires.stands.known c.requires.stands.stands

pub enter-requires : goal.enter-requires
enter-requires g c =
    unread_stands g.T.Track.takes c.args.i (c.read_whole.ensures.machine c.if-read_whole.false)
    (c.read_whole.ensures.same c.if-read_whole.false) c.args.track.now c.requires.stands

pub returns-clause-turns : goal.returns-clause-turns
returns-clause-turns g c =
    unread_turns g.T.Track.takes c.args.i (c.read_whole.ensures.machine c.if-read_whole.false) (c.read_whole.ensures.same c.if-read_whole.false)
    (turn_in c.enter.result) (state_then c.enter.result c.enter.new.self c.enter.new.source) c.enter.new.track
    (c.read_whole.ensures.untold c.if-read_whole.false) c.enter.ensures.turns

pub returns-clause-pays : goal.returns-clause-pays
returns-clause-pays g c =
    unread_pays g.T.Track.takes c.args.i (c.read_whole.ensures.machine c.if-read_whole.false) (c.read_whole.ensures.same c.if-read_whole.false)
    c.args.steps.now c.enter.new.steps (turn_in c.enter.result) (state_then c.enter.result c.enter.new.self c.enter.new.source) c.enter.ensures.pays
