use Rattle.csn_judge.proofs.Turning.{passes_by}
use Rattle.csn_judge.proofs.machine.Machine.pass.Goals as goal

pub returns-clause-turns : goal.returns-clause-turns
returns-clause-turns g c =
    λ top passed stack done stands.
    passes_by c.args.self.now.plan.now g.T.Track.takes c.args.track.now c.args.self.now.values.items c.args.self.now.pace c.args.source.now
    c.leave.ensures.told.0 passed c.requires.known stands c.leave.ensures.told.1 c.leave.ensures.told.2
