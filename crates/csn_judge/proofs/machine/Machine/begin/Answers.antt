use Rattle.csn_judge.proofs.Turning.{pushed}
use Rattle.csn_judge.proofs.machine.Machine.begin.Goals as goal

pub returns-clause-frames : goal.returns-clause-frames
returns-clause-frames c = pushed c.args.self.now.frames.items c.args.behind c.push.ensures.items
