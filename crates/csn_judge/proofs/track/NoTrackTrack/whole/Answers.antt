use Rattle.csn_judge.proofs.ToldFacts.{whole_told-all}
use Rattle.csn_judge.proofs.track.NoTrackTrack.whole.Goals as goal

pub returns-clause-told : goal.returns-clause-told
returns-clause-told c = λ yes o v t moves around means walk. whole_told-all c.args._plan.now c.args.self.now around walk
