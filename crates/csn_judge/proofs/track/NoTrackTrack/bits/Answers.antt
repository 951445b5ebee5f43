use Rattle.csn_bits.specs.Numbers.{low_bits}
use Rattle.csn_judge.proofs.ToldFacts.{bits_told-all}
use Rattle.csn_judge.proofs.track.NoTrackTrack.bits.Goals as goal

pub returns : goal.returns
returns c = bits_told-all c.args._node.now (low_bits c.args._count c.args._number) c.args.self.now
