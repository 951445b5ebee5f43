use Rattle.csn_replay.proofs.Heads as heads
use Rattle.csn_replay.proofs.laws.heads_tell_captures.Goals as goal

pub returns : goal.returns
returns c = heads.heads_tell_captures
