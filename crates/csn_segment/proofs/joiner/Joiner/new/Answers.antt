use Rattle.csn_segment.proofs.Bodies.{joins_none}
use Rattle.csn_segment.proofs.joiner.Joiner.new.Goals as goal

pub returns : goal.returns
returns c = joins_none c.default.result c.default.ensures
