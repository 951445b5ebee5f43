use Rattle.csn_c.specs.Streams.{pushed}
use Rattle.csn_c.proofs.stream.push_piece.Goals as goal

pub returns : goal.returns
returns c =
    pushed c.push-verdict.result c.push-verdict.ensures.desc c.push-verdict.ensures.comes c.push-verdict.ensures.says
    c.status_of_verdict.ensures
