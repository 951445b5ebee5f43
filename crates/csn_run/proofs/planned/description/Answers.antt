use Rattle.csn_run.proofs.JobParts.{gives_description}
use Rattle.csn_run.proofs.planned.description.Goals as goal

pub returns-clause-given : goal.returns-clause-given
returns-clause-given g c = gives_description g.B.Shelf _ _ _ _ c.whole_file.ensures.given c.whole_file.ensures.whole
