use Rattle.std.proofs.Common.{ap, ◌∙◌}
use Rattle.std.specs.FinSet as set
use Rattle.csn_look.proofs.Basics.OctetMarks.{has_marked}
use Rattle.csn_look.proofs.octet_set.OctetSet.has.Goals as goal

pub returns : goal.returns
returns c = has_marked c.self.inside.marks c.args.octet c.requires ∙ ap (λ s. set.contains s c.args.octet) c.self.view_is
