use Rattle.std.proofs.Common.{ap, ◌∙◌, arith}
use Rattle.std.specs.FinSet as set
use Rattle.std.proofs.lemmas.Nat.{or_of_8}
use Rattle.csn_look.proofs.Basics.OctetMarks.{marked-or}
use Rattle.csn_look.proofs.octet_set.OctetSet.with.Goals as goal

pub returns : goal.returns
returns c = marked-or c.self.inside.marks c.args.octet c.requires ∙ ap (λ s. set.insert s c.args.octet) c.self.view_is

pub invariant_of-result : goal.invariant_of-result
invariant_of-result c = or_of_8 c.self.inside.marks _ c.self.invariant (omega arith)
