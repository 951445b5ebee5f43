use Rattle.std.proofs.Common.{ap, ◌∙◌}
use Rattle.std.specs.FinSet as set
use Rattle.std.proofs.lemmas.Nat.{or_of_8}
use Rattle.csn_look.specs.Marks.{marked}
use Rattle.csn_look.proofs.Basics.Octets.{marked_union}
use Rattle.csn_look.proofs.octet_set.OctetSet.union.Goals as goal

pub returns : goal.returns
returns c =
    marked_union c.self.inside.marks c.other.inside.marks
    ∙ ap (λ s. set.union s (marked c.other.inside.marks)) c.self.view_is
    ∙ ap (λ s. set.union c.args.self s) c.other.view_is

pub invariant_of-result : goal.invariant_of-result
invariant_of-result c = or_of_8 c.self.inside.marks c.other.inside.marks c.self.invariant c.other.invariant
