use Rattle.std.proofs.Common.{◌∙◌}
use Rattle.csn_cert.proofs.Fields.{fields_told}
use Rattle.csn_cert.proofs.pattern.PatternPartialEq.eq.Goals as goal

pub returns : goal.returns
returns c = c.eq.ensures ∙ fields_told _ _ _ _ _ _ _ _ c.self.view_is c.other.view_is c.self.invariant c.other.invariant
