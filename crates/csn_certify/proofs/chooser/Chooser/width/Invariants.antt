use Rattle.std.proofs.Common.{◌≤◌}
use Rattle.csn_certify.specs.Filling.{AreDeep}
use Rattle.csn_certify.proofs.chooser.Chooser.width.Given as goal

abbrev pub invariant-loop-j : goal.invariant-loop-j
invariant-loop-j l = AreDeep l.self.desc.now l.self.parts.now l.self.octet l.j l.width × (l.width ≤ 12)
