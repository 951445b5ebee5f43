use Rattle.csn_certify.specs.Layouts.{AreLayouts}
use Rattle.csn_certify.proofs.layouts.layouts.Given as goal

abbrev pub invariant-loop-i : goal.invariant-loop-i
invariant-loop-i l = AreLayouts l.desc l.layouts.items
