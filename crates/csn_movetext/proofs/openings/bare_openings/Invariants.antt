use Rattle.std.proofs.Common.{◌≡◌, []}
use Rattle.csn_movetext.proofs.PoolFacts.{AreBegun}
use Rattle.csn_movetext.proofs.openings.bare_openings.Given as goal

-- the first nodes have their openings in the form, and none a template
abbrev pub invariant-loop-i : goal.invariant-loop-i
invariant-loop-i g l = (l.openings.form ≡ l.fn.form) × AreBegun l.fn.form l.plan l.numbers.items l.i l.openings.texts × (l.openings.templates ≡ [])
