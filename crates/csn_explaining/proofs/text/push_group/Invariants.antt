use Rattle.csn_explaining.specs.Texts.{HasGrown}
use Rattle.csn_explaining.proofs.text.push_group.Given as goal

abbrev pub invariant-loop-at : goal.invariant-loop-at
invariant-loop-at l = HasGrown l.fn.out.items l.out.items
