use Rattle.csn_explaining.specs.Texts.{HasGrown}
use Rattle.csn_explaining.proofs.text.push_mask.Given as goal

abbrev pub invariant-loop-group : goal.invariant-loop-group
invariant-loop-group l = HasGrown l.fn.out.items l.out.items
