use Rattle.std.proofs.Common.{◌≡◌, ◌++◌, drop}
use Rattle.csn_look.specs.Blocks.{laid_out}
use Rattle.csn_look.proofs.blocks.lay_out.Given as goal

-- what is laid out, and behind it the rest, are all
abbrev pub invariant-loop-at : goal.invariant-loop-at
invariant-loop-at l = l.marks.items ++ laid_out (drop l.at l.index) l.blocks ≡ laid_out l.index l.blocks
