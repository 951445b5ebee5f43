use Rattle.csn_look.proofs.Tables.SizeFacts.{AreSizes}
use Rattle.csn_look.proofs.sizes.sizes_of.Given as goal

-- the sizes before this one are told
abbrev pub invariant-loop-size : goal.invariant-loop-size
invariant-loop-size l = AreSizes l.table l.plane l.sizes l.size
