use Rattle.std.proofs.Common.{[], refl}
use Rattle.csn_desc.proofs.WalkFacts.{one_walk}
use Rattle.csn_desc.proofs.laws.moves_are_of_one_tree.Goals as goal

pub returns : goal.returns
returns c = λ d i o end t u moves span left right. (one_walk d [] [] span left right refl).trees
