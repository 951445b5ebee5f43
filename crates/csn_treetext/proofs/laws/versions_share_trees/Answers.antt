use Rattle.std.proofs.Common.{refl}
use Rattle.csn_treetext.proofs.laws.versions_share_trees.Goals as goal

pub returns : goal.returns
returns c = λ version other t text is. record { fits = is.fits; parts = is.parts; spelled = refl }
