use Rattle.std.proofs.Common.{refl}
use Rattle.csn_treetext.specs.declared.version.Version.TheVariants.{Second}
use Rattle.csn_treetext.specs.Text.{text_of}
use Rattle.csn_json.specs.JsonTree.{json_of}
use Rattle.csn_json.proofs.laws.plain_texts_share_trees.Goals as goal

pub returns : goal.returns
returns c = λ t. (
  λ x. (text_of Second t, record { fits = x.1.fits; parts = x.1.parts; spelled = refl }),
  λ y. (json_of t, record { fits = y.1.fits; parts = y.1.parts; shown = refl }),
)
