use Rattle.std.proofs.Common.{refl}
use Rattle.csn_catalogue.specs.Text.{catalogue_text}
use Rattle.csn_catalogue.proofs.catalogue.text.Goals as goal

pub returns-clause-text : goal.returns-clause-text
unfolding catalogue_text
returns-clause-text c = refl
