use Rattle.csn_places.proofs.Found.{origins_are_places}
use Rattle.csn_places.proofs.laws.origins_are_places.Goals as goal

pub returns : goal.returns
returns c = origins_are_places
