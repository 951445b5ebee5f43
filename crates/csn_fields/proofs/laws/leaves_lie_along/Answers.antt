use Rattle.csn_fields.proofs.LyingAlong.{leaves_along, blocks_tiled, fronts_along}
use Rattle.csn_fields.proofs.laws.leaves_lie_along.Goals as goal

pub returns-clause-node : goal.returns-clause-node
returns-clause-node c = leaves_along

pub returns-clause-block : goal.returns-clause-block
returns-clause-block c = blocks_tiled

pub returns-clause-front : goal.returns-clause-front
returns-clause-front c = fronts_along
