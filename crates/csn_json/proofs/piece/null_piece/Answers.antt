use Rattle.csn_desc.specs.TreeV.{empty}
use Rattle.serde_json.specs.Data.{null}
use Rattle.csn_json.proofs.Pieces.{room_told, null_shown, no_tag_null}
use Rattle.csn_json.proofs.piece.null_piece.Goals as goal

pub returns : goal.returns
returns c = room_told c.args.round null empty c.with_room.result c.requires c.with_room.ensures.room c.with_room.ensures.full (null_shown c.args.round) no_tag_null
