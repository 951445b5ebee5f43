use Rattle.std.proofs.Common.{subst}
use Rattle.csn_desc.specs.TreeV.{row, trees_of}
use Rattle.serde_json.specs.Data.{array}
use Rattle.csn_json.specs.Pieces.{inside, TellsRow}
use Rattle.csn_json.proofs.Pieces.{room_told, row_shown, no_row_told, no_tag_array}
use Rattle.csn_json.proofs.piece.row_piece.Goals as goal

pub returns-in-Some : goal.returns-in-Some
returns-in-Some c = λ values told.
    let all = subst (λ rows. TellsRow (inside c.args.round) rows values) c.in-Some.is told in
    room_told c.args.round (array values) (row (trees_of c.in-Some.rows)) c.with_room.result c.requires c.with_room.ensures.room
    c.with_room.ensures.full (λ low. row_shown c.args.round values (trees_of c.in-Some.rows) low all) (no_tag_array values)

pub returns-in-None : goal.returns-in-None
returns-in-None c = λ values told.
    no_row_told c.args.round values c.requires (subst (λ rows. TellsRow (inside c.args.round) rows values) c.in-None.is told)
