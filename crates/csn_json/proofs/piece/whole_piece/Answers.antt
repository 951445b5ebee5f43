use Rattle.std.proofs.Common.{arith}
use Rattle.csn_json.proofs.Pieces.{whole_told}
use Rattle.csn_json.proofs.piece.whole_piece.Goals as goal

pub returns-else-whole-from : goal.returns-else-whole-from
returns-else-whole-from c = λ round. whole_told c.args.whole (omega (arith, c.if-whole-from.false, c.from.ensures)) round
