use Rattle.std.proofs.Common.{Some, ap, ◌∙◌, subst}
use Rattle.serde_json.specs.Data.{unsigned}
use Rattle.serde_json.specs.Read.{number_of}
use Rattle.csn_json.specs.Pieces.{IsNumberOf}
use Rattle.csn_json.proofs.Pieces.{whole_is, other_is}
use Rattle.csn_json.proofs.piece.number_piece.Goals as goal

pub returns-in-Some-Whole-clause-ok : goal.returns-in-Some-Whole-clause-ok
returns-in-Some-Whole-clause-ok c =
    let is = subst (λ o. IsNumberOf o (number_of c.args.text.now)) (c.in-Some-Whole.is ∙ ap (λ n. Some n) c.in-Some-Whole.field-0-is) c.read_number.ensures in
    (unsigned c.in-Some-Whole.whole, whole_is c.in-Some-Whole.whole (number_of c.args.text.now) is, c.whole_piece.ensures)

pub returns-in-Some-Other-clause-ok : goal.returns-in-Some-Other-clause-ok
returns-in-Some-Other-clause-ok c = other_is (number_of c.args.text.now) (subst (λ o. IsNumberOf o (number_of c.args.text.now)) (c.in-Some-Other.is ∙ ap (λ n. Some n) c.in-Some-Other.field-0-is) c.read_number.ensures)
