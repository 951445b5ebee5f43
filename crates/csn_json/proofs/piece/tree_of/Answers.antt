use Rattle.std.proofs.Common.{arith, subst}
use Rattle.csn_json.specs.Pieces.{Tells}
use Rattle.csn_json.proofs.Refusals.{no_room}
use Rattle.csn_json.proofs.Pieces.{number_tree}
use Rattle.csn_json.proofs.piece.tree_of.Goals as goal

pub returns-in-Text-2-clause-ok : goal.returns-in-Text-2-clause-ok
returns-in-Text-2-clause-ok c = λ value told t is. no_room c.args.round value (omega (arith, c.if-round-lt-MOST_LEVELS.false, c.requires)) t is

pub returns-in-Number-clause-ok : goal.returns-in-Number-clause-ok
returns-in-Number-clause-ok c = λ value told t is.
    let own = subst (λ p. Tells c.args.round p value) c.in-Number.is told in
    number_tree c.args.round c.in-Number.field-0 value own.0 t is
