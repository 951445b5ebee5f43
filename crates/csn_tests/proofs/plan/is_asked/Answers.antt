use Rattle.std.proofs.Common.{Some, ap, sym, ◌∙◌}
use Rattle.csn_certify.specs.Picks.{asked_choice, asked_many}
use Rattle.csn_tests.proofs.plan.is_asked.Goals as goal

pub returns-in-Choice-clause-asked : goal.returns-in-Choice-clause-asked
returns-in-Choice-clause-asked c =
    let at = c.node.ensures ∙ ap Some c.in-Choice.is in
    let are = c.reached.ensures c.args.desc.now c.requires.reached c.args.octet c.requires.octet in
    λ yes. asked_choice c.in-Choice.field-0 at (are.0 (sym c.has.ensures ∙ yes))

pub returns-in-Many-clause-asked : goal.returns-in-Many-clause-asked
returns-in-Many-clause-asked c =
    let at = c.node.ensures ∙ ap Some c.in-Many.is in
    let are = c.reached-in-Many.ensures c.args.desc.now c.requires.reached c.args.octet c.requires.octet in
    λ yes. asked_many c.in-Many.part at (are.0 (sym c.has-in-Many.ensures ∙ yes))
