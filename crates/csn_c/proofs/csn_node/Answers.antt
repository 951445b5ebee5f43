use Rattle.std.proofs.Common.{◌≡◌, subst}
use Rattle.csn_desc.specs.Nodes.{DescV}
use Rattle.csn_c.specs.Answers.{ShapesTo}
use Rattle.csn_c.specs.declared.status.TheConstants.{NO_RULE}
use Rattle.csn_c.proofs.Options.{match_some}
use Rattle.csn_c.proofs.csn_node.Goals as goal

pub returns-clause-shapes : goal.returns-clause-shapes
returns-clause-shapes c =
    let told = c.tell_shape-status in
    let Tells : DescV → Type 0 = λ d. ShapesTo d c.args.node told.result told.new.shape in
    match_some c.args.rule.now.held c.in-Some.held.value (told.result ≡ NO_RULE) Tells c.in-Some.ensures.taken
    (subst Tells c.deref.ensures told.ensures.shapes)
