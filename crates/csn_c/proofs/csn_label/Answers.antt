use Rattle.std.proofs.Common.{◌≡◌, subst}
use Rattle.csn_desc.specs.Nodes.{DescV}
use Rattle.csn_c.specs.Answers.{LabelsTo}
use Rattle.csn_c.specs.declared.status.TheConstants.{NO_RULE}
use Rattle.csn_c.proofs.Options.{match_some}
use Rattle.csn_c.proofs.csn_label.Goals as goal

pub returns-clause-labels : goal.returns-clause-labels
returns-clause-labels c =
    let told = c.copy_label-status in
    let Tells : DescV → Type 0 = λ d. LabelsTo d c.args.node c.args.out.now told.new.out told.result told.new.number in
    match_some c.args.rule.now.held c.in-Some.held.value (told.result ≡ NO_RULE) Tells c.in-Some.ensures.taken
    (subst Tells c.deref.ensures told.ensures.labels)
