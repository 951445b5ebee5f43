use Rattle.csn_companion.proofs.Ends.{told_is_finished}
use Rattle.csn_companion.proofs.opening.push_line.Goals as goal

pub returns : goal.returns
returns c =
    let told = c.in_ok-ended.ensures.ok in
    told_is_finished c.args.reason.now told.0 _ told.2
