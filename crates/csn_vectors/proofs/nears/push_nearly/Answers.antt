use Rattle.csn_vectors.proofs.Told.{nears_join}
use Rattle.csn_vectors.proofs.nears.push_nearly.Goals as goal

pub returns : goal.returns
returns c =
    nears_join c.args.plan.now c.args.out.now.items c.push_some_changes.new.out.items c.push_all_changes.new.out.items
    c.in_ok-push_some_changes.ensures c.in_ok-push_all_changes.ensures
