use Rattle.std.proofs.Common.{refl}
use Rattle.csn_vectors.specs.Lines.{nears_none}
use Rattle.csn_vectors.proofs.Told.{nears_join}
use Rattle.csn_vectors.proofs.nears.push_all_changes.Goals as goal

pub loop-example-init : goal.loop-example-init
loop-example-init c = nears_none refl

pub loop-example-preserved : goal.loop-example-preserved
loop-example-preserved c =
    nears_join c.args.plan.now c.args.out.now.items c.loop-example.out.items c.push_changes.new.out.items
    c.loop-example.invariant c.in_ok-push_changes.ensures
