use Rattle.std.proofs.Common.{ap, arith}
use Rattle.csn_look.specs.Reached.{Reached}
use Rattle.csn_look.specs.ReachV.{ReachV}
use Rattle.csn_look.proofs.Basics.Puts.{read_through}
use Rattle.csn_look.proofs.Handing.ReachedParts.{has_at}
use Rattle.csn_look.proofs.reach.Reach.reached.Goals as goal

pub returns : goal.returns
returns c = λ d reach.
    let at = read_through c.self.inside.reached.items c.args.self.now.reached c.args.node c.index.result.now
    (ap (λ (r : ReachV). r.reached) c.self.view_is) c.requires c.index.ensures in
    let same = reach.same in
    has_at c.args.self.now.reached c.args.node c.index.result.now (Reached d c.args.node) at (reach.reached c.args.node (omega (arith, same, c.requires)))
