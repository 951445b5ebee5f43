use Rattle.csn_look.specs.Sums.{Leads}
use Rattle.csn_look.proofs.Sets.Telling.{behind_too}
use Rattle.csn_look.proofs.node_sets.NodeSets.or_behind.Goals as goal

pub returns-then-self : goal.returns-then-self
returns-then-self c =
    behind_too c.args.own c.before-then-self.result c.union.result c.args.self.now.nullable (Leads c.args.self.now.lengths c.args.later)
    c.if-self.true c.union.ensures c.before-then-self.ensures
