use Rattle.csn_look.specs.Reached.{Reached}
use Rattle.csn_certify.proofs.SearchFacts.{ends_here, ends_nowhere, reached_there, denied, in_table}
use Rattle.csn_certify.proofs.search.Search.ends_from.Goals as goal

pub returns-then-has : goal.returns-then-has
returns-then-has c =
    let d = c.args.self.now.desc.now in
    let there = reached_there d c.args.node c.args.from c.reached.result c.has.result
    (c.reached.ensures d c.requires.known.reached) c.requires.octet c.has.ensures in
    ends_here d c.args.node c.ends.result c.args.from (there.0 c.if-has.true) (c.ends.ensures d c.requires.known.sets)

pub returns-else-has : goal.returns-else-has
returns-else-has c =
    let d = c.args.self.now.desc.now in
    let there = reached_there d c.args.node c.args.from c.reached.result c.has.result
    (c.reached.ensures d c.requires.known.reached) c.requires.octet c.has.ensures in
    ends_nowhere d c.args.node c.empty.result c.args.from (denied c.has.result (Reached d c.args.node c.args.from) there c.if-has.false) c.empty.ensures

pub reached-requires : goal.reached-requires
reached-requires c = in_table c.requires.known.reached.same c.requires.node

pub ends-requires-clause-node : goal.ends-requires-clause-node
ends-requires-clause-node c = in_table c.requires.known.sets.same c.requires.node
