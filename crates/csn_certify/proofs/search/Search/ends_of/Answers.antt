use Rattle.csn_certify.proofs.SearchFacts.{ends_none, ends_more, ends_all}
use Rattle.std.proofs.Common.{arith}
use Rattle.csn_certify.proofs.search.Search.ends_of.Goals as goal

pub loop-from-init : goal.loop-from-init
loop-from-init c = ends_none c.args.self.now.desc.now c.args.node c.empty-ends.result c.empty-ends.ensures

pub loop-from-preserved : goal.loop-from-preserved
loop-from-preserved c = ends_more c.args.self.now.desc.now c.args.node c.loop-from.ends c.ends_from.result
    c.union-ends.result c.loop-from.from c.ends_from.ensures c.union-ends.ensures c.loop-from.invariant

pub returns : goal.returns
returns c = ends_all c.args.self.now.desc.now c.args.node c.loop-from.ends c.loop-from.from (omega (arith, c.loop-from-test.false)) c.loop-from.invariant
