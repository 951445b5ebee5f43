use Rattle.csn_certify.specs.Conflicts.{IsNull}
use Rattle.csn_certify.proofs.SearchFacts.{part_inside, denied, null_more, null_end}
use Rattle.csn_certify.proofs.search.Search.first_null.Goals as goal
use Rattle.std.proofs.Common.{arith}

pub is_null-requires : goal.is_null-requires
is_null-requires c = part_inside c.args.self.now.desc.now c.args.choice.now.node c.args.choice.now.parts.now
    c.loop-j.j c.get.result c.requires.known.description c.requires.choice c.get.ensures

pub loop-j-preserved : goal.loop-j-preserved
loop-j-preserved c =
    let d = c.args.self.now.desc.now in
    null_more d c.args.choice.now.parts.now c.args.from c.loop-j.j c.get.result c.get.ensures
    (denied c.is_null.result (IsNull d c.get.result) c.is_null.ensures c.if-is_null.false) c.loop-j.invariant

pub returns-clause-least : goal.returns-clause-least
returns-clause-least c = null_end c.args.self.now.desc.now c.args.choice.now.parts.now c.args.from c.loop-j.j
    (omega (arith, c.loop-j-test.false, c.len-j-end.ensures.len)) c.loop-j.invariant

pub get-requires : goal.get-requires
get-requires c = omega (arith, c.len-j-end.ensures.len, c.loop-j-test.true)

pub returns-then-is_null-clause-least : goal.returns-then-is_null-clause-least
returns-then-is_null-clause-least c = (c.loop-j.auto.j, (c.get.result, c.get.ensures, c.is_null.ensures.0 c.if-is_null.true), c.loop-j.invariant)

pub returns-then-is_null-clause-small : goal.returns-then-is_null-clause-small
returns-then-is_null-clause-small c = omega (arith, c.len-j-end.ensures.bound, c.loop-j-test.true)
