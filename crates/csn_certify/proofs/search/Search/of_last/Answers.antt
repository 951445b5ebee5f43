use Rattle.std.proofs.Common.{[], ◌∷◌, arith}
use Rattle.csn_certify.proofs.Searching.{none_more}
use Rattle.csn_certify.proofs.SearchFacts.{not_both, both_hold}
use Rattle.csn_certify.proofs.RepeatSearch.{last_none, last_found, lasts_end}
use Rattle.std.proofs.lemmas.Option.{slice_get_within}
use Rattle.csn_certify.proofs.search.Search.of_last.Goals as goal

pub returns-then-has-is_followed : goal.returns-then-has-is_followed
returns-then-has-is_followed c =
    let d = c.args.self.now.desc.now in
    let octet = c.loop-octet.octet in
    let may = both_hold d c.args.node octet c.ends_of-ends.result c.has.result c.is_followed.result
    c.ends_of-ends.ensures (omega (arith, c.loop-octet-test.true)) c.has.ensures c.is_followed.ensures
    c.if-has-is_followed.true in
    last_found d c.args.node c.requires.last octet may.0 may.1 c.loop-octet.invariant

pub loop-octet-preserved : goal.loop-octet-preserved
loop-octet-preserved c =
    let d = c.args.self.now.desc.now in
    let octet = c.loop-octet.octet in
    none_more d (c.args.node ∷ 3 ∷ []) octet c.loop-octet.invariant
    (last_none d c.args.node c.requires.last octet
    (not_both d c.args.node octet c.ends_of-ends.result c.has.result c.is_followed.result c.ends_of-ends.ensures
    (omega (arith, c.loop-octet-test.true)) c.has.ensures c.is_followed.ensures c.if-has-is_followed.false))

pub returns : goal.returns
returns c = lasts_end c.args.self.now.desc.now c.args.node c.requires.last c.loop-octet.octet (omega (arith, c.loop-octet-test.false)) c.loop-octet.invariant

pub loop-octet-init : goal.loop-octet-init
loop-octet-init c = λ x less e under holds. absurd (omega (arith, less))

pub has-requires : goal.has-requires
has-requires c = omega (arith, c.loop-octet-test.true)

pub ends_of-ends-requires-clause-node : goal.ends_of-ends-requires-clause-node
ends_of-ends-requires-clause-node c = slice_get_within c.args.self.now.desc.now.nodes c.args.node c.requires.last.0 c.requires.last.1

pub is_followed-requires-clause-node : goal.is_followed-requires-clause-node
is_followed-requires-clause-node c = slice_get_within c.args.self.now.desc.now.nodes c.args.node c.requires.last.0 c.requires.last.1

pub is_followed-requires-clause-octet : goal.is_followed-requires-clause-octet
is_followed-requires-clause-octet c = omega (arith, c.loop-octet-test.true)
