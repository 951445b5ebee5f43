use Rattle.std.proofs.Common.{[], ◌∷◌}
use Rattle.std.proofs.lemmas.Option.{slice_get_within}
use Rattle.csn_look.specs.Reached.{Reached}
use Rattle.csn_certify.proofs.Searching.{as_none}
use Rattle.csn_certify.proofs.SearchFacts.{many_inside, in_table, reached_there, denied}
use Rattle.csn_certify.proofs.RepeatSearch.{loop_not_reached, loop_none, loop_some}
use Rattle.csn_certify.proofs.search.Search.loop_clash_at.Goals as goal

pub reached-requires : goal.reached-requires
reached-requires c = in_table c.requires.known.reached.same
    (many_inside c.args.self.now.desc.now c.args.node c.args.part c.requires.known.description c.requires.many)

pub returns-then-not-has : goal.returns-then-not-has
returns-then-not-has c =
    let d = c.args.self.now.desc.now in
    let there = reached_there d c.args.part c.args.octet c.reached.result c.has.result
    (c.reached.ensures d c.requires.known.reached) c.requires.octet c.has.ensures in
    loop_not_reached d c.args.node c.args.part c.requires.many c.args.octet (denied c.has.result (Reached d c.args.part c.args.octet) there c.if-not-has.true)

pub clashing_bit-requires-clause-part : goal.clashing_bit-requires-clause-part
clashing_bit-requires-clause-part c = many_inside c.args.self.now.desc.now c.args.node c.args.part c.requires.known.description c.requires.many

pub clashing_bit-requires-clause-node : goal.clashing_bit-requires-clause-node
clashing_bit-requires-clause-node c = slice_get_within c.args.self.now.desc.now.nodes c.args.node _ c.requires.many

pub returns-in_err-bit : goal.returns-in_err-bit
returns-in_err-bit c =
    let d = c.args.self.now.desc.now in
    as_none d (c.args.node ∷ 3 ∷ c.args.octet ∷ []) c.from_residual.result c.from_residual.ensures
    (loop_none d c.args.node c.args.part c.requires.many c.args.octet c.in_err-bit.ensures)

pub returns : goal.returns
returns c =
    let d = c.args.self.now.desc.now in
    let there = reached_there d c.args.part c.args.octet c.reached.result c.has.result
    (c.reached.ensures d c.requires.known.reached) c.requires.octet c.has.ensures in
    loop_some d c.args.node c.args.part c.requires.many c.args.octet c.in_ok-bit.bit (there.0 c.if-not-has.false) c.in_ok-bit.ensures
