use Rattle.csn_look.specs.Keys.{IsFirm}
use Rattle.csn_certify.proofs.SearchFacts.{many_inside, in_table, denied, not_firm}
use Rattle.csn_certify.proofs.RepeatSearch.{many_some, many_firm}
use Rattle.csn_certify.proofs.search.Search.of_many.Goals as goal

pub firm-requires : goal.firm-requires
firm-requires c = in_table c.requires.known.sets.same
    (many_inside c.args.self.now.desc.now c.args.node c.args.part c.requires.known.description c.requires.many)

pub returns-then-not-firm : goal.returns-then-not-firm
returns-then-not-firm c =
    let d = c.args.self.now.desc.now in
    let sets = c.requires.known.sets in
    let inside = many_inside d c.args.node c.args.part c.requires.known.description c.requires.many in
    many_some d c.args.node c.args.part c.requires.many
    (not_firm d c.args.self.now.look.now.sets c.args.part sets inside (denied c.firm.result (IsFirm d 12 c.args.part)
    (c.firm.ensures d sets) c.if-not-firm.true))

pub returns : goal.returns
returns c =
    let d = c.args.self.now.desc.now in
    many_firm d c.args.node c.args.part c.requires.many c.loop_clash.result
    ((c.firm.ensures d c.requires.known.sets).0 c.if-not-firm.false) c.loop_clash.ensures
