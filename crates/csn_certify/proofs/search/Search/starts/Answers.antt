use Rattle.csn_certify.proofs.SearchFacts.{no_follows, starts_zero, starts_one}
use Rattle.csn_certify.proofs.search.Search.starts.Goals as goal

pub returns-clause-zero : goal.returns-clause-zero
returns-clause-zero c =
    let d = c.args.self.now.desc.now in
    starts_zero d c.args.part c.args.octet c.first.result c.new-nothing.result
    (no_follows c.new-nothing.result c.empty.result c.new-nothing.ensures c.empty.ensures)
    (c.first.ensures d c.requires.known.sets)

pub returns-clause-one : goal.returns-clause-one
returns-clause-one c =
    let d = c.args.self.now.desc.now in
    starts_one d c.args.part c.args.octet c.first.result c.new-nothing.result
    (no_follows c.new-nothing.result c.empty.result c.new-nothing.ensures c.empty.ensures)
    (c.first.ensures d c.requires.known.sets)
