use Rattle.csn_look.specs.Nullable.{Nullable}
use Rattle.csn_certify.proofs.SearchFacts.{times_inside, in_table, denied}
use Rattle.csn_certify.proofs.RepeatSearch.{times_none, times_some}
use Rattle.csn_certify.proofs.search.Search.of_times.Goals as goal

pub nullable-requires : goal.nullable-requires
nullable-requires c =
    let times = c.requires.times in
    let inside = times_inside c.args.self.now.desc.now c.args.node c.args.part times.0 c.requires.known.description times.1 in
    in_table c.requires.known.sets.same inside

pub returns-then-nullable : goal.returns-then-nullable
returns-then-nullable c =
    let d = c.args.self.now.desc.now in
    let times = c.requires.times in
    times_some d c.args.node c.args.part times.0 times.1 ((c.nullable.ensures d c.requires.known.sets).0 c.if-nullable.true)

pub returns : goal.returns
returns c =
    let d = c.args.self.now.desc.now in
    let times = c.requires.times in
    times_none d c.args.node c.args.part times.0 times.1 (denied c.nullable.result (Nullable d c.args.part)
    (c.nullable.ensures d c.requires.known.sets) c.if-nullable.false)
