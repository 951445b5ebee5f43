use Rattle.std.proofs.Common.{arith}
use Rattle.csn_certify.proofs.PickTables.{place_within, put_fills}
use Rattle.csn_certify.proofs.filling.Filling.put.Goals as goal

pub bounds-entries-place : goal.bounds-entries-place
bounds-entries-place c =
    let inside = place_within c.args.self.now.width c.args.word.now c.requires.word c.requires.within in
    let count = c.requires.size.count in
    let place = c.place.ensures.value in
    omega arith

pub returns-clause-put : goal.returns-clause-put
returns-clause-put c =
    put_fills c.args.self.now.width c.args.word.now c.args.entry c.args.entries.now c.place.result c.requires.size
    c.requires.word c.requires.within c.place.ensures.value
