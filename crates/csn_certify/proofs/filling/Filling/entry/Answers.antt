use Rattle.std.proofs.Common.{arith}
use Rattle.csn_certify.proofs.PickTables.{place_within}
use Rattle.csn_certify.proofs.filling.Filling.entry.Goals as goal

pub bounds-entries-place : goal.bounds-entries-place
bounds-entries-place c =
    let inside = place_within c.args.self.now.width c.args.word.now c.place.ensures.word c.requires.within in
    let count = c.requires.size.count in
    let place = c.place.ensures.value in
    omega arith
