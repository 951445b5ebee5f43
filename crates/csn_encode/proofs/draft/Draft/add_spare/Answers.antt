use Rattle.std.proofs.Common.{length, subst, sym, arith}
use Rattle.csn_desc.specs.declared.reading.Reading.{Reading}
use Rattle.csn_desc.specs.Spelled.{IsSpare}
use Rattle.csn_encode.specs.Writing.{no_room}
use Rattle.csn_encode.proofs.NodeKinds.{if_misfit}
use Rattle.csn_encode.proofs.draft.Draft.add_spare.Goals as goal

pub are_sent-requires : goal.are_sent-requires
are_sent-requires c = omega (arith, c.requires, c.len.ensures.within)

pub returns-in-Received-clause-missed : goal.returns-in-Received-clause-missed
returns-in-Received-clause-missed c =
    let P : Reading → Type 0 = λ r. IsSpare r c.args.symbol (length c.args.self.now.bits) c.args.bits.now in
    if_misfit c.add.result (λ why h. no_room (subst P (sym c.in-Received.is) c.add.ensures.bits) h.1 h.0) c.add.ensures.past
