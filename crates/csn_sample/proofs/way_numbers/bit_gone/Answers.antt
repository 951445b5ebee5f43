use Rattle.csn_sample.proofs.TreesInside.{bits_are}
use Rattle.csn_sample.proofs.way_numbers.bit_gone.Goals as goal

pub returns-in-Some : goal.returns-in-Some
returns-in-Some c = bits_are c.args.tree.now c.in-Some.bits.now _ c.in-Some.ensures c.same_bit.ensures
