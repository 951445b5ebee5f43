use Rattle.std.proofs.Common.{arith}
use Rattle.csn_certify.proofs.SearchFacts.{in_table}
use Rattle.csn_certify.proofs.same_keys.have_same_keys.Goals as goal

pub get-requires : goal.get-requires
get-requires c = omega (arith, c.len-j-end.ensures.len, c.loop-j-test.true)

pub same_keys-requires-clause-node : goal.same_keys-requires-clause-node
same_keys-requires-clause-node c = in_table c.requires.known.keys.same (c.requires.below c.loop-j.j c.get.result c.get.ensures)
