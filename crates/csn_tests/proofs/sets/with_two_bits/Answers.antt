use Rattle.std.proofs.Common.{arith}
use Rattle.csn_look.proofs.Tables.MarkFacts.{zeros}
use Rattle.csn_tests.proofs.sets.with_two_bits.Goals as goal

pub add_after-requires : goal.add_after-requires
add_after-requires g = λ size small. let none = zeros 8 size in omega arith
