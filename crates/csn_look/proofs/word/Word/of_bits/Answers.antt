use Rattle.std.proofs.Common.{arith}
use Rattle.csn_look.proofs.Basics.Words.{placed}
use Rattle.csn_look.proofs.word.Word.of_bits.Goals as goal

pub overflow_cast-result-2 : goal.overflow_cast-result-2
overflow_cast-result-2 c = (let p = placed c.args.count c.args.number c.requires.few c.requires.small in omega (arith, p.small))

pub invariant_of-result : goal.invariant_of-result
invariant_of-result c = (let p = placed c.args.count c.args.number c.requires.few c.requires.small in (p.some, p.small))

pub returns : goal.returns
returns c = (placed c.args.count c.args.number c.requires.few c.requires.small).gives
