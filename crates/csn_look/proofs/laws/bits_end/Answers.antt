use Rattle.std.proofs.Common.{◌+◌, length, refl, arith}
use Rattle.csn_look.proofs.Meaning.ShapeFacts.{shape_of}
use Rattle.csn_look.proofs.Meaning.EndsFacts.{ends}
use Rattle.csn_look.proofs.Handing.ReachedParts.{end_small}
use Rattle.csn_look.proofs.laws.bits_end.Goals as goal

pub returns-clause-meant : goal.returns-clause-meant
returns-clause-meant c = λ d i o v b t is fits h. ends d (shape_of c.known.ensures d is) (o + length b) refl fits h

pub returns-clause-octet : goal.returns-clause-octet
returns-clause-octet c = λ d i o p h small. omega (arith, end_small d h (omega arith))
