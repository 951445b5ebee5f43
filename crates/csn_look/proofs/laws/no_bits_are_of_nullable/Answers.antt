use Rattle.std.proofs.Common.{refl}
use Rattle.csn_look.proofs.Meaning.ShapeFacts.{shape_of}
use Rattle.csn_look.proofs.Meaning.NullableFacts.{nullable}
use Rattle.csn_look.proofs.laws.no_bits_are_of_nullable.Goals as goal

pub returns : goal.returns
returns c = λ d i o v t is h. nullable d (shape_of c.known.ensures d is) h refl
