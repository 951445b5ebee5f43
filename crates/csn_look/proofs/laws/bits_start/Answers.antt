use Rattle.std.proofs.Common.{refl}
use Rattle.csn_look.proofs.Meaning.ShapeFacts.{shape_of}
use Rattle.csn_look.proofs.Meaning.StartFacts.{starts, follows}
use Rattle.csn_look.proofs.laws.bits_start.Goals as goal

pub returns-clause-meant : goal.returns-clause-meant
returns-clause-meant c = λ d i o bit v rest t is fits h. starts d (shape_of c.known.ensures d is) bit rest refl fits h

pub returns-clause-followed : goal.returns-clause-followed
returns-clause-followed c = λ d i o bit v rest is fits h. follows d (shape_of c.known.ensures d is) bit rest refl fits h
