use Rattle.csn_certmake.proofs.KeepsRules.{good}
use Rattle.csn_certmake.proofs.laws.look_ahead_is_good.Goals as goal

pub returns : goal.returns
returns c = λ d certificate is certified claims. good d certificate is claims c.bits_end.ensures.octet c.parts_are_reached.ensures.octet certified
