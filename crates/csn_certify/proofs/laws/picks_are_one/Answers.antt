use Rattle.csn_certify.proofs.OnePick.{one_pick}
use Rattle.csn_certify.proofs.laws.picks_are_one.Goals as goal

pub returns : goal.returns
returns c = λ d most node octet held ended p q certified asked a b. one_pick d most certified asked a b
