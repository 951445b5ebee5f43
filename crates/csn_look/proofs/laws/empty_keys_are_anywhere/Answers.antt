use Rattle.std.proofs.Common.{refl}
use Rattle.csn_look.proofs.Meaning.EmptyKeys.{empty_key}
use Rattle.csn_look.proofs.laws.empty_keys_are_anywhere.Goals as goal

pub returns : goal.returns
returns c = λ d most i o p mark some h. empty_key d most some p h refl
