use Rattle.std.proofs.Common.{refl}
use Rattle.csn_encode.proofs.OneMisfit.{one_miss}
use Rattle.csn_encode.proofs.laws.first_misfit_is_one.Goals as goal

pub returns : goal.returns
returns c = λ d i o v t path other why because left right. one_miss d left right refl refl refl refl
