use Rattle.std.proofs.Common.{refl}
use Rattle.csn_encode.proofs.NoBits.{clash}
use Rattle.csn_encode.proofs.laws.misfits_have_no_bits.Goals as goal

pub returns : goal.returns
returns c = λ d i o v t path why b h m within. clash d h m refl refl refl refl within
