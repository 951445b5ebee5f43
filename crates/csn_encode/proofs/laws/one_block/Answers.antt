use Rattle.std.proofs.Common.{refl}
use Rattle.csn_encode.proofs.OneBits.{one_bits}
use Rattle.csn_encode.proofs.laws.one_block.Goals as goal

pub returns : goal.returns
returns c = λ d i o v b e t left right. one_bits d left right refl refl refl refl
