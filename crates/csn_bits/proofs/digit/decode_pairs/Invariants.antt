use Rattle.std.proofs.Common.{◌≡◌, length}
use Rattle.csn_bits.proofs.DigitValues.{AreRead}
use Rattle.csn_bits.proofs.digit.decode_pairs.Given as goal

abbrev pub invariant-loop-at : goal.invariant-loop-at
invariant-loop-at l = (length l.room ≡ length l.fn.room) × AreRead l.fn.bytes l.room l.at
