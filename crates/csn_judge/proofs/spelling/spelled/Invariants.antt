use Rattle.std.proofs.Common.{◌≡◌, ◌^◌, ◌<◌, take, drop}
use Rattle.csn_desc.specs.Spelled.{spelled as bits_of}
use Rattle.csn_bits.specs.Numbers.{low_bits}
use Rattle.csn_judge.proofs.spelling.spelled.Given as goal

abbrev pub invariant-loop-k : goal.invariant-loop-k
invariant-loop-k l = (low_bits l.k l.number ≡ bits_of (take l.k (drop l.at l.run)) l.place) × (l.number < 2 ^ l.k)
