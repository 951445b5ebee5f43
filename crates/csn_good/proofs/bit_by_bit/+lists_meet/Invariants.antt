use Rattle.std.proofs.Common.{◌-◌}
use Rattle.csn_good.proofs.bit_by_bit.+lists_meet.Given as goal

abbrev pub decreases-lists_meet : goal.decreases-lists_meet
decreases-lists_meet l = 13 - l.at
