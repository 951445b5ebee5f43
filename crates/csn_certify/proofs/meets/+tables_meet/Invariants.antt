use Rattle.std.proofs.Common.{◌-◌, length}
use Rattle.csn_certify.proofs.meets.+tables_meet.Given as goal

abbrev pub decreases-tables_meet : goal.decreases-tables_meet
decreases-tables_meet l = 12 - length l.word.now
