use Rattle.std.proofs.Common.{◌-◌, length}
use Rattle.csn_certify.proofs.filling.+widened.Given as goal

abbrev pub decreases-widened : goal.decreases-widened
decreases-widened l = 12 - length l.word.now
