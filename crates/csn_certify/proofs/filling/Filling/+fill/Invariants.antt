use Rattle.std.proofs.Common.{◌-◌, length}
use Rattle.csn_certify.proofs.filling.Filling.+fill.Given as goal

abbrev pub decreases-fill : goal.decreases-fill
decreases-fill l = 12 - length l.word.now
