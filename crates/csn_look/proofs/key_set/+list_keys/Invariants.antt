use Rattle.std.proofs.Common.{◌-◌}
use Rattle.csn_look.proofs.key_set.+list_keys.Given as goal

abbrev pub decreases-list_keys : goal.decreases-list_keys
decreases-list_keys l = 12 - l.size
