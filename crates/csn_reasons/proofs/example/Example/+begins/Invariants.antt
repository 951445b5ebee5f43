use Rattle.std.proofs.Common.{◌+◌, ◌*◌}
use Rattle.csn_reasons.proofs.example.Example.+begins.Given as goal

abbrev pub decreases-may_begin : goal.decreases-may_begin
decreases-may_begin l = 2 * l.left

abbrev pub decreases-part_begins : goal.decreases-part_begins
decreases-part_begins l = 2 * l.left + 1

abbrev pub decreases-some_begins : goal.decreases-some_begins
decreases-some_begins l = 2 * l.left + 1
