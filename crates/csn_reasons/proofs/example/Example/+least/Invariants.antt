use Rattle.std.proofs.Common.{◌+◌, ◌*◌}
use Rattle.csn_reasons.proofs.example.Example.+least.Given as goal

abbrev pub decreases-push_least : goal.decreases-push_least
decreases-push_least l = 2 * l.left

abbrev pub decreases-push_parts : goal.decreases-push_parts
decreases-push_parts l = 2 * l.left + 1

abbrev pub decreases-push_turns : goal.decreases-push_turns
decreases-push_turns l = 2 * l.left + 1
