use Rattle.std.proofs.Common.{◌≡◌, map, take}
use Rattle.csn_lines.specs.Replaying.{AreFresh, AreTexts, desc_of}
use Rattle.csn_lines.proofs.capture_text.writers_of.Given as goal

abbrev pub invariant-loop-plan : goal.invariant-loop-plan
invariant-loop-plan l =
    (map desc_of l.writers.items ≡ take l.plan-index l.plans) × AreTexts l.writers.items × AreFresh l.writers.items
