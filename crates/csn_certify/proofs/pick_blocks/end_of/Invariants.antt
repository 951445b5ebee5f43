use Rattle.std.proofs.Common.{◌≡◌, ℕ, ◌+◌, ◌<◌, ◌≤◌, get_or}
use Rattle.csn_certify.specs.declared.pick_table.Entry.TheVariants.{Refuse}
use Rattle.csn_certify.proofs.pick_blocks.end_of.Given as goal

-- those from here on are refusals
abbrev pub invariant-loop-i : goal.invariant-loop-i
invariant-loop-i l = (place : ℕ) → l.first + l.i ≤ place → place < l.first + 64 → get_or l.entries place Refuse ≡ Refuse
