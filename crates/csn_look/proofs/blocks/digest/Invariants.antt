use Rattle.std.proofs.Common.{◌≡◌, drop}
use Rattle.csn_look.specs.Blocks.{digest_on, digest_of}
use Rattle.csn_look.proofs.blocks.digest.Given as goal

-- what comes of the numbers that are left is what comes of all
abbrev pub invariant-loop-at : goal.invariant-loop-at
invariant-loop-at l = digest_on l.digest (drop l.at l.table) ≡ digest_of l.table
