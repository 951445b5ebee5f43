use Rattle.std.proofs.Common.{◌≡◌, drop}
use Rattle.csn_certify.specs.PickTables.{digest_on, digest_of}
use Rattle.csn_certify.proofs.pick_blocks.digest.Given as goal

-- what comes of the entries that are left is what comes of all
abbrev pub invariant-loop-at : goal.invariant-loop-at
invariant-loop-at l = digest_on l.digest (drop l.at l.entries) ≡ digest_of l.entries
