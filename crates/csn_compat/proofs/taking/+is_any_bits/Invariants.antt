-- A labelled part has a greater number than its label.
use Rattle.std.proofs.Common.{◌-◌, length}
use Rattle.csn_compat.proofs.taking.+is_any_bits.Given as goal

abbrev pub decreases-is_any_bits : goal.decreases-is_any_bits
decreases-is_any_bits l = length l.desc.now.nodes - l.j
