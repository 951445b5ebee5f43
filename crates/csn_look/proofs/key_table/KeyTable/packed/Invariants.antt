use Rattle.std.proofs.Common.{◌≡◌, ◌+◌, ◌*◌, ◌%◌, ◌≤◌, take, length}
use Rattle.csn_look.specs.Blocks.{laid_out, AreWithin}
use Rattle.csn_look.proofs.key_table.KeyTable.packed.Given as goal

-- the blocks before the place are kept
abbrev pub invariant-loop-at : goal.invariant-loop-at
invariant-loop-at l = record {
  laid : laid_out l.index.items l.blocks.items ≡ take (4 * l.at) l.self;
  many : length l.index.items ≡ l.at;
  within : AreWithin l.index.items l.blocks.items;
  some : 4 ≤ length l.blocks.items;
  size : length l.blocks.items % 4 ≡ 0;
  few : length l.blocks.items ≤ 4 + 4 * l.at;
}
