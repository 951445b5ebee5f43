use Rattle.std.proofs.Common.{◌≡◌, ◌+◌, ◌/◌, ◌++◌, take, length}
use Rattle.csn_bits.specs.Octets.{bits_of_octets}
use Rattle.csn_encode.proofs.draft.Draft.add.Given as goal

abbrev pub invariant-loop-left : goal.invariant-loop-left
invariant-loop-left l = record {
  bits : l.self.bits ++ take l.left (bits_of_octets l.rest) ≡ l.fn.self.bits ++ l.leaf;
  count : length l.rest ≡ (l.left + 7) / 8;
  room : length l.self.bits + l.left ≡ length l.fn.self.bits + length l.leaf;
  path : l.self.path ≡ l.fn.self.path;
  numbers : l.self.numbers ≡ l.fn.self.numbers;
}

abbrev pub decreases-loop-left : goal.decreases-loop-left
decreases-loop-left l = l.left
