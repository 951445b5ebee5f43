use Rattle.std.proofs.Common.{◌≡◌, ◌++◌, take, length}
use Rattle.csn_desc.specs.Spelled.{spelled}
use Rattle.csn_encode.proofs.draft.Draft.spell.Given as goal

abbrev pub invariant-loop-at : goal.invariant-loop-at
invariant-loop-at l = record {
  bits : l.self.bits ≡ l.fn.self.bits ++ spelled (take l.at l.run) (length l.fn.self.bits);
  path : l.self.path ≡ l.fn.self.path;
  numbers : l.self.numbers ≡ l.fn.self.numbers;
}
