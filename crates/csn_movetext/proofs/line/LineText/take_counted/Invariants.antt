use Rattle.std.proofs.Common.{◌≡◌, ℕ, ◌+◌, ◌-◌, ◌*◌, ◌≤◌, List, ◌++◌, length, take}
use Rattle.csn_movetext.specs.Lines.{ReadsLine, credit}
use Rattle.csn_movetext.proofs.line.LineText.take_counted.Given as goal

abbrev pub invariant-loop-at : goal.invariant-loop-at
invariant-loop-at g l = record {
  within : l.at ≤ length l.bytes;
  reads : (line : List ℕ) → ReadsLine l.initial.self line → ReadsLine l.self (line ++ take l.at l.bytes);
  seen : l.self.seen ≡ l.initial.self.seen + l.at;
  form : l.self.form ≡ l.initial.self.form;
  desc : l.self.desc ≡ l.initial.self.desc;
  steps : l.steps + credit l.self ≤ l.fn.steps + credit l.initial.self + 8 * length l.initial.self.desc.nodes * (8 * l.at);
}

abbrev pub decreases-loop-at : goal.decreases-loop-at
decreases-loop-at g l = length l.bytes - l.at
