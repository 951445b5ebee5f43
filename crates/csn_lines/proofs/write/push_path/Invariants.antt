use Rattle.std.proofs.Common.{◌≡◌, ◌++◌, take}
use Rattle.csn_lines.specs.OutLine.{steps_text}
use Rattle.csn_lines.proofs.write.push_path.Given as goal

abbrev pub invariant-loop-at : goal.invariant-loop-at
invariant-loop-at l = l.out.items ≡ l.fn.out.items ++ steps_text (take l.at l.path)
