use Rattle.std.proofs.Common.{◌≡◌, length}
use Rattle.csn_certmake.proofs.pattern_table.no_rows.Given as goal

abbrev pub invariant-loop-k : goal.invariant-loop-k
invariant-loop-k l = length l.rows.items ≡ l.k
