use Rattle.std.proofs.Common.{◌≡◌}
use Rattle.csn_vectors.proofs.maker.BlockMaker.push_next.Given as goal

abbrev pub invariant-loop : goal.invariant-loop
invariant-loop l = (l.self ≡ l.fn.self) × (l.out.items ≡ l.fn.out.items)
