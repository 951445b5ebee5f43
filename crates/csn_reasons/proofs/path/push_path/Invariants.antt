use Rattle.std.proofs.Common.{◌≡◌, ◌-◌, ◌++◌, length, drop}
use Rattle.csn_reasons.specs.Paths.{below_at, path_of}
use Rattle.csn_reasons.proofs.path.push_path.Given as goal

abbrev pub invariant-loop-back : goal.invariant-loop-back
invariant-loop-back l =
    l.out.items ≡ l.fn.out.items ++ path_of l.desc.nodes (below_at l.up (length l.up - l.back)) (drop (length l.up - l.back) l.up)
