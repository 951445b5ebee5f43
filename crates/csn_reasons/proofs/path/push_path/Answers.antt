use Rattle.std.proofs.Common.{◌-◌, ◌+◌, ◌++◌, length, drop, ap, ◌∙◌, arith}
use Rattle.csn_reasons.specs.Paths.{below_at, path_of}
use Rattle.csn_reasons.proofs.Ways.{path_behind}
use Rattle.csn_reasons.proofs.path.push_path.Goals as goal

pub loop-back-preserved : goal.loop-back-preserved
loop-back-preserved c =
    let nodes = c.args.desc.now.nodes in
    let up = c.args.up.now in
    let k = length up - c.loop-back.back in
    let at = length up - 1 - c.loop-back.back in
    let inside = c.loop-back-test.true in
    c.in_ok-push_node.ensures c.args.out.now.items (path_of nodes (below_at up k) (drop k up)) c.loop-back.invariant
    (omega (arith, c.len-begun.ensures, c.args.out.now.ok.0))
    ∙ ap (λ l. c.args.out.now.items ++ l)
    (path_behind nodes up k at (length up - (c.loop-back.back + 1)) (omega (arith, inside)) (omega (arith, inside)) (omega (arith, inside)))
