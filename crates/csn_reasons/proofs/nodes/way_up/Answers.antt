use Rattle.std.proofs.Common.{[], ◌∷◌, ◌++◌, sym, subst, arith}
use Rattle.csn_reasons.specs.Paths.{LeadsUp}
use Rattle.csn_reasons.proofs.Ways.{from_root, more_up}
use Rattle.csn_reasons.proofs.nodes.way_up.Goals as goal

pub returns-then-here-eq0 : goal.returns-then-here-eq0
returns-then-here-eq0 c = λ nodes are there.
    let so_far = c.loop.invariant nodes are there in
    subst (λ l. LeadsUp nodes c.args.node l) (sym c.in_ok-push.ensures.items) (so_far.1 (c.loop.here ∷ []) (from_root nodes c.loop.here c.if-here-eq0.true))

pub loop-preserved : goal.loop-preserved
loop-preserved c = λ nodes are there.
    let so_far = c.loop.invariant nodes are there in
    let part = are.1 c.loop.here (omega (arith, c.if-here-eq0.false)) (omega (arith, so_far.0, there)) in
    let before = part.before in
    let e = c.above-here.ensures in (
      omega (arith, so_far.0, before, e),
      λ rest leads.
          subst (λ l. LeadsUp nodes c.args.node (l ++ rest)) (sym c.in_ok-push.ensures.items)
          (more_up nodes c.args.parents.now c.args.node c.loop.here c.loop.up.items part so_far.1 rest (subst (λ h. LeadsUp nodes h rest) e leads)),
    )

pub returns : goal.returns
returns c = λ nodes are there.
    let so_far = c.loop.invariant nodes are there in
    absurd (omega (arith, so_far.0, there, are.0, c.loop-test.false))
