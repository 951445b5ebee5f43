use Rattle.std.proofs.Common.{refl, arith}
use Rattle.csn_look.proofs.Handing.ReachedParts.{BeginsAt, begins_first, begins_next, kept_more, put_none, put_more, put_all, at_seq}
use Rattle.csn_look.proofs.reach.reach_in_order.Goals as goal

pub loop-at-init : goal.loop-at-init
loop-at-init c =
    let parts = c.args.parts.now in (
      (λ i beside. refl),
      (λ d look. (begins_first d parts c.args.from, put_none parts c.args.reached.now (BeginsAt d parts c.args.from))),
    )

pub loop-at-preserved : goal.loop-at-preserved
loop-at-preserved c =
    let parts = c.args.parts.now in
    let at = c.loop-at.at in
    let part = c.get-part.result in (
      kept_more parts c.args.reached.now c.loop-at.reached at part c.loop-at.here c.get-part.ensures c.loop-at.invariant.0,
      (λ d look.
          let h = c.loop-at.invariant.1 d look in (
            begins_next d parts c.args.from c.loop-at.here c.plus-here.result c.lengths.result at part
                c.get-part.ensures h.0 (c.lengths.ensures d look) c.plus-here.ensures,
            put_more parts at part c.loop-at.reached c.loop-at.here (BeginsAt d parts c.args.from)
                c.requires.once c.get-part.ensures (omega (arith, c.requires.below at part c.get-part.ensures))
                h.0 h.1,
          )),
    )

pub returns-clause-steps : goal.returns-clause-steps
returns-clause-steps c =
    let parts = c.args.parts.now in
    λ d look j p get.
    let h = c.loop-at.invariant.1 d look in
    let a = put_all parts c.loop-at.at c.loop-at.reached (BeginsAt d parts c.args.from) (omega arith) h.1 j p get in
    (a.0, a.1, at_seq d parts c.args.from a.0 j p a.2)

pub returns-clause-others : goal.returns-clause-others
returns-clause-others c = c.loop-at.invariant.0
