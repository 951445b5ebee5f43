use Rattle.std.proofs.Common.{refl, arith}
use Rattle.std.proofs.lemmas.Option.{slice_get_within}
use Rattle.csn_look.proofs.Handing.ReachedParts.{kept_more, same_more}
use Rattle.csn_look.proofs.hand_down.hand_to_each.Goals as goal

pub loop-at-init : goal.loop-at-init
loop-at-init g c = ((λ i beside. refl), (λ j p less at. absurd (omega (arith, less))))

pub loop-at-preserved : goal.loop-at-preserved
loop-at-preserved g c =
    let parts = c.args.parts.now in (
      kept_more parts c.args.table.now c.loop-at.table c.loop-at.at c.get.result c.args.one c.get.ensures c.loop-at.invariant.0,
      same_more parts c.loop-at.at c.get.result c.loop-at.table c.args.one c.get.ensures
          (omega (arith, c.requires.below c.loop-at.at c.get.result c.get.ensures)) c.loop-at.invariant.1,
    )

pub returns-clause-parts : goal.returns-clause-parts
returns-clause-parts g c =
    let parts = c.args.parts.now in
    λ j p get. let inside = slice_get_within parts j p get in c.loop-at.invariant.1 j p (omega (arith, inside)) get

pub returns-clause-others : goal.returns-clause-others
returns-clause-others g c = c.loop-at.invariant.0
