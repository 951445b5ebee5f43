use Rattle.std.proofs.Common.{[], ◌∷◌, subst, ap, ◌∙◌}
use Rattle.std.specs.FinSet as set
use Rattle.csn_desc.specs.declared.reading.Reading.{Reading}
use Rattle.csn_desc.specs.Spelled.{IsSpare}
use Rattle.csn_look.specs.Told.{OctetsAre}
use Rattle.csn_look.proofs.Sets.LeavesTell.{spare_sets}
use Rattle.csn_look.proofs.known.Known.spare.Goals as goal

pub returns : goal.returns
returns c =
    spare_sets c.args.self.now.desc.now c.args.symbol _ c.none.ensures.nullable c.none.ensures.whole_empty c.none.ensures.cut_empty
    (c.with.ensures ∙ ap (λ s. set.insert s 1) c.empty.ensures)
    (subst (λ (r : Reading). OctetsAre c.spare_starts.result (λ o. IsSpare r c.args.symbol o (0 ∷ []))) c.reading-reading.ensures c.spare_starts.ensures)
    (subst (λ (r : Reading). OctetsAre c.spare_starts-2.result (λ o. IsSpare r c.args.symbol o (1 ∷ []))) c.reading-reading.ensures c.spare_starts-2.ensures)
