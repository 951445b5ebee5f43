use Rattle.std.proofs.Common.{[], ◌∷◌, subst}
use Rattle.csn_desc.specs.declared.reading.Reading.{Reading}
use Rattle.csn_desc.specs.declared.symbol.Symbol.TheVariants.{Low}
use Rattle.csn_desc.specs.Spelled.{IsSpare}
use Rattle.csn_look.specs.Told.{OctetsAre}
use Rattle.csn_look.proofs.Sets.LeavesTell.{pad_sets}
use Rattle.csn_look.proofs.known.Known.padding.Goals as goal

pub returns : goal.returns
returns c =
    pad_sets c.args.self.now.desc.now _ c.none.ensures.nullable c.none.ensures.whole_empty c.none.ensures.cut_empty c.all.ensures
    (subst (λ (r : Reading). OctetsAre c.spare_starts.result (λ o. IsSpare r Low o (0 ∷ []))) c.reading-reading.ensures c.spare_starts.ensures)
    (subst (λ (r : Reading). OctetsAre c.spare_starts-2.result (λ o. IsSpare r Low o (1 ∷ []))) c.reading-reading.ensures c.spare_starts-2.ensures)
