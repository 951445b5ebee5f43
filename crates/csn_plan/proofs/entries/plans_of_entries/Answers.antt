use Rattle.std.proofs.Common.{[], ◌∷◌, refl, subst}
use Rattle.csn_catalogue.specs.declared.entry.Entry.TheVariants.{Uplink, Downlink, Si1, Si3, Si4, Si13, Ia}
use Rattle.csn_catalogue.specs.Entries.{entry_root}
use Rattle.csn_plan.specs.Compiled.{IsReason}
use Rattle.csn_plan.proofs.entries.plans_of_entries.Goals as goal

pub returns-in-Err-clause-none : goal.returns-in-Err-clause-none
returns-in-Err-clause-none c = (
  [],
  Uplink,
  Downlink ∷ Si1 ∷ Si3 ∷ Si4 ∷ Si13 ∷ Ia ∷ [],
  refl,
  tt,
  subst
      (λ t. IsReason t (entry_root Uplink) c.args.reading c.in-Err.reason) c.text.ensures.text
      (c.in-Err.ensures.none (entry_root Uplink) c.args.reading),
)
