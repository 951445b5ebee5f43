use Rattle.std.proofs.Common.{refl}
use Rattle.csn_desc.specs.declared.node.Node.TheVariants.{Lits}
use Rattle.csn_encode.proofs.NodeKinds.{on_ok, if_misfit, no_empty, kind_missed, lits_added, lits_past, viewed}
use Rattle.csn_encode.proofs.draft.Draft.literal.Goals as goal

pub returns-in_default : goal.returns-in_default
returns-in_default c = record {
  added = tt;
  missed = λ d v. kind_missed d (Lits c.args.run.now)
      c.tree.inside.shape c.tree.view_is (no_empty (Lits c.args.run.now) (λ b. refl) (λ r. refl) (λ j t. refl)
      (λ l t. refl) c.tree.inside.shape c.in_default.not-Empty);
}

pub returns-clause-added : goal.returns-clause-added
returns-clause-added c = on_ok c.spell.result (λ h d v. lits_added d (viewed c.tree.view_is c.in-Empty.is) h) c.spell.ensures.added

pub returns-clause-missed : goal.returns-clause-missed
returns-clause-missed c = if_misfit c.spell.result (λ why h d v. lits_past d (viewed c.tree.view_is c.in-Empty.is) h c.spell.ensures.path) c.spell.ensures.past
