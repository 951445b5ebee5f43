use Rattle.std.proofs.Common.{refl}
use Rattle.csn_desc.specs.declared.node.Node.TheVariants.{Rest}
use Rattle.csn_encode.proofs.NodeKinds.{on_ok, if_misfit, no_bits, kind_missed, rest_added, rest_past, viewed}
use Rattle.csn_encode.proofs.draft.Draft.rest.Goals as goal

pub returns-in_default : goal.returns-in_default
returns-in_default c = record {
  added = tt;
  missed = λ d v. kind_missed d Rest c.tree.inside.shape c.tree.view_is
      (no_bits Rest refl (λ r. refl) (λ j t. refl) (λ l t. refl) c.tree.inside.shape c.in_default.not-Bits);
}

pub returns-clause-added : goal.returns-clause-added
returns-clause-added c = on_ok c.add.result (λ h d v. rest_added d c.in-Bits.bits (viewed c.tree.view_is c.in-Bits.is) h) c.add.ensures.added

pub returns-clause-missed : goal.returns-clause-missed
returns-clause-missed c =
    if_misfit c.add.result (λ why h d v. rest_past d c.in-Bits.bits (viewed c.tree.view_is c.in-Bits.is)
    h c.add.ensures.path) c.add.ensures.past
