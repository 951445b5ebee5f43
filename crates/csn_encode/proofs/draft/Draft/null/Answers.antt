use Rattle.std.proofs.Common.{refl}
use Rattle.csn_desc.specs.declared.node.Node.TheVariants.{Null}
use Rattle.csn_encode.proofs.NodeKinds.{no_empty, kind_missed, null_added, viewed}
use Rattle.csn_encode.proofs.draft.Draft.null.Goals as goal

pub returns-in_default : goal.returns-in_default
returns-in_default c = record {
  added = tt;
  missed = λ d v. kind_missed d Null c.tree.inside.shape c.tree.view_is
      (no_empty Null (λ b. refl) (λ r. refl) (λ j t. refl) (λ l t. refl) c.tree.inside.shape c.in_default.not-Empty);
}

pub returns-clause-added : goal.returns-clause-added
returns-clause-added c = λ d v. null_added d (viewed c.tree.view_is c.in-Empty.is) c.requires
