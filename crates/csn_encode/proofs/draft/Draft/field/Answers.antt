use Rattle.std.proofs.Common.{refl, sym, ◌∙◌}
use Rattle.csn_desc.specs.declared.node.Node.TheVariants.{Field}
use Rattle.csn_encode.proofs.NodeKinds.{on_ok, if_misfit, no_bits, kind_missed, field_added, field_past, field_wrong, viewed}
use Rattle.csn_encode.proofs.draft.Draft.field.Goals as goal

pub returns-in_default : goal.returns-in_default
returns-in_default c = record {
  added = tt;
  missed = λ d v unit count n counted all. kind_missed d (Field unit count)
      c.tree.inside.shape c.tree.view_is (no_bits (Field unit count) refl (λ r. refl) (λ j t. refl) (λ l t. refl)
      c.tree.inside.shape c.in_default.not-Bits);
}

pub returns-then-found-wanted-clause-missed : goal.returns-then-found-wanted-clause-missed
returns-then-found-wanted-clause-missed c = λ d v unit count n counted all. field_wrong d c.in-Bits.bits n
    c.args.wanted c.len-found.result counted all c.len-found.ensures.count c.if-found-wanted.true
    (viewed c.tree.view_is c.in-Bits.is)

pub returns-clause-added : goal.returns-clause-added
returns-clause-added c =
    on_ok c.add.result (λ h d v unit count n counted all. field_added d c.in-Bits.bits n c.args.wanted counted all
    (sym c.len-found.ensures.count ∙ c.if-found-wanted.false) (viewed c.tree.view_is c.in-Bits.is) h)
    c.add.ensures.added

pub returns-clause-missed : goal.returns-clause-missed
returns-clause-missed c =
    if_misfit c.add.result (λ why h d v unit count n counted all. field_past d c.in-Bits.bits n c.args.wanted counted
    all (sym c.len-found.ensures.count ∙ c.if-found-wanted.false) (viewed c.tree.view_is c.in-Bits.is)
    h c.add.ensures.path) c.add.ensures.past
