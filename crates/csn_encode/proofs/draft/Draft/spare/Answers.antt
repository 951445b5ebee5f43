use Rattle.std.proofs.Common.{refl, sym, ◌∙◌}
use Rattle.csn_desc.specs.declared.node.Node.TheVariants.{Spare}
use Rattle.csn_encode.proofs.NodeKinds.{on_ok, if_misfit, no_bits, kind_missed, spare_added, spare_missed, spare_wide, viewed}
use Rattle.csn_encode.proofs.draft.Draft.spare.Goals as goal

pub returns-in_default : goal.returns-in_default
returns-in_default c = record {
  added = tt;
  missed = λ d v read. kind_missed d (Spare c.args.symbol)
      c.tree.inside.shape c.tree.view_is (no_bits (Spare c.args.symbol) refl (λ r. refl) (λ j t. refl) (λ l t. refl)
      c.tree.inside.shape c.in_default.not-Bits);
}

pub returns-then-found-ne1-clause-missed : goal.returns-then-found-ne1-clause-missed
returns-then-found-ne1-clause-missed c =
    λ d v read. spare_wide d c.in-Bits.bits c.len-found.result c.len-found.ensures.count c.if-found-ne1.true
    (viewed c.tree.view_is c.in-Bits.is)

pub returns-clause-added : goal.returns-clause-added
returns-clause-added c = on_ok c.add_spare.result (λ h d v read. spare_added d c.args.reading c.in-Bits.bits read
    (sym c.len-found.ensures.count ∙ c.if-found-ne1.false) (viewed c.tree.view_is c.in-Bits.is) h)
    c.add_spare.ensures.added

pub returns-clause-missed : goal.returns-clause-missed
returns-clause-missed c =
    if_misfit c.add_spare.result (λ why h d v read. spare_missed d c.args.reading c.in-Bits.bits read
    (sym c.len-found.ensures.count ∙ c.if-found-ne1.false) (viewed c.tree.view_is c.in-Bits.is)
    h c.add_spare.ensures.path) c.add_spare.ensures.missed
