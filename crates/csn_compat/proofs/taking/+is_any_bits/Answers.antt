use Rattle.std.proofs.Common.{◌∙◌, ap, refl, arith, Some}
use Rattle.csn_desc.specs.declared.node.Node.TheVariants.{Named}
use Rattle.csn_compat.specs.Takes.{any_bits, any_bits_labelled}
use Rattle.csn_compat.proofs.Below.{is_behind}
use Rattle.csn_compat.proofs.AnyBits.{under_label}
use Rattle.csn_compat.proofs.taking.+is_any_bits.Goals as goal

pub is_any_bits-requires : goal.is_any_bits-requires
is_any_bits-requires t c =
    let part = is_behind c.args.desc.now c.args.j 0 c.in-Named.part (Named c.in-Named.label c.in-Named.part)
    _ c.requires.description c.node.ensures c.in-Named.is refl in
    (omega arith, (c.requires.description, part.within))

pub returns-in-Rest : goal.returns-in-Rest
returns-in-Rest t c = (λ e. any_bits (c.node.ensures ∙ ap (λ n. Some n) c.in-Rest.is), λ h. refl)

pub returns-in-Named : goal.returns-in-Named
returns-in-Named t c =
    let at = c.node.ensures ∙ ap (λ n. Some n) c.in-Named.is in
    (λ e. any_bits_labelled c.in-Named.label c.in-Named.part at (c.is_any_bits.ensures.0 e), λ h. c.is_any_bits.ensures.1 (under_label c.args.desc.now at h))
