-- A label is passed by on the way to any bits.
use Rattle.std.proofs.Common.{◌≡◌, ℕ, List, subst, Some}
use Rattle.std.specs.Prelude.{slice_get}
use Rattle.csn_desc.specs.declared.node.Node.TheVariants.{Named}
use Rattle.csn_desc.specs.Nodes.{DescV}
use Rattle.csn_compat.specs.Takes.{IsAnyBits, any_bits, any_bits_labelled}

pub under_label : (d : DescV) {j part : ℕ} {label : List ℕ} → slice_get d.nodes j ≡ Some (Named label part) → IsAnyBits d j → IsAnyBits d part
under_label d at (any_bits is) = absurd (cc)
under_label d {part = part} at (any_bits_labelled other inner is h) =
    let same : inner ≡ part = cc in
    subst (λ k. IsAnyBits d k) same h
