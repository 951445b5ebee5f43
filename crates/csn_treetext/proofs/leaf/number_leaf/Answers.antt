use Rattle.std.specs.Prelude.{IfOk}
use Rattle.std.specs.Int.{to_be_bytes, w64}
use Rattle.std.proofs.Common.{◌≡◌, ◌-◌, ◌*◌, ◌%◌, ◌^◌, take, ap, ◌∙◌, subst}
use Rattle.csn_desc.specs.TreeV.{bits}
use Rattle.csn_bits.specs.Octets.{bits_of_octets}
use Rattle.csn_treetext.proofs.Numbers.{shifted_up}
use Rattle.csn_treetext.proofs.leaf.number_leaf.Goals as goal

pub returns : goal.returns
returns c =
    let number = c.args.number in
    let same = ap (λ o. take c.from-width.result (bits_of_octets o)) c.to_be_bytes-octets.ensures
    ∙ ap (λ w. take w (bits_of_octets (to_be_bytes w64 (number * 2 ^ (64 - w) % 2 ^ 64)))) c.from-width.ensures
    ∙ shifted_up c.args.width number c.requires.few in
    subst (λ l. IfOk c.first_bits.result (λ tree. tree ≡ bits l)) same c.first_bits.ensures
