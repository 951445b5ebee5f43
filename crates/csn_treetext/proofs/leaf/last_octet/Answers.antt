use Rattle.std.proofs.Common.{◌≡◌, ◌-◌, length, slice_get, Some, unwrap_or, sym, ap, ◌∙◌}
use Rattle.csn_treetext.proofs.OctetLeaves.{last_of-slice_get}
use Rattle.csn_treetext.proofs.leaf.last_octet.Goals as goal

pub returns-in-Some : goal.returns-in-Some
returns-in-Some c =
    let last : Some c.in-Some.last.now ≡ slice_get c.args.octets.now (length c.args.octets.now - 1) = c.in-Some.ensures.value in
    ap (λ o. unwrap_or o 0) (last ∙ sym (last_of-slice_get c.args.octets.now))
