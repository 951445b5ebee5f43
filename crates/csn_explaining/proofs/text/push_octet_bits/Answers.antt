use Rattle.std.proofs.Common.{arith, ◌∙◌, ap, sym, ◌++◌}
use Rattle.csn_explaining.specs.LeafLine.{digits_of}
use Rattle.csn_explaining.proofs.Digits.{octet_bits}
use Rattle.csn_explaining.proofs.text.push_octet_bits.Goals as goal

pub returns : goal.returns
returns c = c.in_ok-extend_from_slice.ensures.items
    ∙ ap (λ l. c.args.out.now.items ++ l) (c.octet_digits.ensures
    ∙ ap (λ l. digits_of l) (sym (octet_bits c.octets.result.now c.args.block.now c.args.at c.octets.ensures.bits
    c.requires.whole c.requires.within (omega (arith, c.octets.ensures.count, c.requires.within)))))
