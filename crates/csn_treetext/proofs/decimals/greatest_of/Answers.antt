use Rattle.std.proofs.Common.{◌/◌, ◌^◌, ◌-◌, ap, ◌∙◌}
use Rattle.csn_treetext.proofs.Numerals.{greatest_shifted}
use Rattle.csn_treetext.proofs.decimals.greatest_of.Goals as goal

pub returns : goal.returns
returns c = ap (λ w. 18446744073709551615 / 2 ^ (64 - w)) c.from.ensures ∙ greatest_shifted c.args.width c.requires.few
