use Rattle.std.proofs.Common.{◌∙◌, ap, sym, ◌++◌}
use Rattle.csn_explaining.proofs.Digits.{one_digit}
use Rattle.csn_explaining.proofs.text.push_bit.Goals as goal

pub returns : goal.returns
returns c = c.in_ok-push.ensures.items
    ∙ ap (λ l. c.args.out.now.items ++ l) (sym (one_digit c.args.block.now c.args.at c.get.result c.requires c.get.ensures.value))
