use Rattle.std.proofs.Common.{◌+◌, ◌/◌, ◌%◌, ◌++◌, ◌∷◌, [], sym, ap, ◌∙◌, append_assoc}
use Rattle.csn_explaining.proofs.Decimals.{two_digits}
use Rattle.csn_explaining.proofs.text.push_pair.Goals as goal

pub returns-clause-items : goal.returns-clause-items
returns-clause-items c =
    let before = c.args.out.now.items in
    let number = c.args.number in
    c.push_reserved-3.ensures.items
    ∙ ap (λ l. l ++ (48 + number % 10) ∷ []) c.push_reserved-2.ensures.items
    ∙ append_assoc before ((48 + number / 10) ∷ []) ((48 + number % 10) ∷ [])
    ∙ ap (λ l. before ++ l) (sym (two_digits number c.if-number-lt10.false c.requires.few))
