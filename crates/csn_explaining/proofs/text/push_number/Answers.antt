use Rattle.std.proofs.Common.{◌+◌, ◌/◌, ◌%◌, ◌++◌, ◌∷◌, [], decimal, sym, ap, ◌∙◌, append_assoc, arith}
use Rattle.csn_explaining.proofs.Decimals.{last_digit}
use Rattle.csn_explaining.proofs.text.push_number.Goals as goal

pub returns-then-number-lt1000-clause-ok : goal.returns-then-number-lt1000-clause-ok
returns-then-number-lt1000-clause-ok c =
    let before = c.args.out.now.items in
    let number = c.args.number in
    c.push_reserved.ensures.items
    ∙ ap (λ l. l ++ (48 + number % 10) ∷ []) (c.push_pair-then-number-lt1000.ensures.items
    ∙ ap (λ l. l ++ decimal (number / 10)) c.in_ok-room.ensures.items)
    ∙ append_assoc before (decimal (number / 10)) ((48 + number % 10) ∷ [])
    ∙ ap (λ l. before ++ l) (sym (last_digit number (omega (arith, c.if-number-lt100.false)) c.if-number-lt1000.true))
