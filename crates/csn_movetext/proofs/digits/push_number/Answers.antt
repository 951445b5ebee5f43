use Rattle.std.proofs.Common.{◌+◌, ◌/◌, ◌%◌, ◌++◌, ◌∷◌, [], sym, ap, ◌∙◌, append_assoc}
use Rattle.csn_movetext.proofs.Decimals.{two_digits}
use Rattle.csn_movetext.proofs.Octets.{extends_then, extends_none}
use Rattle.csn_movetext.proofs.digits.push_number.Goals as goal

pub returns-then-number-lt100-clause-digits : goal.returns-then-number-lt100-clause-digits
returns-then-number-lt100-clause-digits c =
    let before = c.args.out.now.items in
    let number = c.args.number in
    c.push_reserved-then-number-lt100-2.ensures.items
    ∙ ap (λ l. l ++ (48 + number % 10) ∷ []) (c.push_reserved-then-number-lt100.ensures.items ∙ ap
    (λ l. l ++ (48 + number / 10) ∷ []) c.in_ok-room-2.ensures.items)
    ∙ append_assoc before ((48 + number / 10) ∷ []) ((48 + number % 10) ∷ [])
    ∙ ap (λ l. before ++ l) (sym (two_digits number c.if-number-lt10.false c.if-number-lt100.true))

pub returns-in_err-room-clause-extends : goal.returns-in_err-room-clause-extends
returns-in_err-room-clause-extends c = extends_none _ _ c.in_err-room.ensures.items

pub returns-in_err-room-2-clause-extends : goal.returns-in_err-room-2-clause-extends
returns-in_err-room-2-clause-extends c = extends_none _ _ c.in_err-room-2.ensures.items

pub returns-then-number-lt10-clause-extends : goal.returns-then-number-lt10-clause-extends
returns-then-number-lt10-clause-extends c = extends_then _ _ _ (extends_none _ _ c.in_ok-room.ensures.items) (_, c.push_reserved.ensures.items)

pub returns-then-number-lt100-clause-extends : goal.returns-then-number-lt100-clause-extends
returns-then-number-lt100-clause-extends c =
    extends_then _ _ _ (extends_none _ _ c.in_ok-room-2.ensures.items)
    (extends_then _ _ _ (_, c.push_reserved-then-number-lt100.ensures.items) (_, c.push_reserved-then-number-lt100-2.ensures.items))

pub returns-in_err-extend_from_slice-clause-extends : goal.returns-in_err-extend_from_slice-clause-extends
returns-in_err-extend_from_slice-clause-extends c = extends_none _ _ c.in_err-extend_from_slice.ensures.items

pub returns-clause-extends : goal.returns-clause-extends
returns-clause-extends c = (_, c.in_ok-extend_from_slice.ensures.items)
