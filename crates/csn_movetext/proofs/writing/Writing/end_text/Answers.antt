use Rattle.csn_movetext.proofs.Octets.{extends_then, extends_none}
use Rattle.csn_movetext.proofs.writing.Writing.end_text.Goals as goal

pub returns-in_err-end_line-clause-extends : goal.returns-in_err-end_line-clause-extends
returns-in_err-end_line-clause-extends c = c.in_err-end_line.ensures.extends

pub returns-in_ok-end_line-clause-extends : goal.returns-in_ok-end_line-clause-extends
returns-in_ok-end_line-clause-extends c = c.in_ok-end_line.ensures.extends

pub returns-in_err-push_number-clause-extends : goal.returns-in_err-push_number-clause-extends
returns-in_err-push_number-clause-extends c = c.in_err-push_number.ensures.extends

pub returns-in_ok-push_number-clause-extends : goal.returns-in_ok-push_number-clause-extends
returns-in_ok-push_number-clause-extends c = c.in_ok-push_number.ensures.extends

pub returns-in_err-push-clause-extends : goal.returns-in_err-push-clause-extends
returns-in_err-push-clause-extends c = extends_none _ _ c.in_err-push.ensures.items

pub returns-in_ok-push-clause-extends : goal.returns-in_ok-push-clause-extends
returns-in_ok-push-clause-extends c = (_, c.in_ok-push.ensures.items)

pub returns-in_err-push_number-2-clause-extends : goal.returns-in_err-push_number-2-clause-extends
returns-in_err-push_number-2-clause-extends c = c.in_err-push_number-2.ensures.extends

pub returns-in_err-push-2-clause-extends : goal.returns-in_err-push-2-clause-extends
returns-in_err-push-2-clause-extends c = extends_then _ _ _ c.in_ok-push_number-2.ensures.extends (extends_none _ _ c.in_err-push-2.ensures.items)

pub returns-in_err-push_number-3-clause-extends : goal.returns-in_err-push_number-3-clause-extends
returns-in_err-push_number-3-clause-extends c =
    extends_then _ _ _ c.in_ok-push_number-2.ensures.extends (extends_then _ _ _ (_, c.in_ok-push-2.ensures.items) c.in_err-push_number-3.ensures.extends)

pub returns-in_ok-push_number-3-clause-extends : goal.returns-in_ok-push_number-3-clause-extends
returns-in_ok-push_number-3-clause-extends c =
    extends_then _ _ _ c.in_ok-push_number-2.ensures.extends (extends_then _ _ _ (_, c.in_ok-push-2.ensures.items) c.in_ok-push_number-3.ensures.extends)
