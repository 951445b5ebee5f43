use Rattle.csn_movetext.proofs.Octets.{extends_none}
use Rattle.csn_movetext.proofs.writing.Writing.end_string.Goals as goal

pub returns-in_err-end_line-clause-extends : goal.returns-in_err-end_line-clause-extends
returns-in_err-end_line-clause-extends c = c.in_err-end_line.ensures.extends

pub returns-in_err-push-clause-extends : goal.returns-in_err-push-clause-extends
returns-in_err-push-clause-extends c = extends_none _ _ c.in_err-push.ensures.items
