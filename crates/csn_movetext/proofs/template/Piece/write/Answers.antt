use Rattle.csn_movetext.proofs.Octets.{extends_then}
use Rattle.csn_movetext.proofs.template.Piece.write.Goals as goal

pub returns-in_err-push_text-clause-extends : goal.returns-in_err-push_text-clause-extends
returns-in_err-push_text-clause-extends c = c.in_err-push_text.ensures.extends

pub returns-clause-extends : goal.returns-clause-extends
returns-clause-extends c = extends_then _ _ _ c.in_ok-push_text.ensures.extends c.push_number.ensures.extends
