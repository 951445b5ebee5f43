use Rattle.csn_movetext.proofs.Octets.{extends_none}
use Rattle.csn_movetext.proofs.writing.Writing.enter.Goals as goal

pub returns-in_err-room-clause-extends : goal.returns-in_err-room-clause-extends
returns-in_err-room-clause-extends c = extends_none _ _ c.in_err-room.ensures.items
