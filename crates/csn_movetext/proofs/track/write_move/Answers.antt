use Rattle.csn_movetext.proofs.Octets.{extends_none}
use Rattle.std.proofs.Common.{refl}
use Rattle.csn_movetext.proofs.track.write_move.Goals as goal

pub returns-in-Enter-clause-extends : goal.returns-in-Enter-clause-extends
returns-in-Enter-clause-extends c = c.enter.ensures.extends

pub returns-in-Bit-clause-extends : goal.returns-in-Bit-clause-extends
returns-in-Bit-clause-extends c = extends_none _ _ refl

pub returns-in-Bit-2-clause-extends : goal.returns-in-Bit-2-clause-extends
returns-in-Bit-2-clause-extends c = c.take_bits.ensures.extends

pub returns-in-Leave-clause-extends : goal.returns-in-Leave-clause-extends
returns-in-Leave-clause-extends c = c.leave.ensures.extends
