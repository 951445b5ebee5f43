use Rattle.csn_movetext.proofs.Octets.{extends_then, extends_none}
use Rattle.std.proofs.Common.{refl}
use Rattle.csn_movetext.proofs.room.push_within.Goals as goal

pub returns-in-empty-clause-extends : goal.returns-in-empty-clause-extends
returns-in-empty-clause-extends c = extends_none _ _ refl

pub returns-in-len1-clause-extends : goal.returns-in-len1-clause-extends
returns-in-len1-clause-extends c = (_, c.push_reserved.ensures.items)

pub returns-in-len2-clause-extends : goal.returns-in-len2-clause-extends
returns-in-len2-clause-extends c = extends_then _ _ _ (_, c.push_reserved-in-len2.ensures.items) (_, c.push_reserved-in-len2-2.ensures.items)

pub returns-in-len3-clause-extends : goal.returns-in-len3-clause-extends
returns-in-len3-clause-extends c =
    extends_then _ _ _ (_, c.push_reserved-in-len3.ensures.items)
    (extends_then _ _ _ (_, c.push_reserved-in-len3-2.ensures.items) (_, c.push_reserved-in-len3-3.ensures.items))

pub returns-in-len4-clause-extends : goal.returns-in-len4-clause-extends
returns-in-len4-clause-extends c =
    extends_then _ _ _ (_, c.push_reserved-in-len4.ensures.items)
    (extends_then _ _ _ (_, c.push_reserved-in-len4-2.ensures.items)
    (extends_then _ _ _ (_, c.push_reserved-in-len4-3.ensures.items)
    (_, c.push_reserved-in-len4-4.ensures.items)))

pub returns-in_err-extend_from_slice-in_default-clause-extends : goal.returns-in_err-extend_from_slice-in_default-clause-extends
returns-in_err-extend_from_slice-in_default-clause-extends c = extends_none _ _ c.in_err-extend_from_slice-in_default.ensures.items

pub returns-in_ok-extend_from_slice-in_default-clause-extends : goal.returns-in_ok-extend_from_slice-in_default-clause-extends
returns-in_ok-extend_from_slice-in_default-clause-extends c = (_, c.in_ok-extend_from_slice-in_default.ensures.items)
