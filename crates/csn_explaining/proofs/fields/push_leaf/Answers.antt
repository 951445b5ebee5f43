use Rattle.csn_explaining.proofs.Digits.{pieces_joined}
use Rattle.csn_explaining.proofs.fields.push_leaf.Goals as goal

pub returns : goal.returns
returns c = pieces_joined _ _ _ _ _ _ _ _ _ _ _ _ _ _
    c.in_ok-push_count.ensures.ok c.in_ok-push.ensures.items c.in_ok-push_count-2.ensures.ok c.in_ok-push_kind.ensures
    c.in_ok-push_value.ensures c.in_ok-push-2.ensures.items
    c.in_ok-extend_from_slice.ensures.items c.in_ok-push-3.ensures.items
