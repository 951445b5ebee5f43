use Rattle.csn_fields.proofs.OutlineFacts.{mark_leaf}
use Rattle.csn_fields.proofs.outline.Mark.event.Goals as goal

pub returns-in-Leaf : goal.returns-in-Leaf
returns-in-Leaf c = mark_leaf c.args.role c.args.self c.in-Leaf.kind c.saturating_sub-place.result c.args.end c.args.number c.in-Leaf.is
    c.saturating_sub-place.ensures c.args.self.few
