use Rattle.std.proofs.Common.{append_assoc}
use Rattle.csn_desc.proofs.LabelFacts.{label_more}
use Rattle.csn_desc.specs.Kept.{items_in}
use Rattle.csn_desc.proofs.label.Label.and.Goals as goal

pub invariant_of-result : goal.invariant_of-result
invariant_of-result c =
    rw (c.in_ok-extend_from_slice.ensures.items, c.in_ok-push.ensures.items, c.in_ok-bytes.ensures, append_assoc)
    (label_more (items_in c.self.inside.bytes) c.args.word.now c.self.invariant c.requires)
