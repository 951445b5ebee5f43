use Rattle.std.proofs.Common.{◌++◌, ◌∙◌, ap}
use Rattle.csn_reasons.proofs.Told.{cells_joined}
use Rattle.csn_reasons.proofs.listing.push_line.Goals as goal

pub returns : goal.returns
returns c = cells_joined _ _ _ _ _ _ _ _ _ _ _ _ _ _ _ _ _ _ _
    c.in_ok-push_number.ensures.ok c.in_ok-push.ensures.items c.in_ok-push_number-2.ensures.ok c.in_ok-push-2.ensures.items
    c.in_ok-push_number-3.ensures.ok c.in_ok-push-3.ensures.items
    (c.in_ok-words.ensures ∙ ap (λ l. c.push-3.new.self.items ++ l) c.name.ensures) c.in_ok-push-4.ensures.items
    c.in_ok-push_bits.ensures c.in_ok-push-5.ensures.items
    (c.in_ok-extend_from_slice.ensures.items ∙ ap (λ l. c.push-5.new.self.items ++ l) c.as_slice.ensures.value)
    c.in_ok-push-6.ensures.items
