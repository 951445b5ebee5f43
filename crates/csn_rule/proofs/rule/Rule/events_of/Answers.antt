use Rattle.std.proofs.Common.{subst}
use Rattle.csn_desc.specs.Nodes.{DescV}
use Rattle.csn_fields.specs.declared.refusal.Ended.TheVariants.{Whole}
use Rattle.csn_rule.specs.Blocks.{block_in}
use Rattle.csn_rule.specs.FlatEvents.{ListsBlock}
use Rattle.csn_rule.proofs.Listed.{lists_block}
use Rattle.csn_rule.proofs.rule.Rule.events_of.Goals as goal

pub returns-in-Ok : goal.returns-in-Ok
returns-in-Ok c =
    let block = block_in c.args.octets.now c.args.bits in
    let Lists : DescV → Type 0 = λ d. ListsBlock d block Whole c.tell_string-list.result.0 in
    subst Lists c.self.view_is
    (lists_block c.self.inside.plan block Whole c.new-none.result c.tell_string-list.result.0 c.new-none.ensures
    (c.tell_string-list.ensures.told c.in-Ok.is))

pub returns-in-Refused : goal.returns-in-Refused
returns-in-Refused c =
    let block = block_in c.args.octets.now c.args.bits in
    let Lists : DescV → Type 0 = λ d. ListsBlock d block c.tell_octets.result.1 c.tell_octets.result.0 in
    subst Lists c.self.view_is
    (lists_block c.self.inside.plan block c.tell_octets.result.1 c.new-none-in-Refused.result c.tell_octets.result.0 c.new-none-in-Refused.ensures
    c.tell_octets.ensures)
