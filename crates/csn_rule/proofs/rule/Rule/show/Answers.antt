use Rattle.std.proofs.Common.{subst}
use Rattle.std.specs.Prelude.{IfOk}
use Rattle.csn_desc.specs.Nodes.{DescV}
use Rattle.csn_rule.specs.Blocks.{Shows, block_in}
use Rattle.csn_rule.proofs.Shown.{shown_in}
use Rattle.csn_rule.proofs.rule.Rule.show.Goals as goal

pub returns-clause-shows : goal.returns-clause-shows
returns-clause-shows c =
    let told = c.copy_written-count in let block = block_in c.args.octets.now c.args.bits in
    let Tells : DescV → Type 0 = λ d. IfOk told.result (λ count. Shows c.args.form d block count c.args.out.now told.new.out) in
    subst Tells c.self.view_is
    (shown_in c.args.form c.self.inside.plan block c.clear.new.self.items c.write_counted-written.new.text.items
    c.as_slice.result.now c.args.out.now told.new.out c.write_counted-written.result told.result c.clear.ensures.items
    c.as_slice.ensures.value c.write_counted-written.ensures.text told.ensures.count told.ensures.there told.ensures.ok)
