use Rattle.csn_fields.proofs.StringFacts.{ready_from}
use Rattle.csn_fields.proofs.string.StringReader.new.Goals as goal

pub returns-clause-ready : goal.returns-clause-ready
returns-clause-ready g c =
    ready_from c.new.result c.new-2.result c.args.plan.now c.args.alternatives.now c.len-count.ensures.description c.len-count.ensures.one_tree
    c.requires c.new.ensures.judges c.new.ensures.desc c.new.ensures.refused c.new.ensures.seen c.new.ensures.opened c.new-2.ensures
