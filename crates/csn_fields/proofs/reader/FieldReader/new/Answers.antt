use Rattle.csn_fields.proofs.ReadingFacts.{reads_none}
use Rattle.csn_fields.proofs.reader.FieldReader.new.Goals as goal

pub returns-clause-tells : goal.returns-clause-tells
returns-clause-tells g c =
    reads_none c.new.result c.new-2.result c.args.plan.now c.args.alternatives.now.numbers c.new.ensures.desc c.len-count.ensures.description
    c.len-count.ensures.one_tree c.requires.numbers c.new.ensures.follows c.new.ensures.opened c.new-2.ensures
