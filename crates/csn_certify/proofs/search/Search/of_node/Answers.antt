use Rattle.csn_desc.specs.declared.node.Node.TheVariants.{Lits, Spare, Null, Field, Seq, Window, Named}
use Rattle.csn_certify.proofs.ConflictKinds.{plain_is}
use Rattle.csn_certify.proofs.search.Search.of_node.Goals as goal

pub returns-in-Lits : goal.returns-in-Lits
returns-in-Lits c = plain_is c.args.self.now.desc.now c.args.node c.node.result.now (Lits c.in-Lits.field-0) c.node.ensures c.in-Lits.is tt

pub returns-in-Spare : goal.returns-in-Spare
returns-in-Spare c = plain_is c.args.self.now.desc.now c.args.node c.node.result.now (Spare c.in-Spare.field-0) c.node.ensures c.in-Spare.is tt

pub returns-in-Null : goal.returns-in-Null
returns-in-Null c = plain_is c.args.self.now.desc.now c.args.node c.node.result.now Null c.node.ensures c.in-Null.is tt

pub returns-in-Field : goal.returns-in-Field
returns-in-Field c = plain_is c.args.self.now.desc.now c.args.node c.node.result.now (Field c.in-Field.unit c.in-Field.count) c.node.ensures c.in-Field.is tt

pub returns-in-Seq : goal.returns-in-Seq
returns-in-Seq c = plain_is c.args.self.now.desc.now c.args.node c.node.result.now (Seq c.in-Seq.field-0) c.node.ensures c.in-Seq.is tt

pub returns-in-Window : goal.returns-in-Window
returns-in-Window c = plain_is c.args.self.now.desc.now c.args.node c.node.result.now
    (Window c.in-Window.unit c.in-Window.count c.in-Window.part) c.node.ensures c.in-Window.is tt

pub returns-in-Named : goal.returns-in-Named
returns-in-Named c = plain_is c.args.self.now.desc.now c.args.node c.node.result.now (Named c.in-Named.label c.in-Named.part) c.node.ensures c.in-Named.is tt
