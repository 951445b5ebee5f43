use Rattle.csn_sample.proofs.TreesInside.{told_at}
use Rattle.csn_desc.specs.declared.node.Node.TheVariants.{Field, Choice, Times, Many, Trunc}
use Rattle.csn_sample.proofs.way_numbers.number_gone.Goals as goal

pub returns-in-Choice : goal.returns-in-Choice
returns-in-Choice c = told_at c.args.node.now (Choice _) c.args.tree.now _ c.in-Choice.is c.alternative_gone.ensures

pub returns-in-Trunc : goal.returns-in-Trunc
returns-in-Trunc c = told_at c.args.node.now (Trunc _) c.args.tree.now _ c.in-Trunc.is c.trees_gone.ensures

pub returns-in-Many : goal.returns-in-Many
returns-in-Many c = told_at c.args.node.now (Many _) c.args.tree.now _ c.in-Many.is c.turns_gone.ensures

pub returns-in-Times : goal.returns-in-Times
returns-in-Times c = told_at c.args.node.now (Times _ _) c.args.tree.now _ c.in-Times.is c.turns_gone-in-Times.ensures

pub returns-in-Field : goal.returns-in-Field
returns-in-Field c = told_at c.args.node.now (Field _ _) c.args.tree.now _ c.in-Field.is c.bit_gone.ensures
