use Rattle.csn_look.proofs.Tables.MarkFacts.{set_marked}
use Rattle.csn_look.proofs.marks.set_mark.Goals as goal

pub returns : goal.returns
returns c = λ other. set_marked c.args.marks.now c.args.at other c.requires
